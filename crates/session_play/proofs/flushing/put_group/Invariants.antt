use Rattle.std.proofs.Common.{◌≡◌, ◌≤◌, ◌++◌, ◌-◌, drop, length, map}
use Rattle.process_report.specs.Lines.{text_of}
use Rattle.machine_model.specs.Groups.{Ended}
use Rattle.session_text.specs.Answers.{ending_words}
use Rattle.session_play.proofs.flushing.put_group.Given as goal

-- what is written, and what became of the pieces that are left
abbrev pub invariant-loop-n : goal.invariant-loop-n
invariant-loop-n l = record {
  within : l.n ≤ length l.group;
  written : l.out.items ++ text_of (map (λ (e : Ended). ending_words e.ending) (drop l.n l.group)) ≡ l.fn.out.items ++ text_of (map (λ (e : Ended). ending_words e.ending) l.group);
}

abbrev pub decreases-loop-n : goal.decreases-loop-n
decreases-loop-n l = length l.group - l.n
