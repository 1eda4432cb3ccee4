use Rattle.std.proofs.Common.{◌≡◌, ◌++◌, map, codes, length}
use Rattle.std.specs.List.{filter_map}
use Rattle.process_report.specs.Lines.{text_of}
use Rattle.session_text.specs.Answers.{numbered}
use Rattle.session_play.specs.Playing.{victim_of}
use Rattle.session_play.proofs.printing.put_victims.Given as goal

-- what is written, and the victims among those that are left
abbrev pub invariant-loop-rest : goal.invariant-loop-rest
invariant-loop-rest l =
    l.out.items ++ text_of (map (numbered (codes "victim")) (filter_map victim_of l.rest)) ≡ l.fn.out.items ++ text_of (map (numbered (codes "victim")) (filter_map victim_of l.kept))

abbrev pub decreases-loop-rest : goal.decreases-loop-rest
decreases-loop-rest l = length l.rest
