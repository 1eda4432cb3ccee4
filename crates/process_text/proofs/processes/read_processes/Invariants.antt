use Rattle.std.proofs.Common.{◌≡◌, ◌≤◌, [], length, true}
use Rattle.process_text.specs.Grammar.{Writes, text_pieces, process_names, are_new, AreTrees}
use Rattle.process_text.specs.FirstFault.{told_from, between_processes}
use Rattle.process_text.specs.Leading.{with_names}
use Rattle.process_text.proofs.processes.read_processes.Given as goal

abbrev pub invariant-loop-word : goal.invariant-loop-word
invariant-loop-word l = record {
  written : Writes (text_pieces l.found.items) l.fn.words l.words;
  few : length l.found.items ≤ 256;
  different : are_new [] (process_names l.found.items) ≡ true;
  trees : AreTrees l.found.items;
  named : l.names ≡ process_names l.found.items;
  leads : told_from (with_names [] [] []) between_processes l.fn.words ≡ told_from (with_names [] l.names []) between_processes l.words;
}

abbrev pub decreases-loop-word : goal.decreases-loop-word
decreases-loop-word l = length l.words
