use Rattle.std.proofs.Common.{◌≡◌, ◌-◌, ℕ, drop, length}
use Rattle.text_words.specs.Marks.{settings}
use Rattle.process_text.specs.FirstFault.{Before, turn_behind}
use Rattle.process_expand.specs.Reading.{role_behind}
use Rattle.process_expand.proofs.reader.setting_named.Given as goal

abbrev pub invariant-loop-setting : goal.invariant-loop-setting
invariant-loop-setting l = record {
  turn : (b : Before) → turn_behind b (drop l.from (settings l.kind)) l.word ≡ turn_behind b (drop l.n (settings l.kind)) l.word;
  role : (begun : ℕ) → role_behind (drop l.from (settings l.kind)) begun l.word ≡ role_behind (drop l.n (settings l.kind)) begun l.word;
}

abbrev pub decreases-loop-setting : goal.decreases-loop-setting
decreases-loop-setting l = length (settings l.kind) - l.n
