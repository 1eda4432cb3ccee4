use Rattle.std.proofs.Common.{◌≡◌, ◌∙◌, ◌+◌, ◌++◌, [], ◌∷◌, ap, sym, map, length, drop, arith}
use Rattle.std.specs.Prelude.{Some, slice_get}
use Rattle.std.proofs.lemmas.List.{append_assoc, length-map}
use Rattle.process_expand.specs.Reader.{before_of, place_of}
use Rattle.process_expand.specs.Reading.{tokens_from}
use Rattle.process_expand.proofs.Steps.{at_word, fault_told, told_next, token_next}
use Rattle.process_expand.proofs.whole.tokens_of.Goals as goal

pub returns-in-Err-clause-fault : goal.returns-in-Err-clause-fault
returns-in-Err-clause-fault c =
    let ws = map (λ w. w.now) c.args.words.now in
    let n = c.loop-number.number in
    let count : length ws ≡ length c.args.words.now = length-map c.args.words.now (λ w. w.now) in
    let is : slice_get ws n ≡ Some c.word_at.result.now = at_word ws n (omega (arith, count)) ∙ ap Some (sym c.word_at.ensures) in
    fault_told c.args.bytes.now ws _ (before_of c.loop-number.reader) (place_of c.loop-number.reader.place) n c.word_at.result.now c.in-Err.fault c.error_at.result c.requires (sym count) is
    c.loop-number.invariant.told c.in-Err.ensures.fault c.error_at.ensures

pub loop-number-preserved : goal.loop-number-preserved
loop-number-preserved c =
    let ws = map (λ w. w.now) c.args.words.now in
    let n = c.loop-number.number in
    let count : length ws ≡ length c.args.words.now = length-map c.args.words.now (λ w. w.now) in
    let is : slice_get ws n ≡ Some c.word_at.result.now = at_word ws n (omega (arith, count)) ∙ ap Some (sym c.word_at.ensures) in
    let before = before_of c.loop-number.reader in
    let place = place_of c.loop-number.reader.place in
    let after = before_of c.read.new.self in
    let next = place_of c.read.new.self.place in
    let turn = c.in-Ok.ensures.turn in
    let rest = tokens_from after next (n + 1) (drop (n + 1) ws) in
    record {
      told = sym (told_next before after place next ws n c.word_at.result.now is turn) ∙ c.loop-number.invariant.told;
      tokens = ap (λ ts. ts ++ rest) c.in_ok-push-in-Ok.ensures.items ∙ append_assoc c.loop-number.tokens.items (record { role = c.in-Ok.role; number = n } ∷ []) rest
          ∙ sym (ap (λ ts. c.loop-number.tokens.items ++ ts) (token_next before after place next ws n c.word_at.result.now c.in-Ok.role is turn c.in-Ok.ensures.role))
          ∙ c.loop-number.invariant.tokens;
    }
