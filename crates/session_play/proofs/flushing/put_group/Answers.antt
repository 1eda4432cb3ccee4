use Rattle.std.proofs.Common.{◌≡◌, ◌∙◌, ◌++◌, ◌+◌, ℕ, zero, suc, List, [], ◌∷◌, append_assoc, drop, map, Some, ap, arith, sym}
use Rattle.std.specs.List.{slice_get}
use Rattle.process_text.specs.Canonical.{line_of}
use Rattle.process_report.specs.Lines.{text_of}
use Rattle.machine_model.specs.Groups.{Ended}
use Rattle.process_engine.specs.Ends.{ended_as}
use Rattle.session_text.specs.Answers.{ending_words}
use Rattle.session_play.proofs.flushing.put_group.Goals as goal

-- what is left from a place on begins with what stands there
drop_from : (xs : List Ended) (n : ℕ) (x : Ended) → slice_get xs n ≡ Some x → drop n xs ≡ x ∷ drop (suc n) xs
drop_from [] n x at = absurd cc
drop_from (y ∷ xs) zero x at = ap (λ z. z ∷ xs) cc
drop_from (y ∷ xs) (suc n) x at = drop_from xs n x at

pub loop-n-preserved : goal.loop-n-preserved
loop-n-preserved c =
    let n = c.loop-n.n in
    let group = c.args.group.now in
    let x = ended_as c.at.result in
    let lines = λ (es : List Ended). text_of (map (λ (e : Ended). ending_words e.ending) es) in
    let there : drop n group ≡ x ∷ drop (n + 1) group = drop_from group n x c.at.ensures ∙ ap (λ k. x ∷ drop k group) (let one : suc n ≡ n + 1 = omega arith in one) in
    record {
      within = (let less = c.loop-n-test.true in omega (arith, less));
      written = ap (λ out. out ++ lines (drop (n + 1) group)) c.in_ok-put_ending.ensures
          ∙ (append_assoc c.loop-n.out.items (line_of (ending_words x.ending)) (lines (drop (n + 1) group))
          ∙ (ap (λ es. c.loop-n.out.items ++ lines es) (sym there) ∙ c.loop-n.invariant.written));
    }
