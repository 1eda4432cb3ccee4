-- Lines that get more words.
use Rattle.std.proofs.Common.{◌≡◌, ℕ, ◌+◌, ◌-◌, List, [], ◌∷◌, ◌++◌, length, take, append_assoc, sym, ap, ◌∙◌, arith}
use Rattle.std.specs.Prelude.{codes, decimal}
use Rattle.std.proofs.Math.Seq.{take-append_seam}
use Rattle.std.proofs.lemmas.Grind.{flat_map-append}
use Rattle.std.proofs.lemmas.List.{length-append}
use Rattle.process_tree.specs.declared.plan.Plan.{Plan}
use Rattle.machine_model.specs.Moment.{Piece}
use Rattle.process_text.specs.Canonical.{line_of, spaced}
use Rattle.process_report.specs.Lines.{Line}
use Rattle.session_text.specs.Answers.{piece_words, work_words}
use Rattle.driver_requests.specs.Answers.{called_piece, piece_call, with_words}

-- a text without its last byte
but_last : (front : List ℕ) → take (length (front ++ 10 ∷ []) - 1) (front ++ 10 ∷ []) ≡ front
but_last front =
    let size : length (front ++ 10 ∷ []) ≡ length front + 1 = length-append front (10 ∷ []) in
    let less : length (front ++ 10 ∷ []) - 1 ≡ length front = omega (arith, size) in
    ap (λ n. take n (front ++ 10 ∷ [])) less ∙ take-append_seam front (10 ∷ [])

-- words and more words, each behind a space
more_spaced : (w : List ℕ) (ws more : Line) → (w ++ spaced ws) ++ spaced more ≡ w ++ spaced (ws ++ more)
more_spaced w ws more =
    append_assoc w (spaced ws) (spaced more) ∙ ap (λ t. w ++ t) (sym (flat_map-append (λ (v : List ℕ). 32 ∷ v) ws more))

-- words that come behind the last line of a text are its last words
pub with-more : (w : List ℕ) (ws more : Line) → with_words (line_of (w ∷ ws)) more ≡ line_of (w ∷ (ws ++ more))
with-more w ws more =
    ap (λ t. (t ++ spaced more) ++ 10 ∷ []) (but_last (w ++ spaced ws)) ∙ ap (λ t. t ++ 10 ∷ []) (more_spaced w ws more)

-- so it is with a piece that is written alone
pub called : (plans : List Plan) (p : Piece) (text none : List ℕ) → none ≡ [] → text ≡ none ++ line_of (piece_words plans p)
    → with_words text (piece_call plans p) ≡ line_of (called_piece plans p)
called plans p text none empty is =
    ap (λ t. with_words t (piece_call plans p)) (is ∙ ap (λ t. t ++ line_of (piece_words plans p)) empty)
    ∙ with-more (codes "piece") ((decimal p.number ++ codes ":") ∷ work_words plans p.process p.step p.work) (piece_call plans p)
