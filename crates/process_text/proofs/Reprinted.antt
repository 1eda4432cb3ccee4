-- That a canonical text is read as what was printed.
use Rattle.std.proofs.Common.{◌≡◌, ℕ, List, [], ◌∷◌, Bool, true, false, nat_eq, codes, None, refl, sym, ap, arith, ◌∙◌, append-nil, subst, Result, Ok, Err, IfErr, IfOk, ◌⊎◌, inl, inr}
use Rattle.std.proofs.lemmas.Bool.{and_parts}
use Rattle.process_tree.specs.Making.{is_amount, has_good_options, is_good_step, tree_fault}
use Rattle.process_tree.specs.declared.step.Step.{Step}
use Rattle.process_tree.specs.declared.step.StepKind.{StepKind}
use Rattle.process_tree.specs.declared.step.StepKind.TheVariants.{C, P, R, Cr}
use Rattle.process_tree.specs.declared.block.Block.{Block}
use Rattle.process_tree.specs.declared.tree.Named.{Named}
use Rattle.process_text.specs.declared.error.TextError.{TextError}
use Rattle.process_text.specs.declared.error.TextError.TheVariants.{NoMemory}
use Rattle.text_words.specs.declared.marks.Setting.{Setting}
use Rattle.text_words.specs.declared.marks.Setting.TheVariants.{Tries, Undo, Refuse, UndoRefuse}
use Rattle.text_words.specs.declared.marks.Mark.{Mark}
use Rattle.text_words.specs.declared.marks.Mark.TheVariants.{Choose, Or, Done, End}
use Rattle.text_words.specs.Words.{is_blank, words_of}
use Rattle.text_words.specs.Marks.{kind_word, mark_word, settings, setting_word, default_of, number_of}
use Rattle.process_text.specs.Grammar.{Piece, process, step, mark, Writes, block_pieces, process_of, text_pieces, pieces_of_process, HasNames, AreNamed, IsReading}
use Rattle.process_text.specs.Canonical.{setting_words, settings_words, step_words, canonical_words, canonical_text}
use Rattle.process_text.proofs.GoodPieces.{AreGood, good_both, good_tree}
use Rattle.process_text.proofs.Lines.{is_plain, ArePlain, plain_both, words_of-line, name_is_plain, number_is_plain, amount_is_plain}
use Rattle.text_words.proofs.Settings.{AllTake, all_take, taken_is_small}
use Rattle.process_text.proofs.Written.{canonical_writes}
use Rattle.process_text.specs.Again.{ReadingsAreAlike}
use Rattle.process_text.proofs.Unique.{pieces_are}
use Rattle.process_text.proofs.Injective.{all_alike}

kind_is_plain : (k : StepKind) → is_plain (kind_word k) ≡ true
unfolding is_blank
kind_is_plain C = refl
kind_is_plain P = refl
kind_is_plain R = refl
kind_is_plain Cr = refl

mark_is_plain : (m : Mark) → is_plain (mark_word m) ≡ true
unfolding is_blank
mark_is_plain Choose = refl
mark_is_plain Or = refl
mark_is_plain Done = refl
mark_is_plain End = refl

setting_is_plain : (x : Setting) → is_plain (setting_word x) ≡ true
unfolding is_blank
setting_is_plain Tries = refl
setting_is_plain Undo = refl
setting_is_plain Refuse = refl
setting_is_plain UndoRefuse = refl

process_is_plain : is_plain (codes "process") ≡ true
unfolding is_blank
process_is_plain = refl

settings_are_plain : (xs : List Setting) (s : Step) → AllTake xs s → ArePlain (settings_words xs s)
settings_are_plain [] s e = tt
settings_are_plain (x ∷ xs) s e = plain_both (setting_words x (number_of x s)) (settings_words xs s) (by_test (nat_eq (number_of x s) (default_of x)) refl) (settings_are_plain xs s e.1)
  where
    by_test : (b : Bool) → nat_eq (number_of x s) (default_of x) ≡ b → ArePlain (setting_words x (number_of x s))
    by_test true is = rw is tt
    by_test false is =
        let small = taken_is_small x (number_of x s) e.0 in
        rw is (setting_is_plain x, (number_is_plain (number_of x s) (omega arith), tt))

step_is_plain : (s : Step) → HasNames s → is_good_step s ≡ true → ArePlain (step_words s)
step_is_plain s named e =
    let parts = and_parts (is_amount s.amount) (has_good_options s.kind s) e in (
      kind_is_plain s.kind,
      (
        name_is_plain s.name named.name_is,
        (
          name_is_plain s.op named.op_is,
          (
            number_is_plain s.key (omega (arith, named.key_is)),
            (
              amount_is_plain s.amount parts.0,
              settings_are_plain (settings s.kind) s (all_take s.kind s parts.1),
            ),
          ),
        ),
      ),
    )

-- canonical words are words
words_are_plain : (ps : List Piece) → AreNamed ps → AreGood ps → ArePlain (canonical_words ps)
words_are_plain [] named good = tt
words_are_plain (process name ∷ ps) named good = (process_is_plain, (name_is_plain name named.0, words_are_plain ps named.1 good))
words_are_plain (step s ∷ ps) named good = plain_both (step_words s) (canonical_words ps) (step_is_plain s named.0 good.0) (words_are_plain ps named.1 good.1)
words_are_plain (mark m ∷ ps) named good = (mark_is_plain m, words_are_plain ps named good)

-- the words of a canonical text are those of the process
pub canonical_reading : (name : List ℕ) (root : Block) (text : List ℕ) → AreNamed (pieces_of_process name root) → tree_fault root ≡ None → text ≡ canonical_text name root
    → IsReading (words_of text) (process_of name root ∷ [])
canonical_reading name root text named none is =
    let ps = pieces_of_process name root in
    let good : AreGood ps = good_both (block_pieces root) (mark End ∷ []) (good_tree root none) tt in
    let words : words_of text ≡ canonical_words ps = ap words_of is ∙ words_of-line (canonical_words ps) (words_are_plain ps named good) in
    let written : Writes ps (words_of text) [] = subst (λ (ws : List (List ℕ)). Writes ps ws []) (sym words) (canonical_writes ps named good) in
    record {
      written = subst (λ (qs : List Piece). Writes qs (words_of text) []) (sym (append-nil ps)) written;
      few = omega arith;
      different = refl;
      trees = (none, tt);
    }

-- two readings of the same words are of the same pieces
pub readings_agree : (words : List (List ℕ)) (ps qs : List Named) → IsReading words ps → IsReading words qs → text_pieces ps ≡ text_pieces qs
readings_agree words ps qs first second = pieces_are (text_pieces ps) (text_pieces qs) words first.written second.written

-- so the readings are alike
pub readings_are_alike : ReadingsAreAlike
readings_are_alike words ps qs first second = all_alike ps qs first.trees second.trees (readings_agree words ps qs first second)

-- words that can be read are refused for want of memory alone
pub only_memory : {T : Type 0} (r : Result T TextError) (words : List (List ℕ)) (ps : List Named) → IsReading words ps
    → IfErr r (λ e. (e ≡ NoMemory) ⊎ ((qs : List Named) → ¬ IsReading words qs)) → IfErr r (λ e. e ≡ NoMemory)
only_memory (Ok t) words ps reading told = tt
only_memory (Err e) words ps reading (inl memory) = memory
only_memory (Err e) words ps reading (inr none) = absurd (none ps reading)

-- what is read of the words of a process has its pieces
pub read_same : {T : Type 0} (f : T → List Named) (r : Result T TextError) (words : List (List ℕ)) (name : List ℕ) (root : Block) → IfOk r (λ found. IsReading words (f found))
    → IsReading words (process_of name root ∷ []) → IfOk r (λ found. text_pieces (f found) ≡ pieces_of_process name root)
read_same f (Ok t) words name root first second = readings_agree words (f t) (process_of name root ∷ []) first second ∙ append-nil (pieces_of_process name root)
read_same f (Err e) words name root first second = tt
