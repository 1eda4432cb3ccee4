-- That canonical words write their pieces.
use Rattle.std.proofs.Common.{◌≡◌, ℕ, List, [], ◌∷◌, ◌++◌, Bool, true, false, nat_eq, codes, refl, inl, inr}
use Rattle.std.specs.Bool.{⊤}
use Rattle.std.proofs.lemmas.Bool.{eqb-true}
use Rattle.process_tree.specs.Making.{same_text}
use Rattle.process_tree.specs.declared.step.Step.{Step}
use Rattle.process_tree.specs.declared.step.StepKind.{StepKind}
use Rattle.process_tree.specs.declared.step.StepKind.TheVariants.{C, P, R, Cr}
use Rattle.text_words.specs.declared.marks.Setting.{Setting}
use Rattle.text_words.specs.declared.marks.Setting.TheVariants.{Tries, Undo, Refuse, UndoRefuse}
use Rattle.text_words.specs.declared.marks.Mark.{Mark}
use Rattle.text_words.specs.declared.marks.Mark.TheVariants as marks
use Rattle.text_words.specs.Words.{begins}
use Rattle.text_words.specs.Marks.{kind_word, mark_word, settings, setting_word, default_of, number_of}
use Rattle.process_text.specs.Grammar.{Piece, process, step, mark, AreSettings, IsPiece, Writes, AreNamed}
use Rattle.process_text.specs.Canonical.{settings_words, piece_words, canonical_words}
use Rattle.process_text.proofs.GoodPieces.{AreGood}

kind_is_no_option : (x : Setting) (k : StepKind) → same_text (kind_word k) (setting_word x) ≡ false
kind_is_no_option Tries C = refl
kind_is_no_option Tries P = refl
kind_is_no_option Tries R = refl
kind_is_no_option Tries Cr = refl
kind_is_no_option Undo C = refl
kind_is_no_option Undo P = refl
kind_is_no_option Undo R = refl
kind_is_no_option Undo Cr = refl
kind_is_no_option Refuse C = refl
kind_is_no_option Refuse P = refl
kind_is_no_option Refuse R = refl
kind_is_no_option Refuse Cr = refl
kind_is_no_option UndoRefuse C = refl
kind_is_no_option UndoRefuse P = refl
kind_is_no_option UndoRefuse R = refl
kind_is_no_option UndoRefuse Cr = refl

mark_is_no_option : (x : Setting) (m : Mark) → same_text (mark_word m) (setting_word x) ≡ false
mark_is_no_option Tries marks.Choose = refl
mark_is_no_option Tries marks.Or = refl
mark_is_no_option Tries marks.Done = refl
mark_is_no_option Tries marks.End = refl
mark_is_no_option Undo marks.Choose = refl
mark_is_no_option Undo marks.Or = refl
mark_is_no_option Undo marks.Done = refl
mark_is_no_option Undo marks.End = refl
mark_is_no_option Refuse marks.Choose = refl
mark_is_no_option Refuse marks.Or = refl
mark_is_no_option Refuse marks.Done = refl
mark_is_no_option Refuse marks.End = refl
mark_is_no_option UndoRefuse marks.Choose = refl
mark_is_no_option UndoRefuse marks.Or = refl
mark_is_no_option UndoRefuse marks.Done = refl
mark_is_no_option UndoRefuse marks.End = refl

process_is_no_option : (x : Setting) → same_text (codes "process") (setting_word x) ≡ false
process_is_no_option Tries = refl
process_is_no_option Undo = refl
process_is_no_option Refuse = refl
process_is_no_option UndoRefuse = refl

-- no piece begins with an option
no_option_first : (x : Setting) (ps : List Piece) → begins (λ w. same_text w (setting_word x)) (canonical_words ps) ≡ false
no_option_first x [] = refl
no_option_first x (process name ∷ ps) = process_is_no_option x
no_option_first x (step s ∷ ps) = kind_is_no_option x s.kind
no_option_first x (mark m ∷ ps) = mark_is_no_option x m

-- the words of these options differ from that of x
abbrev Differ : Setting → List Setting → Type 0
Differ x [] = ⊤
Differ x (y ∷ ys) = (same_text (setting_word y) (setting_word x) ≡ false) × Differ x ys

abbrev AllDiffer : List Setting → Type 0
AllDiffer [] = ⊤
AllDiffer (x ∷ xs) = Differ x xs × AllDiffer xs

settings_differ : (k : StepKind) → AllDiffer (settings k)
settings_differ C = ((refl, (refl, tt)), ((refl, tt), (tt, tt)))
settings_differ P = (tt, tt)
settings_differ R = ((refl, tt), (tt, tt))
settings_differ Cr = ((refl, (refl, (refl, tt))), ((refl, (refl, tt)), ((refl, tt), (tt, tt))))

-- where other options stand in front, x doesn't
not_begun : (x : Setting) (xs : List Setting) (s : Step) (rest : List (List ℕ)) → Differ x xs → begins (λ w. same_text w (setting_word x)) rest ≡ false
    → begins (λ w. same_text w (setting_word x)) (settings_words xs s ++ rest) ≡ false
not_begun x [] s rest differ none = none
not_begun x (y ∷ ys) s rest differ none = by_test (nat_eq (number_of y s) (default_of y)) refl (not_begun x ys s rest differ.1 none)
  where
    by_test : (b : Bool) → nat_eq (number_of y s) (default_of y) ≡ b → begins (λ w. same_text w (setting_word x)) (settings_words ys s ++ rest) ≡ false
        → begins (λ w. same_text w (setting_word x)) (settings_words (y ∷ ys) s ++ rest) ≡ false
    by_test true e later = rw e later
    by_test false e later = rw e differ.0

-- options in front of words with which no option begins
settings_written : (xs : List Setting) (s : Step) (rest : List (List ℕ)) → AllDiffer xs → ((x : Setting) → begins (λ w. same_text w (setting_word x)) rest ≡ false)
    → AreSettings xs s (settings_words xs s ++ rest) rest
settings_written [] s rest differ none = refl
settings_written (x ∷ xs) s rest differ none = by_test (nat_eq (number_of x s) (default_of x)) refl (settings_written xs s rest differ.1 none)
  where
    by_test : (b : Bool) → nat_eq (number_of x s) (default_of x) ≡ b → AreSettings xs s (settings_words xs s ++ rest) rest
        → AreSettings (x ∷ xs) s (settings_words (x ∷ xs) s ++ rest) rest
    by_test true e later =
        (settings_words xs s ++ rest, inr (rw e refl, eqb-true (number_of x s) (default_of x) e, rw e (not_begun x xs s rest differ.0 (none x))), later)
    by_test false e later = (settings_words xs s ++ rest, inl (rw e refl), later)

-- a piece in front of others
piece_written : (p : Piece) (ps : List Piece) → AreNamed (p ∷ ps) → AreGood (p ∷ ps) → IsPiece p (piece_words p ++ canonical_words ps) (canonical_words ps)
piece_written (process name) ps named good = (named.0, refl)
piece_written (step s) ps named good = record {
  name_is = named.0.name_is;
  op_is = named.0.op_is;
  key_is = named.0.key_is;
  good = good.0;
  behind = settings_words (settings s.kind) s ++ canonical_words ps;
  words_are = refl;
  settings_are = settings_written (settings s.kind) s (canonical_words ps) (settings_differ s.kind) (λ x. no_option_first x ps);
}
piece_written (mark m) ps named good = refl

named_rest : (p : Piece) (ps : List Piece) → AreNamed (p ∷ ps) → AreNamed ps
named_rest (process name) ps named = named.1
named_rest (step s) ps named = named.1
named_rest (mark m) ps named = named

good_rest : (p : Piece) (ps : List Piece) → AreGood (p ∷ ps) → AreGood ps
good_rest (process name) ps good = good
good_rest (step s) ps good = good.1
good_rest (mark m) ps good = good

-- canonical words write their pieces
pub canonical_writes : (ps : List Piece) → AreNamed ps → AreGood ps → Writes ps (canonical_words ps) []
canonical_writes [] named good = refl
canonical_writes (p ∷ ps) named good = (canonical_words ps, piece_written p ps named good, canonical_writes ps (named_rest p ps named) (good_rest p ps good))
