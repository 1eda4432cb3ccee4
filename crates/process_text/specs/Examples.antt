-- Worked examples, computed.
use Rattle.std.specs.Prelude.{◌≡◌, ◌∷◌, ◌++◌, ℕ, pos, [], Some, None, codes, refl}
use Rattle.std.specs.Fmt.{digits}
use Rattle.process_tree.specs.declared.step.Step.{Step}
use Rattle.process_tree.specs.declared.step.StepKind.TheVariants.{Cr}
use Rattle.process_tree.specs.declared.block.Block.{Block}
use Rattle.process_tree.specs.declared.block.Tail.{End}
use Rattle.text_words.specs.Words.{is_blank}
use Rattle.process_text.specs.Canonical.{canonical_text}
use Rattle.process_text.specs.Places.{text_error}
use Rattle.process_text.specs.declared.error.TextError.TheVariants.{BadText}
use Rattle.text_words.specs.declared.expected.Expected.TheVariants as expects

-- an empty text is good
pub no_text : text_error [] ≡ None
no_text = refl

pub no_process : text_error (codes " x") ≡ Some (BadText 1 2 expects.Process)
unfolding is_blank
no_process = refl

-- the end of a text stands behind its last byte
pub no_name : text_error (codes "process ") ≡ Some (BadText 1 9 expects.Name)
unfolding is_blank
no_name = refl

pub no_step : text_error (codes "process a end") ≡ Some (BadText 1 11 expects.Step)
unfolding is_blank
no_step = refl

pub no_operation : text_error (codes "process a c x 1") ≡ Some (BadText 1 15 expects.Operation)
unfolding is_blank
no_operation = refl

-- a compensatable and retriable step with options, and without
pub cr_is_read : text_error (codes "process a cr x ship 1 1 tries 2 undo 3 end") ≡ None
unfolding is_blank digits
cr_is_read = refl

pub cr_with_no_options_is_read : text_error (codes "process a cr x ship 1 1 end") ≡ None
unfolding is_blank digits
cr_with_no_options_is_read = refl

-- its options keep their order
pub tries_behind_undo : text_error (codes "process a cr x ship 1 1 undo 3 tries 2 end") ≡ Some (BadText 1 32 expects.Next)
unfolding is_blank digits
tries_behind_undo = refl

-- a retriable step has no undo
pub undo_of_r : text_error (codes "process a r x ship 1 1 undo 3 end") ≡ Some (BadText 1 24 expects.Next)
unfolding is_blank digits
undo_of_r = refl

-- a block of one compensatable and retriable step with these numbers
abbrev parcel : ℕ → ℕ → ℕ → ℕ → Block
parcel tries undo refuse undo_refuse =
    let s : Step =
    record {
      kind = Cr;
      name = codes "x";
      op = codes "ship";
      key = 1;
      amount = pos 1;
      tries = tries;
      undo_tries = undo;
      refuse = refuse;
      undo_refuse = undo_refuse;
    } in
    record { steps = s ∷ []; tail = End }

-- an option is printed exactly where its number isn't the default
pub cr_is_printed : canonical_text (codes "a") (parcel 2 3 0 0) ≡ codes "process a cr x ship 1 1 tries 2 end" ++ 10 ∷ []
unfolding digits
cr_is_printed = refl

pub cr_with_no_options_is_printed : canonical_text (codes "a") (parcel 3 3 0 0) ≡ codes "process a cr x ship 1 1 end" ++ 10 ∷ []
unfolding digits
cr_with_no_options_is_printed = refl

pub cr_with_all_options_is_printed : canonical_text (codes "a") (parcel 2 4 1 5)
    ≡ codes "process a cr x ship 1 1 tries 2 undo 4 refuse 1 undorefuse 5 end" ++ 10 ∷ []
unfolding digits
cr_with_all_options_is_printed = refl
