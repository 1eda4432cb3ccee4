-- Over copies of plans the same is printed.
use Rattle.std.proofs.Common.{◌≡◌, ◌∙◌, ℕ, ◌-◌, List, [], ◌∷◌, ◌++◌, map, codes, decimal, slice_index_or, if◌then◌else◌, refl, ap}
use Rattle.process_tree.specs.Blocks.{Outline}
use Rattle.process_tree.specs.declared.entry.Entry.{Entry}
use Rattle.process_tree.specs.declared.plan.Plan.{Plan}
use Rattle.process_text.specs.Canonical.{line_of}
use Rattle.commute_table.specs.declared.op.Op.{Op}
use Rattle.dependence_model.specs.declared.placed.Placed.{Placed}
use Rattle.trace_verify.specs.declared.form.Form.{Form}
use Rattle.trace_verify.specs.declared.form.Form.TheVariants.{Plain}
use Rattle.process_report.specs.Names.{names_in, op_name}
use Rattle.process_report.specs.Lines.{entry_line, key_words, text_of}
use Rattle.audit_core.specs.declared.judging.Audited.{Audited}
use Rattle.audit_core.specs.declared.judging.Audited.TheVariants.{Reducible, Barred, Cycle}
use Rattle.audit_text.specs.Copies.{AreCopies}
use Rattle.audit_run.specs.Outcomes.{audited_text, cycle_line, left_text, place_line}

-- the names of their steps are the same,
same_names : (ps qs : List Plan) → AreCopies ps qs → map names_in ps ≡ map names_in qs
same_names [] [] equal = refl
same_names [] (q ∷ qs) equal = absurd equal
same_names (p ∷ ps) [] equal = absurd equal
same_names (p ∷ ps) (q ∷ qs) equal =
    ap (λ (o : Outline). map (λ s. s.name) o.steps ∷ map names_in ps) equal.0.says ∙ ap (λ ns. names_in q ∷ ns) (same_names ps qs equal.1)

module _ (ps qs : List Plan) (equal : AreCopies ps qs) (ops : List Op) where
  -- so are the lines of entries,
  same_entry : (form : Form) (e : Entry) → entry_line form ps ops e ≡ entry_line form qs ops e
  same_entry form e =
      ap (λ (names : List (List (List ℕ))). (if e.undo then codes "undo" else codes "do")
      ∷ (decimal e.process ++ 46 ∷ slice_index_or (slice_index_or names (e.process - 1) []) e.step []) ∷ op_name ops e.op ∷ key_words form e.key) (same_names ps qs equal)

  same_entries : (form : Form) (es : List Entry) → text_of (map (entry_line form ps ops) es) ≡ text_of (map (entry_line form qs ops) es)
  same_entries form [] = refl
  same_entries form (e ∷ es) =
      ap (λ l. line_of l ++ text_of (map (entry_line form ps ops) es)) (same_entry form e)
      ∙ ap (λ text. line_of (entry_line form qs ops e) ++ text) (same_entries form es)

  same_left : (xs : List Placed) → left_text ps ops xs ≡ left_text qs ops xs
  same_left [] = refl
  same_left (x ∷ xs) =
      ap (λ l. line_of (decimal x.place ∷ l) ++ left_text ps ops xs) (same_entry Plain x.entry)
      ∙ ap (λ text. line_of (place_line qs ops x) ++ text) (same_left xs)

  -- and so is an answer
  pub same_text_of : (form : Form) (n : ℕ) (found : Audited) → audited_text form ps ops n found ≡ audited_text form qs ops n found
  same_text_of form n (Reducible serial) = ap (λ text. (codes "reducible " ++ decimal n ++ codes "\nserial\n") ++ text) (same_entries form serial.items)
  same_text_of form n (Barred prefix left) = ap (λ text. text ++ (codes "barred prefix " ++ decimal prefix ++ codes "\n")) (same_left left.items)
  same_text_of form n (Cycle prefix left processes) = ap (λ text. text ++ cycle_line prefix processes.items) (same_left left.items)
