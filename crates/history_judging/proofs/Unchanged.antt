-- What an event leaves as it was in the tables.
use Rattle.std.proofs.Common.{◌≡◌, ℕ, ◌-◌, Bool, true, false, not, eqb, ltb, ◌&&◌, if◌then◌else◌, List, [], ◌∷◌, ◌++◌, length, filter, sym, ap, ◌∙◌, append-nil}
use Rattle.std.specs.List.{list_all}
use Rattle.std.proofs.Math.Bool.{and_comm}
use Rattle.std.proofs.lemmas.Bool.{eqb-true, not-true}
use Rattle.std.proofs.lemmas.List.Elements.{filter-append}
use Rattle.process_tree.specs.declared.entry.Entry.{Entry}
use Rattle.schedule_model.specs.declared.event.Event.{Event}
use Rattle.schedule_model.specs.declared.event.Event.TheVariants.{Start, Act, End}
use Rattle.schedule_model.specs.Course.{Course, course}
use Rattle.schedule_model.specs.Histories.{acts, is_active, of_process, same_step}
use Rattle.schedule_model.specs.Limits.{need, still_needed}
use Rattle.schedule_model.specs.Recovery.{owed}
use Rattle.schedule_model.proofs.Appends.{acts-append}
use Rattle.schedule_model.proofs.Conflicts.{same_either_way}
use Rattle.schedule_model.proofs.FewActs.{acts_other}
use Rattle.schedule_model.proofs.Frames.{frame, process_of}
use Rattle.schedule_model.proofs.Members.{among-filter, filter-none}
use Rattle.schedule_model.proofs.Snoc.{filter_same, filter_through, filter_twice}
use Rattle.history_judging.specs.declared.legality.ProcessRow.{ProcessRow}
use Rattle.history_judging.specs.Keeping.{IsRowOf, of_others}
use Rattle.schedule_rules.specs.Standing.{stands_after}

module _ (courses : List Course) (h : List Event) where
  -- an event of another process adds no act
  pub acts-other : (e : Event) (i : ℕ) → eqb (process_of e) i ≡ false → of_process i (acts (h ++ e ∷ [])) ≡ of_process i (acts h)
  acts-other (Start k) i other = ap (of_process i) (acts-append h (Start k ∷ []) ∙ append-nil (acts h))
  acts-other (Act e) i other = acts_other courses i h e other
  acts-other (End k) i other = ap (of_process i) (acts-append h (End k ∷ []) ∙ append-nil (acts h))

  -- so the process may still need as much
  pub needed-other : (e : Event) (i : ℕ) → eqb (process_of e) i ≡ false → still_needed courses (h ++ e ∷ []) i ≡ still_needed courses h i
  needed-other e i other = ap (λ es. need (course courses i) - length es) (acts-other e i other)

  -- and its row stays
  pub row-stays : (e : Event) (i : ℕ) (row : ProcessRow) → eqb (process_of e) i ≡ false → IsRowOf courses h i row → IsRowOf courses (h ++ e ∷ []) i row
  row-stays e i row other was =
      let stays = frame courses h e i other in
      record {
        active = was.active ∙ sym stays.active;
        bound = λ b. was.bound b ∙ ap (λ ds. list_all (λ d. ltb d b) ds) (sym stays.done);
        needed = was.needed ∙ sym (needed-other e i other);
      }

  -- what it owes, if it is active, stays
  pub owed-other : (e : Event) (i : ℕ) (es : List Entry) → eqb (process_of e) i ≡ false → es ≡ (if is_active h i then owed courses h i else [])
      → es ≡ (if is_active (h ++ e ∷ []) i then owed courses (h ++ e ∷ []) i else [])
  owed-other e i es other was =
      let stays = frame courses h e i other in
      was
      ∙ (ap (λ a. if a then owed courses h i else []) (sym stays.active)
      ∙ ap (λ xs. if is_active (h ++ e ∷ []) i then xs else []) (sym stays.owes))

-- what stands of some processes after an entry of one of them
pub stands-filtered : (p : Entry → Bool) (es : List Entry) (e : Entry) → p e ≡ true → stands_after (filter p es) e ≡ filter p (stands_after es e)
stands-filtered p es e is = by_undo e.undo
  where
    by_undo : (u : Bool) → (if u then filter (λ f. not (same_step f e)) (filter p es) else filter p es ++ e ∷ []) ≡ filter p (if u then filter (λ f. not (same_step f e)) es else es ++ e ∷ [])
    by_undo true =
        filter_twice p (λ f. not (same_step f e)) es
        ∙ (filter_same (λ f. p f && not (same_step f e)) (λ f. not (same_step f e) && p f) es (λ f. and_comm (p f) (not (same_step f e)))
        ∙ sym (filter_twice (λ f. not (same_step f e)) p es))
    by_undo false = sym (filter-append p es (e ∷ []) ∙ ap (λ t. filter p es ++ (if t then e ∷ [] else [])) is)

-- the entries of another process are among those of others
pub of_others-other : (k i : ℕ) (es : List Entry) → eqb k i ≡ false → of_process i (of_others k es) ≡ of_process i es
of_others-other k i es other =
    filter_through (λ e. eqb e.process i) (λ e. not (eqb e.process k)) es (λ e is. ap not (ap (λ n. eqb n k) (eqb-true e.process i is) ∙ same_either_way k i false other))

-- and those of the process itself are not
pub of_others-own : (k : ℕ) (es : List Entry) → of_process k (of_others k es) ≡ []
of_others-own k es =
    filter-none (λ (e : Entry). eqb e.process k) (of_others k es)
    (λ e is. not-true (eqb e.process k) (among-filter (λ (e : Entry). not (eqb e.process k)) e es is).1)
