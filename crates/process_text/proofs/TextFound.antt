-- That words without a fault are processes.
use Rattle.std.proofs.Common.{◌≡◌, ◌⊎◌, inl, inr, ◌≤◌, ◌<◌, ◌+◌, ◌*◌, ℕ, zero, suc, List, [], ◌∷◌, ◌++◌, length, Bool, true, false, not, nat_lt, codes, Option, Some, None, refl, sym, ap, arith, ◌∙◌, if◌then◌else◌, length-append}
use Rattle.std.specs.List.{list_any}
use Rattle.std.specs.declared.alloc.Global.{Global}
use Rattle.std.specs.Cmp.Lexicographic.{same_text as texts_are_same}
use Rattle.std.proofs.lemmas.Bool.{and_from, ltb-true}
use Rattle.process_tree.specs.Name.{is_name}
use Rattle.process_tree.specs.Making.{same_text}
use Rattle.process_tree.specs.declared.tree.Named.{Named}
use Rattle.text_words.specs.declared.marks.At.TheVariants.{Begin}
use Rattle.text_words.specs.declared.marks.Mark.{Mark}
use Rattle.text_words.specs.declared.marks.Mark.TheVariants as marks
use Rattle.text_words.specs.declared.marks.Next.TheVariants as next
use Rattle.process_text.specs.declared.fault.Fault.{Fault}
use Rattle.process_text.specs.declared.error.TextError.{TextError}
use Rattle.text_words.specs.Words.{words_of}
use Rattle.process_text.specs.Places.{error_at, text_error}
use Rattle.process_text.specs.Again.{HasReading, ReadingOrFault}
use Rattle.process_text.proofs.ProcessesPassing.{reading_has_no_fault}
use Rattle.text_words.specs.Marks.{mark_word, closes}
use Rattle.process_text.specs.Grammar.{mark, Writes, block_pieces, process_pieces, process_of, process_names, text_pieces, are_new, AreTrees, IsReading}
use Rattle.process_text.specs.FirstFault.{Before, Place, Told, goes_on, stops, told_after, told_from, told_behind, in_block, at_process_name, between_processes, with_process, first_fault}
use Rattle.process_text.specs.Leading.{with_names}
use Rattle.process_text.proofs.Pieces.{writes_both}
use Rattle.process_text.proofs.Fitting.{makes_tree}
use Rattle.process_text.proofs.StepsFound.{name_passes}
use Rattle.process_text.proofs.BlocksFound.{block_found}

is_end : (m : Mark) → closes 0 m ≡ true → m ≡ marks.End
is_end marks.Choose e = absurd (cc)
is_end marks.Or e = absurd (cc)
is_end marks.Done e = absurd (cc)
is_end marks.End e = refl

-- Processes that were found.
record ProcessesFound (earlier ws : List (List ℕ)) : Type 0 where
  found : List Named
  written : Writes (text_pieces found) ws []
  new : are_new earlier (process_names found) ≡ true
  few : length earlier + length found ≤ 256
  trees : AreTrees found

-- the word `process` with room for one more
begins_process : (c d : Bool) (b : Before) (p : Place) (f g : Fault) (ws : List (List ℕ)) → told_after (if c then (if d then goes_on b p else stops f) else stops g) ws (λ a q. told_from a q ws) ≡ None
    → (c ≡ true) × (d ≡ true) × (told_from b p ws ≡ None)
begins_process true true b p f g ws e = (refl, refl, e)
begins_process true false b p f g ws e = absurd (cc)
begins_process false d b p f g ws e = absurd (cc)

-- a process, and then the others
one_process : (alloc : Global) (earlier : List (List ℕ)) (w name : List ℕ) (ws : List (List ℕ)) → told_from (with_names [] earlier []) between_processes (w ∷ name ∷ ws) ≡ None
    → ((later : List (List ℕ)) → length later < length ws → length earlier < 256 → told_from (with_names [] (earlier ++ name ∷ []) []) between_processes later ≡ None → ProcessesFound (earlier ++ name ∷ []) later)
    → ProcessesFound earlier (w ∷ name ∷ ws)
one_process alloc earlier w name ws e rest =
    let here = with_names [] earlier [] in
    let more = earlier ++ name ∷ [] in
    let begun = begins_process (same_text w (codes "process")) (nat_lt (length earlier) 256) here at_process_name _ _ (name ∷ ws) e in
    let named = name_passes (is_name name) (list_any (same_text name) earlier) (with_process here name) (in_block Begin) _ _ ws begun.2 in
    let b = block_found (2 * length ws) alloc 16 [] more [] ws (omega arith) refl named.2 in
    let is = is_end b.word b.closes_it in
    let on : told_behind (with_names b.after_names more []) (next.Mark marks.End) b.after ≡ None = sym (ap (λ m. told_behind (with_names b.after_names more []) (next.Mark m) b.after) is) ∙ b.on in
    let r = rest b.after b.few (ltb-true (length earlier) 256 begun.1) on in
    let p = process_of name b.root in
    let few = r.few in
    record {
      found = p ∷ r.found;
      written = writes_both (process_pieces p) (text_pieces r.found) (w ∷ name ∷ ws) b.after [] (
        ws,
        (named.0, ap (λ v. v ∷ name ∷ ws) (texts_are_same w (codes "process") (sym begun.0))),
        writes_both (block_pieces b.root) (mark marks.End ∷ []) ws (mark_word b.word ∷ b.after) b.after b.written (b.after, ap (λ m. mark_word m ∷ b.after) is, refl),
      )
          r.written;
      new = and_from (not (list_any (same_text name) earlier)) (are_new more (process_names r.found)) (ap not named.1) r.new;
      few = omega (arith, length-append earlier (name ∷ []));
      trees = (makes_tree b.root b.after_names b.fits, r.trees);
    }

processes_found : (n : ℕ) (alloc : Global) (earlier ws : List (List ℕ)) → length ws ≤ n → length earlier ≤ 256 → told_from (with_names [] earlier []) between_processes ws ≡ None → ProcessesFound earlier ws
processes_found n alloc earlier [] size few e = record { found = []; written = refl; new = refl; few = omega arith; trees = tt }
processes_found zero alloc earlier (w ∷ ws) size few e = absurd (omega arith)
processes_found (suc n) alloc earlier (w ∷ []) size few e =
    let begun = begins_process (same_text w (codes "process")) (nat_lt (length earlier) 256) (with_names [] earlier []) at_process_name _ _ [] e in absurd (let f = begun.2 in cc)
processes_found (suc n) alloc earlier (w ∷ name ∷ ws) size few e =
    one_process alloc earlier w name ws e (λ later less room on. processes_found n alloc (earlier ++ name ∷ []) later (omega arith) (omega (arith, length-append earlier (name ∷ []))) on)

-- words without a fault have a reading
pub reading_found : (alloc : Global) (words : List (List ℕ)) → first_fault words ≡ None → (ps : List Named) × IsReading words ps
reading_found alloc words none =
    let r = processes_found (length words) alloc [] words (omega arith) (omega arith) none in
    let few = r.few in
    (r.found, record { written = r.written; few = omega arith; different = r.new; trees = r.trees })

-- so a text has a reading or a fault, and not both
pub reading_or_fault : Global → ReadingOrFault
reading_or_fault alloc bytes = by_fault (first_fault (words_of bytes)) refl
  where
    by_fault : (o : Option Told) → first_fault (words_of bytes) ≡ o → (HasReading bytes × (text_error bytes ≡ None)) ⊎ ((¬ HasReading bytes) × ((e : TextError) × (text_error bytes ≡ Some e)))
    by_fault None is = inl (reading_found alloc (words_of bytes) is, rw is refl)
    by_fault (Some t) is = inr (λ has. let none = reading_has_no_fault (words_of bytes) has.0 has.1 in let f = sym none ∙ is in absurd (cc), (error_at bytes t.left t.fault, rw is refl))
