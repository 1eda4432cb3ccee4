-- That a text that can be read has no fault.
use Rattle.std.proofs.Common.{◌≡◌, ◌≤◌, ◌<◌, ◌+◌, ℕ, List, [], ◌∷◌, ◌++◌, length, true, false, not, Some, None, refl, ap, arith, ◌∙◌, append_assoc, append-nil, length-append, Result, Ok, Err, IfOk, OnOk, IfErr, ◌⊎◌, inl, inr}
use Rattle.std.specs.List.{list_any}
use Rattle.std.proofs.lemmas.Bool.{and_parts, lt-ltb, not-true}
use Rattle.process_tree.specs.Making.{same_text, tree_fault}
use Rattle.process_tree.specs.declared.tree.Named.{Named}
use Rattle.process_tree.specs.Blocks.{outline}
use Rattle.text_words.specs.declared.marks.At.TheVariants.{Begin}
use Rattle.text_words.specs.declared.marks.Mark.TheVariants as marks
use Rattle.process_text.specs.declared.error.TextError.{TextError}
use Rattle.process_text.specs.declared.error.TextError.TheVariants.{NoMemory}
use Rattle.text_words.specs.Marks.{mark_word}
use Rattle.text_words.specs.Words.{words_of}
use Rattle.process_text.specs.Grammar.{mark, Writes, block_pieces, process_pieces, text_pieces, process_names, step_names, are_new, AreTrees, IsReading}
use Rattle.process_text.specs.FirstFault.{told_from, in_block, between_processes, first_fault}
use Rattle.process_text.specs.Places.{text_error}
use Rattle.process_text.specs.Leading.{with_names}
use Rattle.process_text.proofs.Within.{within_of_tree, new_names}
use Rattle.text_words.proofs.WordsMean.{end_means}
use Rattle.process_text.proofs.BlocksPassing.{writes_split, BlockFits, block_leads, word_leads}

-- a tree fits behind nothing
tree_fits : (p : Named) → tree_fault p.tree ≡ None → BlockFits [] [] (outline p.tree)
tree_fits p good =
    let within = within_of_tree p.tree good in
    let few = within.few in
    let flat = within.flat in
    record {
      full = within.full;
      few = omega arith;
      flat = omega arith;
      even = within.even;
      new = new_names 0 [] [] (outline p.tree).steps (λ w. refl) within.different;
    }

-- a process
process_leads : (earlier : List (List ℕ)) (p : Named) (before after : List (List ℕ)) → Writes (process_pieces p) before after → tree_fault p.tree ≡ None
    → list_any (same_text p.name) earlier ≡ false → length earlier < 256
    → told_from (with_names [] earlier []) between_processes before ≡ told_from (with_names [] (earlier ++ p.name ∷ []) []) between_processes after
process_leads earlier p before after is good new room =
    let split = writes_split (block_pieces p.tree) (mark marks.End ∷ []) is.0 after is.2 in
    let leads = block_leads p.tree.steps p.tree.tail [] (earlier ++ p.name ∷ []) [] is.0 split.0 split.1 (tree_fits p good) in
    let closed : split.0 ≡ mark_word marks.End ∷ after = split.2.1 ∙ ap (λ ws. mark_word marks.End ∷ ws) split.2.2 in
    let front : told_from (with_names [] earlier []) between_processes before ≡ told_from (with_names [] (earlier ++ p.name ∷ []) []) (in_block Begin) is.0 =
    rw (is.1.1, lt-ltb (length earlier) 256 room, is.1.0, new) refl in
    front ∙ leads.same
    ∙ word_leads (with_names (step_names (outline p.tree).steps) (earlier ++ p.name ∷ []) []) leads.at 0 marks.End split.0 after refl (end_means leads.at leads.closed) closed

-- processes
processes_lead : (earlier : List (List ℕ)) (ps : List Named) (before after : List (List ℕ)) → Writes (text_pieces ps) before after → AreTrees ps
    → are_new earlier (process_names ps) ≡ true → length earlier + length ps ≤ 256
    → told_from (with_names [] earlier []) between_processes before ≡ told_from (with_names [] (earlier ++ process_names ps) []) between_processes after
processes_lead earlier [] before after is trees new room = rw (append-nil earlier) (ap (told_from (with_names [] earlier []) between_processes) is)
processes_lead earlier (p ∷ ps) before after is trees new room =
    let split = writes_split (process_pieces p) (text_pieces ps) before after is in
    let parts = and_parts (not (list_any (same_text p.name) earlier)) (are_new (earlier ++ p.name ∷ []) (process_names ps)) new in
    process_leads earlier p before split.0 split.1 trees.0 (not-true (list_any (same_text p.name) earlier) parts.0) (omega arith)
    ∙ processes_lead (earlier ++ p.name ∷ []) ps split.0 after split.2 trees.1 parts.1 (omega (arith, length-append earlier (p.name ∷ [])))
    ∙ ap (λ (ns : List (List ℕ)). told_from (with_names [] ns []) between_processes after) (append_assoc earlier (p.name ∷ []) (process_names ps))

-- a text that can be read has no fault
pub reading_has_no_fault : (words : List (List ℕ)) (ps : List Named) → IsReading words ps → first_fault words ≡ None
reading_has_no_fault words ps reading =
    processes_lead [] ps words [] reading.written reading.trees reading.different (omega (arith, reading.few))

-- where an error is told, no processes have these words
pub error_has_no_reading : {T : Type 0} (r : Result T TextError) (bytes : List ℕ) → IfErr r (λ e. (e ≡ NoMemory) ⊎ (text_error bytes ≡ Some e))
    → IfErr r (λ e. (e ≡ NoMemory) ⊎ ((ps : List Named) → ¬ IsReading (words_of bytes) ps))
error_has_no_reading (Ok t) bytes told = tt
error_has_no_reading (Err e) bytes (inl memory) = inl memory
error_has_no_reading (Err e) bytes (inr fault) = inr (λ ps reading.
    let none = reading_has_no_fault (words_of bytes) ps reading in
    let other : text_error bytes ≡ None = rw none refl in
    absurd (cc))

-- where processes are read, no error is told
pub reading_has_no_error : {T : Type 0} (f : T → List Named) (r : Result T TextError) (bytes : List ℕ) → IfOk r (λ t. IsReading (words_of bytes) (f t)) → OnOk r (text_error bytes ≡ None)
reading_has_no_error f (Ok t) bytes reading = rw (reading_has_no_fault (words_of bytes) (f t) reading) refl
reading_has_no_error f (Err e) bytes reading = tt
