use Rattle.std.proofs.Common.{rules, arith, ◌≡◌, ◌∷◌, ◌∙◌, ◌<◌, ◌+◌, ◌++◌, [], ap, sym, subst, ℕ, List, codes, length, length-append, true, false}
use Rattle.std.specs.Cmp.Lexicographic.{same_text as texts_are_same}
use Rattle.std.specs.List.{list_any}
use Rattle.std.proofs.lemmas.List.{length-map}
use Rattle.process_tree.specs.Making.{same_text}
use Rattle.process_text.specs.Grammar.{Writes, text_pieces, process_names}
use Rattle.process_text.specs.FirstFault.{told_from, between_processes}
use Rattle.process_text.specs.Leading.{with_names}
use Rattle.process_text.proofs.ProcessesRead.{new_and_one, trees_and_one, writes_process, names_and_one, process_shrinks}
use Rattle.process_text.proofs.processes.read_processes.Goals as goal

pub loop-word-smaller : goal.loop-word-smaller
loop-word-smaller c =
    let before : c.loop-word.words ≡ c.in-Some.word.now ∷ c.next_word.new.self = search rules in
    let added = c.in_ok-add_process.ensures.added in
    let less : length c.add_process.new.words < length c.next_word.new.self + 1 = process_shrinks added.0 c.next_word.new.self c.add_process.new.words added.5 in
    let size : length c.loop-word.words ≡ length (c.in-Some.word.now ∷ c.next_word.new.self) = ap length before in
    omega arith

pub loop-word-preserved : goal.loop-word-preserved
loop-word-preserved c =
    let before : c.loop-word.words ≡ c.in-Some.word.now ∷ c.next_word.new.self = search rules in
    let named : same_text c.in-Some.word.now (codes "process") ≡ true = search rules in
    let whole : c.loop-word.words ≡ codes "process" ∷ c.next_word.new.self = before ∙ ap (λ w. w ∷ c.next_word.new.self) (texts_are_same c.in-Some.word.now (codes "process") (sym named)) in
    let added = c.in_ok-add_process.ensures.added in
    let inv = c.loop-word.invariant in
    let found = c.loop-word.found.items in
    let room = c.in_ok-add_process.ensures.room in
    let count : length c.loop-word.names ≡ length found = ap length inv.named ∙ length-map found (λ p. p.name) in
    let is_new : list_any (same_text added.0.name) (process_names found) ≡ false = subst (λ (ns : List (List ℕ)). list_any (same_text added.0.name) ns ≡ false) inv.named added.3 in
    rw added.1 (record {
      written = writes_process found added.0 c.args.words.now (codes "process" ∷ c.next_word.new.self) c.add_process.new.words
          (subst (λ (ws : List (List ℕ)). Writes (text_pieces found) c.args.words.now ws) whole inv.written) added.5;
      few = omega (arith, length-append found (added.0 ∷ []));
      different = rw (names_and_one found added.0) (new_and_one [] (process_names found) added.0.name inv.different is_new);
      trees = trees_and_one found added.0 inv.trees added.4;
      named = added.2 ∙ ap (λ ns. ns ++ added.0.name ∷ []) inv.named ∙ sym (names_and_one found added.0);
      leads = inv.leads ∙ ap (told_from (with_names [] c.loop-word.names []) between_processes) whole ∙ c.in_ok-add_process.ensures.leads;
    })
