-- Processes that were read one after another.
use Rattle.std.proofs.Common.{◌≡◌, ◌≤◌, ◌<◌, ◌+◌, ℕ, List, [], ◌∷◌, ◌++◌, length, true, false, not, codes, None, refl, sym, ap, arith, append_assoc, append-nil, subst, inl, inr}
use Rattle.std.specs.List.{list_any}
use Rattle.std.proofs.lemmas.Bool.{and_parts, and_from}
use Rattle.std.proofs.lemmas.Grind.{flat_map-append}
use Rattle.std.proofs.lemmas.List.{map-append}
use Rattle.process_tree.specs.Making.{same_text, tree_fault}
use Rattle.process_tree.specs.declared.step.Step.{Step}
use Rattle.process_tree.specs.declared.tree.Named.{Named}
use Rattle.text_words.specs.declared.marks.Setting.{Setting}
use Rattle.text_words.specs.declared.marks.Mark.TheVariants as marks
use Rattle.text_words.specs.Marks.{settings}
use Rattle.process_text.specs.Grammar.{Piece, process, step, mark, IsSetting, AreSettings, IsPiece, Writes, block_pieces, process_pieces, text_pieces, process_names, are_new, AreTrees}
use Rattle.process_text.proofs.Pieces.{writes_both}

-- texts stay new when one more is added that is
pub new_and_one : (earlier ns : List (List ℕ)) (n : List ℕ) → are_new earlier ns ≡ true → list_any (same_text n) (earlier ++ ns) ≡ false → are_new earlier (ns ++ n ∷ []) ≡ true
new_and_one earlier [] n new one =
    let here : list_any (same_text n) earlier ≡ false = subst (λ (all : List (List ℕ)). list_any (same_text n) all ≡ false) (append-nil earlier) one in
    and_from (not (list_any (same_text n) earlier)) true (ap not here) refl
new_and_one earlier (m ∷ ms) n new one =
    let parts = and_parts (not (list_any (same_text m) earlier)) (are_new (earlier ++ m ∷ []) ms) new in
    and_from (not (list_any (same_text m) earlier)) (are_new (earlier ++ m ∷ []) (ms ++ n ∷ [])) parts.0
    (new_and_one (earlier ++ m ∷ []) ms n parts.1
    (subst (λ (all : List (List ℕ)). list_any (same_text n) all ≡ false) (sym (append_assoc earlier (m ∷ []) ms)) one))

-- one tree more
pub trees_and_one : (ps : List Named) (p : Named) → AreTrees ps → tree_fault p.tree ≡ None → AreTrees (ps ++ p ∷ [])
trees_and_one [] p trees one = (one, tt)
trees_and_one (q ∷ ps) p trees one = (trees.0, trees_and_one ps p trees.1 one)

-- one process more
pub writes_process : (ps : List Named) (p : Named) (a b c : List (List ℕ)) → Writes (text_pieces ps) a b → Writes (process_pieces p) b c → Writes (text_pieces (ps ++ p ∷ [])) a c
writes_process ps p a b c first then =
    let all : text_pieces (ps ++ p ∷ []) ≡ text_pieces ps ++ (process_pieces p ++ []) = flat_map-append process_pieces ps (p ∷ []) in
    subst (λ (qs : List Piece). Writes qs a c) (sym all)
    (writes_both (text_pieces ps) (process_pieces p ++ []) a b c first
    (subst (λ (qs : List Piece). Writes qs b c) (sym (append-nil (process_pieces p))) then))

-- the same of the names
pub names_and_one : (ps : List Named) (p : Named) → process_names (ps ++ p ∷ []) ≡ process_names ps ++ p.name ∷ []
names_and_one ps p = map-append (λ (q : Named). q.name) ps (p ∷ [])

setting_shrinks : (x : Setting) (n : ℕ) (a b : List (List ℕ)) → IsSetting x n a b → length b ≤ length a
setting_shrinks x n a b (inl is) = rw is (omega arith)
setting_shrinks x n a b (inr is) = rw is.0 (omega arith)

settings_shrink : (xs : List Setting) (s : Step) (a b : List (List ℕ)) → AreSettings xs s a b → length b ≤ length a
settings_shrink [] s a b is = rw is (omega arith)
settings_shrink (x ∷ xs) s a b is = omega (arith, setting_shrinks x _ a is.0 is.1, settings_shrink xs s is.0 b is.2)

piece_shrinks : (p : Piece) (a b : List (List ℕ)) → IsPiece p a b → length b ≤ length a
piece_shrinks (process name) a b is = rw is.1 (omega arith)
piece_shrinks (step s) a b is = rw is.words_are (omega (arith, settings_shrink (settings s.kind) s is.behind b is.settings_are))
piece_shrinks (mark m) a b is = rw is (omega arith)

-- what is left behind pieces isn't more than before
pub writes_shrink : (ps : List Piece) (a b : List (List ℕ)) → Writes ps a b → length b ≤ length a
writes_shrink [] a b is = rw is (omega arith)
writes_shrink (p ∷ ps) a b is = omega (arith, piece_shrinks p a is.0 is.1, writes_shrink ps is.0 b is.2)

-- and behind a process it is less
pub process_shrinks : (p : Named) (a b : List (List ℕ)) → Writes (process_pieces p) (codes "process" ∷ a) b → length b < length a + 1
process_shrinks p a b is =
    let behind = writes_shrink (block_pieces p.tree ++ mark marks.End ∷ []) is.0 b is.2 in
    let size : length (codes "process" ∷ a) ≡ length (codes "process" ∷ p.name ∷ is.0) = ap length is.1.1 in
    omega arith
