-- At a key that no step uses the value is 0.
use Rattle.std.proofs.Common.{◌≡◌, ◌≢◌, ◌+◌, ℕ, ℤ, pos, Bool, true, false, List, [], ◌∷◌, ◌++◌, map, fold, Option, Some, None, refl, sym, ap, ◌∙◌, if◌then◌else◌}
use Rattle.std.specs.Prelude.{◌==◌}
use Rattle.std.specs.List.{AllByRecursion}
use Rattle.process_tree.specs.declared.entry.Entry.{Entry}
use Rattle.process_tree.specs.declared.plan.Plan.{Plan}
use Rattle.commute_table.specs.declared.op.Op.{Op}
use Rattle.resource_box.specs.declared.call.Kind.{Kind}
use Rattle.resource_box.specs.Meaning.{value_at}
use Rattle.resource_box.specs.Table.{applied, reverted, kind_of}
use Rattle.resource_box.proofs.Maps.{keeps_other_keys}
use Rattle.subsystem_store.specs.declared.effect.Effect.{Effect}
use Rattle.subsystem_store.specs.Values.{Settled, done, settle, take_last, undone, unused, values}
use Rattle.history_files.specs.Effects.{effect_of, effects_from, key_of, subsystem_of}
use Rattle.value_replay.specs.Replays.{books, lines_behind}
use Rattle.replay_run.specs.Boxes.{step_keys}
use Rattle.replay_run.proofs.SortedPairs.{AreSorted, sorted_with}

-- an effect keeps the order of the pairs
settle_sorted : (kind : Kind) (s : Settled) (e : Effect) → AreSorted s.pairs → AreSorted (settle kind s e).pairs
settle_sorted kind s e sorted = by e.undo
  where
    undone_by : (found : Option (ℤ × List _)) → AreSorted (undone kind s e found).pairs
    undone_by None = sorted
    undone_by (Some found) = sorted_with s.pairs e.call.key (reverted kind e.call (value_at s.pairs e.call.key) found.0) sorted

    by : (undo : Bool) → AreSorted (if undo then undone kind s e (take_last e s.undoable) else done kind s e).pairs
    by true = undone_by (take_last e s.undoable)
    by false = sorted_with s.pairs e.call.key (applied kind e.call (value_at s.pairs e.call.key)) sorted

sorted_from : (kind : Kind) (s : Settled) (book : List Effect) → AreSorted s.pairs → AreSorted (fold (settle kind) s book).pairs
sorted_from kind s [] sorted = sorted
sorted_from kind s (e ∷ book) sorted = sorted_from kind (settle kind s e) book (settle_sorted kind s e sorted)

-- The values of a book are in the order of their keys.
pub values_sorted : (kind : Kind) (book : List Effect) → AreSorted (values kind book)
values_sorted kind book = sorted_from kind unused book tt

-- an effect keeps the values at all keys but its own
settle_keeps : (kind : Kind) (s : Settled) (e : Effect) (k : ℕ) → e.call.key ≢ k → value_at (settle kind s e).pairs k ≡ value_at s.pairs k
settle_keeps kind s e k other = by e.undo
  where
    off : k ≢ e.call.key
    off same = other (sym same)

    undone_by : (found : Option (ℤ × List _)) → value_at (undone kind s e found).pairs k ≡ value_at s.pairs k
    undone_by None = refl
    undone_by (Some found) = keeps_other_keys s.pairs e.call.key (reverted kind e.call (value_at s.pairs e.call.key) found.0) k off

    by : (undo : Bool) → value_at (if undo then undone kind s e (take_last e s.undoable) else done kind s e).pairs k ≡ value_at s.pairs k
    by true = undone_by (take_last e s.undoable)
    by false = keeps_other_keys s.pairs e.call.key (applied kind e.call (value_at s.pairs e.call.key)) k off

kept_from : (kind : Kind) (s : Settled) (book : List Effect) (k : ℕ) → AllByRecursion (λ e. e.call.key ≢ k) book → value_at (fold (settle kind) s book).pairs k ≡ value_at s.pairs k
kept_from kind s [] k all = refl
kept_from kind s (e ∷ book) k all = kept_from kind (settle kind s e) book k all.1 ∙ settle_keeps kind s e k all.0

module _ (ops : List Op) (plans : List Plan) where
  -- the key of each of these entries
  abbrev pub entry_keys : List Entry → List ℕ
  entry_keys es = map (λ e. key_of plans e.process e.step) es

  effects_off : (q n k : ℕ) (es : List Entry) → AllByRecursion (λ x. x ≢ k) (entry_keys es) → AllByRecursion (λ e. e.call.key ≢ k) (effects_from ops plans q n es)
  effects_off q n k [] all = tt
  effects_off q n k (e ∷ es) all = by (subsystem_of ops e.op == q) (effects_off q (n + 1) k es all.1)
    where
      by : (b : Bool) → AllByRecursion (λ (x : Effect). x.call.key ≢ k) (effects_from ops plans q (n + 1) es)
          → AllByRecursion (λ (x : Effect). x.call.key ≢ k) (if b then effect_of ops plans n e ∷ effects_from ops plans q (n + 1) es else effects_from ops plans q (n + 1) es)
      by true rest = (all.0, rest)
      by false rest = rest

  -- The value of a book at a key that none of its entries has is 0.
  pub unused_key : (q k : ℕ) (es : List Entry) → AllByRecursion (λ x. x ≢ k) (entry_keys es) → value_at (values (kind_of q) (books ops plans es q)) k ≡ pos 0
  unused_key q k es all = kept_from (kind_of q) unused (books ops plans es q) k (effects_off q 0 k es all)

  -- the keys of lines are those of their entries
  pub keys_of_lines : (front es : List Entry) → step_keys plans (lines_behind ops plans front es) ≡ entry_keys es
  keys_of_lines front [] = refl
  keys_of_lines front (e ∷ es) = ap (λ ks. key_of plans e.process e.step ∷ ks) (keys_of_lines (front ++ e ∷ []) es)
