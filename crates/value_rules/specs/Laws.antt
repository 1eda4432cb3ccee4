-- What exchanges and cancels keep of the values, as a statement.
use Rattle.std.specs.Prelude.{◌≡◌, ◌⊎◌, ℕ, Bool, true, false, not, ◌||◌, ◌&&◌, List, [], ◌∷◌, nat_eq, FitsSigned}
use Rattle.std.specs.List.{Contains, list_any}
use Rattle.std.proofs.Common.{w64}
use Rattle.process_tree.specs.declared.entry.Entry.{Entry}
use Rattle.schedule_model.specs.Conflict.{ConflictRelation}
use Rattle.schedule_model.specs.Histories.{same_step}
use Rattle.schedule_model.specs.Reduction.{AreReduced, can_change}
use Rattle.value_conflict.specs.ValueConflict.{commute}
use Rattle.value_rules.specs.Ledgers.{Deeds, Ledger, after_all, unused, is_sum, same_place}

-- What is asked of deeds and of a conflict relation, for the entries that are known: who may change places doesn't meet at one key,
-- or commutes. An undo asks what its step asked, sums are known by process and step, and amounts fit 64 bits.
pub record AreSound (table : ConflictRelation) (deeds : Deeds) (sums : ℕ → ℕ → Bool) (known : Entry → Bool) : Type 0 where
  pub apart : (a b : Entry) → known a ≡ true → known b ≡ true → can_change table a b ≡ true
      → (same_place deeds a b ≡ false) ⊎ (commute (deeds a).call.verb (deeds b).call.verb ≡ true)
  pub undo : (a b : Entry) → same_step a b ≡ true → deeds a ≡ deeds b
  pub sum : (e : Entry) → sums e.process e.step ≡ is_sum (deeds e).call.verb
  pub fits : (e : Entry) → FitsSigned w64 (deeds e).call.amount

-- entry f may not stand behind e: their step would take effect twice, or be undone twice, or take effect behind its undo
abbrev pub clash_later : Entry → Entry → Bool
clash_later e f = same_step e f && (e.undo || not f.undo)

-- each step takes effect at most once, and is undone at most once, behind that
abbrev pub AreOnce : List Entry → Type 0
AreOnce [] = Unit {0}
AreOnce (e ∷ es) = (list_any (clash_later e) es ≡ false) × AreOnce es

-- there is an entry of this step of this process
abbrev pub has : ℕ → ℕ → List Entry → Bool
has i b es = list_any (λ e. nat_eq e.process i && nat_eq e.step b) es

-- two ledgers have the same values; and what steps of these entries found is the same, but for sums
abbrev pub AgreeOn : (ℕ → ℕ → Bool) → List Entry → Ledger → Ledger → Type 0
AgreeOn sums es l m = ((q k : ℕ) → l.value q k ≡ m.value q k)
    × ((i b : ℕ) → has i b es ≡ true → sums i b ≡ false → l.found i b ≡ m.found i b)

-- Whatever exchanges and cancels make of a list leaves the values that the list leaves, and each step that is left, unless it adds
-- or takes, finds what it found.
abbrev pub ReductionKeepsValues : Type 0
ReductionKeepsValues = (table : ConflictRelation) (deeds : Deeds) (sums : ℕ → ℕ → Bool) (known : Entry → Bool) (xs ys : List Entry)
    → AreSound table deeds sums known → ((e : Entry) → Contains xs e → known e ≡ true) → AreOnce xs → AreReduced table xs ys
    → AgreeOn sums ys (after_all deeds unused xs) (after_all deeds unused ys)
