-- What can be wrong with a step, told by its place alone.
use Rattle.std.specs.Prelude.{ℕ, ◌<◌, ◌&&◌, ◌≡◌, Bool, true, false, List, [], ◌∷◌, ◌++◌, length, filter, Option, Some, None}
use Rattle.std.specs.Prelude.{if◌then◌else◌, nat_lt, slice_index_or}
use Rattle.process_tree.specs.declared.step.StepKind.{StepKind}
use Rattle.process_tree.specs.declared.step.StepKind.TheVariants.{C, P, R, Cr}
use Rattle.process_tree.specs.Order.{Each, IsRising, AreInOrder}
use Rattle.process_tree.specs.Shape.{Shape, kind_of, can_be_refused, next_steps, goes_on_to, fixed_len, branch_to, greatest}
use Rattle.process_tree.specs.Shape.{last_after}
use Rattle.process_tree.specs.Play.{fallback_of}
use Rattle.well_formed.specs.declared.judge.Flawed.{Flawed}
use Rattle.well_formed.specs.declared.flaw.Flaw.{Flaw}
use Rattle.well_formed.specs.declared.flaw.Flaw.TheVariants.{CutOff, DeadEnd}

-- b stands on a whole path
abbrev pub IsOn : Shape → ℕ → Type 0
IsOn t b = goes_on_to t (branch_to t b) b ≡ true

-- the whole paths lie as those of a tree do, and have each step
pub record IsOrderly (t : Shape) : Type 0 where
  pub some : Each (λ p. 0 < length p) t.paths
  pub within : Each (Each (λ b. b < length t.kinds)) t.paths
  pub rising : Each IsRising t.paths
  pub in_order : AreInOrder t.paths
  pub covered : (b : ℕ) → b < length t.kinds → IsOn t b

-- the first step of the way just before that of d, at the choice where d begins one
abbrev pub way_before : Shape → ℕ → Option ℕ
way_before t d = greatest (filter (λ e. nat_lt e d) (next_steps t (branch_to t d)))

-- whether steps are sure by the kind of the first of them, where those behind it are or aren't: one that can't be refused but
-- can be undone leaves it to them
abbrev pub is_sure_by : StepKind → Bool → Bool
is_sure_by C behind = false
is_sure_by P behind = false
is_sure_by R behind = true
is_sure_by Cr behind = behind

-- steps are sure where none of them can be refused before one that can't be undone is done
abbrev pub is_sure : List StepKind → List ℕ → Bool
is_sure kinds [] = true
is_sure kinds (e ∷ es) = is_sure_by (slice_index_or kinds e C) (is_sure kinds es)

-- there is a way that e begins behind v, and it is sure through last alternatives
abbrev pub is_way_sure : Shape → List ℕ → Option ℕ → Bool
is_way_sure t v None = false
is_way_sure t v (Some e) = is_sure t.kinds (e ∷ last_after t (v ++ e ∷ []))

-- d begins a way that nothing falls back to, since the one before it is sure
abbrev pub is_cut_off : Shape → ℕ → Bool
is_cut_off t d = is_way_sure t (branch_to t d) (way_before t d)

-- whether there is none
abbrev pub is_nowhere : Option ℕ → Bool
is_nowhere None = true
is_nowhere (Some d) = false

-- b may be refused behind a commit point, and has no way on then
abbrev pub is_dead_end : Shape → ℕ → Bool
is_dead_end t b =
    can_be_refused (kind_of t b) && nat_lt 0 (fixed_len t (branch_to t b)) && is_nowhere (fallback_of t (branch_to t b) b)

-- what is wrong with a step first
abbrev pub flaw_at : Shape → ℕ → Option Flaw
flaw_at t b = if is_cut_off t b then Some CutOff else (if is_dead_end t b then Some DeadEnd else None)

-- nothing is wrong with it
abbrev pub IsSound : Shape → ℕ → Type 0
IsSound t b = flaw_at t b ≡ None

-- each step below n is sound
abbrev pub IsSoundBelow : Shape → ℕ → Type 0
IsSoundBelow t n = (y : ℕ) → y < n → IsOn t y → IsSound t y

-- a flaw that was found is one, and nothing is wrong with the steps before it
abbrev pub IsFirstFlaw : Shape → Flawed → Type 0
IsFirstFlaw t f = IsOn t f.step × (flaw_at t f.step ≡ Some f.flaw) × IsSoundBelow t f.step

-- the first flaw of these steps was found, or there is none
abbrev pub AreJudged : Shape → List ℕ → Option Flawed → Type 0
AreJudged t p None = Each (IsSound t) p
AreJudged t p (Some f) = IsFirstFlaw t f

-- the same of all steps
abbrev pub IsJudged : Shape → Option Flawed → Type 0
IsJudged t None = Each (Each (IsSound t)) t.paths
IsJudged t (Some f) = IsFirstFlaw t f
