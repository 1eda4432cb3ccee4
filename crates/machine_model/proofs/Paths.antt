-- Paths along arrows of any kind: with new arrows to one process alone, from which no path leads back to where they begin, there
-- is no new circle.
use Rattle.std.proofs.Common.{◌≡◌, ◌⊎◌, inl, inr, ℕ, sym, refl, subst}

-- one or more arrows from one process to another
pub data Path (Arrow : ℕ → ℕ → Type 0) : ℕ → ℕ → Type 0 where
  along : {i k : ℕ} → Arrow i k → Path Arrow i k
  further : {i j k : ℕ} → Path Arrow i j → Arrow j k → Path Arrow i k

-- none, too
abbrev pub Comes : (ℕ → ℕ → Type 0) → ℕ → ℕ → Type 0
Comes Arrow i k = (i ≡ k) ⊎ Path Arrow i k

-- each arrow may be taken for another
pub path_by : (A B : ℕ → ℕ → Type 0) → ((i k : ℕ) → A i k → B i k) → (i k : ℕ) → Path A i k → Path B i k
path_by A B same i k (along a) = along (same i k a)
path_by A B same i k (further {j = j} w a) = further (path_by A B same i j w) (same j k a)

module _ (Old New : ℕ → ℕ → Type 0) (single : (i k j p : ℕ) → New i k → New j p → k ≡ p) where
  joined : (i j k : ℕ) → Path Old i j → Path Old j k → Path Old i k
  joined i j k w (along a) = further w a
  joined i j k w (further {j = l} v a) = further (joined i j l w v) a

  comes_joined : (i j k : ℕ) → Comes Old i j → Comes Old j k → Comes Old i k
  comes_joined i j k (inl same) v = subst (λ l. Comes Old l k) (sym same) v
  comes_joined i j k (inr w) (inl same) = inr (subst (Path Old i) same w)
  comes_joined i j k (inr w) (inr v) = inr (joined i j k w v)

  comes_on : (i j k : ℕ) → Comes Old i j → Old j k → Comes Old i k
  comes_on i j k (inl same) a = inr (subst (λ l. Path Old l k) (sym same) (along a))
  comes_on i j k (inr w) a = inr (further w a)

  -- a path that has new arrows comes to the first by old ones, and goes on from where they lead by old ones
  abbrev ByNew : ℕ → ℕ → Type 0
  ByNew i k = (j : ℕ) × (p : ℕ) × New j p × Comes Old i j × Comes Old p k

  by_old : (i j k : ℕ) → Path Old i j ⊎ ByNew i j → Old j k → Path Old i k ⊎ ByNew i k
  by_old i j k (inl w) a = inl (further w a)
  by_old i j k (inr n) a = inr (n.0, n.1, n.2, n.3, comes_on n.1 j k n.4 a)

  by_new : (i j k : ℕ) → Path Old i j ⊎ ByNew i j → New j k → Path Old i k ⊎ ByNew i k
  by_new i j k (inl w) a = inr (j, k, a, inr w, inl refl)
  by_new i j k (inr n) a = inr (n.0, n.1, n.2, n.3, inl (single n.0 n.1 j k n.2 a))

  split : (i k : ℕ) → Path (λ a b. Old a b ⊎ New a b) i k → Path Old i k ⊎ ByNew i k
  split i k (along (inl a)) = inl (along a)
  split i k (along (inr a)) = inr (i, k, a, inl refl, inl refl)
  split i k (further {j = j} w (inl a)) = by_old i j k (split i j w) a
  split i k (further {j = j} w (inr a)) = by_new i j k (split i j w) a

  pub no_new_circle : ((i k : ℕ) → New i k → Comes Old k i → ⊥) → ((i : ℕ) → Path Old i i → ⊥) → (i : ℕ) → Path (λ a b. Old a b ⊎ New a b) i i → ⊥
  no_new_circle shut none i w = by_split (split i i w)
    where
      by_split : Path Old i i ⊎ ByNew i i → ⊥
      by_split (inl v) = none i v
      by_split (inr n) = shut n.0 n.1 n.2 (comes_joined n.1 i n.0 n.4 n.3)
