-- Nothing comes to be barred where steps change places, or a step goes with its undo.
use Rattle.std.proofs.Common.{◌≡◌, ◌⊎◌, inl, inr, ⊎_elim, ℕ, Bool, true, false, not, eqb, ◌&&◌, List, [], ◌∷◌, ◌++◌, refl, sym, ap, ◌∙◌, w64}
use Rattle.std.proofs.Math.IntN.{ℤ, pos}
use Rattle.std.specs.Prelude.{int_lt}
use Rattle.std.specs.Int.{int_wrapping_sub}
use Rattle.std.proofs.lemmas.Bool.{and_parts, eqb-true, false≢true}
use Rattle.process_tree.specs.declared.entry.Entry.{Entry}
use Rattle.schedule_model.specs.Conflict.{ConflictRelation}
use Rattle.schedule_model.specs.Reduction.{can_change}
use Rattle.commute_table.specs.declared.op.Verb.{Verb}
use Rattle.commute_table.specs.declared.op.Verb.TheVariants.{Add, Take, Look, Put, Hold, Free}
use Rattle.resource_box.specs.Table.{bars, kind_of, takes}
use Rattle.value_conflict.specs.ValueConflict.{commute}
use Rattle.value_rules.specs.Ledgers.{Deeds, Ledger, after, after_all, is_sum, left_by, met, same_place}
use Rattle.value_rules.specs.Laws.{AreSound}
use Rattle.value_rules.proofs.Steps.{Alike, InRange, alike-after, commute-is, flip_both, with-else, with-here}
use Rattle.value_rules.proofs.Chains.{Covers}
use Rattle.value_rules.proofs.Takes.{bars-add, bars-look, free_take, take_free, take_made, takes-swap}

module _ (deeds : Deeds) where
  -- the step of an entry is barred after a ledger; an undo never is
  abbrev pub is_barred_at : Ledger → Entry → Bool
  is_barred_at l e = not e.undo && bars (kind_of (deeds e).subsystem) (deeds e).call (met deeds l e)

  -- none of these is, one after another
  abbrev pub NoneBarred : Ledger → List Entry → Type 0
  NoneBarred l [] = Unit {0}
  NoneBarred l (e ∷ es) = (is_barred_at l e ≡ false) × NoneBarred (after deeds l e) es

  pub none-append : (l : Ledger) (xs ys : List Entry) → NoneBarred l xs → NoneBarred (after_all deeds l xs) ys → NoneBarred l (xs ++ ys)
  none-append l [] ys one two = two
  none-append l (x ∷ xs) ys one two = (one.0, none-append (after deeds l x) xs ys one.1 two)

  pub none-parts : (l : Ledger) (xs ys : List Entry) → NoneBarred l (xs ++ ys) → NoneBarred l xs × NoneBarred (after_all deeds l xs) ys
  none-parts l [] ys none = (tt, none)
  none-parts l (x ∷ xs) ys none = let more = none-parts (after deeds l x) xs ys none.1 in ((none.0, more.0), more.1)

  -- of each place
  pub none-at : (l : Ledger) (front : List Entry) (e : Entry) (rest : List Entry) → NoneBarred l (front ++ e ∷ rest) → is_barred_at (after_all deeds l front) e ≡ false
  none-at l front e rest none = (none-parts l front (e ∷ rest) none).1.0

  pub none-from_places : (l : Ledger) (es : List Entry) → ((front : List Entry) (e : Entry) (rest : List Entry) → es ≡ front ++ e ∷ rest → is_barred_at (after_all deeds l front) e ≡ false) → NoneBarred l es
  none-from_places l [] all = tt
  none-from_places l (e ∷ es) all = (all [] e es refl, none-from_places (after deeds l e) es (λ front f rest is. all (e ∷ front) f rest (ap (λ fs. e ∷ fs) is)))

module _ (table : ConflictRelation) (deeds : Deeds) (sums : ℕ → ℕ → Bool) (known : Entry → Bool) (sound : AreSound table deeds sums known) where
  -- ledgers with the same values bar the same
  pub none-alike : (skip : ℕ → ℕ → Bool) (l m : Ledger) (es : List Entry) → Covers table deeds sums known sound skip es → Alike skip l m → NoneBarred deeds l es → NoneBarred deeds m es
  none-alike skip l m [] covers same none = tt
  none-alike skip l m (e ∷ es) covers same none = (
    ap (λ v. not e.undo && bars (kind_of (deeds e).subsystem) (deeds e).call v) (sym (same.value (deeds e).subsystem (deeds e).call.key)) ∙ none.0,
    none-alike skip (after deeds l e) (after deeds m e) es (λ before rest f is. covers (e ∷ before) rest f (ap (λ fs. e ∷ fs) is))
        (alike-after deeds skip l m e (covers [] es e refl) same) none.1,
  )

  -- Two steps that may change places.
  module _ (l : Ledger) (range : InRange l) (a b : Entry) (a_step : a.undo ≡ false) (b_step : b.undo ≡ false)
      (a_low : (deeds a).call.verb ≡ Take → int_lt (deeds a).call.amount (pos 0) ≡ false)
      (b_low : (deeds b).call.verb ≡ Take → int_lt (deeds b).call.amount (pos 0) ≡ false)
      (a_free : is_barred_at deeds l a ≡ false) (b_free : is_barred_at deeds (after deeds l a) b ≡ false) where
    abbrev qa : ℕ
    qa = (deeds a).subsystem

    abbrev qb : ℕ
    qb = (deeds b).subsystem

    abbrev ka : ℕ
    ka = (deeds a).call.key

    abbrev kb : ℕ
    kb = (deeds b).call.key

    abbrev BothFree : Type 0
    BothFree = (is_barred_at deeds l b ≡ false) × (is_barred_at deeds (after deeds l b) a ≡ false)

    a_bars : bars (kind_of qa) (deeds a).call (met deeds l a) ≡ false
    a_bars = sym (ap (λ u. not u && bars (kind_of qa) (deeds a).call (met deeds l a)) a_step) ∙ a_free

    b_bars : bars (kind_of qb) (deeds b).call (met deeds (after deeds l a) b) ≡ false
    b_bars = sym (ap (λ u. not u && bars (kind_of qb) (deeds b).call (met deeds (after deeds l a) b)) b_step) ∙ b_free

    made : bars (kind_of qb) (deeds b).call (met deeds l b) ≡ false → bars (kind_of qa) (deeds a).call (met deeds (after deeds l b) a) ≡ false → BothFree
    made one two = (
      ap (λ u. not u && bars (kind_of qb) (deeds b).call (met deeds l b)) b_step ∙ one,
      ap (λ u. not u && bars (kind_of qa) (deeds a).call (met deeds (after deeds l b) a)) a_step ∙ two,
    )

    -- at different places each meets what it met
    places-apart : same_place deeds a b ≡ false → BothFree
    places-apart places =
        made
        (ap (bars (kind_of qb) (deeds b).call) (sym (with-else l.value qa ka (left_by deeds l a) qb kb (flip_both qa qb ka kb places))) ∙ b_bars)
        (ap (bars (kind_of qa) (deeds a).call) (with-else l.value qb kb (left_by deeds l b) qa ka places) ∙ a_bars)

    -- looks and adds are barred at any value or at none
    value-free : ((v w : ℤ) → bars (kind_of qa) (deeds a).call v ≡ bars (kind_of qa) (deeds a).call w)
        → ((v w : ℤ) → bars (kind_of qb) (deeds b).call v ≡ bars (kind_of qb) (deeds b).call w) → BothFree
    value-free a_any b_any =
        made (b_any (met deeds l b) (met deeds (after deeds l a) b) ∙ b_bars) (a_any (met deeds (after deeds l b) a) (met deeds l a) ∙ a_bars)

    -- takes at one place
    both-take : same_place deeds a b ≡ true → (deeds a).call.verb ≡ Take → (deeds b).call.verb ≡ Take → BothFree
    both-take places a_take b_take =
        made
        (free_take (kind_of qb) (deeds b).call (met deeds l b) b_take b_kind.0 (ap (λ v. int_lt v (deeds b).call.amount) same_v ∙ swapped.0))
        (free_take (kind_of qa) (deeds a).call (met deeds (after deeds l b) a) a_take a_kind.0 (ap (λ v. int_lt v (deeds a).call.amount) a_meets ∙ swapped.1))
      where
        same_q : qa ≡ qb
        same_q = eqb-true qa qb (and_parts (eqb qa qb) (eqb ka kb) places).0

        same_k : ka ≡ kb
        same_k = eqb-true ka kb (and_parts (eqb qa qb) (eqb ka kb) places).1

        same_v : met deeds l b ≡ met deeds l a
        same_v = ap (λ x. l.value x kb) (sym same_q) ∙ ap (l.value qa) (sym same_k)

        a_kind : (takes (kind_of qa) Take ≡ true) × (int_lt (met deeds l a) (deeds a).call.amount ≡ false)
        a_kind = take_free (kind_of qa) (deeds a).call (met deeds l a) a_take a_bars

        b_kind : (takes (kind_of qb) Take ≡ true) × (int_lt (met deeds (after deeds l a) b) (deeds b).call.amount ≡ false)
        b_kind = take_free (kind_of qb) (deeds b).call (met deeds (after deeds l a) b) b_take b_bars

        -- what the second meets, in each order
        b_meets : met deeds (after deeds l a) b ≡ int_wrapping_sub w64 (met deeds l a) (deeds a).call.amount
        b_meets =
            with-here l.value qa ka (left_by deeds l a) qb kb (sym same_q) (sym same_k)
            ∙ take_made (kind_of qa) (deeds a).call a.undo (met deeds l a) (l.found a.process a.step) a_take a_step a_kind.0

        a_meets : met deeds (after deeds l b) a ≡ int_wrapping_sub w64 (met deeds l a) (deeds b).call.amount
        a_meets =
            with-here l.value qb kb (left_by deeds l b) qa ka same_q same_k
            ∙ (take_made (kind_of qb) (deeds b).call b.undo (met deeds l b) (l.found b.process b.step) b_take b_step b_kind.0
            ∙ ap (λ v. int_wrapping_sub w64 v (deeds b).call.amount) same_v)

        swapped : (int_lt (met deeds l a) (deeds b).call.amount ≡ false) × (int_lt (int_wrapping_sub w64 (met deeds l a) (deeds b).call.amount) (deeds a).call.amount ≡ false)
        swapped =
            takes-swap (met deeds l a) (deeds a).call.amount (deeds b).call.amount (range qa ka) (sound.fits a) (sound.fits b) (a_low a_take) (b_low b_take)
            a_kind.1 (ap (λ v. int_lt v (deeds b).call.amount) (sym b_meets) ∙ b_kind.1)

    by_verb : same_place deeds a b ≡ true → (verb : Verb) → is_sum verb ≡ true → ((deeds a).call.verb ≡ verb) × ((deeds b).call.verb ≡ verb) → BothFree
    by_verb places Add sum is = value-free (λ v w. bars-add (kind_of qa) (deeds a).call v w is.0) (λ v w. bars-add (kind_of qb) (deeds b).call v w is.1)
    by_verb places Take sum is = both-take places is.0 is.1
    by_verb places Look sum is = absurd (false≢true sum)
    by_verb places Put sum is = absurd (false≢true sum)
    by_verb places Hold sum is = absurd (false≢true sum)
    by_verb places Free sum is = absurd (false≢true sum)

    pub swap-free : known a ≡ true → known b ≡ true → can_change table a b ≡ true → BothFree
    swap-free a_known b_known can = by_place (same_place deeds a b) refl (sound.apart a b a_known b_known can)
      where
        by_place : (t : Bool) → same_place deeds a b ≡ t → (same_place deeds a b ≡ false) ⊎ (commute (deeds a).call.verb (deeds b).call.verb ≡ true) → BothFree
        by_place t is (inl places) = places-apart places
        by_place false is (inr both) = places-apart is
        by_place true is (inr both) =
            ⊎_elim
            (λ looks. value-free (λ v w. bars-look (kind_of qa) (deeds a).call v w looks.0) (λ v w. bars-look (kind_of qb) (deeds b).call v w looks.1))
            (λ summing. by_verb is summing.0 summing.1 summing.2)
            (commute-is (deeds a).call.verb (deeds b).call.verb both)
