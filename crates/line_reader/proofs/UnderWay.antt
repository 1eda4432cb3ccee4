-- A line that is being taken.
use Rattle.std.proofs.Common.{◌≡◌, ◌⊎◌, arith, inl, inr, ℕ, ◌+◌, ◌-◌, ◌≤◌, List, [], ◌∷◌, ◌++◌, length, length-append, take, Bool, true, false, Option, Some, None, sym, ap, ◌∙◌, refl, subst, append_assoc, append-nil}
use Rattle.std.specs.Io.KnownBytes.{Consumes}
use Rattle.std.proofs.KnownBytes.{Consumes-trans}
use Rattle.trace_verify.specs.Lines.{cut}
use Rattle.line_reader.specs.Taking.{IsFrontTaken, IsFirstOf, IsEndOf, IsReadAsNeeded, IsTaken, most_ahead}
use Rattle.line_reader.specs.declared.taken.Taken.{Taken}
use Rattle.line_reader.proofs.Cuts.{cut-behind, cut-nowhere, cut-whole}
use Rattle.line_reader.proofs.Fronts.{take_more}

-- Of the bytes that stood ready and those that the source gave since, a front without a line feed was taken, and of it as much is kept as may be.
pub record IsUnderWay (most : ℕ) (ready left : List ℕ) (before now : Option (List ℕ)) (line : List ℕ) : Type 0 where
  pub given : List ℕ
  pub front : List ℕ
  pub gave : Consumes before now given
  pub whole : ready ++ given ≡ front ++ left
  pub none : cut 10 front ≡ None
  pub kept : line ≡ take (most + 1) front
  pub needed : IsReadAsNeeded ready given

-- all that came before the source is asked again has no line feed
none_so_far : (ready given front left : List ℕ) → ready ++ given ≡ front ++ left → cut 10 front ≡ None → cut 10 left ≡ None → cut 10 (ready ++ given) ≡ None
none_so_far ready given front left whole none behind = ap (cut 10) whole ∙ cut-nowhere 10 front left none behind

-- what is kept of more bytes
kept_more : (most : ℕ) (front more line longer : List ℕ) → line ≡ take (most + 1) front → longer ≡ line ++ take (most + 1 - length line) more → longer ≡ take (most + 1) (front ++ more)
kept_more most front more line longer kept is =
    is ∙ (ap (λ l. l ++ take (most + 1 - length l) more) kept ∙ take_more (most + 1) front more)

-- where no line feed stands in what is ready, the next bytes of the source come behind it
pub goes_on : (most : ℕ) (ready left next : List ℕ) (before now later : Option (List ℕ)) (line longer none_left : List ℕ) (has_line : Bool) → has_line ≡ false
    → IsUnderWay most ready left before now line → IsFrontTaken most left none_left line longer has_line → Consumes now later next → length next ≤ most_ahead → IsUnderWay most ready next before later longer
goes_on most ready left next before now later line longer none_left true is w f more few = absurd (cc)
goes_on most ready left next before now later line longer none_left false is w f more few = record {
  given = w.given ++ next;
  front = w.front ++ left;
  gave = Consumes-trans before now later w.given next w.gave more;
  whole = sym (append_assoc ready w.given next) ∙ ap (λ bytes. bytes ++ next) w.whole;
  none = cut-nowhere 10 w.front left w.none f.0;
  kept = kept_more most w.front left line longer w.kept f.2;
  needed = inr (w.given, next, refl, none_so_far ready w.given w.front left w.whole w.none f.0, few);
}

-- where one stands there, the line ends
pub line_ends : (most : ℕ) (ready left behind : List ℕ) (before now : Option (List ℕ)) (line longer : List ℕ) (has_line : Bool) (taken : Taken) → has_line ≡ true
    → IsUnderWay most ready left before now line → IsFrontTaken most left behind line longer has_line
    → ((bytes left whole : List ℕ) → cut 10 bytes ≡ Some (whole, left) → longer ≡ take (most + 1) whole → IsFirstOf most bytes left taken) → IsEndOf now taken
    → IsTaken most ready behind before now taken
line_ends most ready left behind before now line longer false taken is w f first end = absurd (cc)
line_ends most ready left behind before now line longer true taken is w f first end =
    (w.given, w.gave, first (ready ++ w.given) behind (w.front ++ f.0) (ap (cut 10) w.whole ∙ cut-behind 10 w.front left f.0 behind w.none f.1) (kept_more most w.front f.0 line longer w.kept f.2), end, w.needed)

-- and where the source has no more bytes, all was taken
pub all_taken : (most : ℕ) (ready left : List ℕ) (before now : Option (List ℕ)) (line : List ℕ) (taken : Taken) → left ≡ []
    → IsUnderWay most ready left before now line
    → ((bytes : List ℕ) → cut 10 bytes ≡ None → line ≡ take (most + 1) bytes → IsFirstOf most bytes [] taken) → IsEndOf now taken
    → IsTaken most ready left before now taken
all_taken most ready left before now line taken is w first end =
    let all : ready ++ w.given ≡ w.front = w.whole ∙ (ap (λ bs. w.front ++ bs) is ∙ append-nil w.front) in
    let whole : IsFirstOf most (ready ++ w.given) [] taken = first (ready ++ w.given) (ap (cut 10) all ∙ w.none) (w.kept ∙ ap (take (most + 1)) (sym all)) in
    (w.given, w.gave, subst (λ bs. IsFirstOf most (ready ++ w.given) bs taken) (sym is) whole, end, w.needed)

-- where the source was called, no line stood ready
pub none_ready : {X : Type 0} (most : ℕ) (ready left behind line longer : List ℕ) (has_line : Bool) → has_line ≡ false → (cut 10 ready ≡ None) ⊎ ((left ≡ ready) × X)
    → IsFrontTaken most left behind line longer has_line → cut 10 ready ≡ None
none_ready most ready left behind line longer true is called f = absurd (cc)
none_ready most ready left behind line longer false is (inl none) f = none
none_ready most ready left behind line longer false is (inr same) f = ap (cut 10) (sym same.0) ∙ f.0

-- where none stands there and no more bytes come, none stands in all that came
pub none_there : (most : ℕ) (ready left behind more : List ℕ) (before now : Option (List ℕ)) (line longer : List ℕ) (has_line : Bool) → has_line ≡ false
    → (w : IsUnderWay most ready left before now line) → IsFrontTaken most left behind line longer has_line → more ≡ [] → cut 10 (ready ++ (w.given ++ more)) ≡ None
none_there most ready left behind more before now line longer true is w f none = absurd (cc)
none_there most ready left behind more before now line longer false is w f none =
    ap (λ bs. cut 10 (ready ++ (w.given ++ bs))) none ∙ (ap (λ bs. cut 10 (ready ++ bs)) (append-nil w.given) ∙ (ap (cut 10) w.whole ∙ cut-nowhere 10 w.front left w.none f.0))

-- and none stands in all that came before that call
pub none_now : (most : ℕ) (ready left behind : List ℕ) (before now : Option (List ℕ)) (line longer : List ℕ) (has_line : Bool) → has_line ≡ false → (w : IsUnderWay most ready left before now line)
    → IsFrontTaken most left behind line longer has_line → cut 10 (ready ++ w.given) ≡ None
none_now most ready left behind before now line longer true is w f = absurd (cc)
none_now most ready left behind before now line longer false is w f = none_so_far ready w.given w.front left w.whole w.none f.0

-- what is left behind a front is no more than stood there
pub left_is_less : (most : ℕ) (ready left line longer : List ℕ) (has_line : Bool) → IsFrontTaken most ready left line longer has_line → length left ≤ length ready
left_is_less most ready left line longer true f =
    let whole = ap length (cut-whole 10 ready f.0 left f.1) in
    omega (arith, whole, length-append f.0 (10 ∷ left))
left_is_less most ready left line longer false f = let none = ap length f.1 in omega (arith, none)
