-- What is wrong first with the steps of a process is the first fault of it.
use Rattle.process_tree.proofs.Reached.{asks_there, has_once, nonempty}
use Rattle.std.proofs.Common.{◌≡◌, ⊎_elim, ℕ, ◌+◌, ◌*◌, ◌≤◌, ◌&&◌, Bool, true, false, List, [], ◌∷◌, length, Option, Some, None, refl, sym, ap, ◌∙◌, arith, nat_lt, if◌then◌else◌}
use Rattle.std.proofs.lemmas.Bool.{cases_lt, ltb-true, lt-ltb, ne_eqb}
use Rattle.process_tree.specs.declared.play.Outcome.TheVariants.{Refused}
use Rattle.process_tree.specs.declared.play.Played.TheVariants.{Nothing, Stuck}
use Rattle.process_tree.specs.Shape.{Shape, kind_of, can_be_refused, next_steps, goes_on_to, greatest, fixed_len, branch_to}
use Rattle.process_tree.specs.Play.{ended, go_on, go_back, answered, end_of, play, arrive, fallback_of}
use Rattle.process_tree.specs.Termination.{once, ways_before, is_later_way, IsFallenTo, IsWellFormed, outcomes_to, Fault, stuck_at, unreachable_at, IsFault, IsFirstFault, rank}
use Rattle.process_tree.proofs.Onward.{branch_from}
use Rattle.well_formed.specs.declared.flaw.Flaw.TheVariants.{CutOff, DeadEnd}
use Rattle.well_formed.specs.Flaws.{IsOrderly, is_cut_off, is_dead_end, is_nowhere, is_way_sure, flaw_at, IsSound, IsOn, IsSoundBelow}
use Rattle.well_formed.proofs.Below.{below, has_below, greatest_is, greatest_none}
use Rattle.well_formed.proofs.Standing.{on_branch, stuck_is_dead_end}
use Rattle.well_formed.proofs.Falls.{falls_to}
use Rattle.well_formed.proofs.Reach.{NoneCutOff, nearest, way_open, opened, reaches, stand_append}
use Rattle.well_formed.proofs.CutOffs.{never_fallen_to}

pub both_true : (a b : Bool) → (a && b) ≡ true → (a ≡ true) × (b ≡ true)
both_true true b is = (refl, is)
both_true false b is = absurd (cc)

-- a sound step is neither cut off nor a dead end
flaw_by : (cut dead : Bool) → (if cut then Some CutOff else (if dead then Some DeadEnd else None)) ≡ None → (cut ≡ false) × (dead ≡ false)
flaw_by true dead is = absurd (cc)
flaw_by false true is = absurd (cc)
flaw_by false false is = (refl, refl)

pub sound_is : (t : Shape) (b : ℕ) → IsSound t b → (is_cut_off t b ≡ false) × (is_dead_end t b ≡ false)
sound_is t b sound = flaw_by (is_cut_off t b) (is_dead_end t b) sound

dead_by : (cut dead : Bool) → (if cut then Some CutOff else (if dead then Some DeadEnd else None)) ≡ Some DeadEnd → (cut ≡ false) × (dead ≡ true)
dead_by true dead is = absurd (cc)
dead_by false true is = (refl, refl)
dead_by false false is = absurd (cc)

cut_by : (cut dead : Bool) → (if cut then Some CutOff else (if dead then Some DeadEnd else None)) ≡ Some CutOff → cut ≡ true
cut_by true dead is = refl
cut_by false true is = absurd (cc)
cut_by false false is = absurd (cc)

none_below : (t : Shape) (n : ℕ) → IsSoundBelow t n → NoneCutOff t n
none_below t n sound y lt on = (sound_is t y (sound y lt on)).0

-- none up to b, if b itself isn't
none_to : (t : Shape) (b : ℕ) → IsSoundBelow t b → is_cut_off t b ≡ false → NoneCutOff t (b + 1)
none_to t b sound whole y lt on =
    ⊎_elim
    (λ less. (sound_is t y (sound y less on)).0)
    (λ le. let same : b ≡ y = omega arith in sym (ap (is_cut_off t) same) ∙ whole)
    (cases_lt y b)

-- play falls back to each way that isn't cut off
pub fallen_to : (t : Shape) (d : ℕ) → IsOrderly t → is_later_way t d ≡ true → NoneCutOff t (d + 1) → IsFallenTo t d
fallen_to t d o later whole = by_before (greatest (below d (next_steps t v))) refl
  where
    v : List ℕ
    v = branch_to t d

    is : (goes_on_to t v d ≡ true) × (nat_lt 0 (length (ways_before t d)) ≡ true)
    is = both_true (goes_on_to t v d) (nat_lt 0 (length (ways_before t d))) later

    by_before : (g : Option ℕ) → greatest (below d (next_steps t v)) ≡ g → IsFallenTo t d
    by_before None none =
        let empty = ap (λ l. nat_lt 0 (length (once l))) (greatest_none (below d (next_steps t v)) none) in
        absurd (let f = sym is.1 ∙ empty in cc)
    by_before (Some e) before =
        let under = has_below d e (next_steps t v) (greatest_is (below d (next_steps t v)) e before).0 in
        let unsure = opened d t v e d o under.0 (nearest t v e d o is.0 before) (way_open t v e d o is.0 before (whole d (omega arith) is.0)) (omega arith) in
        let up = (falls_to t unsure.before unsure.step d unsure.falls).up in
        let r = reaches t unsure.step o (on_branch t unsure.before unsure.step o unsure.on) (λ y lt. whole y (omega arith)) in (
          r.0,
          unsure.before,
          unsure.step,
          r.2
              ∙ ap (λ w. arrive t w unsure.step) (branch_from t unsure.before unsure.step o.in_order o.rising unsure.on)
              ∙ asks_there t unsure.before unsure.step unsure.may,
          unsure.falls,
        )

-- there is no way on
nowhere : (o : Option ℕ) → is_nowhere o ≡ true → o ≡ None
nowhere None is = refl
nowhere (Some d) is = absurd (cc)

-- play gets stuck at each dead end that it reaches
pub dead_end_is_stuck : (t : Shape) (b : ℕ) → IsOrderly t → IsOn t b → is_dead_end t b ≡ true → NoneCutOff t (b + 1) → play t (outcomes_to t b) ≡ Stuck b
dead_end_is_stuck t b o on dead whole =
    let w = branch_to t b in
    let r = reaches t b o on whole in
    let parts = both_true (can_be_refused (kind_of t b) && nat_lt 0 (fixed_len t w)) (is_nowhere (fallback_of t w b)) dead in
    let rest = both_true (can_be_refused (kind_of t b)) (nat_lt 0 (fixed_len t w)) parts.0 in
    let some = ltb-true 0 (fixed_len t w) rest.1 in
    ap (play t) r.1
    ∙ ap end_of (stand_append t (go_on t []) r.0 (Refused ∷ []))
    ∙ ap (λ s. end_of (answered t s Refused)) (r.2 ∙ asks_there t w b rest.0)
    ∙ ap (λ n. end_of (go_back t w b n)) (nowhere (fallback_of t w b) parts.1)
    ∙ ap (λ c. end_of (ended (if c then Nothing else Stuck b))) (ne_eqb (fixed_len t w) 0 (λ e. omega arith))

-- where each step is sound, the process is well-formed
pub all_sound : (t : Shape) → IsOrderly t → ((b : ℕ) → IsOn t b → IsSound t b) → IsWellFormed t
all_sound t o sound = record {
  never_stuck = λ os b is.
      let dead = stuck_is_dead_end t os b o is in
      let alive = (sound_is t b (sound b dead.0)).1 in
      let no : true ≡ false = sym dead.1 ∙ alive in
      cc;
  reached = λ d later. fallen_to t d o later (λ y lt on. (sound_is t y (sound y on)).0);
}

-- another fault isn't at a sound step
not_at_sound : (t : Shape) (n : ℕ) (other : Fault) → IsOrderly t → IsSoundBelow t n → IsFault t other → 2 * n ≤ rank other
not_at_sound t n (unreachable_at d) o sound is =
    ⊎_elim
    (λ lt. absurd (is.1 (fallen_to t d o is.0 (λ y less on. (sound_is t y (sound y (omega arith) on)).0))))
    (λ le. omega arith)
    (cases_lt d n)
not_at_sound t n (stuck_at c os) o sound is =
    let dead = stuck_is_dead_end t os c o is.1 in
    ⊎_elim
    (λ lt. let alive = (sound_is t c (sound c lt dead.0)).1 in let no : true ≡ false = sym dead.1 ∙ alive in absurd (cc))
    (λ le. omega arith)
    (cases_lt c n)

-- the first step that is cut off is the first fault
pub first_cut_off : (t : Shape) (d : ℕ) → IsOrderly t → IsOn t d → flaw_at t d ≡ Some CutOff → IsSoundBelow t d → IsFirstFault t (unreachable_at d)
first_cut_off t d o on is sound = record {
  is = (later, never_fallen_to t d o cut);
  first = λ other fault. not_at_sound t d other o sound fault;
}
  where
    cut : is_cut_off t d ≡ true
    cut = cut_by (is_cut_off t d) (is_dead_end t d) is

    v : List ℕ
    v = branch_to t d

    some_before : (g : Option ℕ) → greatest (below d (next_steps t v)) ≡ g → is_way_sure t v g ≡ true → nat_lt 0 (length (ways_before t d)) ≡ true
    some_before None is sure = absurd (cc)
    some_before (Some e) is sure =
        lt-ltb 0 (length (ways_before t d)) (nonempty e (ways_before t d) (has_once e (below d (next_steps t v)) (greatest_is (below d (next_steps t v)) e is).0))

    later : is_later_way t d ≡ true
    later = ap (λ b. b && nat_lt 0 (length (ways_before t d))) on ∙ some_before (greatest (below d (next_steps t v))) refl cut

-- the first dead end is the first fault, if nothing before it and not itself is cut off
pub first_dead_end : (t : Shape) (b : ℕ) → IsOrderly t → IsOn t b → flaw_at t b ≡ Some DeadEnd → IsSoundBelow t b → IsFirstFault t (stuck_at b (outcomes_to t b))
first_dead_end t b o on is sound =
    let parts = dead_by (is_cut_off t b) (is_dead_end t b) is in
    let whole = none_to t b sound parts.0 in
    record {
      is = (refl, dead_end_is_stuck t b o on parts.1 whole);
      first = λ other fault. past t b other o whole sound fault;
    }
  where
    past : (t : Shape) (b : ℕ) (other : Fault) → IsOrderly t → NoneCutOff t (b + 1) → IsSoundBelow t b → IsFault t other → 2 * b + 1 ≤ rank other
    past t b (unreachable_at d) o whole sound is =
        ⊎_elim
        (λ lt. absurd (is.1 (fallen_to t d o is.0 (λ y less on. whole y (omega arith) on))))
        (λ le. omega arith)
        (cases_lt d (b + 1))
    past t b (stuck_at c os) o whole sound is = let le = not_at_sound t b (stuck_at c os) o sound is in omega arith
