-- What a core keeps and answers where any piece is asked for.
use Rattle.std.proofs.Common.{◌≡◌, ℕ, Bool, true, false, eqb, List, [], ◌∷◌, ◌++◌, find, length, map, Option, Some, None, is_none, is_some, not, sym, refl, ap, ◌∙◌, append_assoc, append-nil, if◌then◌else◌, nat_lt, arith}
use Rattle.std.specs.Option.{option_map}
use Rattle.std.proofs.lemmas.Bool.{and_parts, false≢true, le-leb, ne_eqb}
use Rattle.process_tree.specs.Conflicts.{Table}
use Rattle.schedule_model.specs.Course.{Course}
use Rattle.schedule_model.specs.Histories.{active}
use Rattle.machine_model.specs.declared.kept.Kept.{Kept}
use Rattle.machine_model.specs.Advance.{advance_all}
use Rattle.machine_model.specs.Calls.{next, next_is, next_kept, next_served}
use Rattle.machine_model.specs.Moment.{Moment, opening_moment}
use Rattle.machine_model.specs.Replies.{Handed, Next, all_victims, chosen, hand_to, kept_hand, next_reply, none_free_by_active, none_free_by_running, none_free_reply, piece_of_free, rotation}
use Rattle.machine_model.specs.Runs.{goes_on_from, may_be_kept}
use Rattle.machine_model.specs.State.{is_free}
use Rattle.machine_model.proofs.CallsKept.{next-kept}
use Rattle.machine_model.proofs.Snoc.{advance_all-append}
use Rattle.hold_tables.specs.Reading.{least_from, lesser_number, next_open}
use Rattle.hold_tables.specs.Tables.{OpenProcess, Tables}
use Rattle.process_core.specs.Answers.{after_call, answer_in}
use Rattle.core_state.specs.Cores.{CoreState, courses_in, moment_of, relation}
use Rattle.process_core.specs.Handing.{with_kept, with_served}
use Rattle.core_state.specs.OpenTables.{row_of, tables_of}
use Rattle.process_core.proofs.VictimsKept.{with_victims}

-- none is open exactly where none is active
none_open : (conflicts : Table) (courses : List Course) (m : Moment) → is_none (next_open (tables_of conflicts courses m) 0) ≡ eqb (length (active m.events)) 0
none_open conflicts courses m = by_active (active m.events)
  where
    lesser_is : (n : ℕ) (o : Option ℕ) → is_none (lesser_number n o) ≡ false
    lesser_is n None = refl
    lesser_is n (Some k) = by_test (nat_lt k n)
      where
        by_test : (t : Bool) → is_none (if t then Some k else Some n) ≡ false
        by_test true = refl
        by_test false = refl

    by_active : (is : List ℕ) → is_none (least_from 0 (map (λ (r : OpenProcess). r.process) (map (row_of courses m) is))) ≡ eqb (length is) 0
    by_active [] = refl
    by_active (i ∷ is) = ap (λ t. is_none (if t then lesser_number i (least_from 0 (map (λ (r : OpenProcess). r.process) (map (row_of courses m) is))) else least_from 0 (map (λ (r : OpenProcess). r.process) (map (row_of courses m) is)))) (le-leb 0 i (omega arith))
        ∙ (lesser_is i (least_from 0 (map (λ (r : OpenProcess). r.process) (map (row_of courses m) is))) ∙ sym (ne_eqb (length (i ∷ is)) 0 (λ same. omega arith)))

-- by the tables of a core
pub none_active : (v : CoreState) (ts : Tables) → ts ≡ tables_of v.conflicts (courses_in v) (moment_of v) → (o : Option ℕ) → o ≡ next_open ts 0 → (b : Bool) → is_some o ≡ not b → eqb (length (active (moment_of v).events)) 0 ≡ b
none_active v ts are o is b told = sym (by_first o b told ∙ (ap is_none is ∙ (ap (λ t. is_none (next_open t 0)) are ∙ none_open v.conflicts (courses_in v) (moment_of v))))
  where
    by_first : (o : Option ℕ) (b : Bool) → is_some o ≡ not b → b ≡ is_none o
    by_first None true at = refl
    by_first None false at = absurd (false≢true at)
    by_first (Some i) true at = absurd (false≢true (sym at))
    by_first (Some i) false at = refl

-- a piece is handed out, or none is free
given : (courses : List Course) (m : Moment) (otherwise : Next) (o : Option ℕ) (d : Handed) → Some d ≡ option_map (hand_to courses m) o → piece_of_free courses m otherwise o ≡ chosen d
given courses m otherwise None d is = absurd (cc)
given courses m otherwise (Some i) d is = cc

none_given : (courses : List Course) (m : Moment) (otherwise : Next) (o : Option ℕ) → None ≡ option_map (hand_to courses m) o → piece_of_free courses m otherwise o ≡ otherwise
none_given courses m otherwise None is = refl
none_given courses m otherwise (Some i) is = absurd (cc)

-- where none is free nothing is kept, and nobody is served
kept_none : (v : CoreState) (m : Moment) (served : ℕ) → next_kept (none_free_reply (relation v) (courses_in v) m served) ≡ []
kept_none v m served = by_both (eqb (length (active m.events)) 0) (eqb (length m.out) 0) refl
  where
    by_both : (a b : Bool) → eqb (length m.out) 0 ≡ b → next_kept (none_free_by_active (relation v) (courses_in v) m served a) ≡ []
    by_both true b is = refl
    by_both false true is = ap (λ b. next_kept (none_free_by_running (relation v) (courses_in v) m served b)) is
    by_both false false is = ap (λ b. next_kept (none_free_by_running (relation v) (courses_in v) m served b)) is

served_none : (v : CoreState) (m : Moment) (served : ℕ) → next_served served (none_free_reply (relation v) (courses_in v) m served) ≡ served
served_none v m served = by_both (eqb (length (active m.events)) 0) (eqb (length m.out) 0) refl
  where
    by_both : (a b : Bool) → eqb (length m.out) 0 ≡ b → next_served served (none_free_by_active (relation v) (courses_in v) m served a) ≡ served
    by_both true b is = refl
    by_both false true is = ap (λ b. next_served served (none_free_by_running (relation v) (courses_in v) m served b)) is
    by_both false false is = ap (λ b. next_served served (none_free_by_running (relation v) (courses_in v) m served b)) is

-- a piece that is handed out may be
pub may_next : (w : CoreState) (d : Handed) → Some d ≡ option_map (hand_to (courses_in w) (moment_of w)) (find (is_free (relation w) (courses_in w) (moment_of w)) (rotation (moment_of w) w.served))
    → may_be_kept (relation w) (courses_in w) (moment_of w) (kept_hand d) ≡ true
may_next w d is =
    let m = moment_of w in
    (and_parts (may_be_kept (relation w) (courses_in w) m (kept_hand d)) true
    (sym (ap (λ r. goes_on_from (relation w) (courses_in w) m (next_kept r)) (given (courses_in w) m (none_free_reply (relation w) (courses_in w) m w.served) (find (is_free (relation w) (courses_in w) m) (rotation m w.served)) d is))
    ∙ next-kept (relation w) (courses_in w) m w.served)).0

module _ (v : CoreState) where
  abbrev vs : List Kept
  vs = all_victims (relation v) (courses_in v) (moment_of v)

  -- the moment once the victims are made
  abbrev n : Moment
  n = moment_of (with_victims v)

  now_then : moment_of (with_victims v) ≡ advance_all (relation v) (courses_in v) (moment_of v) (all_victims (relation v) (courses_in v) (moment_of v))
  now_then = advance_all-append (relation v) (courses_in v) (opening_moment v.opening) v.kept vs

  -- the core after this reply
  abbrev after : Next → CoreState
  after r = record { conflicts = v.conflicts; plans = v.plans; opening = v.opening; kept = v.kept ++ (vs ++ next_kept r); served = next_served v.served r }

  reply_is : (answer_in v next).reply ≡ next_is (next_reply (relation v) (courses_in v) (moment_of (with_victims v)) v.served)
  reply_is = ap (λ k. next_is (next_reply (relation v) (courses_in v) k v.served)) (sym now_then)

  after_is : after_call v next ≡ after (next_reply (relation v) (courses_in v) (moment_of (with_victims v)) v.served)
  after_is = ap (λ k. after (next_reply (relation v) (courses_in v) k v.served)) (sym now_then)

  abbrev found : Option ℕ
  found = find (is_free (relation v) (courses_in v) n) (rotation n v.served)

  abbrev none_free : Next
  none_free = none_free_reply (relation v) (courses_in v) n v.served

  module _ (w : CoreState) (is : w ≡ with_victims v) where
    abbrev found_in : CoreState → Option Handed
    found_in x = option_map (hand_to (courses_in x) (moment_of x)) (find (is_free (relation x) (courses_in x) (moment_of x)) (rotation (moment_of x) x.served))

    -- the core and the answer with a piece
    pub next_given : (d : Handed) → Some d ≡ option_map (hand_to (courses_in w) (moment_of w)) (find (is_free (relation w) (courses_in w) (moment_of w)) (rotation (moment_of w) w.served))
        → (with_served (with_kept w (kept_hand d)) d.piece.process ≡ after_call v next) × (next_is (chosen d) ≡ (answer_in v next).reply)
    next_given d first =
        let reply = given (courses_in v) n none_free found d (first ∙ ap found_in is) in (
          ap (λ x. with_served (with_kept x (kept_hand d)) d.piece.process) is
              ∙ (ap (λ ks. record { conflicts = v.conflicts; plans = v.plans; opening = v.opening; kept = ks; served = d.piece.process }) (append_assoc v.kept vs (kept_hand d ∷ []))
              ∙ sym (after_is ∙ ap after reply)),
          sym (reply_is ∙ ap next_is reply),
        )

    -- and where none is free
    pub next_none : None ≡ option_map (hand_to (courses_in w) (moment_of w)) (find (is_free (relation w) (courses_in w) (moment_of w)) (rotation (moment_of w) w.served))
        → (r : Next) → r ≡ none_free_reply (relation w) (courses_in w) (moment_of w) w.served → (w ≡ after_call v next) × (next_is r ≡ (answer_in v next).reply)
    next_none first r told =
        let reply = none_given (courses_in v) n none_free found (first ∙ ap found_in is) in (
          is
              ∙ (ap (λ ks. record { conflicts = v.conflicts; plans = v.plans; opening = v.opening; kept = ks; served = v.served }) (ap (λ ks. v.kept ++ ks) (sym (append-nil vs)))
              ∙ (ap (λ ks. record { conflicts = v.conflicts; plans = v.plans; opening = v.opening; kept = v.kept ++ (vs ++ ks); served = v.served }) (sym (kept_none v n v.served))
              ∙ (ap (λ s. record { conflicts = v.conflicts; plans = v.plans; opening = v.opening; kept = v.kept ++ (vs ++ next_kept none_free); served = s }) (sym (served_none v n v.served))
              ∙ sym (after_is ∙ ap after reply)))),
          ap next_is (told ∙ ap (λ x. none_free_reply (relation x) (courses_in x) (moment_of x) x.served) is) ∙ sym (reply_is ∙ ap next_is reply),
        )
