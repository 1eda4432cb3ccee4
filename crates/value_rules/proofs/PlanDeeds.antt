-- What the plans ask is sound, under a catalog that names each conflict in value.
use Rattle.std.proofs.Common.{◌≡◌, ◌⊎◌, inl, inr, ⊎_elim, ℕ, zero, suc, ◌-◌, ◌<◌, ◌≤◌, Bool, true, false, not, eqb, ◌&&◌, List, [], ◌∷◌, length, map, refl, sym, ap, ◌∙◌, subst, w64, arith}
use Rattle.std.proofs.Math.IntN.{ℤ, pos, negsuc}
use Rattle.std.proofs.Math.Bool.{and-true}
use Rattle.std.proofs.Math.ListN.{get_or-map}
use Rattle.std.specs.Prelude.{slice_index_or, FitsSigned, nat_lt, IsTrue}
use Rattle.std.specs.List.{Contains, list_all}
use Rattle.std.proofs.lemmas.Bool.{and_parts, eqb-true, false≢true, not-true, ltb-false, ltb-true}
use Rattle.std.proofs.lemmas.Int.{fits_signed_from_abs}
use Rattle.process_tree.specs.Blocks.{outline}
use Rattle.process_tree.specs.Conflicts.{Access, do_conflict, mode_of, operations_in, same_access, covers}
use Rattle.process_tree.specs.Entries.{access_of}
use Rattle.process_tree.specs.declared.conflicts.Mode.{Mode}
use Rattle.process_tree.specs.declared.conflicts.Mode.TheVariants.{Never, Key, Always}
use Rattle.process_tree.specs.declared.entry.Entry.{Entry}
use Rattle.process_tree.specs.declared.plan.Plan.{Plan}
use Rattle.process_tree.specs.declared.step.Step.{Step}
use Rattle.process_tree.proofs.Entries.{same_access-true}
use Rattle.schedule_model.specs.Conflict.{conflict}
use Rattle.schedule_model.specs.Course.{Course, access_at, course_of, courses_of, no_course, op_of, key_of as course_key}
use Rattle.schedule_model.specs.Laws.{AreGood}
use Rattle.schedule_model.specs.Reduction.{can_change}
use Rattle.schedule_model.proofs.GoodPlans.{plan_or_none}
use Rattle.schedule_model.proofs.Members.{contains-from_among}
use Rattle.commute_table.specs.declared.op.Op.{Op}
use Rattle.commute_table.specs.declared.op.Verb.{Verb}
use Rattle.commute_table.specs.declared.catalog.Catalog.{Catalog}
use Rattle.subsystem_store.specs.Bodies.{is_amount}
use Rattle.history_files.specs.Effects.{amount_of, key_of, subsystem_of, verb_of}
use Rattle.history_files.proofs.Amounts.{amount_within}
use Rattle.value_conflict.specs.ValueConflict.{IsValueSound, commute, conflict_in_value, is_never, no_op, op_at}
use Rattle.value_rules.specs.Ledgers.{Deed, Deeds, is_sum, same_place}
use Rattle.value_rules.specs.Laws.{AreSound}

-- an amount within its limit fits 64 bits
at_most : (most n : ℕ) → not (nat_lt most n) ≡ true → n ≤ most
at_most most n is = ltb-false most n (not-true (nat_lt most n) is)

amount-fits : (a : ℤ) → is_amount a ≡ true → FitsSigned w64 a
amount-fits (pos n) within = fits_signed_from_abs w64 (pos n) (omega (arith, at_most 1000000000 n within))
amount-fits (negsuc n) within = fits_signed_from_abs w64 (negsuc n) (omega (arith, at_most 999999999 n (sym (and-true (not (nat_lt 999999999 n))) ∙ within)))

-- the verb and the subsystem of an operation
verb-at : (ops : List Op) (a : ℕ) → verb_of ops a ≡ (op_at ops a).verb
verb-at ops a = get_or-map (λ (o : Op). o.verb) ops a no_op

subsystem-at : (ops : List Op) (a : ℕ) → subsystem_of ops a ≡ (op_at ops a).subsystem
subsystem-at ops a = get_or-map (λ (o : Op). o.subsystem) ops a no_op

-- an operation of one of these is known, where there is any
known_at : (n b : ℕ) (ops : List ℕ) → zero < n → list_all (λ a. nat_lt a n) ops ≡ true → slice_index_or ops b 0 < n
known_at n b [] some all = some
known_at n zero (a ∷ ops) some all = ltb-true a n (and_parts (nat_lt a n) (list_all (λ x. nat_lt x n) ops) all).0
known_at n (suc b) (a ∷ ops) some all = known_at n b ops some (and_parts (nat_lt a n) (list_all (λ x. nat_lt x n) ops) all).1

keys-at : (plans : List Plan) (n b : ℕ)
    → slice_index_or (slice_index_or (map course_of plans) n no_course).keys b 0
    ≡ slice_index_or (map (λ (s : Step). s.key) (slice_index_or (map (λ (p : Plan). (outline p.tree).steps) plans) n [])) b 0
keys-at [] n b = refl
keys-at (p ∷ plans) zero b = refl
keys-at (p ∷ plans) (suc n) b = keys-at plans n b

-- the key of a step is the same by its course and by its plan
key-same : (plans : List Plan) (i b : ℕ) → course_key (courses_of plans) i b ≡ key_of plans i b
key-same plans i b = keys-at plans (i - 1) b

module _ (c : Catalog) (plans : List Plan) where
  -- what a step of a plan asks, whatever its entry says
  abbrev pub asked_at : ℕ → ℕ → Deed
  asked_at i b = record {
    subsystem = subsystem_of c.ops (op_of (courses_of plans) i b);
    call = record { verb = verb_of c.ops (op_of (courses_of plans) i b); key = key_of plans i b; amount = amount_of plans i b };
  }

  abbrev pub asked : Deeds
  asked e = asked_at e.process e.step

  -- whether it adds or takes
  abbrev pub sums : ℕ → ℕ → Bool
  sums i b = is_sum (verb_of c.ops (op_of (courses_of plans) i b))

  -- the entry is as its plan has it
  abbrev pub is_known : Entry → Bool
  is_known e = same_access (access_of e) (access_at (courses_of plans) e.process e.step)

  -- what a known entry asks is what its own operation says
  pub known-op : (e : Entry) → is_known e ≡ true → op_of (courses_of plans) e.process e.step ≡ e.op
  known-op e known = sym (ap (λ (a : Access). a.op) (same_access-true (access_of e) (access_at (courses_of plans) e.process e.step) known))

  pub known-key : (e : Entry) → is_known e ≡ true → key_of plans e.process e.step ≡ e.key
  known-key e known =
      sym (key-same plans e.process e.step)
      ∙ sym (ap (λ (a : Access). a.key) (same_access-true (access_of e) (access_at (courses_of plans) e.process e.step) known))

  module _ (good : AreGood plans) (sound : IsValueSound c) (of_all : operations_in c.conflicts ≡ length c.ops)
      (known : (p : Plan) → Contains plans p → IsTrue (list_all (λ a. nat_lt a (operations_in c.conflicts)) p.ops)) where
    -- the operation of a step is one of the catalog, unless that has none
    op-known : (i b : ℕ) → zero < length c.ops → op_of (courses_of plans) i b < length c.ops
    op-known i b some =
        ⊎_elim
        (λ none. subst (λ (k : Course). slice_index_or k.ops b 0 < length c.ops) (sym none) some)
        (λ found. subst (λ (k : Course). slice_index_or k.ops b 0 < length c.ops) (sym found.2)
        (known_at (length c.ops) b found.0.ops some (subst (λ n. list_all (λ a. nat_lt a n) found.0.ops ≡ true) of_all (known found.0 found.1))))
        (plan_or_none plans i)

    -- of no operations all verbs look
    none-look : (a : ℕ) → c.ops ≡ [] → verb_of c.ops a ≡ Verb.Look
    none-look a none = ap (λ ops. verb_of ops a) none

    both-commute : (a b : ℕ) → c.ops ≡ [] → commute (verb_of c.ops a) (verb_of c.ops b) ≡ true
    both-commute a b none = ap (λ v. commute v (verb_of c.ops b)) (none-look a none) ∙ ap (commute Verb.Look) (none-look b none)

    some-or_none : (ops : List Op) → (ops ≡ []) ⊎ (zero < length ops)
    some-or_none [] = inl refl
    some-or_none (o ∷ ops) = inr (omega arith)

    -- two operations without a conflict are of different subsystems, or commute
    no-mode : (a b : ℕ) → a < length c.ops → b < length c.ops → mode_of c.conflicts a b ≡ Never
        → (eqb (subsystem_of c.ops a) (subsystem_of c.ops b) ≡ false) ⊎ (commute (verb_of c.ops a) (verb_of c.ops b) ≡ true)
    no-mode a b a_in b_in never =
        by_tests (eqb (subsystem_of c.ops a) (subsystem_of c.ops b)) (commute (verb_of c.ops a) (verb_of c.ops b)) refl refl
      where
        free : (eqb (subsystem_of c.ops a) (subsystem_of c.ops b) && not (commute (verb_of c.ops a) (verb_of c.ops b))) ≡ false
        free =
            ap (λ x. eqb x (subsystem_of c.ops b) && not (commute (verb_of c.ops a) (verb_of c.ops b))) (subsystem-at c.ops a)
            ∙ (ap (λ x. eqb (op_at c.ops a).subsystem x && not (commute (verb_of c.ops a) (verb_of c.ops b))) (subsystem-at c.ops b)
            ∙ (ap (λ v. eqb (op_at c.ops a).subsystem (op_at c.ops b).subsystem && not (commute v (verb_of c.ops b))) (verb-at c.ops a)
            ∙ (ap (λ v. eqb (op_at c.ops a).subsystem (op_at c.ops b).subsystem && not (commute (op_at c.ops a).verb v)) (verb-at c.ops b)
            ∙ (sym (and-true (conflict_in_value (op_at c.ops a) (op_at c.ops b)))
            ∙ (sym (ap (λ m. conflict_in_value (op_at c.ops a) (op_at c.ops b) && is_never m) never) ∙ sound a b a_in b_in)))))

        by_tests : (s t : Bool) → eqb (subsystem_of c.ops a) (subsystem_of c.ops b) ≡ s → commute (verb_of c.ops a) (verb_of c.ops b) ≡ t
            → (eqb (subsystem_of c.ops a) (subsystem_of c.ops b) ≡ false) ⊎ (commute (verb_of c.ops a) (verb_of c.ops b) ≡ true)
        by_tests false t one two = inl one
        by_tests true true one two = inr two
        by_tests true false one two = absurd (false≢true (sym free ∙ (ap (λ s. s && not (commute (verb_of c.ops a) (verb_of c.ops b))) one ∙ ap not two)))

    -- by their mode
    by_mode : (a b : Entry) → (m : Mode) → mode_of c.conflicts a.op b.op ≡ m → covers m a.key b.key ≡ false
        → is_known a ≡ true → is_known b ≡ true → zero < length c.ops
        → (same_place asked a b ≡ false) ⊎ (commute (asked a).call.verb (asked b).call.verb ≡ true)
    by_mode a b Always is free a_known b_known some = absurd (false≢true (sym free))
    by_mode a b Key is free a_known b_known some =
        inl (both_right (eqb (asked a).subsystem (asked b).subsystem) (eqb (asked a).call.key (asked b).call.key)
        (ap (λ x. eqb x (asked b).call.key) (known-key a a_known) ∙ (ap (eqb a.key) (known-key b b_known) ∙ free)))
      where
        both_right : (s t : Bool) → t ≡ false → (s && t) ≡ false
        both_right true t is = is
        both_right false t is = refl
    by_mode a b Never is free a_known b_known some =
        ⊎_elim
        (λ other. inl (ap (λ t. t && eqb (asked a).call.key (asked b).call.key) other))
        (λ both. inr both)
        (no-mode (op_of (courses_of plans) a.process a.step) (op_of (courses_of plans) b.process b.step)
        (op-known a.process a.step some) (op-known b.process b.step some)
        (ap (λ x. mode_of c.conflicts x (op_of (courses_of plans) b.process b.step)) (known-op a a_known) ∙ (ap (mode_of c.conflicts a.op) (known-op b b_known) ∙ is)))

    apart : (a b : Entry) → is_known a ≡ true → is_known b ≡ true → can_change (do_conflict c.conflicts) a b ≡ true
        → (same_place asked a b ≡ false) ⊎ (commute (asked a).call.verb (asked b).call.verb ≡ true)
    apart a b a_known b_known can =
        ⊎_elim
        (λ none. inr (both-commute (op_of (courses_of plans) a.process a.step) (op_of (courses_of plans) b.process b.step) none))
        (λ some. by_mode a b (mode_of c.conflicts a.op b.op) refl free a_known b_known some)
        (some-or_none c.ops)
      where
        parts : (not (eqb a.process b.process) ≡ true) × (not (conflict (do_conflict c.conflicts) a b) ≡ true)
        parts = and_parts (not (eqb a.process b.process)) (not (conflict (do_conflict c.conflicts) a b)) can

        free : covers (mode_of c.conflicts a.op b.op) a.key b.key ≡ false
        free =
            sym (ap (λ t. t && do_conflict c.conflicts (access_of a) (access_of b)) parts.0)
            ∙ not-true (conflict (do_conflict c.conflicts) a b) parts.1

    pub asked-sound : AreSound (do_conflict c.conflicts) asked sums is_known
    asked-sound = record {
      apart = apart;
      undo = λ a b same.
          let parts = and_parts (eqb a.process b.process) (eqb a.step b.step) same in
          ap (λ i. asked_at i a.step) (eqb-true a.process b.process parts.0) ∙ ap (asked_at b.process) (eqb-true a.step b.step parts.1);
      sum = λ e. refl;
      fits = λ e. amount-fits (amount_of plans e.process e.step)
          (amount_within plans e.process e.step (λ p is. (good p (contains-from_among p plans is)).tree));
    }
