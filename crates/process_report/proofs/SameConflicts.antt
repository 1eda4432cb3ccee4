-- The pairs of a report say of the names of operations, and of the keys that it prints, no more than the catalog says of their numbers.
use Rattle.std.proofs.Common.{◌≡◌, ⊎_elim, ℕ, zero, suc, ◌-◌, ◌<◌, ◌==◌, min, max, get_or, Bool, true, false, cond, not, ◌&&◌, ◌||◌, List, [], ◌∷◌, ◌++◌, length, map, sym, refl, ap, ◌∙◌, subst, arith}
use Rattle.std.specs.List.{list_all}
use Rattle.std.proofs.lemmas.Bool.{and_parts, or_cases, false≢true}
use Rattle.process_tree.specs.declared.conflicts.Mode.{Mode}
use Rattle.process_tree.specs.declared.conflicts.Mode.TheVariants.{Never, Key, Always}
use Rattle.process_tree.specs.Conflicts.{Access, Table, mode_of, covers, do_conflict}
use Rattle.process_tree.proofs.Tables.{mode_of-symmetric}
use Rattle.process_tree.specs.Making.{same_text}
use Rattle.process_text.proofs.NumberWords.{are_same-refl}
use Rattle.commute_table.specs.declared.op.Op.{Op}
use Rattle.commute_table.specs.declared.catalog.Catalog.{Catalog}
use Rattle.commute_table.specs.Operations.{has_mode, has_modes, has_name, differ_from}
use Rattle.schedule_model.proofs.Members.{Among, not_any, among-map}
use Rattle.trace_verify.specs.declared.form.Form.TheVariants.{Plain, Keyed}
use Rattle.trace_verify.specs.Forms.{Pair}
use Rattle.trace_verify.specs.Names.{is_among, number_among, is_named, names_both, line_covers, conflicts}
use Rattle.trace_verify.proofs.PrintedEntries.{named-read, named-number}
use Rattle.process_report.specs.Names.{op_name}
use Rattle.process_report.specs.Report.{form_of, may_conflict}
use Rattle.process_report.proofs.LineForms.{read_key, read_mode}
use Rattle.process_report.proofs.SectionsRead.{mode_at, named_pair}

-- Names of operations differ.

has-snoc : (w : List ℕ) (ops : List Op) (o : Op) → has_name w (ops ++ o ∷ []) ≡ (has_name w ops || same_text o.name w)
has-snoc w [] o = by (same_text o.name w)
  where
    by : (b : Bool) → (b || false) ≡ (false || b)
    by true = refl
    by false = refl
has-snoc w (p ∷ ops) o = ap (λ b. same_text p.name w || b) (has-snoc w ops o) ∙ by (same_text p.name w)
  where
    by : (b : Bool) → (b || (has_name w ops || same_text o.name w)) ≡ ((b || has_name w ops) || same_text o.name w)
    by true = refl
    by false = refl

or-left : (a b : Bool) → a ≡ true → (a || b) ≡ true
or-left a b is = ap (λ t. t || b) is

or-last : (a b : Bool) → b ≡ true → (a || b) ≡ true
or-last true b is = refl
or-last false b is = is

no-earlier : (earlier ops : List Op) (w : List ℕ) (i : ℕ) → differ_from earlier ops ≡ true → has_name w earlier ≡ true → i < length ops → op_name ops i ≡ w → ⊥
no-earlier earlier [] w i differ has less is = omega arith
no-earlier earlier (o ∷ ops) w zero differ has less is =
    let new = (and_parts (not (has_name o.name earlier)) (differ_from (earlier ++ o ∷ []) ops) differ).0 in
    let old : has_name o.name earlier ≡ true = ap (λ n. has_name n earlier) is ∙ has in
    false≢true (sym (ap not old) ∙ new)
no-earlier earlier (o ∷ ops) w (suc i) differ has less is =
    no-earlier (earlier ++ o ∷ []) ops w i (and_parts (not (has_name o.name earlier)) (differ_from (earlier ++ o ∷ []) ops) differ).1
    (has-snoc w earlier o ∙ or-left (has_name w earlier) (same_text o.name w) has) (omega arith) is

pub names-differ : (earlier ops : List Op) (i j : ℕ) → differ_from earlier ops ≡ true → i < length ops → j < length ops → op_name ops i ≡ op_name ops j → i ≡ j
names-differ earlier [] i j differ one other is = absurd (omega arith)
names-differ earlier (o ∷ ops) zero zero differ one other is = refl
names-differ earlier (o ∷ ops) zero (suc j) differ one other is =
    let rest = (and_parts (not (has_name o.name earlier)) (differ_from (earlier ++ o ∷ []) ops) differ).1 in
    absurd (no-earlier (earlier ++ o ∷ []) ops o.name j rest (has-snoc o.name earlier o ∙ or-last (has_name o.name earlier) (same_text o.name o.name) (are_same-refl o.name)) (omega arith) (sym is))
names-differ earlier (o ∷ ops) (suc i) zero differ one other is =
    let rest = (and_parts (not (has_name o.name earlier)) (differ_from (earlier ++ o ∷ []) ops) differ).1 in
    absurd (no-earlier (earlier ++ o ∷ []) ops o.name i rest (has-snoc o.name earlier o ∙ or-last (has_name o.name earlier) (same_text o.name o.name) (are_same-refl o.name)) (omega arith) is)
names-differ earlier (o ∷ ops) (suc i) (suc j) differ one other is =
    ap suc (names-differ (earlier ++ o ∷ []) ops i j (and_parts (not (has_name o.name earlier)) (differ_from (earlier ++ o ∷ []) ops) differ).1 (omega arith) (omega arith) is)

-- the name of a number, by a name that is there
its-name : (names : List (List ℕ)) (v w : List ℕ) → is_among names w ≡ true → is_named names (number_among names w) v ≡ true → v ≡ w
its-name names v w there is = sym (named-read names (number_among names w) v is) ∙ named-read names (number_among names w) w (named-number names w there)

-- what each of a list passes, an item passes, or what stands for none
all-or : {X : Type 0} (q : X → Bool) (xs : List X) (k : ℕ) (d : X) → list_all q xs ≡ true → q d ≡ true → q (get_or xs k d) ≡ true
all-or q [] k d all none = none
all-or q (x ∷ xs) zero d all none = (and_parts (q x) (list_all q xs) all).0
all-or q (x ∷ xs) (suc k) d all none = all-or q xs k d (and_parts (q x) (list_all q xs) all).1 none

-- a version whose modes are all of a table's has that of each two operations
pub mode-had : (version : ℕ) (t : Table) (a b : ℕ) → has_modes version t ≡ true → has_mode version (mode_of t a b) ≡ true
mode-had version t a b all =
    all-or (has_mode version) (get_or t (min a b) []) (max a b - min a b) Never (all-or (list_all (has_mode version)) t (min a b) [] all refl) refl

-- what is read of two operations and of two keys covers no more than their mode
read-covers : (version : ℕ) (mode : Mode) (k m : ℕ) → may_conflict mode ≡ true → has_mode version mode ≡ true
    → covers (read_mode (cond (version == 2) Keyed Plain) mode) (read_key (cond (version == 2) Keyed Plain) k) (read_key (cond (version == 2) Keyed Plain) m) ≡ true
    → covers mode k m ≡ true
read-covers version Never k m may has holds = absurd (cc)
read-covers version Always k m may has holds = refl
read-covers version Key k m may has holds =
    subst (λ t. covers (read_mode (cond t Keyed Plain) Key) (read_key (cond t Keyed Plain) k) (read_key (cond t Keyed Plain) m) ≡ true) has holds

-- two operations that a report names, with a mode that its catalog may have
abbrev pub IsGoodPair : Catalog → ℕ × ℕ → Type 0
IsGoodPair c p = (p.0 < length c.ops) × (p.1 < length c.ops) × (may_conflict (mode_at c p) ≡ true) × (has_mode c.version (mode_at c p) ≡ true)

-- an access as it is read of a report
abbrev pub read_access : Catalog → List (List ℕ) → Access → Access
read_access c names a = record { op = number_among names (op_name c.ops a.op); key = read_key (form_of c) a.key }

module _ (c : Catalog) (differ : differ_from [] c.ops ≡ true) (pairs : List (ℕ × ℕ)) (names : List (List ℕ)) (good : (p : ℕ × ℕ) → Among p pairs → IsGoodPair c p) where
  module _ (a b : Access) (a_is : a.op < length c.ops) (b_is : b.op < length c.ops)
      (a_there : is_among names (op_name c.ops a.op) ≡ true) (b_there : is_among names (op_name c.ops b.op) ≡ true) (free : do_conflict c.conflicts a b ≡ false) where
    abbrev x : Access
    x = read_access c names a

    abbrev y : Access
    y = read_access c names b

    pair-free : (p : ℕ × ℕ) → Among p pairs → line_covers names x y (named_pair c p) ≡ false
    pair-free p is = by (names_both names x.op y.op q) refl (covers q.mode x.key y.key) refl
      where
        q : Pair
        q = named_pair c p

        same-number : (i k : ℕ) → i < length c.ops → k < length c.ops → is_among names (op_name c.ops k) ≡ true → is_named names (number_among names (op_name c.ops k)) (op_name c.ops i) ≡ true → i ≡ k
        same-number i k less also there named = names-differ [] c.ops i k differ less also (its-name names (op_name c.ops i) (op_name c.ops k) there named)

        ordered : (is_named names x.op q.first && is_named names y.op q.second) ≡ true → mode_at c p ≡ mode_of c.conflicts a.op b.op
        ordered both =
            let parts = and_parts (is_named names x.op q.first) (is_named names y.op q.second) both in
            let first = same-number p.0 a.op (good p is).0 a_is a_there parts.0 in
            let second = same-number p.1 b.op (good p is).1 b_is b_there parts.1 in
            ap (λ i. mode_of c.conflicts i p.1) first ∙ ap (λ k. mode_of c.conflicts a.op k) second

        turned : (is_named names y.op q.first && is_named names x.op q.second) ≡ true → mode_at c p ≡ mode_of c.conflicts a.op b.op
        turned both =
            let parts = and_parts (is_named names y.op q.first) (is_named names x.op q.second) both in
            let first = same-number p.0 b.op (good p is).0 b_is b_there parts.0 in
            let second = same-number p.1 a.op (good p is).1 a_is a_there parts.1 in
            ap (λ i. mode_of c.conflicts i p.1) first ∙ (ap (λ k. mode_of c.conflicts b.op k) second ∙ mode_of-symmetric c.conflicts b.op a.op)

        conflicting : mode_at c p ≡ mode_of c.conflicts a.op b.op → covers q.mode x.key y.key ≡ true → do_conflict c.conflicts a b ≡ true
        conflicting same holds =
            ap (λ m. covers m a.key b.key) (sym same) ∙ read-covers c.version (mode_at c p) a.key b.key (good p is).2 (good p is).3 holds

        by : (s : Bool) → names_both names x.op y.op q ≡ s → (t : Bool) → covers q.mode x.key y.key ≡ t → (s && t) ≡ false
        by false e t also = refl
        by true e false also = refl
        by true e true also =
            ⊎_elim (λ one. absurd (false≢true (sym free ∙ conflicting (ordered one) also))) (λ other. absurd (false≢true (sym free ∙ conflicting (turned other) also)))
            (or_cases (is_named names x.op q.first && is_named names y.op q.second) (is_named names y.op q.first && is_named names x.op q.second) e)

    -- what doesn't conflict by the catalog doesn't by the report
    pub report-free : conflicts (map (named_pair c) pairs) names x y ≡ false
    report-free =
        not_any (line_covers names x y) (map (named_pair c) pairs)
        (λ q is. let from = among-map (named_pair c) q pairs is in ap (line_covers names x y) (sym from.2) ∙ pair-free from.0 from.1)
