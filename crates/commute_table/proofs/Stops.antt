-- Readers that look at nothing behind the place where they stop: what they take from the front, and where they stop.
use Rattle.std.proofs.Common.{◌≡◌, ℕ, zero, suc, ◌+◌, Bool, true, false, cond, List, [], ◌∷◌, ◌++◌, length, Option, Some, None, Result, Ok, Err, refl, sym, ap, ◌∙◌, subst, append_assoc, inl, inr, ◌⊎◌}
use Rattle.std.specs.Prelude.{IsErr, nat_lt, nat_le, ◌==◌, ◌*◌}
use Rattle.std.proofs.lemmas.Bool.{cases_Bool}
use Rattle.std.proofs.Math.Dec.{eqb-suc-zero}
use Rattle.process_tree.specs.declared.conflicts.Mode.{Mode}
use Rattle.commute_table.specs.declared.op.Op.{Op}
use Rattle.commute_table.specs.declared.catalog.Catalog.{Catalog}
use Rattle.commute_table.specs.Operations.{is_version}
use Rattle.commute_table.specs.Reading.{Reader, ◌>>=◌, byte_at, mode_with, is_cell, count_at, can_be_new, length_at, name_at, verb_with, takes_code, op_at, ops_at, cells_at, rows_at, front_at, catalog_at}
use Rattle.commute_table.proofs.RowLoops.{bind_ok, ok_is}

abbrev pub head_of : List ℕ → Option ℕ
head_of [] = None
head_of (b ∷ bs) = Some b

-- the front that was read; with anything else behind it the same is read
pub record Takes {A : Type 0} (f : Reader A) (bytes : List ℕ) (x : A × List ℕ) : Type 0 where
  pub word : List ℕ
  pub parts : bytes ≡ word ++ x.1
  pub resume : (other : List ℕ) → f (word ++ other) ≡ Ok (x.0, other)

-- the place where reading stops; it stops there too with anything else behind the byte at that place
pub record Stops {B : Type 0} (f : List ℕ → Result B ℕ) (bytes : List ℕ) (left : ℕ) : Type 0 where
  pub front : List ℕ
  pub back : List ℕ
  pub parts : bytes ≡ front ++ back
  pub left_is : length back ≡ left
  pub always : (other : List ℕ) → head_of other ≡ head_of back → IsErr (f (front ++ other))

pub record IsPlain {A : Type 0} (f : Reader A) : Type 0 where
  pub takes : (bytes : List ℕ) (x : A × List ℕ) → f bytes ≡ Ok x → Takes f bytes x
  pub stops : (bytes : List ℕ) (left : ℕ) → f bytes ≡ Err left → Stops f bytes left

-- ---- one byte

pub byte_taken : (ok : ℕ → Bool) (b : ℕ) (bs : List ℕ) (x : ℕ × List ℕ) → byte_at ok (b ∷ bs) ≡ Ok x → (ok b ≡ true) × ((b, bs) ≡ x)
byte_taken ok b bs x e =
    elim (cases_Bool (ok b)) [
      | inl good ↦ (good, ok_is (b, bs) x (sym (rw good refl) ∙ e))
      | inr bad ↦ absurd (not_ok (suc (length bs)) x (sym (rw bad refl) ∙ e))
    ]
  where
    not_ok : (left : ℕ) (x : ℕ × List ℕ) → Err left ≡ Ok x → ⊥
    not_ok left x e = cc

byte_passes : (ok : ℕ → Bool) (b : ℕ) (other : List ℕ) → ok b ≡ true → byte_at ok (b ∷ other) ≡ Ok (b, other)
byte_passes ok b other good = rw good refl

byte_takes : (ok : ℕ → Bool) (bytes : List ℕ) (x : ℕ × List ℕ) → byte_at ok bytes ≡ Ok x → Takes (byte_at ok) bytes x
byte_takes ok [] x e = absurd cc
byte_takes ok (b ∷ bs) x e =
    let t = byte_taken ok b bs x e in
    subst (λ (y : ℕ × List ℕ). Takes (byte_at ok) (b ∷ bs) y) t.1 (record { word = b ∷ []; parts = refl; resume = λ other. byte_passes ok b other t.0 })

byte_fails : (ok : ℕ → Bool) (b : ℕ) (other : List ℕ) → ok b ≡ false → IsErr (byte_at ok (b ∷ other))
byte_fails ok b other bad = rw bad refl

byte_stops : (ok : ℕ → Bool) (bytes : List ℕ) (left : ℕ) → byte_at ok bytes ≡ Err left → Stops (byte_at ok) bytes left
byte_stops ok [] left e = record { front = []; back = []; parts = refl; left_is = cc; always = always }
  where
    always : (other : List ℕ) → head_of other ≡ head_of [] → IsErr (byte_at ok ([] ++ other))
    always [] h = refl
    always (c ∷ other) h = absurd cc
byte_stops ok (b ∷ bs) left e =
    elim (cases_Bool (ok b)) [
      | inl good ↦ absurd (not_err (b, bs) left (sym (byte_passes ok b bs good) ∙ e))
      | inr bad ↦ record { front = []; back = b ∷ bs; parts = refl; left_is = left_of (suc (length bs)) left (sym (rw bad refl) ∙ e); always = always bad }
    ]
  where
    not_err : (x : ℕ × List ℕ) (left : ℕ) → Ok x ≡ Err left → ⊥
    not_err x left e = cc

    left_of : (m n : ℕ) → (let r : Result (ℕ × List ℕ) ℕ = Err m in r ≡ Err n) → m ≡ n
    left_of m n e = cc

    always : ok b ≡ false → (other : List ℕ) → head_of other ≡ head_of (b ∷ bs) → IsErr (byte_at ok ([] ++ other))
    always bad [] h = absurd cc
    always bad (c ∷ other) h =
        let same : c ≡ b = cc in
        byte_fails ok c other (rw same bad)

pub plain_byte : (ok : ℕ → Bool) → IsPlain (byte_at ok)
plain_byte ok = record { takes = byte_takes ok; stops = byte_stops ok }

-- ---- one after the other

-- a step that failed: the first part did, or what follows it
pub bind_err : {A B : Type 0} (r : Result A ℕ) (f : A → Result B ℕ) (left : ℕ) → (r >>= f) ≡ Err left → (r ≡ Err left) ⊎ ((x : A) × (r ≡ Ok x) × (f x ≡ Err left))
bind_err (Ok x) f left e = inr (x, refl, e)
bind_err (Err d) f left e = inl (ap_err d left e)
  where
    ap_err : {A B : Type 0} (d left : ℕ) → (let r : Result B ℕ = Err d in r ≡ Err left) → (let r : Result A ℕ = Err d in r ≡ Err left)
    ap_err d left e = let same : d ≡ left = cc in ap Err same

err_stays : {A B : Type 0} (r : Result A ℕ) (f : A → Result B ℕ) → IsErr r → IsErr (r >>= f)
err_stays (Ok x) f e = absurd cc
err_stays (Err d) f e = refl

then_takes : {A B : Type 0} (f : Reader A) (g : A → Reader B) (bytes : List ℕ) (x : A × List ℕ) (y : B × List ℕ) → Takes f bytes x → Takes (g x.0) x.1 y → Takes (λ bytes. f bytes >>= λ x. g x.0 x.1) bytes y
then_takes {A = A} {B = B} f g bytes x y s t = record {
  word = s.word ++ t.word;
  parts = s.parts ∙ ap (λ (r : List ℕ). s.word ++ r) t.parts ∙ sym (append_assoc s.word t.word y.1);
  resume = λ other. ap (λ (w : List ℕ). f w >>= λ x. g x.0 x.1) (append_assoc s.word t.word other) ∙ ap (λ (r : Result (A × List ℕ) ℕ). r >>= λ x. g x.0 x.1) (s.resume (t.word ++ other)) ∙ t.resume other;
}

pub then_stops : {A B : Type 0} (f : Reader A) (g : A × List ℕ → Result B ℕ) (h : List ℕ → Result B ℕ) (bytes : List ℕ) (x : A × List ℕ) (left : ℕ) → Takes f bytes x → ((other : List ℕ) → g (x.0, other) ≡ h other) → Stops h x.1 left → Stops (λ bytes. f bytes >>= g) bytes left
then_stops {A = A} {B = B} f g h bytes x left s same t = record {
  front = s.word ++ t.front;
  back = t.back;
  parts = s.parts ∙ ap (λ (r : List ℕ). s.word ++ r) t.parts ∙ sym (append_assoc s.word t.front t.back);
  left_is = t.left_is;
  always = λ other e. subst (λ (r : Result B ℕ). IsErr r) (sym (ap (λ (w : List ℕ). f w >>= g) (append_assoc s.word t.front other) ∙ ap (λ (r : Result (A × List ℕ) ℕ). r >>= g) (s.resume (t.front ++ other)) ∙ same (t.front ++ other))) (t.always other e);
}

pub first_stops : {A B : Type 0} (f : Reader A) (g : A × List ℕ → Result B ℕ) (bytes : List ℕ) (left : ℕ) → Stops f bytes left → Stops (λ bytes. f bytes >>= g) bytes left
first_stops f g bytes left s = record {
  front = s.front;
  back = s.back;
  parts = s.parts;
  left_is = s.left_is;
  always = λ other e. err_stays (f (s.front ++ other)) g (s.always other e);
}

pub plain_then : {A B : Type 0} (f : Reader A) (g : A → Reader B) → IsPlain f → ((a : A) → IsPlain (g a)) → IsPlain (λ bytes. f bytes >>= λ x. g x.0 x.1)
plain_then f g p q = record {
  takes = λ bytes y e.
      let b = bind_ok (f bytes) (λ x. g x.0 x.1) y e in
      then_takes f g bytes b.0 y (p.takes bytes b.0 b.1) ((q b.0.0).takes b.0.1 y b.2);
  stops = λ bytes left e.
      elim (bind_err (f bytes) (λ x. g x.0 x.1) left e) [
        | inl d ↦ first_stops f (λ x. g x.0 x.1) bytes left (p.stops bytes left d)
        | inr d ↦ then_stops f (λ x. g x.0 x.1) (g d.0.0) bytes d.0 left (p.takes bytes d.0 d.1) (λ other. refl) ((q d.0.0).stops d.0.1 left d.2)
      ];
}

-- nothing is read, and something is made
abbrev pub just : {A : Type 0} → A → Reader A
just a bytes = Ok (a, bytes)

just_takes : {A : Type 0} (a : A) (bytes : List ℕ) (x : A × List ℕ) → just a bytes ≡ Ok x → Takes (just a) bytes x
just_takes {A = A} a bytes x e = subst (λ (y : A × List ℕ). Takes (just a) bytes y) (ok_is (a, bytes) x e) (record { word = []; parts = refl; resume = λ other. refl })

just_stops : {A : Type 0} (a : A) (bytes : List ℕ) (left : ℕ) → just a bytes ≡ Err left → Stops (just a) bytes left
just_stops a bytes left e = absurd cc

pub plain_ok : {A : Type 0} (a : A) → IsPlain (just a)
plain_ok a = record { takes = just_takes a; stops = just_stops a }

-- ---- the parts of a catalog

pub plain_count : IsPlain count_at
unfolding count_at
plain_count = plain_then (byte_at (λ _. true)) (λ low rest. byte_at (λ b. nat_le (low + 256 * b) 256) rest >>= λ high. Ok (low + 256 * high.0, high.1)) (plain_byte (λ _. true))
    (λ low. plain_then (byte_at (λ b. nat_le (low + 256 * b) 256)) (λ high rest. Ok (low + 256 * high, rest)) (plain_byte (λ b. nat_le (low + 256 * b) 256)) (λ high. plain_ok (low + 256 * high)))

pub plain_length : (earlier : List Op) → IsPlain (length_at earlier)
unfolding length_at
plain_length earlier = plain_byte _

pub plain_name : (earlier : List Op) (n : ℕ) (text : List ℕ) → IsPlain (name_at earlier n text)
unfolding name_at
plain_name earlier zero text = plain_ok text
plain_name earlier (suc n) text = plain_then (byte_at (λ b. can_be_new earlier n (text ++ b ∷ []))) (λ b rest. name_at earlier n (text ++ b ∷ []) rest) (plain_byte (λ b. can_be_new earlier n (text ++ b ∷ []))) (λ b. plain_name earlier n (text ++ b ∷ []))

plain_verb : (name : List ℕ) (q : ℕ) → IsPlain {A = Op} (λ bytes. byte_at (takes_code q) bytes >>= λ code. Ok (record { name = name; subsystem = q; verb = verb_with code.0 }, code.1))
plain_verb name q = plain_then (byte_at (takes_code q)) (λ code rest. Ok (record { name = name; subsystem = q; verb = verb_with code }, rest)) (plain_byte (takes_code q)) (λ code. plain_ok (record { name = name; subsystem = q; verb = verb_with code }))

plain_rest_of_op : (name : List ℕ) → IsPlain {A = Op} (λ bytes. byte_at (λ q. nat_lt q 8) bytes >>= λ q. byte_at (takes_code q.0) q.1 >>= λ code. Ok (record { name = name; subsystem = q.0; verb = verb_with code.0 }, code.1))
plain_rest_of_op name = plain_then (byte_at (λ q. nat_lt q 8)) (λ q rest. byte_at (takes_code q) rest >>= λ code. Ok (record { name = name; subsystem = q; verb = verb_with code.0 }, code.1)) (plain_byte (λ q. nat_lt q 8)) (plain_verb name)

pub plain_op : (earlier : List Op) → IsPlain (op_at earlier)
unfolding op_at
plain_op earlier =
    plain_then (length_at earlier) (λ n rest. name_at earlier n [] rest >>= λ name. byte_at (λ q. nat_lt q 8) name.1 >>= λ q. byte_at (takes_code q.0) q.1 >>= λ code. Ok (record { name = name.0; subsystem = q.0; verb = verb_with code.0 }, code.1)) (plain_length earlier)
    (λ n. plain_then (name_at earlier n []) (λ name rest. byte_at (λ q. nat_lt q 8) rest >>= λ q. byte_at (takes_code q.0) q.1 >>= λ code. Ok (record { name = name; subsystem = q.0; verb = verb_with code.0 }, code.1)) (plain_name earlier n []) plain_rest_of_op)

pub plain_ops : (n : ℕ) (earlier : List Op) → IsPlain (ops_at n earlier)
unfolding ops_at
plain_ops zero earlier = plain_ok earlier
plain_ops (suc n) earlier = plain_then (op_at earlier) (λ op rest. ops_at n (earlier ++ op ∷ []) rest) (plain_op earlier) (λ op. plain_ops n (earlier ++ op ∷ []))

pub plain_cells : (version n : ℕ) (done : List Mode) → IsPlain (cells_at version n done)
unfolding cells_at
plain_cells version zero done = plain_ok done
plain_cells version (suc n) done = plain_then (byte_at (is_cell version)) (λ b rest. cells_at version n (done ++ mode_with b ∷ []) rest) (plain_byte (is_cell version)) (λ b. plain_cells version n (done ++ mode_with b ∷ []))

pub plain_rows : (version n : ℕ) (done : List (List Mode)) → IsPlain (rows_at version n done)
unfolding rows_at
plain_rows version zero done = plain_ok done
plain_rows version (suc n) done = plain_then (cells_at version (suc n) []) (λ row rest. rows_at version n (done ++ row ∷ []) rest) (plain_cells version (suc n) []) (λ row. plain_rows version n (done ++ row ∷ []))

plain_table : (version n : ℕ) (ops : List Op) → IsPlain {A = Catalog} (λ bytes. rows_at version n [] bytes >>= λ rows. Ok (record { version = version; ops = ops; conflicts = rows.0 }, rows.1))
plain_table version n ops = plain_then (rows_at version n []) (λ rows rest. Ok (record { version = version; ops = ops; conflicts = rows }, rest)) (plain_rows version n []) (λ rows. plain_ok (record { version = version; ops = ops; conflicts = rows }))

plain_rest : (version n : ℕ) → IsPlain {A = Catalog} (λ bytes. ops_at n [] bytes >>= λ ops. rows_at version n [] ops.1 >>= λ rows. Ok (record { version = version; ops = ops.0; conflicts = rows.0 }, rows.1))
plain_rest version n = plain_then (ops_at n []) (λ ops rest. rows_at version n [] rest >>= λ rows. Ok (record { version = version; ops = ops; conflicts = rows.0 }, rows.1)) (plain_ops n []) (plain_table version n)

pub plain_front : IsPlain front_at
unfolding front_at
plain_front =
    plain_then (byte_at is_version) (λ version rest. count_at rest >>= λ n. ops_at n.0 [] n.1 >>= λ ops. rows_at version n.0 [] ops.1 >>= λ rows. Ok (record { version = version; ops = ops.0; conflicts = rows.0 }, rows.1)) (plain_byte is_version)
    (λ version. plain_then count_at (λ n rest. ops_at n [] rest >>= λ ops. rows_at version n [] ops.1 >>= λ rows. Ok (record { version = version; ops = ops.0; conflicts = rows.0 }, rows.1)) plain_count (plain_rest version))

-- ---- all of the bytes

abbrev at_end : Catalog → List ℕ → Result Catalog ℕ
at_end c rest = cond (length rest == 0) (Ok c) (Err (length rest))

end_stops : (c : Catalog) (rest : List ℕ) (left : ℕ) → at_end c rest ≡ Err left → Stops (at_end c) rest left
end_stops c [] left e = absurd cc
end_stops c (b ∷ bs) left e = record { front = []; back = b ∷ bs; parts = refl; left_is = left_of (suc (length bs)) left (sym (rw (eqb-suc-zero (length bs)) refl) ∙ e); always = always }
  where
    left_of : (m n : ℕ) → (let r : Result Catalog ℕ = Err m in r ≡ Err n) → m ≡ n
    left_of m n e = cc

    always : (other : List ℕ) → head_of other ≡ head_of (b ∷ bs) → IsErr (at_end c ([] ++ other))
    always [] h = absurd cc
    always (d ∷ other) h = rw (eqb-suc-zero (length other)) refl

pub catalog_stops : (bytes : List ℕ) (left : ℕ) → catalog_at bytes ≡ Err left → Stops catalog_at bytes left
unfolding catalog_at
catalog_stops bytes left e =
    elim (bind_err (front_at bytes) (λ c. at_end c.0 c.1) left e) [
      | inl d ↦ first_stops front_at (λ c. at_end c.0 c.1) bytes left (plain_front.stops bytes left d)
      | inr d ↦ then_stops front_at (λ c. at_end c.0 c.1) (at_end d.0.0) bytes d.0 left (plain_front.takes bytes d.0 d.1) (λ other. refl) (end_stops d.0.0 d.0.1 left d.2)
    ]
