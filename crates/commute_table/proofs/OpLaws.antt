-- Operations: what is read is spelled so, what is spelled so is read, and where reading stops some operation begins so.
use Rattle.std.proofs.Common.{◌≡◌, ℕ, zero, suc, ◌<◌, ◌≤◌, Bool, true, false, not, ◌&&◌, List, [], ◌∷◌, ◌++◌, length, Result, Ok, Err, refl, sym, ap, ◌∙◌, subst, append_assoc, arith, inl, inr}
use Rattle.std.specs.Prelude.{nat_lt, nat_le}
use Rattle.std.proofs.lemmas.Bool.{and_parts, cases_Bool, ltb-true, lt-ltb, le-leb, not-true, and_from}
use Rattle.std.proofs.lemmas.List.{append-nil}
use Rattle.process_tree.specs.Name.{is_name}
use Rattle.commute_table.specs.declared.op.Op.{Op}
use Rattle.commute_table.specs.declared.op.Verb.{Verb}
use Rattle.commute_table.specs.declared.op.Verb.TheVariants.{Add, Take, Look, Put, Hold, Free}
use Rattle.commute_table.specs.Operations.{takes, has_name, is_good_op}
use Rattle.commute_table.specs.Bytes.{op_bytes, verb_code}
use Rattle.commute_table.specs.Reading.{◌>>=◌, byte_at, is_new, can_be_new, length_at, name_at, verb_with, takes_code, op_at}
use Rattle.commute_table.proofs.RowLoops.{bind_ok, ok_is}
use Rattle.commute_table.proofs.Texts.{name_parts, can_from_new}

-- a byte that was read stands at the front
pub byte_read : (ok : ℕ → Bool) (bytes : List ℕ) (x : ℕ × List ℕ) → byte_at ok bytes ≡ Ok x → (bytes ≡ x.0 ∷ x.1) × (ok x.0 ≡ true)
byte_read ok [] x e = absurd cc
byte_read ok (b ∷ bs) x e =
    elim (cases_Bool (ok b)) [
      | inl good ↦
          let is : (b, bs) ≡ x = ok_is (b, bs) x (sym (rw good refl) ∙ e) in
          subst (λ (y : ℕ × List ℕ). (b ∷ bs ≡ y.0 ∷ y.1) × (ok y.0 ≡ true)) is (refl, good)
      | inr bad ↦ absurd (not_ok (suc (length bs)) x (sym (rw bad refl) ∙ e))
    ]
  where
    not_ok : (left : ℕ) (x : ℕ × List ℕ) → Err left ≡ Ok x → ⊥
    not_ok left x e = cc

pub byte_again : (ok : ℕ → Bool) (b : ℕ) (rest : List ℕ) → ok b ≡ true → byte_at ok (b ∷ rest) ≡ Ok (b, rest)
byte_again ok b rest good = rw good refl

-- ---- names

-- what a name's reading takes
pub record NameTakes (earlier : List Op) (n : ℕ) (text bytes : List ℕ) (x : List ℕ × List ℕ) : Type 0 where
  pub more : List ℕ
  pub name_is : x.0 ≡ text ++ more
  pub parts : bytes ≡ more ++ x.1
  pub count : length more ≡ n
  pub new : is_new earlier x.0 ≡ true

pub name_takes : (earlier : List Op) (n : ℕ) (text bytes : List ℕ) (x : List ℕ × List ℕ) → can_be_new earlier n text ≡ true → name_at earlier n text bytes ≡ Ok x → NameTakes earlier n text bytes x
unfolding name_at can_be_new
name_takes earlier zero text bytes x can e =
    subst (λ (y : List ℕ × List ℕ). NameTakes earlier 0 text bytes y) (ok_is (text, bytes) x e) (record { more = []; name_is = sym (append-nil text); parts = refl; count = refl; new = can })
name_takes earlier (suc n) text bytes x can e =
    let b = bind_ok (byte_at (λ b. can_be_new earlier n (text ++ b ∷ [])) bytes) (λ b. name_at earlier n (text ++ b.0 ∷ []) b.1) x e in
    let byte = byte_read (λ b. can_be_new earlier n (text ++ b ∷ [])) bytes b.0 b.1 in
    let rest = name_takes earlier n (text ++ b.0.0 ∷ []) b.0.1 x byte.1 b.2 in
    record {
      more = b.0.0 ∷ rest.more;
      name_is = rest.name_is ∙ append_assoc text (b.0.0 ∷ []) rest.more;
      parts = byte.0 ∙ ap (λ (r : List ℕ). b.0.0 ∷ r) rest.parts;
      count = ap suc rest.count;
      new = rest.new;
    }

pub name_again : (earlier : List Op) (text more rest : List ℕ) → is_new earlier (text ++ more) ≡ true → name_at earlier (length more) text (more ++ rest) ≡ Ok (text ++ more, rest)
unfolding name_at
name_again earlier text [] rest new = rw (append-nil text) refl
name_again earlier text (b ∷ more) rest new =
    let regrouped : (text ++ b ∷ []) ++ more ≡ text ++ b ∷ more = append_assoc text (b ∷ []) more in
    let new_there : is_new earlier ((text ++ b ∷ []) ++ more) ≡ true = rw regrouped new in
    let can : can_be_new earlier (length more) (text ++ b ∷ []) ≡ true = can_from_new earlier (text ++ b ∷ []) more new_there in
    ap (λ (r : Result (ℕ × List ℕ) ℕ). r >>= λ b. name_at earlier (length more) (text ++ b.0 ∷ []) b.1) (byte_again (λ b. can_be_new earlier (length more) (text ++ b ∷ [])) b (more ++ rest) can)
    ∙ name_again earlier (text ++ b ∷ []) more rest new_there ∙ rw regrouped refl

-- ---- verbs

pub verb_again : (v : Verb) → verb_with (verb_code v) ≡ v
verb_again Add = refl
verb_again Take = refl
verb_again Look = refl
verb_again Put = refl
verb_again Hold = refl
verb_again Free = refl

code_again : (b : ℕ) → b < 6 → verb_code (verb_with b) ≡ b
code_again zero lt = refl
code_again (suc zero) lt = refl
code_again (suc (suc zero)) lt = refl
code_again (suc (suc (suc zero))) lt = refl
code_again (suc (suc (suc (suc zero)))) lt = refl
code_again (suc (suc (suc (suc (suc zero))))) lt = refl
code_again (suc (suc (suc (suc (suc (suc b)))))) lt = absurd (omega arith)

code_is_small : (v : Verb) → nat_lt (verb_code v) 6 ≡ true
code_is_small Add = refl
code_is_small Take = refl
code_is_small Look = refl
code_is_small Put = refl
code_is_small Hold = refl
code_is_small Free = refl

takes_its_code : (q : ℕ) (v : Verb) → takes q v ≡ true → takes_code q (verb_code v) ≡ true
takes_its_code q v h = and_from (nat_lt (verb_code v) 6) (takes q (verb_with (verb_code v))) (code_is_small v) (rw (verb_again v) h)

is_subsystem : (q : ℕ) (v : Verb) → takes q v ≡ true → nat_lt q 8 ≡ true
is_subsystem q Add h = lt-ltb q 8 (let lt = ltb-true q 4 h in omega (arith, lt))
is_subsystem q Take h = lt-ltb q 8 (let lt = ltb-true q 4 h in omega (arith, lt))
is_subsystem q Look h = h
is_subsystem q Put h = lt-ltb q 8 (let lt = ltb-true q 6 (and_parts (nat_le 4 q) (nat_lt q 6) h).1 in omega (arith, lt))
is_subsystem q Hold h = (and_parts (nat_le 6 q) (nat_lt q 8) h).1
is_subsystem q Free h = (and_parts (nat_le 6 q) (nat_lt q 8) h).1

-- ---- operations

pub record OpTakes (earlier : List Op) (bytes : List ℕ) (x : Op × List ℕ) : Type 0 where
  pub parts : bytes ≡ op_bytes x.0 ++ x.1
  pub good : is_good_op x.0 ≡ true
  pub new : has_name x.0.name earlier ≡ false

-- the bytes of its parts are those of the operation
op_spelled : (bytes a b c rest : List ℕ) (n q code : ℕ) (name text : List ℕ) → bytes ≡ n ∷ a → a ≡ text ++ b → b ≡ q ∷ c → c ≡ code ∷ rest → name ≡ text → length text ≡ n → code < 6
    → bytes ≡ op_bytes (record { name = name; subsystem = q; verb = verb_with code }) ++ rest
op_spelled bytes a b c rest n q code name text e1 e2 e3 e4 e5 e6 lt =
    rw (e1, e2, e3, e4, e5, ← e6, code_again code lt) (ap (λ (r : List ℕ). length text ∷ r) (sym (append_assoc text (q ∷ code ∷ []) rest)))

pub op_takes : (earlier : List Op) (bytes : List ℕ) (x : Op × List ℕ) → op_at earlier bytes ≡ Ok x → OpTakes earlier bytes x
unfolding op_at length_at
op_takes earlier bytes x e =
    let n = bind_ok (length_at earlier bytes) (λ n. name_at earlier n.0 [] n.1 >>= λ name. byte_at (λ q. nat_lt q 8) name.1 >>= λ q. byte_at (takes_code q.0) q.1 >>= λ code. Ok (record { name = name.0; subsystem = q.0; verb = verb_with code.0 }, code.1)) x e in
    let name = bind_ok (name_at earlier n.0.0 [] n.0.1) (λ name. byte_at (λ q. nat_lt q 8) name.1 >>= λ q. byte_at (takes_code q.0) q.1 >>= λ code. Ok (record { name = name.0; subsystem = q.0; verb = verb_with code.0 }, code.1)) x n.2 in
    let q = bind_ok (byte_at (λ q. nat_lt q 8) name.0.1) (λ q. byte_at (takes_code q.0) q.1 >>= λ code. Ok (record { name = name.0.0; subsystem = q.0; verb = verb_with code.0 }, code.1)) x name.2 in
    let code = bind_ok (byte_at (takes_code q.0.0) q.0.1) (λ code. Ok (record { name = name.0.0; subsystem = q.0.0; verb = verb_with code.0 }, code.1)) x q.2 in
    let count = byte_read (λ n. nat_lt 0 n && nat_le n 32 && can_be_new earlier n []) bytes n.0 n.1 in
    let text = name_takes earlier n.0.0 [] n.0.1 name.0 (and_parts _ _ count.1).1 name.1 in
    let sub = byte_read (λ q. nat_lt q 8) name.0.1 q.0 q.1 in
    let verb = byte_read (takes_code q.0.0) q.0.1 code.0 code.1 in
    let verb_is = and_parts (nat_lt code.0.0 6) (takes q.0.0 (verb_with code.0.0)) verb.1 in
    let fresh = and_parts (is_name name.0.0) (not (has_name name.0.0 earlier)) text.new in
    let op : Op = record { name = name.0.0; subsystem = q.0.0; verb = verb_with code.0.0 } in
    let made : Op × List ℕ = (op, code.0.1) in
    let spelled = op_spelled bytes n.0.1 name.0.1 q.0.1 code.0.1 n.0.0 q.0.0 code.0.0 name.0.0 text.more count.0 text.parts sub.0 verb.0 text.name_is text.count (ltb-true _ _ verb_is.0) in
    subst (λ (y : Op × List ℕ). OpTakes earlier bytes y) (ok_is made x code.2) (record { parts = spelled; good = and_from _ _ fresh.0 verb_is.1; new = not-true _ fresh.1 })

pub name_is_short : (name : List ℕ) → is_name name ≡ true → (0 < length name) × (length name ≤ 32)
name_is_short [] h = absurd cc
name_is_short (b ∷ bs) h = (omega arith, (name_parts b bs h).2)

pub op_again : (earlier : List Op) (op : Op) (rest : List ℕ) → is_good_op op ≡ true → has_name op.name earlier ≡ false → op_at earlier (op_bytes op ++ rest) ≡ Ok (op, rest)
unfolding op_at length_at
op_again earlier op rest good fresh =
    let is = and_parts (is_name op.name) (takes op.subsystem op.verb) good in
    let short = name_is_short op.name is.0 in
    let new : is_new earlier op.name ≡ true = and_from _ _ is.0 (rw fresh refl) in
    let length_ok = and_from _ _ (and_from _ _ (lt-ltb 0 (length op.name) short.0) (le-leb (length op.name) 32 short.1)) (can_from_new earlier [] op.name new) in
    let regrouped : (op.name ++ op.subsystem ∷ verb_code op.verb ∷ []) ++ rest ≡ op.name ++ (op.subsystem ∷ verb_code op.verb ∷ rest) = append_assoc op.name (op.subsystem ∷ verb_code op.verb ∷ []) rest in
    rw (
      byte_again (λ n. nat_lt 0 n && nat_le n 32 && can_be_new earlier n []) (length op.name) ((op.name ++ op.subsystem ∷ verb_code op.verb ∷ []) ++ rest) length_ok,
      regrouped,
      name_again earlier [] op.name (op.subsystem ∷ verb_code op.verb ∷ rest) new,
      is_subsystem op.subsystem op.verb is.1,
      byte_again (takes_code op.subsystem) (verb_code op.verb) rest (takes_its_code op.subsystem op.verb is.1),
      verb_again op.verb,
    ) refl
