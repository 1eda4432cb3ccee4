-- Where reading a catalog stops, some catalog's bytes begin so.
use Rattle.std.proofs.Common.{◌≡◌, ℕ, zero, suc, ◌+◌, ◌<◌, ◌≤◌, Bool, true, false, not, ◌&&◌, List, [], ◌∷◌, ◌++◌, length, Result, Ok, Err, refl, sym, ap, ◌∙◌, subst, append_assoc, arith, inl, inr}
use Rattle.std.specs.Prelude.{nat_lt, nat_le}
use Rattle.std.proofs.lemmas.Bool.{and_parts, cases_Bool, leb-true, not-true, and_from}
use Rattle.std.proofs.lemmas.List.{length-append, append-nil}
use Rattle.process_tree.specs.Name.{is_name}
use Rattle.commute_table.specs.declared.op.Op.{Op}
use Rattle.commute_table.specs.declared.op.Verb.TheVariants.{Look}
use Rattle.commute_table.specs.Operations.{takes, has_name, is_good_op}
use Rattle.commute_table.specs.Bytes.{op_bytes}
use Rattle.commute_table.specs.Reading.{◌>>=◌, byte_at, is_new, can_be_new, length_at, name_at, verb_with, takes_code, op_at}
use Rattle.commute_table.proofs.Stops.{bind_err}
use Rattle.commute_table.proofs.Fresh.{can_complete, op_named}
use Rattle.commute_table.proofs.OpLaws.{byte_read, name_takes}

-- up to the place where so many bytes are left, a word begins as the bytes do
pub record Begun (L : List ℕ → Type 0) (bytes : List ℕ) (left : ℕ) : Type 0 where
  pub front : List ℕ
  pub back : List ℕ
  pub parts : bytes ≡ front ++ back
  pub left_is : length back ≡ left
  pub more : List ℕ
  pub word : L (front ++ more)

-- the same behind what was read
pub begun_after : (L : List ℕ → Type 0) (bytes text rest : List ℕ) (left : ℕ) → bytes ≡ text ++ rest → Begun (λ w. L (text ++ w)) rest left → Begun L bytes left
begun_after L bytes text rest left e b = record {
  front = text ++ b.front;
  back = b.back;
  parts = e ∙ ap (λ (r : List ℕ). text ++ r) b.parts ∙ sym (append_assoc text b.front b.back);
  left_is = b.left_is;
  more = b.more;
  word = subst L (sym (append_assoc text b.front b.more)) b.word;
}

-- a word that goes on
pub begun_longer : (L M : List ℕ → Type 0) (tail : List ℕ) (bytes : List ℕ) (left : ℕ) → ((w : List ℕ) → L w → M (w ++ tail)) → Begun L bytes left → Begun M bytes left
begun_longer L M tail bytes left f b = record {
  front = b.front;
  back = b.back;
  parts = b.parts;
  left_is = b.left_is;
  more = b.more ++ tail;
  word = subst M (append_assoc b.front b.more tail) (f (b.front ++ b.more) b.word);
}

pub not_err : {A : Type 0} (x : A) (left : ℕ) → (let r : Result A ℕ = Ok x in r ≡ Err left) → ⊥
not_err x left e = cc

-- an operation that isn't read
abbrev made_err : ℕ → Result (Op × List ℕ) ℕ
made_err left = Err left

pub left_of : {A : Type 0} (m n : ℕ) → (let r : Result A ℕ = Err m in r ≡ Err n) → m ≡ n
left_of m n e = cc

-- where the next byte is refused, what stands there may be any word
pub byte_begun : (L : List ℕ → Type 0) (ok : ℕ → Bool) (bytes word : List ℕ) (left : ℕ) → byte_at ok bytes ≡ Err left → L word → Begun L bytes left
byte_begun L ok [] word left e is = record { front = []; back = []; parts = refl; left_is = cc; more = word; word = is }
byte_begun L ok (b ∷ bs) word left e is =
    elim (cases_Bool (ok b)) [
      | inl good ↦ absurd (not_err (b, bs) left (sym (rw good refl) ∙ e))
      | inr bad ↦ record { front = []; back = b ∷ bs; parts = refl; left_is = left_of {A = ℕ × List ℕ} (suc (length bs)) left (sym (rw bad refl) ∙ e); more = word; word = is }
    ]

-- ---- operations

-- the bytes that can make the text a new name
abbrev pub Completes : List Op → ℕ → List ℕ → List ℕ → Type 0
Completes earlier n text w = (length w ≡ n) × (is_new earlier (text ++ w) ≡ true)

pub name_begun : (earlier : List Op) (n : ℕ) (text bytes : List ℕ) (left : ℕ) → length earlier < 256 → length text + n ≤ 32 → can_be_new earlier n text ≡ true → name_at earlier n text bytes ≡ Err left → Begun (Completes earlier n text) bytes left
unfolding name_at
name_begun earlier zero text bytes left few le can e = absurd (not_err (text, bytes) left e)
name_begun earlier (suc n) text bytes left few le can e =
    elim (bind_err (byte_at (λ b. can_be_new earlier n (text ++ b ∷ [])) bytes) (λ b. name_at earlier n (text ++ b.0 ∷ []) b.1) left e) [
      | inl d ↦
          let rest = can_complete earlier (suc n) text can le few in
          byte_begun (Completes earlier (suc n) text) (λ b. can_be_new earlier n (text ++ b ∷ [])) bytes rest.0 left d (rest.1, rest.2)
      | inr d ↦
          let byte = byte_read (λ b. can_be_new earlier n (text ++ b ∷ [])) bytes d.0 d.1 in
          let later = name_begun earlier n (text ++ d.0.0 ∷ []) d.0.1 left few (omega (arith, length-append text (d.0.0 ∷ []))) byte.1 d.2 in
          begun_after (Completes earlier (suc n) text) bytes (d.0.0 ∷ []) d.0.1 left byte.0
          (begun_longer (Completes earlier n (text ++ d.0.0 ∷ [])) (λ w. Completes earlier (suc n) text (d.0.0 ∷ w)) [] d.0.1 left (λ w h. (ap suc (ap length (append-nil w) ∙ h.0), subst (λ (v : List ℕ). is_new earlier (text ++ d.0.0 ∷ v) ≡ true) (sym (append-nil w)) (subst (λ (v : List ℕ). is_new earlier v ≡ true) (append_assoc text (d.0.0 ∷ []) w) h.1))) later)
    ]

-- the bytes of an operation that can follow
abbrev pub IsOpBytes : List Op → List ℕ → Type 0
IsOpBytes earlier w = (op : Op) × (is_good_op op ≡ true) × (has_name op.name earlier ≡ false) × (w ≡ op_bytes op)

-- a new name, with any subsystem and a verb of it
new_op : (earlier : List Op) (op : Op) → is_new earlier op.name ≡ true → takes op.subsystem op.verb ≡ true → IsOpBytes earlier (op_bytes op)
new_op earlier op new verb =
    let is = and_parts (is_name op.name) (not (has_name op.name earlier)) new in
    (op, and_from _ _ is.0 verb, not-true _ is.1, refl)

abbrev op_look : List ℕ → ℕ → Op
op_look name q = record { name = name; subsystem = q; verb = Look }

-- the same words
pub begun_same : (L M : List ℕ → Type 0) (bytes : List ℕ) (left : ℕ) → ((w : List ℕ) → L w → M w) → Begun L bytes left → Begun M bytes left
begun_same L M bytes left f b = record { front = b.front; back = b.back; parts = b.parts; left_is = b.left_is; more = b.more; word = f (b.front ++ b.more) b.word }

-- behind the subsystem
verb_begun : (earlier : List Op) (name : List ℕ) (q : ℕ) (bytes : List ℕ) (left : ℕ) → is_new earlier name ≡ true → nat_lt q 8 ≡ true
    → (byte_at (takes_code q) bytes >>= λ code. Ok (record { name = name; subsystem = q; verb = verb_with code.0 }, code.1)) ≡ made_err left
    → Begun (λ w. IsOpBytes earlier (length name ∷ (name ++ q ∷ w))) bytes left
verb_begun earlier name q bytes left new lt e =
    elim (bind_err (byte_at (takes_code q) bytes) (λ code. Ok (record { name = name; subsystem = q; verb = verb_with code.0 }, code.1)) left e) [
      | inl d ↦ byte_begun (λ w. IsOpBytes earlier (length name ∷ (name ++ q ∷ w))) (takes_code q) bytes (2 ∷ []) left d (new_op earlier (op_look name q) new lt)
      | inr d ↦ absurd (not_err {A = Op × List ℕ} _ left d.2)
    ]

-- behind the name
subsystem_begun : (earlier : List Op) (name : List ℕ) (bytes : List ℕ) (left : ℕ) → is_new earlier name ≡ true
    → (byte_at (λ q. nat_lt q 8) bytes >>= λ q. byte_at (takes_code q.0) q.1 >>= λ code. Ok (record { name = name; subsystem = q.0; verb = verb_with code.0 }, code.1)) ≡ made_err left
    → Begun (λ w. IsOpBytes earlier (length name ∷ (name ++ w))) bytes left
subsystem_begun earlier name bytes left new e =
    elim (bind_err (byte_at (λ q. nat_lt q 8) bytes) (λ q. byte_at (takes_code q.0) q.1 >>= λ code. Ok (record { name = name; subsystem = q.0; verb = verb_with code.0 }, code.1)) left e) [
      | inl d ↦ byte_begun (λ w. IsOpBytes earlier (length name ∷ (name ++ w))) (λ q. nat_lt q 8) bytes (0 ∷ 0 ∷ []) left d (new_op earlier (op_named name) new refl)
      | inr d ↦
          let byte = byte_read (λ q. nat_lt q 8) bytes d.0 d.1 in
          begun_after (λ w. IsOpBytes earlier (length name ∷ (name ++ w))) bytes (d.0.0 ∷ []) d.0.1 left byte.0 (verb_begun earlier name d.0.0 d.0.1 left new byte.1 d.2)
    ]

-- behind the length of the name
text_begun : (earlier : List Op) (n : ℕ) (bytes : List ℕ) (left : ℕ) → length earlier < 256 → n ≤ 32 → can_be_new earlier n [] ≡ true
    → (name_at earlier n [] bytes >>= λ name. byte_at (λ q. nat_lt q 8) name.1 >>= λ q. byte_at (takes_code q.0) q.1 >>= λ code. Ok (record { name = name.0; subsystem = q.0; verb = verb_with code.0 }, code.1)) ≡ made_err left
    → Begun (λ w. IsOpBytes earlier (n ∷ w)) bytes left
text_begun earlier n bytes left few le can e =
    elim (bind_err (name_at earlier n [] bytes) (λ name. byte_at (λ q. nat_lt q 8) name.1 >>= λ q. byte_at (takes_code q.0) q.1 >>= λ code. Ok (record { name = name.0; subsystem = q.0; verb = verb_with code.0 }, code.1)) left e) [
      | inl d ↦ begun_longer (Completes earlier n []) (λ w. IsOpBytes earlier (n ∷ w)) (0 ∷ 0 ∷ []) bytes left (λ w h. subst (λ (k : ℕ). IsOpBytes earlier (k ∷ (w ++ 0 ∷ 0 ∷ []))) h.0 (new_op earlier (op_named w) h.1 refl)) (name_begun earlier n [] bytes left few (omega arith) can d)
      | inr d ↦
          let text = name_takes earlier n [] bytes d.0 can d.1 in
          let name_is : d.0.0 ≡ text.more = text.name_is in
          let long : length d.0.0 ≡ n = ap length name_is ∙ text.count in
          begun_after (λ w. IsOpBytes earlier (n ∷ w)) bytes text.more d.0.1 left text.parts
          (begun_same (λ w. IsOpBytes earlier (length d.0.0 ∷ (d.0.0 ++ w))) (λ w. IsOpBytes earlier (n ∷ (text.more ++ w))) d.0.1 left
          (λ w h. subst (λ (k : ℕ). IsOpBytes earlier (k ∷ (text.more ++ w))) long (subst (λ (t : List ℕ). IsOpBytes earlier (length d.0.0 ∷ (t ++ w))) name_is h))
          (subsystem_begun earlier d.0.0 d.0.1 left text.new d.2))
    ]

pub op_begun : (earlier : List Op) (bytes : List ℕ) (left : ℕ) → length earlier < 256 → op_at earlier bytes ≡ Err left → Begun (IsOpBytes earlier) bytes left
unfolding op_at length_at can_be_new
op_begun earlier bytes left few e =
    elim (bind_err (length_at earlier bytes) (λ n. name_at earlier n.0 [] n.1 >>= λ name. byte_at (λ q. nat_lt q 8) name.1 >>= λ q. byte_at (takes_code q.0) q.1 >>= λ code. Ok (record { name = name.0; subsystem = q.0; verb = verb_with code.0 }, code.1)) left e) [
      | inl d ↦
          let name = can_complete earlier 2 [] refl (omega arith) few in
          byte_begun (IsOpBytes earlier) (λ n. nat_lt 0 n && nat_le n 32 && can_be_new earlier n []) bytes (op_bytes (op_named name.0)) left d (new_op earlier (op_named name.0) name.2 refl)
      | inr d ↦
          let byte = byte_read (λ n. nat_lt 0 n && nat_le n 32 && can_be_new earlier n []) bytes d.0 d.1 in
          let tests = and_parts (nat_lt 0 d.0.0 && nat_le d.0.0 32) (can_be_new earlier d.0.0 []) byte.1 in
          let short = and_parts (nat_lt 0 d.0.0) (nat_le d.0.0 32) tests.0 in
          begun_after (IsOpBytes earlier) bytes (d.0.0 ∷ []) d.0.1 left byte.0 (text_begun earlier d.0.0 d.0.1 left few (leb-true _ _ short.1) tests.1 d.2)
    ]
