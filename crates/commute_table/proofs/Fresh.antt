-- Names and operations that can still come: each beginning that can become a new name does, and operations can be filled up.
use Rattle.std.proofs.Common.{◌≡◌, ℕ, zero, suc, ◌+◌, ◌<◌, ◌≤◌, Bool, true, false, not, List, [], ◌∷◌, ◌++◌, length, get_or, refl, sym, ap, ◌∙◌, arith, inl, inr}
use Rattle.std.specs.Prelude.{replicate, ◌/◌, ◌%◌}
use Rattle.std.specs.List.{list_any, list_all}
use Rattle.std.proofs.lemmas.Bool.{and_parts, cases_Bool, le-leb, not-true, and_from}
use Rattle.std.proofs.lemmas.List.{length-append, append-nil, length-replicate}
use Rattle.std.proofs.lemmas.List.Folds.{list_all-append}
use Rattle.process_tree.specs.Name.{is_letter, is_name_byte, is_name}
use Rattle.commute_table.specs.declared.op.Op.{Op}
use Rattle.commute_table.specs.declared.op.Verb.TheVariants.{Add}
use Rattle.commute_table.specs.Operations.{has_name, is_good_op, differ_from}
use Rattle.commute_table.specs.Reading.{is_new, begins_name, name_bytes, can_be_new}
use Rattle.commute_table.proofs.Texts.{name_parts, name_made, one_is_free}

-- some element passes
any_found : (p : ℕ → Bool) (xs : List ℕ) → list_any p xs ≡ true → (b : ℕ) × (p b ≡ true)
any_found p [] e = absurd cc
any_found p (x ∷ xs) e =
    elim (cases_Bool (p x)) [
      | inl here ↦ (x, here)
      | inr other ↦ any_found p xs (sym (rw other refl) ∙ e)
    ]

-- a letter is a byte of names
letter_counts : (b : ℕ) → is_letter b ≡ true → is_name_byte b ≡ true
letter_counts b h = rw h refl

letters_count : (bs : List ℕ) → list_all is_letter bs ≡ true → list_all is_name_byte bs ≡ true
letters_count [] h = refl
letters_count (b ∷ bs) h =
    let parts = and_parts (is_letter b) (list_all is_letter bs) h in
    and_from _ _ (letter_counts b parts.0) (letters_count bs parts.1)

-- a beginning with letters behind it is a name
name_with_letters : (text tail : List ℕ) → begins_name text ≡ true → list_all is_letter tail ≡ true → 0 < length tail → length (text ++ tail) ≤ 32 → is_name (text ++ tail) ≡ true
name_with_letters [] [] h t some le = absurd (omega arith)
name_with_letters [] (c ∷ tail) h t some le = name_made c tail (and_parts (is_letter c) (list_all is_letter tail) t).0 (letters_count (c ∷ tail) t) le
name_with_letters (b ∷ bs) tail h t some le =
    let parts = name_parts b bs h in
    name_made b (bs ++ tail) parts.0 (list_all-append is_name_byte (b ∷ bs) tail ∙ and_from _ _ parts.1 (letters_count tail t)) le

-- many tails of letters
tail_of : ℕ → ℕ → List ℕ
tail_of more k = (97 + k / 26) ∷ (97 + k % 26) ∷ replicate more 97

all_a : (more : ℕ) → list_all is_letter (replicate more 97) ≡ true
all_a zero = refl
all_a (suc more) = all_a more

is_small : (b : ℕ) → 97 ≤ b → b ≤ 122 → is_letter b ≡ true
is_small b low high = and_from _ _ (le-leb 97 b low) (le-leb b 122 high)

tail_has_letters : (more k : ℕ) → k < 256 → list_all is_letter (tail_of more k) ≡ true
unfolding tail_of
tail_has_letters more k lt = and_from _ _ (is_small (97 + k / 26) (omega arith) (omega arith)) (and_from _ _ (is_small (97 + k % 26) (omega arith) (omega arith)) (all_a more))

cancel_front : (text xs ys : List ℕ) → text ++ xs ≡ text ++ ys → xs ≡ ys
cancel_front [] xs ys e = e
cancel_front (b ∷ text) xs ys e = cancel_front text xs ys cc

tails_differ : (text : List ℕ) (more i j : ℕ) → text ++ tail_of more i ≡ text ++ tail_of more j → i ≡ j
unfolding tail_of
tails_differ text more i j e =
    let same = cancel_front text _ _ e in
    let first : 97 + i / 26 ≡ 97 + j / 26 = ap (λ (xs : List ℕ). get_or xs 0 0) same in
    let second : 97 + i % 26 ≡ 97 + j % 26 = ap (λ (xs : List ℕ). get_or xs 1 0) same in
    omega (arith, first, second)

tail_length : (more k : ℕ) → length (tail_of more k) ≡ suc (suc more)
unfolding tail_of
tail_length more k = ap suc (ap suc (length-replicate more 97))

-- what can become a new name does with some more bytes
pub can_complete : (earlier : List Op) (more : ℕ) (text : List ℕ) → can_be_new earlier more text ≡ true → length text + more ≤ 32 → length earlier < 256 → (rest : List ℕ) × (length rest ≡ more) × (is_new earlier (text ++ rest) ≡ true)
unfolding can_be_new
can_complete earlier zero text h le few = ([], refl, rw append-nil h)
can_complete earlier (suc zero) text h le few =
    let found = any_found (λ b. is_new earlier (text ++ b ∷ [])) name_bytes h in
    (found.0 ∷ [], refl, found.1)
can_complete earlier (suc (suc more)) text h le few =
    let free = one_is_free (λ k. text ++ tail_of more k) earlier 256 (λ i j e li lj. tails_differ text more i j e) few in
    let tail = tail_of more free.0 in
    let long = tail_length more free.0 in
    let name = name_with_letters text tail h (tail_has_letters more free.0 free.1) (omega (arith, long)) (omega (arith, long, length-append text tail)) in
    (tail, long, and_from _ _ name (rw free.2 refl))

-- an operation of a new name
abbrev pub op_named : List ℕ → Op
op_named name = record { name = name; subsystem = 0; verb = Add }

-- operations that can follow
pub record Follows (earlier ops : List Op) (count : ℕ) : Type 0 where
  pub count_is : length ops ≡ count
  pub good : list_all is_good_op ops ≡ true
  pub own_names : differ_from earlier ops ≡ true

-- a new operation, and such as can follow it
pub follows_more : (earlier : List Op) (op : Op) (ops : List Op) (count : ℕ) → is_good_op op ≡ true → has_name op.name earlier ≡ false → Follows (earlier ++ op ∷ []) ops count → Follows earlier (op ∷ ops) (suc count)
follows_more earlier op ops count good new rest = record {
  count_is = ap suc rest.count_is;
  good = and_from _ _ good rest.good;
  own_names = and_from _ _ (rw new refl) rest.own_names;
}

-- as many operations as there is room for can follow
pub fill : (count : ℕ) (earlier : List Op) → length earlier + count ≤ 256 → (ops : List Op) × Follows earlier ops count
unfolding can_be_new
fill zero earlier le = ([], record { count_is = refl; good = refl; own_names = refl })
fill (suc count) earlier le =
    let name = can_complete earlier 2 [] refl (omega arith) (omega arith) in
    let op = op_named name.0 in
    let is = and_parts (is_name name.0) (not (has_name name.0 earlier)) name.2 in
    let rest = fill count (earlier ++ op ∷ []) (omega (arith, length-append earlier (op ∷ []))) in
    (op ∷ rest.0, follows_more earlier op rest.0 count (and_from _ _ is.0 refl) (not-true _ is.1) rest.1)
