-- Reading one thing after the other, as loops do: a step, an end, and what is there at last.
use Rattle.std.proofs.Common.{◌≡◌, ℕ, suc, ◌+◌, ◌-◌, ◌<◌, ◌≤◌, Bool, true, false, cond, List, [], ◌∷◌, ◌++◌, length, get_or, take, drop, Result, Ok, Err, refl, sym, ◌∙◌, arith}
use Rattle.std.specs.List.{list_any}
use Rattle.std.proofs.lemmas.List.{drop_more, take_more, drop_all, length-drop}
use Rattle.commute_table.specs.declared.op.Op.{Op}
use Rattle.commute_table.specs.declared.reading.Fault.{Fault}
use Rattle.commute_table.specs.declared.reading.Fault.TheVariants.{Memory, Left}
use Rattle.commute_table.specs.Reading.{◌>>=◌, Fails, can_be_new, name_at, op_at, ops_at}

-- ---- some byte passes

pub any_here : (p : ℕ → Bool) (xs : List ℕ) (i : ℕ) (all : Bool) → i < length xs → p (get_or xs i 0) ≡ true → list_any p (drop i xs) ≡ all → true ≡ all
any_here p xs i all lt e h = (rw (drop_more xs i 0 lt, e) refl) ∙ h

pub any_later : (p : ℕ → Bool) (xs : List ℕ) (i : ℕ) (all : Bool) → i < length xs → p (get_or xs i 0) ≡ false → list_any p (drop i xs) ≡ all → list_any p (drop (i + 1) xs) ≡ all
any_later p xs i all lt e h = (rw (drop_more xs i 0 lt, e) refl) ∙ h

pub any_none : (p : ℕ → Bool) (xs : List ℕ) (i : ℕ) (all : Bool) → length xs ≤ i → list_any p (drop i xs) ≡ all → false ≡ all
any_none p xs i all le h = (rw (drop_all i xs le) refl) ∙ h

-- ---- the bytes of a name

after_byte : {B : Type 0} (ok : Bool) (b left : ℕ) (bs : List ℕ) (f : ℕ × List ℕ → Result B ℕ) → (cond ok (Ok (b, bs)) (Err left) >>= f) ≡ cond ok (f (b, bs)) (Err left)
after_byte true b left bs f = refl
after_byte false b left bs f = refl

-- one byte of a name
name_step : (earlier : List Op) (count place : ℕ) (bytes : List ℕ) → place < count → place < length bytes
    → name_at earlier (count - place) (take place bytes) (drop place bytes)
    ≡ cond (can_be_new earlier (count - place - 1) (take (place + 1) bytes)) (name_at earlier (count - (place + 1)) (take (place + 1) bytes) (drop (place + 1) bytes)) (Err (length bytes - place))
unfolding name_at
name_step earlier count place bytes lt within =
    let k : count - place ≡ suc (count - (place + 1)) = omega arith in
    let j : count - place - 1 ≡ count - (place + 1) = omega arith in
    let left : suc (length (drop (place + 1) bytes)) ≡ length bytes - place = omega (arith, length-drop (place + 1) bytes) in
    rw (j, k, drop_more bytes place 0 within, take_more bytes place 0 within, ← left)
    (after_byte (can_be_new earlier (count - (place + 1)) (take place bytes ++ get_or bytes place 0 ∷ [])) (get_or bytes place 0) (suc (length (drop (place + 1) bytes))) (drop (place + 1) bytes)
    (λ b. name_at earlier (count - (place + 1)) (take place bytes ++ b.0 ∷ []) b.1))

pub name_goes_on : (earlier : List Op) (count place : ℕ) (bytes : List ℕ) (total : Result (List ℕ × List ℕ) ℕ) → place < count → place < length bytes → can_be_new earlier (count - place - 1) (take (place + 1) bytes) ≡ true
    → name_at earlier (count - place) (take place bytes) (drop place bytes) ≡ total
    → name_at earlier (count - (place + 1)) (take (place + 1) bytes) (drop (place + 1) bytes) ≡ total
name_goes_on earlier count place bytes total lt within can h = sym (name_step earlier count place bytes lt within ∙ rw can refl) ∙ h

pub name_refused : (earlier : List Op) (count place : ℕ) (bytes : List ℕ) (total : Result (List ℕ × List ℕ) ℕ) → place < count → place < length bytes → can_be_new earlier (count - place - 1) (take (place + 1) bytes) ≡ false
    → name_at earlier (count - place) (take place bytes) (drop place bytes) ≡ total → total ≡ Err (length bytes - place)
name_refused earlier count place bytes total lt within can h = sym h ∙ name_step earlier count place bytes lt within ∙ rw can refl

pub name_cut : (earlier : List Op) (count place : ℕ) (bytes : List ℕ) (total : Result (List ℕ × List ℕ) ℕ) → place < count → length bytes ≤ place
    → name_at earlier (count - place) (take place bytes) (drop place bytes) ≡ total → total ≡ Err 0
unfolding name_at
name_cut earlier count place bytes total lt le h =
    let k : count - place ≡ suc (count - (place + 1)) = omega arith in
    sym h ∙ rw (k, drop_all place bytes le) refl

pub name_done : (earlier : List Op) (count place : ℕ) (bytes : List ℕ) (total : Result (List ℕ × List ℕ) ℕ) → count ≤ place → place ≤ count
    → name_at earlier (count - place) (take place bytes) (drop place bytes) ≡ total → total ≡ Ok (take count bytes, drop count bytes)
unfolding name_at
name_done earlier count place bytes total le ge h =
    let same : place ≡ count = omega arith in
    let k : count - count ≡ 0 = omega arith in
    sym h ∙ rw (same, k) refl

-- ---- operations

pub ops_go_on : (count i : ℕ) (ops : List Op) (op : Op) (bytes after : List ℕ) (total : Result (List Op × List ℕ) ℕ) → i < count → op_at ops bytes ≡ Ok (op, after)
    → ops_at (count - i) ops bytes ≡ total → ops_at (count - (i + 1)) (ops ++ op ∷ []) after ≡ total
unfolding ops_at
ops_go_on count i ops op bytes after total lt e h =
    let k : count - i ≡ suc (count - (i + 1)) = omega arith in
    let one : ops_at (count - i) ops bytes ≡ ops_at (count - (i + 1)) (ops ++ op ∷ []) after = rw (k, e) refl in
    sym one ∙ h

pub ops_end : (e : Fault) (count i : ℕ) (ops : List Op) (bytes : List ℕ) (total : Result (List Op × List ℕ) ℕ) → i < count → Fails e (op_at ops bytes)
    → ops_at (count - i) ops bytes ≡ total → Fails e total
unfolding ops_at
ops_end Memory count i ops bytes total lt e h = tt
ops_end (Left n) count i ops bytes total lt e h =
    let k : count - i ≡ suc (count - (i + 1)) = omega arith in
    let one : ops_at (count - i) ops bytes ≡ Err n = rw (k, e) refl in
    sym h ∙ one

pub ops_done : (count i : ℕ) (ops : List Op) (bytes : List ℕ) (total : Result (List Op × List ℕ) ℕ) → count ≤ i
    → ops_at (count - i) ops bytes ≡ total → total ≡ Ok (ops, bytes)
unfolding ops_at
ops_done count i ops bytes total le h =
    let k : count - i ≡ 0 = omega arith in
    sym h ∙ rw k refl
