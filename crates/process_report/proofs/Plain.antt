-- Texts without some byte: names, numbers, and what is cut at that byte.
use Rattle.std.proofs.Common.{◌≡◌, ℕ, ◌≤◌, Bool, true, false, cond, not, ◌&&◌, List, [], ◌∷◌, ◌++◌, nat_eq, nat_le, length, decimal, Some, None, sym, refl, ap, ◌∙◌, arith}
use Rattle.std.specs.List.{list_all}
use Rattle.std.specs.Option.{option_map}
use Rattle.std.specs.Char.{digit_value}
use Rattle.std.specs.Str.Parse.{AllDigits, digits_value}
use Rattle.std.proofs.lemmas.Bool.{and_parts, and_from, eq-eqb, eqb-true, false≢true}
use Rattle.process_tree.specs.Name.{is_letter, is_name_byte, is_name}
use Rattle.process_text.proofs.NumberWords.{number_passes, value_of_decimal}
use Rattle.process_text.proofs.Numerals.{all_digits}
use Rattle.trace_verify.specs.Lines.{all_behind, onto_front, cut}
use Rattle.trace_verify.specs.Forms as forms

-- no such byte stands in a text
abbrev pub lacks : ℕ → List ℕ → Bool
lacks b cs = list_all (λ c. not (nat_eq c b)) cs

pub lacks-append : (b : ℕ) (v w : List ℕ) → lacks b v ≡ true → lacks b w ≡ true → lacks b (v ++ w) ≡ true
lacks-append b [] w one other = other
lacks-append b (c ∷ v) w one other =
    let parts = and_parts (not (nat_eq c b)) (lacks b v) one in and_from (not (nat_eq c b)) (lacks b (v ++ w)) parts.0 (lacks-append b v w parts.1 other)

-- a text is cut where that byte first stands
pub cut-at : (b : ℕ) (w rest : List ℕ) → lacks b w ≡ true → cut b (w ++ b ∷ rest) ≡ Some (w, rest)
cut-at b [] rest free = ap (λ t. cond t (Some (all_behind rest)) (option_map (onto_front b) (cut b rest))) (eq-eqb b b refl)
cut-at b (c ∷ w) rest free = by (nat_eq c b) (cut-at b w rest) free
  where
    by : (t : Bool) → (lacks b w ≡ true → cut b (w ++ b ∷ rest) ≡ Some (w, rest)) → (not t && lacks b w) ≡ true
        → cond t (Some (all_behind (w ++ b ∷ rest))) (option_map (onto_front c) (cut b (w ++ b ∷ rest))) ≡ Some (c ∷ w, rest)
    by true later f = absurd (cc)
    by false later f = ap (option_map (onto_front c)) (later f)

-- bytes that pass a test which that one fails
pub passing-lack : (p : ℕ → Bool) (b : ℕ) (cs : List ℕ) → p b ≡ false → list_all p cs ≡ true → lacks b cs ≡ true
passing-lack p b [] fails pass = refl
passing-lack p b (c ∷ cs) fails pass =
    let parts = and_parts (p c) (list_all p cs) pass in by (nat_eq c b) refl parts.0 (passing-lack p b cs fails parts.1)
  where
    by : (t : Bool) → nat_eq c b ≡ t → p c ≡ true → lacks b cs ≡ true → (not t && lacks b cs) ≡ true
    by true is one later = absurd (false≢true (sym fails ∙ (ap p (sym (eqb-true c b is)) ∙ one)))
    by false is one later = later

-- a name has neither spaces nor line feeds nor dots
pub name-bytes : (w : List ℕ) → is_name w ≡ true → list_all is_name_byte w ≡ true
name-bytes [] name = refl
name-bytes (c ∷ cs) name =
    (and_parts (is_letter c) (list_all is_name_byte (c ∷ cs)) (and_parts (is_letter c && list_all is_name_byte (c ∷ cs)) (nat_le (length (c ∷ cs)) 32) name).0).1

pub name-lacks : (b : ℕ) (w : List ℕ) → is_name_byte b ≡ false → is_name w ≡ true → lacks b w ≡ true
name-lacks b w fails name = passing-lack is_name_byte b w fails (name-bytes w name)

-- nor has a number
digits-lack : (b : ℕ) (cs : List ℕ) → 10 ≤ digit_value b → AllDigits 10 cs → lacks b cs ≡ true
digits-lack b [] none digits = refl
digits-lack b (c ∷ cs) none digits = by (nat_eq c b) refl (digits-lack b cs none digits.1)
  where
    by : (t : Bool) → nat_eq c b ≡ t → lacks b cs ≡ true → (not t && lacks b cs) ≡ true
    by true is later = let same : digit_value c ≡ digit_value b = ap digit_value (eqb-true c b is) in absurd (omega (arith, digits.0, same, none))
    by false is later = later

pub number-lacks : (b n : ℕ) → 10 ≤ digit_value b → n ≤ 4294967295 → lacks b (decimal n) ≡ true
number-lacks b n none small = digits-lack b (decimal n) none (all_digits n (omega (arith, small)))

-- a number is read back
pub number-is : (n : ℕ) → n ≤ 4294967295 → forms.is_number (decimal n) ≡ true
number-is n small = number_passes 4294967295 (decimal n) n (omega (arith, small)) refl small

pub number-read : (n : ℕ) → n ≤ 4294967295 → forms.number_of (decimal n) ≡ Some n
number-read n small =
    ap (λ t. cond t (Some (digits_value 10 (decimal n))) None) (number-is n small) ∙ ap Some (value_of_decimal n (omega (arith, small)))
