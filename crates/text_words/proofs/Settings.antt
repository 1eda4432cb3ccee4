-- Words that write the numbers of options, and the options of a step.
use Rattle.std.proofs.Common.{◌≡◌, ◌≤◌, ◌<◌, ◌^◌, ℕ, List, [], ◌∷◌, Bool, true, false, ◌&&◌, nat_le, nat_eq, decimal, refl, sym, arith}
use Rattle.std.specs.Bool.{⊤}
use Rattle.std.specs.Str.Parse.{digits_value}
use Rattle.std.proofs.lemmas.Bool.{and_parts, and_left, and_right, and_from, leb-true}
use Rattle.process_tree.specs.Making.{are_tries, are_refusals, has_good_options}
use Rattle.process_tree.specs.declared.step.Step.{Step}
use Rattle.process_tree.specs.declared.step.StepKind.{StepKind}
use Rattle.process_tree.specs.declared.step.StepKind.TheVariants.{C, P, R, Cr}
use Rattle.text_words.specs.declared.marks.Setting.{Setting}
use Rattle.text_words.specs.declared.marks.Setting.TheVariants.{Tries, Undo, Refuse, UndoRefuse}
use Rattle.text_words.specs.Marks.{settings, default_of, number_of, takes, is_setting_number}
use Rattle.text_words.specs.Numbers.{is_number}
use Rattle.text_words.proofs.NumberWords.{value_of_decimal, number_passes}

-- what is written for a number that the option takes passes
pub setting_passes : (x : Setting) (w : List ℕ) (n : ℕ) → n < 2 ^ 64 → w ≡ decimal n → is_number 99 w ≡ true → takes x n ≡ true → true ≡ is_setting_number x w
setting_passes x w n small e is in_range =
    sym (and_from (is_number 99 w) (takes x (digits_value 10 w)) is (rw (e, value_of_decimal n small) in_range))

-- a number that the option doesn't take fails
pub setting_fails : (x : Setting) (w : List ℕ) (n : ℕ) → n < 2 ^ 64 → w ≡ decimal n → takes x n ≡ false → false ≡ is_setting_number x w
setting_fails x w n small e out = sym (and_right (is_number 99 w) (takes x (digits_value 10 w)) (rw (e, value_of_decimal n small) out))

-- what is no number fails
pub no_number_fails : (x : Setting) (w : List ℕ) → is_number 99 w ≡ false → false ≡ is_setting_number x w
no_number_fails x w out = sym (and_left (is_number 99 w) (takes x (digits_value 10 w)) out)

-- no option takes more than 99
pub taken_is_small : (x : Setting) (n : ℕ) → takes x n ≡ true → n ≤ 99
taken_is_small Tries n e = omega (arith, leb-true n 64 (and_parts (nat_le 1 n) (nat_le n 64) e).1)
taken_is_small Undo n e = omega (arith, leb-true n 64 (and_parts (nat_le 1 n) (nat_le n 64) e).1)
taken_is_small Refuse n e = leb-true n 99 e
taken_is_small UndoRefuse n e = leb-true n 99 e

-- what is written for the number of an option passes
pub number_of_setting_passes : (x : Setting) (n : ℕ) → takes x n ≡ true → is_setting_number x (decimal n) ≡ true
number_of_setting_passes x n e =
    let small = taken_is_small x n e in
    sym (setting_passes x (decimal n) n (omega arith) refl (number_passes 99 (decimal n) n (omega arith) refl small) e)

-- each of these options has a number that it takes
abbrev pub AllTake : List Setting → Step → Type 0
AllTake [] s = ⊤
AllTake (x ∷ xs) s = (takes x (number_of x s) ≡ true) × AllTake xs s

pub four : (a b c d : Bool) → (a && b && c && d) ≡ true → (a ≡ true) × (b ≡ true) × (c ≡ true) × (d ≡ true)
four true true true true e = (refl, refl, refl, refl)
four true true true false e = absurd (cc)
four true true false d e = absurd (cc)
four true false c d e = absurd (cc)
four false b c d e = absurd (cc)

-- so it is in a step with good options
pub all_take : (k : StepKind) (s : Step) → has_good_options k s ≡ true → AllTake (settings k) s
all_take C s e =
    let parts = four (nat_eq s.tries 3) (are_tries s.undo_tries) (are_refusals s.refuse) (are_refusals s.undo_refuse) e in
    (parts.1, (parts.2, (parts.3, tt)))
all_take P s e =
    let parts = four (nat_eq s.tries 3) (nat_eq s.undo_tries 3) (are_refusals s.refuse) (nat_eq s.undo_refuse 0) e in
    (parts.2, tt)
all_take R s e =
    let parts = four (are_tries s.tries) (nat_eq s.undo_tries 3) (are_refusals s.refuse) (nat_eq s.undo_refuse 0) e in
    (parts.0, (parts.2, tt))
all_take Cr s e =
    let parts = four (are_tries s.tries) (are_tries s.undo_tries) (are_refusals s.refuse) (are_refusals s.undo_refuse) e in
    (parts.0, (parts.1, (parts.2, (parts.3, tt))))

-- where an option is left out, its number is one that it takes
pub default_is_good : (x : Setting) → takes x (default_of x) ≡ true
default_is_good Tries = refl
default_is_good Undo = refl
default_is_good Refuse = refl
default_is_good UndoRefuse = refl
