-- What is refused of an input, by its tests.
use Rattle.std.proofs.Common.{◌≡◌, ◌≤◌, ◌<◌, ◌⊎◌, ℕ, nat_lt, List, ◌∷◌, length, Bool, true, false, Option, Some, None, IfSome, refl, sym, subst, inl, inr, if◌then◌else◌, arith}
use Rattle.std.proofs.lemmas.Bool.Decides.{nat_tests}
use Rattle.process_text.specs.Places.{text_error}
use Rattle.process_text.specs.declared.error.TextError.{TextError}
use Rattle.process_text.specs.declared.error.TextError.TheVariants as errors
use Rattle.command_refusals.specs.declared.faults.Quantity.TheVariants as quantities
use Rattle.command_refusals.specs.declared.refusal.Refusal.{Refusal}
use Rattle.command_refusals.specs.declared.refusal.Refusal.TheVariants.{Text, Limit}
use Rattle.command_input.specs.Inputs.{Input, most_input, first_refusal, too_long, text_tests, text_refusal, HasNoText, IsRefused}

-- what is known of the text that was read is known of the input
pub on_input : (left : Option (List ℕ)) (text : List ℕ) (P : List ℕ → Type 0) → IfSome left (λ given. text ≡ given) → length text ≤ most_input → P text
    → IfSome left (λ given. (length given ≤ most_input) × P given)
on_input None text P all within is = tt
on_input (Some given) text P all within is = rw (← all) (within, is)

over_by : (text : List ℕ) (over : Bool) → nat_lt most_input (length text) ≡ over → most_input < length text
    → (if over then Some (Limit quantities.Input 1048577) else None) ≡ Some (Limit quantities.Input 1048577)
over_by text true is more = refl
over_by text false is more = absurd (grind (arith, nat_tests))

within_by : (text : List ℕ) (over : Bool) → nat_lt most_input (length text) ≡ over → length text ≤ most_input
    → (if over then Some (Limit quantities.Input 1048577) else None) ≡ None
within_by text true is within = absurd (grind (arith, nat_tests))
within_by text false is within = refl

-- a text with more bytes than may be is too long, and another isn't
pub is_too_long : (text : List ℕ) → most_input < length text → too_long text ≡ Some (Limit quantities.Input 1048577)
is_too_long text more = over_by text (nat_lt most_input (length text)) refl more

pub is_within : (text : List ℕ) → length text ≤ most_input → too_long text ≡ None
is_within text within = within_by text (nat_lt most_input (length text)) refl within

over_first : (more : List ℕ → List (Option Refusal)) (left : Option (List ℕ)) → IfSome left (λ text. most_input < length text)
    → IfSome left (λ text. first_refusal (too_long text ∷ more text) ≡ Some (Limit quantities.Input 1048577))
over_first more None over = tt
over_first more (Some text) over = rw (is_too_long text over) refl

-- where no text came, this is what the tests of any input refuse first
pub no_text_refused : (more : List ℕ → List (Option Refusal)) (r : Refusal) (before after : Input) → HasNoText r before after → IsRefused (λ text. too_long text ∷ more text) r before after
no_text_refused more r before after (inl long) =
    subst (λ (e : Refusal). IsRefused (λ text. too_long text ∷ more text) e before after) (sym long.0) (refl, over_first more before.left long.1)
no_text_refused more r before after (inr (inl fault)) = subst (λ (e : Refusal). IsRefused (λ text. too_long text ∷ more text) e before after) (sym fault.0) fault.1
no_text_refused more r before after (inr (inr memory)) = subst (λ (e : Refusal). IsRefused (λ text. too_long text ∷ more text) e before after) (sym memory) tt

-- the fault of a text within the limit comes first
fault_first : (text : List ℕ) (e : TextError) → length text ≤ most_input → text_error text ≡ Some e → first_refusal (text_tests text) ≡ Some (Text e)
fault_first text e within fault = rw (is_within text within, fault) refl

given_first : (left : Option (List ℕ)) (text : List ℕ) (e : TextError) → IfSome left (λ given. text ≡ given) → length text ≤ most_input → text_error text ≡ Some e
    → IfSome left (λ given. first_refusal (text_tests given) ≡ Some (Text e))
given_first None text e all within fault = tt
given_first (Some given) text e all within fault = subst (λ (t : List ℕ). first_refusal (text_tests t) ≡ Some (Text e)) all (fault_first text e within fault)

-- a text that was read as none is refused
pub text_refused : (before after : Input) (text : List ℕ) (e : TextError) → IfSome before.left (λ given. text ≡ given) → length text ≤ most_input → (e ≡ errors.NoMemory) ⊎ (text_error text ≡ Some e)
    → IsRefused text_tests (text_refusal e) before after
text_refused before after text (errors.BadText l c x) all within (inl memory) = absurd (cc)
text_refused before after text (errors.BadText l c x) all within (inr fault) = (refl, given_first before.left text (errors.BadText l c x) all within fault)
text_refused before after text (errors.Limit what n) all within (inl memory) = absurd (cc)
text_refused before after text (errors.Limit what n) all within (inr fault) = (refl, given_first before.left text (errors.Limit what n) all within fault)
text_refused before after text (errors.SameName l name) all within (inl memory) = absurd (cc)
text_refused before after text (errors.SameName l name) all within (inr fault) = (refl, given_first before.left text (errors.SameName l name) all within fault)
text_refused before after text errors.NoMemory all within why = tt
