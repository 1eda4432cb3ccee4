-- The least of what several give.
use Rattle.std.proofs.Common.{◌≡◌, Bool, true, false, List, [], ◌∷◌, ◌++◌, map, flat_map, Option, Some, None, sym, refl, ap, ◌∙◌}
use Rattle.process_tree.specs.Order.{Each}
use Rattle.process_tree.specs.declared.entry.Entry.{Entry}
use Rattle.schedule_model.specs.Conflict.{ConflictRelation, conflict}
use Rattle.schedule_model.specs.Blocking.{Clash}
use Rattle.machine_model.specs.declared.blocked.Blocked.{Blocked}
use Rattle.machine_model.specs.declared.blocked.Rule.{Rule}
use Rattle.machine_model.specs.Blocks.{by_rule, least_block}
use Rattle.admission.specs.Least.{block_on, least_on, least_over, least_with, lesser_of}
use Rattle.admission.proofs.Order.{either, least-append, middle, thrice}

pub over-append : {A : Type 0} (f : A → Option Blocked) (xs ys : List A) → least_over f (xs ++ ys) ≡ lesser_of (least_over f xs) (least_over f ys)
over-append f [] ys = refl
over-append f (x ∷ xs) ys = ap (lesser_of (f x)) (over-append f xs ys) ∙ sym (thrice (f x) (least_over f xs) (least_over f ys))

-- what gives two, gives the lesser of what each gives
pub over-both : {A : Type 0} (f g : A → Option Blocked) (xs : List A) → lesser_of (least_over f xs) (least_over g xs) ≡ least_over (λ x. lesser_of (f x) (g x)) xs
over-both f g [] = refl
over-both f g (x ∷ xs) = middle (f x) (least_over f xs) (g x) (least_over g xs) ∙ ap (lesser_of (lesser_of (f x) (g x))) (over-both f g xs)

pub over-none : {A : Type 0} (f : A → Option Blocked) (xs : List A) → ((x : A) → f x ≡ None) → least_over f xs ≡ None
over-none f [] none = refl
over-none f (x ∷ xs) none = ap (λ o. lesser_of o (least_over f xs)) (none x) ∙ over-none f xs none

pub over-same : {A : Type 0} (f g : A → Option Blocked) (xs : List A) → ((x : A) → f x ≡ g x) → least_over f xs ≡ least_over g xs
over-same f g [] same = refl
over-same f g (x ∷ xs) same = ap (λ o. lesser_of o (least_over f xs)) (same x) ∙ ap (lesser_of (g x)) (over-same f g xs same)

pub over-each : {A : Type 0} (f g : A → Option Blocked) (xs : List A) → Each (λ x. f x ≡ g x) xs → least_over f xs ≡ least_over g xs
over-each f g [] same = refl
over-each f g (x ∷ xs) same = ap (λ o. lesser_of o (least_over f xs)) same.0 ∙ ap (lesser_of (g x)) (over-each f g xs same.1)

-- the same of a map
pub over-map : {A B : Type 0} (f : B → Option Blocked) (h : A → B) (xs : List A) → least_over f (map h xs) ≡ least_over (λ x. f (h x)) xs
over-map f h [] = refl
over-map f h (x ∷ xs) = ap (lesser_of (f (h x))) (over-map f h xs)

-- the least of a joined list is what its parts give
pub least-flat : {A : Type 0} (h : A → List Blocked) (xs : List A) → least_block (flat_map h xs) ≡ least_over (λ x. least_block (h x)) xs
least-flat h [] = refl
least-flat h (x ∷ xs) = least-append (h x) (flat_map h xs) ∙ ap (lesser_of (least_block (h x))) (least-flat h xs)

-- by one rule, of a joined list
pub by_rule-append : (r : Rule) (xs ys : List Clash) → by_rule r (xs ++ ys) ≡ by_rule r xs ++ by_rule r ys
by_rule-append r [] ys = refl
by_rule-append r (x ∷ xs) ys = ap (λ bs. record { on = x.other.process; other = x.other.step; own = x.own.step; rule = r } ∷ bs) (by_rule-append r xs ys)

pub rule-append : (r : Rule) (xs ys : List Clash) → least_block (by_rule r (xs ++ ys)) ≡ lesser_of (least_block (by_rule r xs)) (least_block (by_rule r ys))
rule-append r xs ys = ap least_block (by_rule-append r xs ys) ∙ least-append (by_rule r xs) (by_rule r ys)

pub rule-flat : {A : Type 0} (r : Rule) (h : A → List Clash) (xs : List A) → least_block (by_rule r (flat_map h xs)) ≡ least_over (λ x. least_block (by_rule r (h x))) xs
rule-flat r h [] = refl
rule-flat r h (x ∷ xs) = rule-append r (h x) (flat_map h xs) ∙ ap (lesser_of (least_block (by_rule r (h x)))) (rule-flat r h xs)

module _ (table : ConflictRelation) (r : Rule) (own : Entry) where
  -- one entry more in front
  pub on-cons : (e : Entry) (es : List Entry) → least_on table r own (e ∷ es) ≡ least_with table r own e (least_on table r own es)
  on-cons e es = by (conflict table own e) refl
    where
      by : (t : Bool) → conflict table own e ≡ t → least_on table r own (e ∷ es) ≡ least_with table r own e (least_on table r own es)
      by true is = rw is refl
      by false is = rw is refl

  -- what was found before, before or after
  pub with_first : (e : Entry) (o found : Option Blocked) → least_with table r own e (lesser_of o found) ≡ lesser_of (least_with table r own e o) found
  with_first e o found = by (conflict table own e) refl
    where
      by : (t : Bool) → conflict table own e ≡ t → least_with table r own e (lesser_of o found) ≡ lesser_of (least_with table r own e o) found
      by true is = rw is (sym (thrice (Some (block_on r own e)) o found))
      by false is = rw is refl

  with_none_found : (e : Entry) (o : Option Blocked) → least_with table r own e o ≡ lesser_of (least_with table r own e None) o
  with_none_found e o = by (conflict table own e) refl
    where
      by : (t : Bool) → conflict table own e ≡ t → least_with table r own e o ≡ lesser_of (least_with table r own e None) o
      by true is = rw is refl
      by false is = rw is refl

  -- of each entry by itself
  pub on-over : (es : List Entry) → least_on table r own es ≡ least_over (λ e. least_with table r own e None) es
  on-over [] = refl
  on-over (e ∷ es) = on-cons e es ∙ with_none_found e (least_on table r own es) ∙ ap (lesser_of (least_with table r own e None)) (on-over es)

  pub on-append : (xs ys : List Entry) → least_on table r own (xs ++ ys) ≡ lesser_of (least_on table r own xs) (least_on table r own ys)
  on-append xs ys = on-over (xs ++ ys) ∙ over-append (λ e. least_with table r own e None) xs ys
      ∙ ap (λ o. lesser_of o (least_over (λ e. least_with table r own e None) ys)) (sym (on-over xs)) ∙ ap (lesser_of (least_on table r own xs)) (sym (on-over ys))

  -- one entry more behind
  pub on-last : (es : List Entry) (e : Entry) → least_on table r own (es ++ e ∷ []) ≡ least_with table r own e (least_on table r own es)
  on-last es e =
      on-append es (e ∷ []) ∙ ap (lesser_of (least_on table r own es)) (on-cons e [])
      ∙ either (least_on table r own es) (least_with table r own e None) ∙ sym (with_none_found e (least_on table r own es))

  pub on-flat : {A : Type 0} (h : A → List Entry) (xs : List A) → least_on table r own (flat_map h xs) ≡ least_over (λ x. least_on table r own (h x)) xs
  on-flat h [] = refl
  on-flat h (x ∷ xs) = on-append (h x) (flat_map h xs) ∙ ap (lesser_of (least_on table r own (h x))) (on-flat h xs)
