-- The least step of a list, taken from its end.
use Rattle.std.proofs.Common.{◌≡◌, ℕ, Bool, true, false, List, [], ◌∷◌, ◌++◌, Option, Some, None, sym, refl, ap, ◌∙◌}
use Rattle.std.specs.Prelude.{IfSome, if◌then◌else◌, filter, map, flat_map}
use Rattle.process_tree.specs.declared.entry.Entry.{Entry}
use Rattle.process_tree.specs.Order.{Each}
use Rattle.hold_tables.specs.Tables.{Tables, OpenProcess, hold_in, holdings_of, reserved_entry, reserved_of, running_of}
use Rattle.hold_tables.specs.Changes.{can_come}
use Rattle.hold_tables.specs.Kept.{IsKnown, IsKnownRunning}
use Rattle.process_tree.specs.Conflicts.{Access, Table}
use Rattle.schedule_model.specs.Holdings.{Hold, all_running, all_reserved}
use Rattle.std.specs.Option.{option_to_list}
use Rattle.hold_tables.specs.Reading.{holder_against, is_against, least_step, lesser}

-- what is true of each is true of those in front, and of the last
pub each_front : {A : Type 0} (P : A → Type 0) (xs : List A) (x : A) → Each P (xs ++ x ∷ []) → Each P xs × P x
each_front P [] x each = (tt, each.0)
each_front P (y ∷ xs) x each = let rest = each_front P xs x each.1 in ((each.0, rest.0), rest.1)

module _ (p : Entry → Bool) where
  -- the least of those that pass, and of another
  abbrev pub least : Option (ℕ × ℕ) → List Entry → Option (ℕ × ℕ)
  least other es = least_step other (filter p es)

  -- the lesser of an entry, where it passes, and of another
  abbrev pub with_one : Option (ℕ × ℕ) → Entry → Option (ℕ × ℕ)
  with_one other e = if p e then lesser (e.process, e.step) other else other

  least_head : (other : Option (ℕ × ℕ)) (e : Entry) (es : List Entry) → least other (e ∷ es) ≡ with_one (least other es) e
  least_head other e es = by (p e) refl
    where
      by : (b : Bool) → p e ≡ b → least other (e ∷ es) ≡ with_one (least other es) e
      by true is = rw is refl
      by false is = rw is refl

  -- first those behind, then those in front
  pub least_append : (other : Option (ℕ × ℕ)) (xs ys : List Entry) → least other (xs ++ ys) ≡ least (least other ys) xs
  least_append other [] ys = refl
  least_append other (x ∷ xs) ys = least_head other x (xs ++ ys) ∙ ap (λ o. with_one o x) (least_append other xs ys) ∙ sym (least_head (least other ys) x xs)

  -- with one more at the end
  pub least_push : (other : Option (ℕ × ℕ)) (es : List Entry) (e : Entry) → least other (es ++ e ∷ []) ≡ least (with_one other e) es
  least_push other es e = least_append other es (e ∷ []) ∙ ap (λ o. least o es) (least_head other e [])

  -- the same of reserved steps
  map_more : (f : ℕ × ℕ × ℕ → Entry) (xs : List (ℕ × ℕ × ℕ)) (x : ℕ × ℕ × ℕ) → map f (xs ++ x ∷ []) ≡ map f xs ++ f x ∷ []
  map_more f [] x = refl
  map_more f (y ∷ xs) x = ap (f y ∷◌) (map_more f xs x)

  pub steps_push : (i : ℕ) (other : Option (ℕ × ℕ)) (xs : List (ℕ × ℕ × ℕ)) (x : ℕ × ℕ × ℕ) → least other (map (reserved_entry i) (xs ++ x ∷ [])) ≡ least (with_one other (reserved_entry i x)) (map (reserved_entry i) xs)
  steps_push i other xs x = ap (least other) (map_more (reserved_entry i) xs x) ∙ least_push other (map (reserved_entry i) xs) (reserved_entry i x)

  append_none : (es : List Entry) → es ++ [] ≡ es
  append_none [] = refl
  append_none (e ∷ es) = ap (e ∷◌) (append_none es)

  append_thrice : (xs ys zs : List Entry) → (xs ++ ys) ++ zs ≡ xs ++ (ys ++ zs)
  append_thrice [] ys zs = refl
  append_thrice (x ∷ xs) ys zs = ap (x ∷◌) (append_thrice xs ys zs)

  flat_more : (g : OpenProcess → List Entry) (rows : List OpenProcess) (r : OpenProcess) → flat_map g (rows ++ r ∷ []) ≡ flat_map g rows ++ g r
  flat_more g [] r = append_none (g r)
  flat_more g (x ∷ rows) r = ap (g x ++◌) (flat_more g rows r) ∙ sym (append_thrice (g x) (flat_map g rows) (g r))

  -- the same of what each process has
  pub rows_push : (g : OpenProcess → List Entry) (other : Option (ℕ × ℕ)) (rows : List OpenProcess) (r : OpenProcess) → least other (flat_map g (rows ++ r ∷ [])) ≡ least (least other (g r)) (flat_map g rows)
  rows_push g other rows r = ap (least other) (flat_more g rows r) ∙ least_append other (flat_map g rows) (g r)

-- what is under way in all is what is under way in each
pub all_running-is : (net : List Entry) (rows : List OpenProcess) → flat_map (λ (o : Hold). option_to_list o.running) (map (hold_in net) rows) ≡ flat_map running_of rows
all_running-is net [] = refl
all_running-is net (r ∷ rows) = ap (running_of r ++◌) (all_running-is net rows)

all_reserved-is : (net : List Entry) (rows : List OpenProcess) → flat_map (λ (o : Hold). o.reserved) (map (hold_in net) rows) ≡ flat_map reserved_of rows
all_reserved-is net [] = refl
all_reserved-is net (r ∷ rows) = ap (reserved_of r ++◌) (all_reserved-is net rows)

-- the least holder is the least of the net, of what is under way, and of the reserved steps
pub holder-is : (t : Tables) (i : ℕ) (access : Access) → holder_against t i access
    ≡ least (is_against t.conflicts i access) (least (is_against t.conflicts i access) (least (is_against t.conflicts i access) None (flat_map reserved_of t.processes)) (flat_map running_of t.processes)) t.net
holder-is t i access =
    let p = is_against t.conflicts i access in
    least_append p None (t.net ++ all_running (holdings_of t)) (all_reserved (holdings_of t))
    ∙ least_append p (least p None (all_reserved (holdings_of t))) t.net (all_running (holdings_of t))
    ∙ ap (λ o. least p o t.net) (ap (λ es. least p (least p None es) (all_running (holdings_of t))) (all_reserved-is t.net t.processes)
    ∙ ap (λ es. least p (least p None (flat_map reserved_of t.processes)) es) (all_running-is t.net t.processes))

known_running : (table : Table) (es : List Entry) (r : OpenProcess) (o : Option Entry) → IfSome o (λ e. (e.process ≡ r.process) × (can_come es r e ≡ true) × IsKnown table e) → IsKnownRunning table o
known_running table es r None is = tt
known_running table es r (Some e) is = is.2
