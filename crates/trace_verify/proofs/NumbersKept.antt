-- Acts numbered one after another, and pairs marked in a table.
use Rattle.std.proofs.Common.{◌≡◌, ℕ, zero, suc, ◌+◌, ◌-◌, ◌≤◌, get_or, take, drop, Bool, true, false, cond, ◌&&◌, ◌||◌, List, [], ◌∷◌, ◌++◌, length, length-append, append_assoc, map, nat_eq, sym, refl, ap, ◌∙◌, subst, arith}
use Rattle.std.proofs.lemmas.List.{take_all}
use Rattle.std.proofs.Math.Dec.{eqb-zero-suc, eqb-suc-zero, eqb-suc-suc}
use Rattle.std.specs.List.{list_any}
use Rattle.process_tree.specs.declared.entry.Entry.{Entry}
use Rattle.process_tree.specs.Conflicts.{Access}
use Rattle.process_tree.specs.Making.{same_text}
use Rattle.process_text.proofs.NumberWords.{are_same-refl}
use Rattle.trace_verify.specs.Forms.{NamedAct, Pair}
use Rattle.trace_verify.specs.Names.{is_among, with_name, with_names, number_among, is_named, StandOnce, entry_of, line_covers}
use Rattle.trace_verify.proofs.Naming.{among-snoc, number-in_front, number-new, same}

-- a list that isn't empty is its first and the others
pub as_cons : {X : Type 0} (rest : List X) (first : X) → 1 ≤ length rest → first ≡ get_or rest 0 first → rest ≡ first ∷ take (length rest - 1) (drop 1 rest)
as_cons [] first some e = absurd (omega arith)
as_cons (x ∷ rest) first some e =
    let all : take (length (x ∷ rest) - 1) rest ≡ rest = take_all (length (x ∷ rest) - 1) rest (omega arith) in
    rw (e, all) refl

-- an added name is there
pub among-added : (names : List (List ℕ)) (w : List ℕ) → is_among (with_name names w) w ≡ true
among-added names w = by (is_among names w) refl
  where
    by : (b : Bool) → is_among names w ≡ b → is_among (cond b names (names ++ w ∷ [])) w ≡ true
    by true is = is
    by false is = among-snoc names w w ∙ (ap (λ b. b || same_text w w) is ∙ are_same-refl w)

-- one more name at most
pub few-added : (names : List (List ℕ)) (w : List ℕ) → length (with_name names w) ≤ length names + 1
few-added names w = by (is_among names w)
  where
    by : (b : Bool) → length (cond b names (names ++ w ∷ [])) ≤ length names + 1
    by true = omega arith
    by false = let long = length-append names (w ∷ []) in omega (arith, long)

-- a name that is there stays, with its number
kept : (names : List (List ℕ)) (v w : List ℕ) → is_among names w ≡ true
    → (is_among (with_name names v) w ≡ true) × (number_among (with_name names v) w ≡ number_among names w)
kept names v w there = by (is_among names v)
  where
    by : (b : Bool) → (is_among (cond b names (names ++ v ∷ [])) w ≡ true) × (number_among (cond b names (names ++ v ∷ [])) w ≡ number_among names w)
    by true = (there, refl)
    by false = (among-snoc names v w ∙ ap (λ b. b || same_text w v) there, number-in_front names (v ∷ []) w there)

pub among-kept : (names : List (List ℕ)) (v w : List ℕ) → is_among names w ≡ true → is_among (with_name names v) w ≡ true
among-kept names v w there = let both = kept names v w there in both.0

-- so each name that was added is there
pub among-all : (names ws : List (List ℕ)) (w : List ℕ) → is_among names w ≡ true → is_among (with_names names ws) w ≡ true
among-all names [] w there = there
among-all names (v ∷ ws) w there = among-all (with_name names v) ws w (among-kept names v w there)

pub number-kept : (names ws : List (List ℕ)) (w : List ℕ) → is_among names w ≡ true → number_among (with_names names ws) w ≡ number_among names w
number-kept names [] w there = refl
number-kept names (v ∷ ws) w there = let one = kept names v w there in number-kept (with_name names v) ws w one.0 ∙ one.1

-- so an act is the same entry by more names
pub entry-kept : (steps ops ws vs : List (List ℕ)) (a : NamedAct) → is_among steps a.step ≡ true → is_among ops a.op ≡ true
    → entry_of steps ops a ≡ entry_of (with_names steps ws) (with_names ops vs) a
entry-kept steps ops ws vs a step op =
    ap (λ n. record { process = a.process; step = n; op = number_among ops a.op; key = a.key; undo = a.undo }) (sym (number-kept steps ws a.step step))
    ∙ ap (λ n. record { process = a.process; step = number_among (with_names steps ws) a.step; op = n; key = a.key; undo = a.undo }) (sym (number-kept ops vs a.op op))

-- one entry more
pub entries-next : (f : NamedAct → Entry) (rest after : List NamedAct) (a : NamedAct) (done new all : List Entry) (e : Entry) → rest ≡ a ∷ after
    → done ++ map f rest ≡ all → e ≡ f a → new ≡ done ++ e ∷ [] → new ++ map f after ≡ all
entries-next f rest after a done new all e is so_far same more =
    ap (λ es. es ++ map f after) more
    ∙ (append_assoc done (e ∷ []) (map f after)
    ∙ (ap (λ x. done ++ x ∷ map f after) same
    ∙ (ap (λ rs. done ++ map f rs) (sym is) ∙ so_far)))

-- and its names
pub names-next : (g : NamedAct → List ℕ) (rest after : List NamedAct) (a : NamedAct) (names new all : List (List ℕ)) → rest ≡ a ∷ after
    → with_names names (map g rest) ≡ all → new ≡ with_name names (g a) → with_names new (map g after) ≡ all
names-next g rest after a names new all is so_far added =
    ap (λ ns. with_names ns (map g after)) added ∙ (ap (λ rs. with_names names (map g rs)) (sym is) ∙ so_far)

-- Each name stands once among names that were added where they were new.

named-snoc : (names : List (List ℕ)) (v : List ℕ) (k : ℕ) (w : List ℕ)
    → is_named (names ++ v ∷ []) k w ≡ (is_named names k w || (nat_eq (length names) k && same_text w v))
named-snoc [] v zero w = refl
named-snoc [] v (suc k) w = ap (λ b. false || (b && same_text w v)) (sym (eqb-zero-suc k))
named-snoc (n ∷ names) v zero w = by (same_text w n) ∙ ap (λ b. same_text w n || (b && same_text w v)) (sym (eqb-suc-zero (length names)))
  where
    by : (b : Bool) → b ≡ (b || false)
    by true = refl
    by false = refl
named-snoc (n ∷ names) v (suc k) w = named-snoc names v k w ∙ ap (λ b. is_named names k w || (b && same_text w v)) (sym (eqb-suc-suc (length names) k))

or_neither : (x p : Bool) → (x || (p && false)) ≡ x
or_neither true p = refl
or_neither false true = refl
or_neither false false = refl

and_itself : (p : Bool) → (false || (p && true)) ≡ p
and_itself true = refl
and_itself false = refl

once-snoc : (names : List (List ℕ)) (v : List ℕ) (k : ℕ) (w : List ℕ) → is_among names v ≡ false
    → is_named names k w ≡ (is_among names w && nat_eq (number_among names w) k) → (b : Bool) → is_among names w ≡ b → (c : Bool) → same_text w v ≡ c
    → (is_named names k w || (nat_eq (length names) k && same_text w v))
    ≡ (is_among (names ++ v ∷ []) w && nat_eq (number_among (names ++ v ∷ []) w) k)
once-snoc names v k w new once true is true also =
    let there : is_among names v ≡ true = subst (λ (x : List ℕ). is_among names x ≡ true) (same w v also) is in absurd (cc)
once-snoc names v k w new once true is false also =
    ap (λ c. is_named names k w || (nat_eq (length names) k && c)) also
    ∙ (or_neither (is_named names k w) (nat_eq (length names) k)
    ∙ (once ∙ (ap (λ c. c && nat_eq (number_among names w) k) is
    ∙ (ap (λ n. nat_eq n k) (sym (number-in_front names (v ∷ []) w is))
    ∙ sym (ap (λ c. c && nat_eq (number_among (names ++ v ∷ []) w) k) (among-snoc names v w ∙ ap (λ c. c || same_text w v) is))))))
once-snoc names v k w new once false is true also =
    let number : number_among (names ++ v ∷ []) w ≡ length names =
    (let P : List ℕ → Type 0 = λ x. number_among (names ++ v ∷ []) x ≡ length names in subst P (sym (same w v also)) (number-new names v new)) in
    ap (λ c. c || (nat_eq (length names) k && same_text w v)) (once ∙ ap (λ c. c && nat_eq (number_among names w) k) is)
    ∙ (ap (λ c. false || (nat_eq (length names) k && c)) also
    ∙ (and_itself (nat_eq (length names) k)
    ∙ (ap (λ n. nat_eq n k) (sym number)
    ∙ sym (ap (λ c. c && nat_eq (number_among (names ++ v ∷ []) w) k) (among-snoc names v w ∙ (ap (λ c. c || same_text w v) is ∙ also))))))
once-snoc names v k w new once false is false also =
    ap (λ c. c || (nat_eq (length names) k && same_text w v)) (once ∙ ap (λ c. c && nat_eq (number_among names w) k) is)
    ∙ (ap (λ c. false || (nat_eq (length names) k && c)) also
    ∙ (or_neither false (nat_eq (length names) k)
    ∙ sym (ap (λ c. c && nat_eq (number_among (names ++ v ∷ []) w) k) (among-snoc names v w ∙ (ap (λ c. c || same_text w v) is ∙ also)))))

once-added : (names : List (List ℕ)) (v : List ℕ) → StandOnce names → StandOnce (with_name names v)
once-added names v once k w = by (is_among names v) refl
  where
    by : (b : Bool) → is_among names v ≡ b → is_named (cond b names (names ++ v ∷ [])) k w
        ≡ (is_among (cond b names (names ++ v ∷ [])) w && nat_eq (number_among (cond b names (names ++ v ∷ [])) w) k)
    by true is = once k w
    by false is = named-snoc names v k w ∙ once-snoc names v k w is (once k w) (is_among names w) refl (same_text w v) refl

once-from : (names ws : List (List ℕ)) → StandOnce names → StandOnce (with_names names ws)
once-from names [] once = once
once-from names (w ∷ ws) once = once-from (with_name names w) ws (once-added names w once)

-- so it is where names were added to none
pub stand-once : (ws : List (List ℕ)) → StandOnce (with_names [] ws)
stand-once ws = once-from [] ws (λ k w. refl)

or_assoc : (x y z : Bool) → ((x || y) || z) ≡ (x || (y || z))
or_assoc true y z = refl
or_assoc false y z = refl

-- a pair of the rest comes into the table
pub pairs-next : (ops : List (List ℕ)) (a b : Access) (rest after : List Pair) (p : Pair) (old new all : Bool) → rest ≡ p ∷ after
    → (old || list_any (line_covers ops a b) rest) ≡ all → new ≡ (old || line_covers ops a b p) → (new || list_any (line_covers ops a b) after) ≡ all
pairs-next ops a b rest after p old new all is so_far marked =
    ap (λ x. x || list_any (line_covers ops a b) after) marked
    ∙ (or_assoc old (line_covers ops a b p) (list_any (line_covers ops a b) after)
    ∙ (ap (λ ps. old || list_any (line_covers ops a b) ps) (sym is) ∙ so_far))

-- its first, as it is read
pub first-of : {X : Type 0} (rest : List X) (d : X) → 1 ≤ length rest → get_or rest 0 d ≡ get_or rest 0 (get_or rest 0 d)
first-of [] d some = absurd (omega arith)
first-of (x ∷ rest) d some = refl
