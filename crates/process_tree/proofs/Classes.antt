-- The classes of next steps in a well-formed process.
use Rattle.std.proofs.lemmas.Bool.{eq-eqb, ne_eqb, cases_eq, cases_Bool}
use Rattle.std.proofs.Common.{◌≡◌, ⊎_elim, ℕ, ◌+◌, Bool, true, false, List, [], ◌∷◌, ◌++◌, length, take, Some, None, refl, sym, ap, ◌∙◌, arith, append-nil, append_assoc, length-append, length-take, nat_eq, if◌then◌else◌}
use Rattle.std.proofs.lemmas.List.{drop_all}
use Rattle.std.specs.List.{list_any}
use Rattle.process_tree.specs.declared.step.StepKind.{StepKind}
use Rattle.process_tree.specs.declared.step.StepKind.TheVariants.{C, P, R, Cr}
use Rattle.process_tree.specs.declared.play.Outcome.TheVariants.{Refused}
use Rattle.process_tree.specs.declared.play.Played.TheVariants as played
use Rattle.process_tree.specs.Order.{has, IsLaidOut}
use Rattle.process_tree.specs.Shape.{Shape, next_steps, goes_on_to, greatest, kind_of, can_be_refused, can_be_undone, commits, commits_after, commits_by_kind, fixed_len, last_after}
use Rattle.process_tree.specs.Play.{ended, answered, go_on, go_back, end_of, fallback_of}
use Rattle.process_tree.specs.Recovery.{forward, class_of, class_by_kind, reserved, committing, undoable}
use Rattle.process_tree.specs.Termination.{IsWellFormed}
use Rattle.process_tree.specs.Laws.{HasClass}
use Rattle.process_tree.proofs.Branches.{has_here}
use Rattle.process_tree.proofs.Onward.{branch_from}
use Rattle.process_tree.proofs.LastPath.{on_last, no_way_on, greatest_of}
use Rattle.process_tree.proofs.InTurn.{last_step}
use Rattle.process_tree.proofs.Fixed.{fixed_stays, fixed_more, fixed_take, fixed_le, commits_there, take_whole}
use Rattle.process_tree.proofs.Reached.{stand_more, asks_there, comes_to}

-- a step that can't be refused commits where it is owed
retriable_commits : (k : StepKind) → can_be_refused k ≡ false → commits_by_kind k true ≡ true
retriable_commits C e = absurd (cc)
retriable_commits P e = absurd (cc)
retriable_commits R e = refl
retriable_commits Cr e = refl

-- what is owed stands behind the last commit point
owed_after : (t : Shape) (w : List ℕ) (b : ℕ) → has b (forward t w) ≡ true → (fixed_len t w ≡ 0 → ⊥) × (has b (last_after t (take (fixed_len t w) w)) ≡ true)
owed_after t w b on =
    ⊎_elim
    (λ none. let e = sym (ap (λ c. has b (if c then [] else last_after t (take (fixed_len t w) w))) (eq-eqb (fixed_len t w) 0 none)) ∙ on in absurd (cc))
    (λ some. (some, sym (ap (λ c. has b (if c then [] else last_after t (take (fixed_len t w) w))) (ne_eqb (fixed_len t w) 0 some)) ∙ on))
    (cases_eq (fixed_len t w) 0)

-- as many steps are fixed as stand up to the last commit point
length-kept : (t : Shape) (w : List ℕ) → length (take (fixed_len t w) w) ≡ fixed_len t w
length-kept t w = let le = fixed_le t w in let e = length-take (fixed_len t w) w in omega arith

-- a step that is tried behind a commit point and has no way on would get the process stuck
stuck_if_refused : (t : Shape) (u : List ℕ) (b : ℕ) → IsLaidOut (length t.kinds) t.paths → IsWellFormed t → goes_on_to t u b ≡ true → (fixed_len t u ≡ 0 → ⊥) → fallback_of t u b ≡ None → can_be_refused (kind_of t b) ≡ true → ⊥
stuck_if_refused t u b laid well on fixed none tried =
    let come = comes_to (b + 1) t laid well.reached u b (omega arith) on in
    well.never_stuck (come.0 ++ Refused ∷ []) b
    (ap end_of (
    stand_more t (go_on t []) come.0 Refused
    ∙ ap (λ s. answered t s Refused) (come.1 ∙ asks_there t u b tried)
    ∙ ap (go_back t u b) none
    ∙ ap (λ c. ended (if c then played.Nothing else played.Stuck b)) (ne_eqb (fixed_len t u) 0 fixed)))

-- nothing that is owed can be refused
pub owed_not_refused : (t : Shape) → IsLaidOut (length t.kinds) t.paths → IsWellFormed t → (w : List ℕ) (b : ℕ) → has b (forward t w) ≡ true → can_be_refused (kind_of t b) ≡ false
owed_not_refused t laid well w b on =
    let f = fixed_len t w in
    let v = take f w in
    let owed = owed_after t w b on in
    let l = on_last t (length t.kinds) v b laid.rising owed.1 in
    let count = length-kept t w in
    let whole = fixed_take t w in
    let stays = fixed_stays t v l.part in
    let none = no_way_on t (length t.kinds) v b l (omega arith) in
    ⊎_elim
    (λ tried. absurd (stuck_if_refused t (v ++ l.part) b laid well l.on (λ z. owed.0 (omega arith)) none tried))
    (λ never. never)
    (cases_Bool (can_be_refused (kind_of t b)))

-- and each step of it is a commit point
pub owed_commits : (t : Shape) → IsLaidOut (length t.kinds) t.paths → IsWellFormed t → (w : List ℕ) (b : ℕ) → has b (forward t w) ≡ true → commits_after t w b ≡ true
owed_commits t laid well w b on = ap (commits_by_kind (kind_of t b)) on ∙ retriable_commits (kind_of t b) (owed_not_refused t laid well w b on)

-- what is owed behind the last commit point is owed
forward_kept : (t : Shape) (w : List ℕ) (c : ℕ) → has c (last_after t (take (fixed_len t w) w)) ≡ true → (fixed_len t w ≡ 0 → ⊥) → has c (forward t (take (fixed_len t w) w)) ≡ true
forward_kept t w c h some =
    let v = take (fixed_len t w) w in
    let kept = fixed_take t w in
    let whole : take (fixed_len t v) v ≡ v = take_whole v (fixed_len t v) (let count = length-kept t w in omega arith) in
    ap (λ b. has c (if b then [] else last_after t (take (fixed_len t v) v))) (ne_eqb (fixed_len t v) 0 (λ z. some (omega arith))) ∙ (ap (λ u. has c (last_after t u)) whole ∙ h)

-- a step that is owed doesn't stand just behind the last commit point
pub owed_not_left : (t : Shape) → IsLaidOut (length t.kinds) t.paths → IsWellFormed t → (w : List ℕ) (x : ℕ) (u : List ℕ) → w ≡ take (fixed_len t w) w ++ x ∷ u → has x (forward t w) ≡ true → ⊥
owed_not_left t laid well w x u same owed =
    let v = take (fixed_len t w) w in
    let behind = owed_after t w x owed in
    let commits = owed_commits t laid well v x (forward_kept t w x behind.1 behind.0) in
    let more = fixed_more t v x ∙ ap (λ c. if c then length v + 1 else fixed_len t v) commits in
    let stays = fixed_stays t (v ++ x ∷ []) u in
    let whole = ap (fixed_len t) (same ∙ sym (append_assoc v (x ∷ []) u)) in
    let count = length-kept t w in
    omega arith

-- where the next step is owed, all is fixed
pub owed_all_fixed : (t : Shape) → IsLaidOut (length t.kinds) t.paths → IsWellFormed t → (w : List ℕ) (d : ℕ) → goes_on_to t w d ≡ true → has d (forward t w) ≡ true → fixed_len t w ≡ length w
owed_all_fixed t laid well w d on owed =
    let f = fixed_len t w in
    let v = take f w in
    let behind = owed_after t w d owed in
    let l = on_last t (length t.kinds) v d laid.rising behind.1 in
    let same : w ≡ v ++ l.part = sym (branch_from t w d laid.in_order laid.rising on) ∙ branch_from t (v ++ l.part) d laid.in_order laid.rising l.on in
    by_part l.part same (λ c h. ap (λ b. has c (if b then [] else last_after t v)) (ne_eqb f 0 behind.0) ∙ l.within c h)
  where
    by_part : (part : List ℕ) → w ≡ take (fixed_len t w) w ++ part → ((c : ℕ) → has c part ≡ true → has c (forward t w) ≡ true) → fixed_len t w ≡ length w
    by_part [] same within =
        sym (length-kept t w) ∙ ap length (sym (append-nil (take (fixed_len t w) w))) ∙ sym (ap length same)
    by_part (x ∷ part) same within = absurd (owed_not_left t laid well w x part same (within x (has_here x x part refl)))

take_all_of : (xs : List ℕ) → take (length xs) xs ≡ xs
take_all_of [] = refl
take_all_of (x ∷ xs) = ap (λ ys. x ∷ ys) (take_all_of xs)

-- where the next step is owed, it is the first that is owed, and the rest is owed behind it
pub owed_shrinks : (t : Shape) → IsLaidOut (length t.kinds) t.paths → IsWellFormed t → (w : List ℕ) (d : ℕ) → goes_on_to t w d ≡ true → has d (forward t w) ≡ true → forward t w ≡ d ∷ forward t (w ++ d ∷ [])
owed_shrinks t laid well w d on owed =
    let all = owed_all_fixed t laid well w d on owed in
    let some = (owed_after t w d owed).0 in
    let kept : take (fixed_len t w) w ≡ w = ap (λ n. take n w) all ∙ take_all_of w in
    let here = forward_is w some kept in
    let l = on_last t (length t.kinds) w d laid.rising (sym (ap (has d) here) ∙ owed) in
    let next = first_owed here in
    let more : fixed_len t (w ++ d ∷ []) ≡ length w + 1 = fixed_more t w d ∙ ap (λ c. if c then length w + 1 else fixed_len t w) (owed_commits t laid well w d owed) in
    let long = length-append w (d ∷ []) in
    let after : fixed_len t (w ++ d ∷ []) ≡ length (w ++ d ∷ []) = omega arith in
    let kept' : take (fixed_len t (w ++ d ∷ [])) (w ++ d ∷ []) ≡ w ++ d ∷ [] = ap (λ n. take n (w ++ d ∷ [])) after ∙ take_all_of (w ++ d ∷ []) in
    here ∙ last_step t (length t.kinds) w d laid.rising laid.within next ∙ ap (λ xs. d ∷ xs) (sym (forward_is (w ++ d ∷ []) (λ z. omega arith) kept'))
  where
    forward_is : (u : List ℕ) → (fixed_len t u ≡ 0 → ⊥) → take (fixed_len t u) u ≡ u → forward t u ≡ last_after t u
    forward_is u some kept = ap (λ c. if c then [] else last_after t (take (fixed_len t u) u)) (ne_eqb (fixed_len t u) 0 some) ∙ ap (last_after t) kept

    first_owed : forward t w ≡ last_after t w → greatest (next_steps t w) ≡ Some d
    first_owed here =
        let l = on_last t (length t.kinds) w d laid.rising (sym (ap (has d) here) ∙ owed) in
        let same : w ≡ w ++ l.part = sym (branch_from t w d laid.in_order laid.rising on) ∙ branch_from t (w ++ l.part) d laid.in_order laid.rising l.on in
        greatest_of (next_steps t w) d on
        (λ e one. l.last (length w) e (omega arith) (ap (λ u. goes_on_to t u e) (ap (take (length w)) (sym same) ∙ take_all_of w) ∙ one))

-- the class of a step that isn't owed, and whether it commits
free_class : (t : Shape) (w : List ℕ) (d : ℕ) (k : StepKind) → list_any (nat_eq d) (forward t w) ≡ false → kind_of t d ≡ k → (class_of t w d ≡ class_by_kind k) × (commits_after t w d ≡ commits_by_kind k false)
free_class t w d k free kind = (
  ap (λ c. if c then reserved else class_by_kind (kind_of t d)) free ∙ ap class_by_kind kind,
  ap (commits_by_kind (kind_of t d)) free ∙ ap (λ k. commits_by_kind k false) kind,
)

is_undoable : (t : Shape) (w : List ℕ) (d : ℕ) → class_of t w d ≡ undoable → commits t d ≡ false → can_be_undone (kind_of t d) ≡ true → HasClass t w d
is_undoable t w d is stays undone = record {
  reserved_is_not_refused = λ e. let f : undoable ≡ reserved = sym is ∙ e in absurd (cc);
  reserved_commits = λ e. let f : undoable ≡ reserved = sym is ∙ e in absurd (cc);
  nothing_to_undo = λ e. let f : undoable ≡ reserved = sym is ∙ e in absurd (cc);
  owed_first = λ e. let f : undoable ≡ reserved = sym is ∙ e in absurd (cc);
  committing_commits = λ e. let f : undoable ≡ committing = sym is ∙ e in absurd (cc);
  undoable_stays = λ e. stays;
  undoable_is_undone = λ e. undone;
  undoable_if_stays = λ e. is;
}

is_committing : (t : Shape) (w : List ℕ) (d : ℕ) → class_of t w d ≡ committing → commits t d ≡ true → HasClass t w d
is_committing t w d is commit = record {
  reserved_is_not_refused = λ e. let f : committing ≡ reserved = sym is ∙ e in absurd (cc);
  reserved_commits = λ e. commit;
  nothing_to_undo = λ e. let f : committing ≡ reserved = sym is ∙ e in absurd (cc);
  owed_first = λ e. let f : committing ≡ reserved = sym is ∙ e in absurd (cc);
  committing_commits = λ e. commit;
  undoable_stays = λ e. let f : committing ≡ undoable = sym is ∙ e in absurd (cc);
  undoable_is_undone = λ e. let f : committing ≡ undoable = sym is ∙ e in absurd (cc);
  undoable_if_stays = λ e. let f : true ≡ false = sym commit ∙ e in absurd (cc);
}

-- what the class of a next step says
pub has_class : (t : Shape) → IsLaidOut (length t.kinds) t.paths → IsWellFormed t → (w : List ℕ) (d : ℕ) → goes_on_to t w d ≡ true → HasClass t w d
has_class t laid well w d on = by_owed (list_any (nat_eq d) (forward t w)) refl
  where
    there : commits t d ≡ commits_after t w d
    there = sym (commits_there t w d (branch_from t w d laid.in_order laid.rising on))

    by_kind : (k : StepKind) → kind_of t d ≡ k → list_any (nat_eq d) (forward t w) ≡ false → HasClass t w d
    by_kind C kind free = let is = free_class t w d C free kind in is_undoable t w d is.0 (there ∙ is.1) (ap can_be_undone kind)
    by_kind P kind free = let is = free_class t w d P free kind in is_committing t w d is.0 (there ∙ is.1)
    by_kind R kind free = let is = free_class t w d R free kind in is_committing t w d is.0 (there ∙ is.1)
    by_kind Cr kind free = let is = free_class t w d Cr free kind in is_undoable t w d is.0 (there ∙ is.1) (ap can_be_undone kind)

    by_owed : (c : Bool) → list_any (nat_eq d) (forward t w) ≡ c → HasClass t w d
    by_owed true owed =
        let is : class_of t w d ≡ reserved = ap (λ c. if c then reserved else class_by_kind (kind_of t d)) owed in
        let commit = there ∙ owed_commits t laid well w d owed in
        record {
          reserved_is_not_refused = λ e. owed_not_refused t laid well w d owed;
          reserved_commits = λ e. commit;
          nothing_to_undo = λ e. let all = owed_all_fixed t laid well w d on owed in drop_all (fixed_len t w) w (omega arith);
          owed_first = λ e. owed_shrinks t laid well w d on owed;
          committing_commits = λ e. commit;
          undoable_stays = λ e. let f : reserved ≡ undoable = sym is ∙ e in absurd (cc);
          undoable_is_undone = λ e. let f : reserved ≡ undoable = sym is ∙ e in absurd (cc);
          undoable_if_stays = λ e. let f : true ≡ false = sym commit ∙ e in absurd (cc);
        }
    by_owed false free = by_kind (kind_of t d) refl free
