-- Whatever was refused is the next piece of its process, or never comes again.
use Rattle.std.proofs.Common.{◌≡◌, ◌⊎◌, inl, inr, ℕ, zero, suc, ◌≤◌, Bool, true, false, if◌then◌else◌, List, [], ◌∷◌, length, take, drop, filter, flat_map, leb, Some, None, sym, refl, ap, ◌∙◌, arith}
use Rattle.std.proofs.lemmas.Option.{none-some}
use Rattle.std.proofs.lemmas.Bool.{eq-eqb, false≢true}
use Rattle.std.proofs.lemmas.List.{length-take}
use Rattle.process_tree.specs.Laws.{IsTreeShape}
use Rattle.process_tree.specs.Play.{kept_for, kept_prefixes}
use Rattle.process_tree.specs.Recovery.{class_by_kind, class_of, forward, reserved}
use Rattle.process_tree.specs.Shape.{first_of, fixed_len, goes_on_to, is_whole, kind_of, last_of, least, next_steps}
use Rattle.process_tree.specs.Termination.{IsWellFormed}
use Rattle.process_tree.proofs.TreeLaws.{next_steps_have_a_class}
use Rattle.schedule_model.specs.Course.{Course, shape}
use Rattle.schedule_model.specs.Histories.{done_steps, is_in, net_steps}
use Rattle.schedule_model.proofs.OwedPaths.{take_all}
use Rattle.machine_model.specs.declared.kept.Work.{Work}
use Rattle.machine_model.specs.declared.kept.Work.TheVariants.{Forward, Undo, End}
use Rattle.machine_model.specs.Progress.{Progress, next_task, pending_steps, same_task, staying, staying_for, step_or_end, undo_or, way_on}
use Rattle.machine_model.specs.Moment.{Moment, has_begun}
use Rattle.machine_model.specs.Pieces.{refusals}
use Rattle.machine_model.specs.State.{next_of, progress}
use Rattle.machine_model.specs.PieceLaws.{IsGone, with_begun}
use Rattle.machine_model.proofs.WaysOn.{way_on-is, staying-least}
use Rattle.machine_model.proofs.OwnOrder.{next_step}
use Rattle.machine_model.proofs.GonePieces.{GoesThrough, next_undo, stays_gone}

-- a way on with nothing pending goes on from the whole net
pub way_whole : (s : Progress) (d : ℕ) → s.begun ≡ false → pending_steps s ≡ [] → way_on s ≡ Some d → goes_on_to s.shape s.net d ≡ true
way_whole s d fresh pending way = by_whole (is_whole s.shape s.net) refl
  where
    taken : (n : ℕ) → n ≤ length s.net → kept_for s.shape s.net d ≡ take n s.net → length (kept_for s.shape s.net d) ≡ n
    taken n within is = let l = length-take n s.net in let e = ap length is in omega arith

    by_whole : (x : Bool) → is_whole s.shape s.net ≡ x → goes_on_to s.shape s.net d ≡ true
    by_whole true at =
        let ways = least (filter (λ d. leb s.onward d) (flat_map (next_steps s.shape) (kept_prefixes s.shape s.net))) in
        absurd (none-some d (sym (ap (λ t. if t then None else (if is_whole s.shape s.net then None else ways)) fresh ∙ ap (λ x. if x then None else ways) at) ∙ way))
    by_whole false at =
        let w = way_on-is s d way in
        let none : drop (length (kept_for s.shape s.net d)) s.net ≡ [] =
        sym (ap (λ t. drop (if t then fixed_len s.shape s.net else (if is_whole s.shape s.net then length s.net else staying_for s (way_on s))) s.net) fresh
        ∙ (ap (λ x. drop (if x then length s.net else staying_for s (way_on s)) s.net) at ∙ ap (λ o. drop (staying_for s o) s.net) way)) ∙ pending in
        let whole : kept_for s.shape s.net d ≡ s.net = w.from.is ∙ take_all s.net w.from.count (sym (ap (λ n. drop n s.net) (taken w.from.count w.from.within w.from.is)) ∙ none) in
        sym (ap (λ v. goes_on_to s.shape v d) whole) ∙ w.on

-- an owed step that is next stays next when its process begins to complete
pub owed_stays_next : (s : Progress) (b : ℕ) → IsTreeShape s.shape → IsWellFormed s.shape → goes_on_to s.shape s.net b ≡ true → is_in b (forward s.shape s.net) ≡ true
    → same_task (record { work = Forward; step = b }) (next_task (with_begun true s)) ≡ true
owed_stays_next s b tree well on owes =
    let class = next_steps_have_a_class s.shape tree well s.net b on in
    let is : class_of s.shape s.net b ≡ reserved = ap (λ t. if t then reserved else class_by_kind (kind_of s.shape b)) owes in
    let first = ap first_of (class.owed_first is) in
    let none = ap last_of (class.nothing_to_undo is) in
    ap (λ o. same_task (record { work = Forward; step = b }) (undo_or (step_or_end (first_of (forward s.shape s.net))) o)) none
    ∙ (ap (λ o. same_task (record { work = Forward; step = b }) (step_or_end o)) first ∙ eq-eqb b b refl)

more_last : (b x : ℕ) (ys : List ℕ) → last_of ys ≡ Some b → last_of (x ∷ ys) ≡ Some b
more_last b x [] is = absurd (none-some b is)
more_last b x (y ∷ ys) is = is

last_all : (k b : ℕ) (xs : List ℕ) → last_of (drop k xs) ≡ Some b → last_of xs ≡ Some b
last_all zero b xs last = last
last_all (suc k) b [] last = last
last_all (suc k) b (x ∷ xs) last = more_last b x xs (last_all k b xs last)

-- the last of a tail is the last of a longer one
last_longer : (f k b : ℕ) (xs : List ℕ) → f ≤ k → last_of (drop k xs) ≡ Some b → last_of (drop f xs) ≡ Some b
last_longer zero k b xs less last = last_all k b xs last
last_longer (suc f) zero b xs less last = absurd (omega arith)
last_longer (suc f) (suc k) b [] less last = last
last_longer (suc f) (suc k) b (x ∷ xs) less last = last_longer f k b xs (omega arith) last

-- the undo that is next stays next when its process begins to complete
pub undo_stays_next : (s : Progress) (b : ℕ) → same_task (record { work = Undo; step = b }) (next_task s) ≡ true → same_task (record { work = Undo; step = b }) (next_task (with_begun true s)) ≡ true
undo_stays_next s b is =
    let last = last_longer (fixed_len s.shape s.net) (staying s) b s.net (staying-least s) (next_undo s b is) in
    ap (λ o. same_task (record { work = Undo; step = b }) (undo_or (step_or_end (first_of (forward s.shape s.net))) o)) last ∙ eq-eqb b b refl

-- each refused piece of process i is its next one, or gone
abbrev pub RefusedStand : List Course → Moment → ℕ → Type 0
RefusedStand courses m i = (b : ℕ) (w : Work) → 1 ≤ refusals m.kept i b w → (same_task (record { work = w; step = b }) (next_of courses m i) ≡ true) ⊎ IsGone courses m i b w

-- the same progress and acts go through nothing
pub same_through : (courses : List Course) (m n : Moment) (i : ℕ) → progress courses n i ≡ progress courses m i → done_steps n.events i ≡ done_steps m.events i → GoesThrough courses m n i
same_through courses m n i same done = record {
  onward = let o = ap (λ (s : Progress). s.onward) same in omega arith;
  begun = λ is. ap (λ (s : Progress). s.begun) same ∙ is;
  owed = λ is b none. ap (λ (s : Progress). is_in b (forward s.shape s.net)) same ∙ none;
  done = λ b is. ap (is_in b) done ∙ is;
  net = λ b is none. ap (λ (s : Progress). is_in b s.net) same ∙ none;
}

pub stand_same : (courses : List Course) (m n : Moment) (i : ℕ) → progress courses n i ≡ progress courses m i → done_steps n.events i ≡ done_steps m.events i
    → ((b : ℕ) (w : Work) → refusals n.kept i b w ≡ refusals m.kept i b w) → RefusedStand courses m i → RefusedStand courses n i
stand_same courses m n i same done counts stand b w some =
    let c = counts b w in
    by_stand (stand b w (omega arith))
  where
    by_stand : (same_task (record { work = w; step = b }) (next_of courses m i) ≡ true) ⊎ IsGone courses m i b w → (same_task (record { work = w; step = b }) (next_of courses n i) ≡ true) ⊎ IsGone courses n i b w
    by_stand (inl next) = inl (ap (λ s. same_task (record { work = w; step = b }) (next_task s)) same ∙ next)
    by_stand (inr gone) = inr (stays_gone courses m n i b w (same_through courses m n i same done) gone)

-- when process i begins to complete, its next piece stays so, or is gone
pub stand_begun : (courses : List Course) (m n : Moment) (i : ℕ) → has_begun m i ≡ false → has_begun n i ≡ true → progress courses n i ≡ with_begun true (progress courses m i) → done_steps n.events i ≡ done_steps m.events i
    → ((d : ℕ) → goes_on_to (shape courses i) (net_steps m.events i) d ≡ true → IsTreeShape (shape courses i) × IsWellFormed (shape courses i))
    → (b : ℕ) (w : Work) → (w ≡ End → ⊥) → (same_task (record { work = w; step = b }) (next_of courses m i) ≡ true) ⊎ IsGone courses m i b w
    → (same_task (record { work = w; step = b }) (next_of courses n i) ≡ true) ⊎ IsGone courses n i b w
stand_begun courses m n i fresh began same done plan b w no_end (inr gone) = inr (stays_gone courses m n i b w (record {
  onward = let o = ap (λ (s : Progress). s.onward) same in omega arith;
  begun = λ is. began;
  owed = λ is c none. absurd (false≢true (sym fresh ∙ is));
  done = λ c is. ap (is_in c) done ∙ is;
  net = λ c is none. ap (λ (s : Progress). is_in c s.net) same ∙ none;
}) gone)
stand_begun courses m n i fresh began same done plan b End no_end (inl next) = absurd (no_end refl)
stand_begun courses m n i fresh began same done plan b Undo no_end (inl next) = inl (ap (λ s. same_task (record { work = Undo; step = b }) (next_task s)) same ∙ undo_stays_next (progress courses m i) b next)
stand_begun courses m n i fresh began same done plan b Forward no_end (inl next) = by_owed (is_in b (forward (shape courses i) (net_steps m.events i))) refl
  where
    by_owed : (t : Bool) → is_in b (forward (shape courses i) (net_steps m.events i)) ≡ t → (same_task (record { work = Forward; step = b }) (next_of courses n i) ≡ true) ⊎ IsGone courses n i b Forward
    by_owed false at = inr (inr (began, ap (λ (s : Progress). is_in b (forward s.shape s.net)) same ∙ at))
    by_owed true at =
        let s = progress courses m i in
        let step = next_step s b next in
        let on = way_whole s b fresh step.0 (sym (ap (λ t. if t then first_of (forward s.shape s.net) else way_on s) fresh) ∙ step.1) in
        let good = plan b on in
        inl (ap (λ x. same_task (record { work = Forward; step = b }) (next_task x)) same ∙ owed_stays_next s b good.0 good.1 on at)
