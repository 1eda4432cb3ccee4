-- The entries of a legal history are those of its plans, and those of its net are steps.
use Rattle.std.proofs.Common.{◌≡◌, Bool, true, false, cond, ◌||◌, List, [], ◌∷◌, ◌++◌, sym, refl, ap, ◌∙◌, subst, append-nil}
use Rattle.std.specs.Bool.{IsTrue}
use Rattle.std.specs.List.{All, list_any}
use Rattle.std.proofs.lemmas.List.Elements.{All-nil, All-cons, All-head, All-tail, All-push}
use Rattle.process_tree.proofs.Entries.{same_access-true}
use Rattle.process_tree.specs.Entries.{access_of}
use Rattle.process_tree.specs.declared.entry.Entry.{Entry}
use Rattle.schedule_model.specs.declared.event.Event.{Event}
use Rattle.schedule_model.specs.declared.event.Event.TheVariants.{Start, Act, End}
use Rattle.schedule_model.specs.Course.{Course, op_of, access_at, key_of}
use Rattle.schedule_model.specs.Conflict.{ConflictRelation}
use Rattle.schedule_model.specs.Histories.{acts, net_acts, doing, undoing, takes_back, is_active}
use Rattle.schedule_model.specs.OwnOrder.{keeps_order}
use Rattle.schedule_model.specs.Legal.{may_come, is_legal}
use Rattle.schedule_model.proofs.Appends.{acts-append}
use Rattle.schedule_model.proofs.Induction.{by_legal}
use Rattle.schedule_model.proofs.Legal.{both-left, both-right}

-- the operation of an entry is the plan's
abbrev pub HasPlansAccess : List Course → Entry → Type 0
HasPlansAccess courses e = access_of e ≡ access_at courses e.process e.step

module _ (table : ConflictRelation) (courses : List Course) where
  entry_of : (before : List Event) (e : Entry) → IsTrue (may_come table courses before (Act e)) → HasPlansAccess courses e
  entry_of before e may = same_access-true (access_of e) (access_at courses e.process e.step) (both-right (is_active before e.process) _ (both-left _ _ (both-left (keeps_order courses before (Act e)) _ may)))

  one_more : (h : List Event) (e : Event) → IsTrue (may_come table courses h e) → All (HasPlansAccess courses) (acts h) → All (HasPlansAccess courses) (acts (h ++ e ∷ []))
  one_more h (Start i) may all = subst (All (HasPlansAccess courses)) (sym (acts-append h (Start i ∷ []) ∙ append-nil (acts h))) all
  one_more h (Act e) may all = subst (All (HasPlansAccess courses)) (sym (acts-append h (Act e ∷ []))) (All-push (HasPlansAccess courses) (acts h) e all (entry_of h e may))
  one_more h (End i) may all = subst (All (HasPlansAccess courses)) (sym (acts-append h (End i ∷ []) ∙ append-nil (acts h))) all

  -- each entry of a legal history has the operation that its plan gives its step
  pub acts-of_plans : (h : List Event) → IsTrue (is_legal table courses h) → All (HasPlansAccess courses) (acts h)
  acts-of_plans h legal = by_legal table courses (λ g. All (HasPlansAccess courses) (acts g)) (λ g e before may all. one_more g e may all) (All-nil (HasPlansAccess courses)) h legal

-- what is true of all entries is true of those that stand
pub All-net_acts : (P : Entry → Type 0) (es : List Entry) → All P es → All P (net_acts es)
All-net_acts P [] all = All-nil P
All-net_acts P (e ∷ es) all = by_test (e.undo || list_any (λ f. takes_back f e) es) (All-net_acts P es (All-tail P e es all))
  where
    by_test : (b : Bool) → All P (net_acts es) → All P (cond b (net_acts es) (e ∷ net_acts es))
    by_test true rest = rest
    by_test false rest = All-cons P e (net_acts es) (All-head P e es all) rest

-- the entries that stand are steps
pub net_acts-forward : (es : List Entry) → All (λ e. e.undo ≡ false) (net_acts es)
net_acts-forward [] = All-nil (λ (e : Entry). e.undo ≡ false)
net_acts-forward (e ∷ es) = by_test e.undo (list_any (λ f. takes_back f e) es) refl (net_acts-forward es)
  where
    by_test : (u t : Bool) → e.undo ≡ u → All (λ e. e.undo ≡ false) (net_acts es) → All (λ e. e.undo ≡ false) (cond (u || t) (net_acts es) (e ∷ net_acts es))
    by_test true t is rest = rest
    by_test false true is rest = rest
    by_test false false is rest = All-cons (λ (e : Entry). e.undo ≡ false) e (net_acts es) is rest

-- an entry with the plan's operation is the plan's step, or its undo
pub doing-is : (courses : List Course) (e : Entry) → HasPlansAccess courses e → e.undo ≡ false → e ≡ doing courses e.process e.step
doing-is courses e op forward =
    ap (λ o. record { process = e.process; step = e.step; op = o.op; key = o.key; undo = e.undo }) op
    ∙ ap (λ u. record { process = e.process; step = e.step; op = op_of courses e.process e.step; key = key_of courses e.process e.step; undo = u }) forward

pub undoing-is : (courses : List Course) (e : Entry) → HasPlansAccess courses e → e.undo ≡ true → e ≡ undoing (doing courses e.process e.step)
undoing-is courses e op undo =
    ap (λ o. record { process = e.process; step = e.step; op = o.op; key = o.key; undo = e.undo }) op
    ∙ ap (λ u. record { process = e.process; step = e.step; op = op_of courses e.process e.step; key = key_of courses e.process e.step; undo = u }) undo
