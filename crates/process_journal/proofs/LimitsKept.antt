-- Limits ask the courses of those that started alone, and are judged at starts.
use Rattle.std.specs.Prelude.{IsTrue}
use Rattle.std.proofs.Common.{◌≡◌, ◌+◌, ◌-◌, ◌&&◌, leb, not, ℕ, List, [], ◌∷◌, ◌++◌, length, append_assoc, refl, sym, ap, ◌∙◌, subst}
use Rattle.std.proofs.lemmas.Bool.{and_parts, or_left}
use Rattle.schedule_model.specs.declared.event.Event.{Event}
use Rattle.schedule_model.specs.declared.event.Event.TheVariants.{Start, Act, End}
use Rattle.schedule_model.specs.Course.{Course, course}
use Rattle.schedule_model.specs.EachEvent.{each_passes}
use Rattle.schedule_model.specs.Histories.{acts, starts, ends, active, is_in, of_process}
use Rattle.schedule_model.specs.Limits.{limits, need, still_needed, entries, starts_within, stands_within, is_within_limits}
use Rattle.schedule_model.proofs.Active.{is_active-is_in}
use Rattle.schedule_model.proofs.Appends.{starts-append, is_in-append}
use Rattle.schedule_model.proofs.Induction.{each_passes-push}
use Rattle.schedule_model.proofs.Members.{is_in-among}
use Rattle.history_judging.proofs.OneOf.{sum_same}

module _ (cs ds : List Course) where
  -- both have the same courses of those that started
  abbrev pub SameOfStarted : List Event → Type 0
  SameOfStarted h = (i : ℕ) → IsTrue (is_in i (starts h)) → course cs i ≡ course ds i

  -- so they need the same
  pub needed_same : (h : List Event) (i : ℕ) → course cs i ≡ course ds i → still_needed cs h i ≡ still_needed ds h i
  needed_same h i same = ap (λ c. need c - length (of_process i (acts h))) same

  pub entries_same : (h : List Event) → SameOfStarted h → entries cs h ≡ entries ds h
  entries_same h same =
      ap (λ n. length (acts h) + length (ends h) + n)
      (sum_same (still_needed cs h) (still_needed ds h) (active h)
      (λ k is. needed_same h k (same k (and_parts (is_in k (starts h)) (not (is_in k (ends h))) (sym (is_active-is_in h k) ∙ is_in-among k (active h) is)).0)))

  stands_same : (h : List Event) → SameOfStarted h → stands_within limits cs h ≡ stands_within limits ds h
  stands_same h same = ap (λ n. leb (length (active h)) limits.active && leb (length (starts h)) limits.processes && leb n limits.entries) (entries_same h same)

  starts_same : (h : List Event) (e : Event) → SameOfStarted (h ++ e ∷ []) → starts_within limits cs h e ≡ starts_within limits ds h e
  starts_same h (Start i) same = stands_same (h ++ Start i ∷ []) same
  starts_same h (Act e) same = refl
  starts_same h (End i) same = refl

  pub limits_same : (before h : List Event) → SameOfStarted (before ++ h) → each_passes (starts_within limits cs) before h ≡ each_passes (starts_within limits ds) before h
  limits_same before [] same = refl
  limits_same before (e ∷ h) same =
      let longer = subst SameOfStarted (sym (append_assoc before (e ∷ []) h)) same in
      let front = before ++ e ∷ [] in
      ap (λ b. b && each_passes (starts_within limits cs) front h)
      (starts_same before e (λ i is. longer i (ap (is_in i) (starts-append front h) ∙ (is_in-append i (starts front) (starts h) ∙ or_left (is_in i (starts front)) (is_in i (starts h)) is))))
      ∙ ap (λ b. starts_within limits ds before e && b) (limits_same front h longer)

-- a history is within limits with an event more where it is, and where that event is judged to be
pub limits-push : (courses : List Course) (h : List Event) (e : Event) → is_within_limits courses (h ++ e ∷ []) ≡ (is_within_limits courses h && starts_within limits courses h e)
limits-push courses h e = each_passes-push (starts_within limits courses) h e
