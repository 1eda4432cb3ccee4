-- What a request for a piece of who is asked next comes to.
use Rattle.std.proofs.Common.{◌≡◌, ◌∙◌, ◌≤◌, ℕ, ◌+◌, Bool, true, false, ◌&&◌, eqb, List, [], ◌++◌, find, Some, is_some, ⊎_elim, refl, ap, subst, sym, append-nil, arith}
use Rattle.std.proofs.lemmas.Bool.{cases_lt, false≢true}
use Rattle.std.proofs.lemmas.Option.{none-some}
use Rattle.schedule_model.specs.Histories.{active, is_active, is_in, starts}
use Rattle.machine_model.specs.declared.blocked.Blocked.{Blocked}
use Rattle.machine_model.specs.declared.kept.Kept.{Kept}
use Rattle.machine_model.specs.Calls.{Reply, admit, admit_kept, admitted}
use Rattle.machine_model.specs.Moment.{Piece}
use Rattle.machine_model.specs.Pieces.{running_of}
use Rattle.machine_model.specs.Replies.{Admit, admit_reply, blocked, exhausted, piece, running, unknown, ended as ended_reply}
use Rattle.machine_model.specs.State.{block_of}
use Rattle.machine_model.proofs.RestartFree.{restart_is_free}
use Rattle.process_core.specs.Answers.{after_call, answer_in}
use Rattle.process_core.specs.Cores.{CoreState, IsCore, courses_in, history_of, machine_of, moment_of, relation}
use Rattle.process_core.specs.Handing.{admit_reply_of}
use Rattle.process_core.specs.declared.replies.Admit.{Admit as Given}
use Rattle.process_core.specs.declared.replies.Admit.TheVariants as admits
use Rattle.core_state.proofs.SeatFacts.{has_plan}
use Rattle.engine_steps.specs.Engines.{EngineState, with_core}
use Rattle.resource_box.specs.declared.resource.Resource.{Ghosts as Resources}
use Rattle.process_restart.specs.Turns.{HaveEnded, IsAsked, IsAskedNext, IsAtTurn}
use Rattle.process_restart.proofs.NextProcess.{nobody_left}
use Rattle.process_restart.proofs.Replies.{Says, says}

abbrev admit_in : Reply → Admit → Admit
admit_in (admitted r) other = r
admit_in r other = other

-- whoever never started isn't active
not_active : (t u : Bool) → t ≡ false → (t && u) ≡ false
not_active true u is = absurd (false≢true (sym is))
not_active false u is = refl

-- one number more has ended
one_more : (c : CoreState) (ended : ℕ) → HaveEnded c ended → is_active (history_of c) (ended + 1) ≡ false → (i : ℕ) → i ≤ ended + 1 → is_active (history_of c) i ≡ false
one_more c ended have here i most = ⊎_elim
    (λ less. have.none_active i (omega (arith, less)))
    (λ last. let same : i ≡ ended + 1 = omega (arith, last, most) in ap (is_active (history_of c)) same ∙ here)
    (cases_lt i (ended + 1))

module _ {R B : Type 0} (box : Resources B) (old new : EngineState R B) (core : IsCore old.core) (ended i : ℕ) (at : IsAtTurn box old ended) (next : IsAskedNext old.core ended i)
    (is : new ≡ with_core old (after_call old.core (admit i))) where
  abbrev c : CoreState
  c = old.core

  abbrev keeping : List Kept → EngineState R B
  keeping ks = with_core old (record { conflicts = c.conflicts; plans = c.plans; opening = c.opening; kept = ks; served = c.served })

  module _ (r : Admit) (told : admit_reply (relation c) (courses_in c) (moment_of c) i ≡ r) where
    kept : new.core.kept ≡ c.kept ++ admit_kept r
    kept = ap (λ (e : EngineState R B). e.core.kept) is ∙ ap (λ x. c.kept ++ admit_kept x) told

    still : admit_kept r ≡ [] → new ≡ old
    still none = is ∙ (ap (λ ks. keeping (c.kept ++ ks)) (ap admit_kept told ∙ none) ∙ ap keeping (append-nil c.kept))

    so : Says (relation c) (courses_in c) (moment_of c) i r
    so = subst (Says (relation c) (courses_in c) (moment_of c) i) told (says (relation c) (courses_in c) (moment_of c) i)

  never_blocked : (b : Blocked) → is_active (history_of c) i ≡ true → block_of (relation c) (courses_in c) (moment_of c) i ≡ Some b → ⊥
  never_blocked b goes blocks = none-some b (sym (restart_is_free (relation c) c.plans (machine_of c) core.session at.begun i (next.turn goes)) ∙ blocks)

  never_running : is_some (running_of (moment_of c) i) ≡ true → ⊥
  never_running runs = false≢true (sym (ap (λ ps. is_some (find (λ (p : Piece). eqb p.process i) ps)) at.idle) ∙ runs)

  ended_more : is_in i (starts (history_of c)) ≡ true → is_active (history_of c) i ≡ false → HaveEnded c (ended + 1)
  ended_more known stays =
      let same : i ≡ ended + 1 = next.other stays in
      let most = (has_plan c core i known).1 in
      record {
        none_active = one_more c ended at.have_ended (ap (is_active (history_of c)) (sym same) ∙ stays);
        within = omega (arith, most, same);
      }

  nobody : is_in i (starts (history_of c)) ≡ false → active (history_of c) ≡ []
  nobody never =
      let same : i ≡ ended + 1 = next.other (not_active (is_in i (starts (history_of c))) _ never) in
      nobody_left c core ended at.have_ended (ap (λ k. is_in k (starts (history_of c))) (sym same) ∙ never)

  by : (r : Given) → admit_reply (relation c) (courses_in c) (moment_of c) i ≡ admit_reply_of r → IsAsked old new ended i r
  by (admits.Piece d) told = let s = so (piece d) told in record { turn = next.turn s.0; is = s.1; kept = kept (piece d) told }
  by (admits.Exhausted b) told = let s = so (exhausted b) told in (still (exhausted b) told refl, record { turn = next.turn s.0; exhausted = s.1; step_is = s.2 })
  by admits.Ended told = let s = so ended_reply told in (still ended_reply told refl, ended_more s.0 s.1)
  by admits.Unknown told = (still unknown told refl, nobody (so unknown told))
  by (admits.Blocked b) told = let s = so (blocked b) told in never_blocked b s.0 s.1
  by admits.Running told = never_running (so running told)

  -- The reply comes to this.
  pub asked : (r : Given) → admitted (admit_reply_of r) ≡ (answer_in c (admit i)).reply → IsAsked old new ended i r
  asked r replied = by r (sym (ap (λ x. admit_in x (admit_reply_of r)) replied))
