-- What entries tell of gates: which pieces these were asked for, and which of them were refused.
use Rattle.std.specs.Prelude.{◌≢◌, ◌≤◌, ⊤, ℕ, Bool, false, not, List, [], Option, Some, None, IfSome, if◌then◌else◌}
use Rattle.std.proofs.Common.{◌≡◌, ap, append-nil, arith, refl, subst, sym}
use Rattle.process_tree.specs.Order.{Each}
use Rattle.commute_table.specs.declared.catalog.Catalog.{Catalog}
use Rattle.machine_model.specs.declared.kept.Work.TheVariants.{End}
use Rattle.machine_model.specs.Moment.{Piece}
use Rattle.machine_model.specs.Pieces.{piece_of}
use Rattle.machine_model.specs.Progress.{same_work}
use Rattle.machine_model.specs.Replies.{Handed}
use Rattle.process_core.specs.Cores.{CoreState}
use Rattle.process_core.specs.Handing.{with_served}
use Rattle.process_engine.specs.declared.gates.Answer.{Answer}
use Rattle.process_engine.specs.declared.gates.Answer.TheVariants.{Done, Refused}
use Rattle.engine_calls.specs.GateAnswers.{AreAnswered, IsHandedAs, kept_since, steps_handed, unbarred_refusals}
use Rattle.engine_calls.proofs.GateRuns.{kept_is}
use Rattle.history_lock.specs.Weights.{total}
use Rattle.shared_engine.specs.declared.entries.NextSaid.TheVariants as asked
use Rattle.shared_engine.specs.declared.entries.TurnEntry.{TurnEntry}
use Rattle.shared_engine.specs.declared.entries.TurnEntry.TheVariants.{Next, Queue, Flush}

-- the piece is there, and is a step or an undo: a gate is asked for it
abbrev pub is_worked_on : Option Piece → Bool
is_worked_on None = false
is_worked_on (Some p) = not (same_work p.work End)

-- 1 for a request that handed out a piece for which a gate is asked, as the core knows the piece
abbrev pub gate_asked : CoreState → TurnEntry → ℕ
gate_asked c (Next (asked.Piece n)) = if is_worked_on (piece_of c.kept n) then 1 else 0
gate_asked c (Next (asked.Wait w)) = 0
gate_asked c (Next asked.AllEnded) = 0
gate_asked c (Next (asked.Stuck i)) = 0
gate_asked c (Next (asked.Closed k)) = 0
gate_asked c (Queue n answer reply) = 0
gate_asked c (Flush said) = 0

-- 1 for the queueing of a piece whose work was refused
abbrev pub gate_refused : TurnEntry → ℕ
gate_refused (Next said) = 0
gate_refused (Queue n Done reply) = 0
gate_refused (Queue n Refused reply) = 1
gate_refused (Flush said) = 0

-- this is what came of the work of a piece: what the gate tells of it, if it tells; the end of a process asks no gate, and is done
abbrev pub IsAnswerTo : (Handed → Option Answer) → Handed → Answer → Type 0
IsAnswerTo answers d answer = (d.piece.work ≡ End → answer ≡ Done) × (d.piece.work ≢ End → IfSome (answers d) (λ a. answer ≡ a))

-- a request that got a piece got one that the core has handed out
abbrev pub IsOfHanded : CoreState → TurnEntry → Type 0
IsOfHanded c (Next (asked.Piece n)) = (p : Piece) × (piece_of c.kept n ≡ Some p)
IsOfHanded c (Next (asked.Wait w)) = ⊤
IsOfHanded c (Next asked.AllEnded) = ⊤
IsOfHanded c (Next (asked.Stuck i)) = ⊤
IsOfHanded c (Next (asked.Closed k)) = ⊤
IsOfHanded c (Queue n answer reply) = ⊤
IsOfHanded c (Flush said) = ⊤

-- the queueing of a piece that the core has handed out is answered as gates tell it
abbrev pub IsToldOf : (Handed → Option Answer) → CoreState → TurnEntry → Type 0
IsToldOf answers c (Next said) = ⊤
IsToldOf answers c (Queue n answer reply) = (d : Handed) → d.piece.number ≡ n → IsHandedAs c d → IsAnswerTo answers d answer
IsToldOf answers c (Flush said) = ⊤

-- What a core has kept since it was another one, by the entries that led there: none started; each step and undo that was handed
-- out is that of a request; where pieces are queued as gates tell it, what was kept is by these answers, and each piece that is
-- queued is done; and no more pieces were refused that are not barred than were answered so.
pub record IsByEntries (catalog : Catalog) (old new : CoreState) (queued : List Handed) (entries : List TurnEntry) : Type 0 where
  pub plans : new.plans ≡ old.plans
  pub requests : Each (IsOfHanded new) entries
  pub handed : steps_handed (kept_since old new) ≡ total (gate_asked new) entries
  pub answered : (answers : Handed → Option Answer) → Each (IsToldOf answers new) entries
      → AreAnswered answers catalog (with_served old 0) (kept_since old new)
  pub done : (answers : Handed → Option Answer) → Each (IsToldOf answers new) entries
      → Each (λ d. IsAnswerTo answers d Done) queued
  pub refused : unbarred_refusals catalog (with_served old 0) (kept_since old new) ≤ total gate_refused entries

-- with no entry nothing is kept
pub by_none : (catalog : Catalog) (c : CoreState) → IsByEntries catalog c c [] []
by_none catalog c =
    let none = kept_is c c [] (sym (append-nil c.kept)) in
    record {
      plans = refl;
      requests = tt;
      handed = ap steps_handed none;
      answered = λ answers told. subst (AreAnswered answers catalog (with_served c 0)) (sym none) tt;
      done = λ answers told. tt;
      refused = omega (arith, ap (unbarred_refusals catalog (with_served c 0)) none);
    }
