-- What the answer to a line does to an engine.
use Rattle.std.specs.Prelude.{◌≡◌, ◌⊎◌, ⊤, ℕ, List, [], map, Option, Some, None}
use Rattle.process_tree.specs.declared.plan.Plan.{Plan}
use Rattle.process_tree.specs.Form.{AreEqualPlans}
use Rattle.machine_model.specs.Replies.{Handed}
use Rattle.machine_model.specs.Moment.{Piece}
use Rattle.commute_table.specs.declared.catalog.Catalog.{Catalog}
use Rattle.process_engine.specs.Finishing.{outcome_of}
use Rattle.process_engine.specs.declared.gates.Answer.{Answer}
use Rattle.process_core.specs.Cores.{CoreState}
use Rattle.engine_calls.specs.GateAnswers.{is_barred_in}
use Rattle.session_text.specs.declared.line.Line.{Line}
use Rattle.session_play.specs.declared.cut.Cut.{Cut}
use Rattle.session_play.specs.declared.cut.Cut.TheVariants.{DiskFault, NoMemory}
use Rattle.session_play.specs.Pieces.{number_of, session_of}
use Rattle.session_play.specs.Playing.{Played, SessionState, finish_as, plan_for, play, queue_with, reply_to_queue}

-- The line was answered: it led to this core with these unfinished pieces and these queued ones, and this is printed.
pub record IsAnswered (p : Played) (core : CoreState) (pieces queued : List Handed) (text : List ℕ) : Type 0 where
  pub state : session_of core pieces queued ≡ p.state
  pub printed : text ≡ p.printed

-- It was not answered: nothing was kept; or there was no memory to print what it led to.
abbrev pub IsCut : Cut → Played → CoreState → CoreState → Type 0
IsCut DiskFault p old new = new ≡ old
IsCut NoMemory p old new = (new ≡ old) ⊎ (new ≡ p.state.core)

-- none of none, or a plan that is equal to this one
abbrev pub IsCopy : Option Plan → Option Plan → Type 0
IsCopy None None = ⊤
IsCopy None (Some q) = ⊥
IsCopy (Some p) None = ⊥
IsCopy (Some p) (Some q) = AreEqualPlans p q

-- A line of a session with these plans was answered, with a plan that is equal to the one that it names: it led to this core with
-- these unfinished pieces and these queued ones, and this is printed.
abbrev pub AnswersLine : Catalog → List Plan → SessionState → Line → CoreState → List Handed → List Handed → List ℕ → Type 0
AnswersLine c plans s line core pieces queued text =
    (copy : Option Plan) × IsCopy (plan_for plans line) copy × IsAnswered (play c s line copy) core pieces queued text

-- It was not answered, and this ended it.
abbrev pub CutsLine : Catalog → List Plan → SessionState → Line → Cut → CoreState → CoreState → Type 0
CutsLine c plans s line cut old new =
    (copy : Option Plan) × IsCopy (plan_for plans line) copy × IsCut cut (play c s line copy) old new

-- a piece is finished with this answer, whatever else is unfinished
abbrev pub finish_alone : Catalog → CoreState → Piece → Answer → Played
finish_alone c core p answer =
    finish_as (record { core = core; unfinished = []; group = [] }) p (outcome_of answer (is_barred_in c core p))

-- a piece is queued with this answer beside these, whatever else is unfinished
abbrev pub queue_alone : Catalog → CoreState → List Handed → Piece → Answer → Played
queue_alone c core queued p answer =
    let s : SessionState = record { core = core; unfinished = []; group = map number_of queued } in
    queue_with s p (reply_to_queue c s p answer)
