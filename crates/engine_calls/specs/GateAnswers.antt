-- What the answers of gates have to do with what an engine keeps.
use Rattle.std.specs.Prelude.{◌≡◌, ◌≢◌, ◌⊎◌, ◌≤◌, ◌<◌, ⊤, ℕ, zero, suc, ◌+◌, ◌-◌, ◌^◌, min, Bool, false, not, nat_eq, List, [], ◌∷◌}
use Rattle.std.specs.Prelude.{◌++◌, drop, filter, length, if◌then◌else◌, Option, Some, None, IfSome, IsTrue, refl}
use Rattle.commute_table.specs.declared.catalog.Catalog.{Catalog}
use Rattle.machine_model.specs.declared.kept.Kept.{Kept}
use Rattle.machine_model.specs.declared.kept.Kept.TheVariants.{Start, Hand, Effect, Refuse, Abort, Victim, Restart}
use Rattle.machine_model.specs.declared.kept.Work.TheVariants.{Forward, End}
use Rattle.machine_model.specs.Moment.{Piece}
use Rattle.machine_model.specs.Pieces.{piece_of, refusals}
use Rattle.machine_model.specs.Progress.{same_work}
use Rattle.machine_model.specs.Replies.{Handed, refuse_by}
use Rattle.process_core.specs.Cores.{CoreState, IsHandedBy, courses_in}
use Rattle.process_core.specs.Handing.{with_kept, with_served}
use Rattle.process_core.specs.declared.replies.Admit.{Admit}
use Rattle.process_core.specs.declared.replies.Admit.TheVariants.{Piece as AdmitsPiece, Blocked, Running, Unknown, Ended, Exhausted}
use Rattle.process_core.specs.declared.replies.Next.{Next}
use Rattle.process_core.specs.declared.replies.Next.TheVariants.{Piece as GivesPiece, Wait, AllEnded, Stuck}
use Rattle.engine_steps.specs.Engines.{full_history}
use Rattle.engine_steps.specs.Pieces.{act_of, bars_act}
use Rattle.process_engine.specs.declared.gates.Answer.{Answer}
use Rattle.process_engine.specs.declared.gates.Gate.{Ghosts as Gates}
use Rattle.process_engine.specs.declared.gates.Answer.TheVariants.{Done, Refused}

-- what was kept before piece n was handed out
abbrev pub kept_before : ℕ → List Kept → List Kept
kept_before n [] = []
kept_before n (Hand piece process step work ∷ ks) = if nat_eq piece n then [] else Hand piece process step work ∷ kept_before n ks
kept_before n (Start i ∷ ks) = Start i ∷ kept_before n ks
kept_before n (Effect p ∷ ks) = Effect p ∷ kept_before n ks
kept_before n (Refuse p ∷ ks) = Refuse p ∷ kept_before n ks
kept_before n (Abort i ∷ ks) = Abort i ∷ kept_before n ks
kept_before n (Victim i ∷ ks) = Victim i ∷ kept_before n ks
kept_before n (Restart ∷ ks) = Restart ∷ kept_before n ks

-- a piece that is tried again: what was kept before its second hand has one refusal of it
abbrev twice : List Kept
twice = Start 1 ∷ Hand 1 1 0 Forward ∷ Refuse 1 ∷ Hand 2 1 0 Forward ∷ Effect 2 ∷ []

kept_before_second : kept_before 2 twice ≡ Start 1 ∷ Hand 1 1 0 Forward ∷ Refuse 1 ∷ []
kept_before_second = refl

refused_once : refusals (kept_before 2 twice) 1 0 Forward ≡ 1
refused_once = refl

not_refused_yet : refusals (kept_before 1 twice) 1 0 Forward ≡ 0
not_refused_yet = refl

-- a piece as a core handed it out: how often its step and work had been refused by then, and how many tries the plain gate refuses
abbrev pub as_handed : CoreState → Piece → Handed
as_handed c p = record {
  piece = p;
  tried = refusals (kept_before p.number c.kept) p.process p.step p.work;
  refuse = refuse_by (courses_in c) p.process p.step p.work;
}

-- A core handed out this piece, with what is told of it.
pub record IsHandedAs (c : CoreState) (d : Handed) : Type 0 where
  pub handed : IsHandedBy c d.piece
  pub told : as_handed c d.piece ≡ d

-- the values of the books bar a piece of a core; nothing bars an end
abbrev pub is_barred_in : Catalog → CoreState → Piece → Bool
is_barred_in catalog c p = if same_work p.work End then false else bars_act catalog.ops (full_history c) (act_of c.plans p)

-- Where gates tell their answers to pieces, an effect is of a piece that the gate does, or the end of a process, and a refusal is
-- of one that the gate refuses or that is barred. The core had kept what stands before the event.
abbrev pub IsAnswered : (Handed → Option Answer) → Catalog → CoreState → Kept → Type 0
IsAnswered answers catalog c (Effect n) =
    IfSome (piece_of c.kept n) (λ p. p.work ≢ End → IfSome (answers (as_handed c p)) (λ a. a ≡ Done))
IsAnswered answers catalog c (Refuse n) =
    IfSome (piece_of c.kept n) (λ p. IfSome (answers (as_handed c p)) (λ a. (a ≡ Refused) ⊎ IsTrue (is_barred_in catalog c p)))
IsAnswered answers catalog c (Start i) = ⊤
IsAnswered answers catalog c (Hand piece process step work) = ⊤
IsAnswered answers catalog c (Abort i) = ⊤
IsAnswered answers catalog c (Victim i) = ⊤
IsAnswered answers catalog c Restart = ⊤

-- each of these is, kept one after another
abbrev pub AreAnswered : (Handed → Option Answer) → Catalog → CoreState → List Kept → Type 0
AreAnswered answers catalog c [] = ⊤
AreAnswered answers catalog c (k ∷ ks) = IsAnswered answers catalog c k × AreAnswered answers catalog (with_kept c k) ks

-- the piece is there, and is not barred
abbrev pub is_unbarred : Catalog → CoreState → Option Piece → Bool
is_unbarred catalog c None = false
is_unbarred catalog c (Some p) = not (is_barred_in catalog c p)

-- the event refuses a piece that is not barred
abbrev pub refuses_unbarred : Catalog → CoreState → Kept → Bool
refuses_unbarred catalog c (Refuse n) = is_unbarred catalog c (piece_of c.kept n)
refuses_unbarred catalog c (Effect n) = false
refuses_unbarred catalog c (Start i) = false
refuses_unbarred catalog c (Hand piece process step work) = false
refuses_unbarred catalog c (Abort i) = false
refuses_unbarred catalog c (Victim i) = false
refuses_unbarred catalog c Restart = false

-- how many of these do, kept one after another
abbrev pub unbarred_refusals : Catalog → CoreState → List Kept → ℕ
unbarred_refusals catalog c [] = 0
unbarred_refusals catalog c (k ∷ ks) =
    (if refuses_unbarred catalog c k then 1 else 0) + unbarred_refusals catalog (with_kept c k) ks

-- what a core has kept since it was another one
abbrev pub kept_since : CoreState → CoreState → List Kept
kept_since old new = drop (length old.kept) new.kept

-- How many pieces a gate was asked to work on, and how many it refused; or the last number of a counter.
pub record GateCounts : Type 0 where
  pub asked : ℕ
  pub refusals : ℕ

-- the counts of a gate
abbrev pub counts_of : {G : Type 0} → Gates G → G → GateCounts
counts_of g gate = record { asked = g.asked gate; refusals = g.refusals gate }

-- The gate of a call: what gates of its type tell of their answers, and its counts before and after.
pub record AskedGate : Type 0 where
  pub answers : Handed → Option Answer
  pub before : GateCounts
  pub after : GateCounts

abbrev pub asked : {G : Type 0} → Gates G → G → G → AskedGate
asked g before after = record { answers = g.answers; before = counts_of g before; after = counts_of g after }

-- What was kept since is by a gate: each end of a piece is as the gate tells its answers; and while its count of refusals is not at
-- its last value, it rose at least as often as a piece was refused that is not barred.
pub record IsByGate (gate : AskedGate) (catalog : Catalog) (old new : CoreState) : Type 0 where
  pub answered : AreAnswered gate.answers catalog (with_served old 0) (kept_since old new)
  pub counted : gate.after.refusals < 2 ^ 64 - 1
      → gate.before.refusals + unbarred_refusals catalog (with_served old 0) (kept_since old new) ≤ gate.after.refusals
  pub later : gate.before.refusals ≤ gate.after.refusals

-- the hand of a step or of an undo, of which a gate is asked
abbrev pub is_step_hand : Kept → Bool
is_step_hand (Hand piece process step work) = not (same_work work End)
is_step_hand (Start i) = false
is_step_hand (Effect n) = false
is_step_hand (Refuse n) = false
is_step_hand (Abort i) = false
is_step_hand (Victim i) = false
is_step_hand Restart = false

-- how many steps and undos were handed out among these
abbrev pub steps_handed : List Kept → ℕ
steps_handed ks = length (filter is_step_hand ks)

-- the count of a gate that was asked so often since it had another: it stays at the last value of a counter
abbrev pub count_after : ℕ → ℕ → ℕ
count_after count zero = count
count_after count (suc n) = count_after (min (count + 1) (2 ^ 64 - 1)) n

-- a step is handed out, is refused, and is handed out again; then the process ends
handed_twice : steps_handed (twice ++ Hand 3 1 0 End ∷ []) ≡ 2
handed_twice = refl

-- the piece of a reply to a request for any piece was handed out so
abbrev pub IsGiven : CoreState → Next → Type 0
IsGiven c (GivesPiece d) = IsHandedAs c d
IsGiven c (Wait w) = ⊤
IsGiven c AllEnded = ⊤
IsGiven c (Stuck i) = ⊤

-- and so was that of a reply to a request for a piece of one process
abbrev pub IsAdmitted : CoreState → Admit → Type 0
IsAdmitted c (AdmitsPiece d) = IsHandedAs c d
IsAdmitted c (Blocked b) = ⊤
IsAdmitted c Running = ⊤
IsAdmitted c Unknown = ⊤
IsAdmitted c Ended = ⊤
IsAdmitted c (Exhausted b) = ⊤
