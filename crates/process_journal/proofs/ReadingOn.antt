-- How bodies are read one after another.
use Rattle.std.proofs.Common.{◌≡◌, ◌≢◌, ◌+◌, ℕ, List, [], ◌∷◌, ◌++◌, length, length-append, append_assoc, append-nil, Ok, inr, refl, sym, ap, ◌∙◌, subst, arith}
use Rattle.schedule_model.specs.declared.history.History.{History}
use Rattle.history_judging.specs.Keeping.{IsJudged}
use Rattle.commute_table.specs.declared.catalog.Catalog.{Catalog}
use Rattle.commute_table.specs.Operations.{IsCatalog}
use Rattle.commute_table.specs.Bytes.{bytes_of}
use Rattle.journal_records.specs.Bytes.{setup_bytes}
use Rattle.process_journal.specs.declared.errors.JournalError.{JournalError}
use Rattle.process_journal.specs.declared.errors.JournalError.TheVariants.{DiskFault, BadHeader, BadRecord, BadHistory, NoMemory}
use Rattle.process_journal.specs.declared.replay.Replay.{Replay}
use Rattle.process_journal.specs.Bodies.{journal_bodies, no_history}
use Rattle.process_journal.specs.Journals.{IsHistoryUnder}
use Rattle.process_journal.specs.Reading.{HasNoForm, IsOutOfPlace, StopsAt, IsDue}
use Rattle.process_journal.specs.Replays.{IsReplayed, IsReadTo, IsFaultOf}
use Rattle.process_journal.proofs.BodiesPushed.{none_is_good}

-- nothing is read behind the setup,
pub read_none : (c : Catalog) (bodies : List (List ℕ)) (r : Replay) → IsCatalog c → r.history ≡ no_history → IsJudged c.conflicts [] [] r.legality
    → IsReadTo c (setup_bytes (bytes_of c) ∷ bodies) r bodies 2
read_none c bodies r catalog none judged = record {
  replayed = record {
    history = subst (IsHistoryUnder c) (sym none) (none_is_good c catalog);
    judged = subst (λ (h : History). IsJudged c.conflicts h.plans h.events r.legality) (sym none) judged;
  };
  are = ap (λ h. journal_bodies c h ++ bodies) none;
  number = sym (ap (λ h. length (journal_bodies c h) + 1) none);
}

-- then one body more,
pub read_more : (c : Catalog) (bodies : List (List ℕ)) (r after : Replay) (body : List ℕ) (rest : List (List ℕ)) (n : ℕ) → IsReadTo c bodies r (body ∷ rest) n → IsReplayed c after
    → journal_bodies c after.history ≡ journal_bodies c r.history ++ body ∷ [] → IsReadTo c bodies after rest (n + 1)
read_more c bodies r after body rest n read replayed longer =
    let before = read.number in
    record {
      replayed = replayed;
      are = ap (λ bs. bs ++ rest) longer ∙ append_assoc (journal_bodies c r.history) (body ∷ []) rest ∙ read.are;
      number = omega (arith, ap length longer, length-append (journal_bodies c r.history) (body ∷ []));
    }

-- unless that is refused
stops : (IsAtFault : Catalog → History → List ℕ → Type 0) (c : Catalog) (bodies : List (List ℕ)) (r : Replay) (body : List ℕ) (rest : List (List ℕ)) (n m : ℕ)
    → IsReadTo c bodies r (body ∷ rest) n → m ≡ n → IsAtFault c r.history body → StopsAt IsAtFault bodies m
stops IsAtFault c bodies r body rest n m read same fault = record {
  catalog = c;
  history = r.history;
  good = read.replayed.history;
  body = body;
  rest = rest;
  is = sym read.are;
  number = same ∙ read.number;
  fault = fault;
}

pub read_refused : (c : Catalog) (bodies : List (List ℕ)) (r : Replay) (body : List ℕ) (rest : List (List ℕ)) (n : ℕ) (e : JournalError) → IsReadTo c bodies r (body ∷ rest) n → IsFaultOf c r.history n body e
    → IsDue (Ok bodies) e × (e ≢ DiskFault)
read_refused c bodies r body rest n DiskFault read fault = absurd fault
read_refused c bodies r body rest n BadHeader read fault = absurd fault
read_refused c bodies r body rest n (BadRecord m) read fault = (inr (bodies, refl, inr (stops HasNoForm c bodies r body rest n m read fault.0 fault.1)), λ is. absurd cc)
read_refused c bodies r body rest n (BadHistory m) read fault = ((bodies, refl, stops IsOutOfPlace c bodies r body rest n m read fault.0 fault.1), λ is. absurd cc)
read_refused c bodies r body rest n NoMemory read fault = (tt, λ is. absurd cc)

-- at the end the bodies are the journal of the history
pub read_all : (c : Catalog) (bodies : List (List ℕ)) (r : Replay) (rest : List (List ℕ)) (n : ℕ) → IsReadTo c bodies r rest n → rest ≡ [] → IsHistoryUnder c r.history × (journal_bodies c r.history ≡ bodies)
read_all c bodies r rest n read none = (read.replayed.history, sym (append-nil (journal_bodies c r.history)) ∙ ap (λ bs. journal_bodies c r.history ++ bs) (sym none) ∙ read.are)
