-- What the effect of a piece makes of the rows, whichever work it is.
use Rattle.std.proofs.Common.{◌≡◌, ◌∙◌, ℕ, Bool, true, false, eqb, List, length, map, filter, Option, Some, None, sym, refl, ap, arith}
use Rattle.std.proofs.lemmas.Bool.{eqb-true, false≢true}
use Rattle.std.proofs.lemmas.List.{length-drop, length-map}
use Rattle.process_tree.specs.declared.entry.Entry.{Entry}
use Rattle.process_tree.specs.Shape.{fixed_len}
use Rattle.schedule_model.specs.Conflict.{no_conflict}
use Rattle.schedule_model.specs.Course.{Course, shape}
use Rattle.schedule_model.specs.Histories.{active, is_in, net, net_of, net_steps, of_process}
use Rattle.schedule_model.specs.Holdings.{active_net}
use Rattle.schedule_model.proofs.Active.{is_active-is_in}
use Rattle.schedule_model.proofs.Starts.{active-rising}
use Rattle.machine_model.specs.declared.kept.Kept.TheVariants.{Effect}
use Rattle.machine_model.specs.Moment.{Moment, Piece}
use Rattle.machine_model.specs.Pieces.{piece_of, running_of, runs}
use Rattle.machine_model.specs.ProcessState.{pending_count}
use Rattle.machine_model.specs.Progress.{staying}
use Rattle.machine_model.specs.State.{entry_of, hold_of, holdings, process_state, progress}
use Rattle.machine_model.specs.Advance.{advance}
use Rattle.machine_model.proofs.HoldChanges.{out_runs}
use Rattle.machine_model.proofs.OpenHoldings.{filter-kept, holders-active}
use Rattle.machine_model.proofs.Snoc.{now-kept}
use Rattle.machine_model.proofs.TidyMoments.{every}
use Rattle.hold_tables.specs.Changes.{change_numbered}
use Rattle.hold_tables.specs.Tables.{OpenProcess, kept_of}
use Rattle.core_state.specs.Cores.{CoreState, IsCore, courses_in, machine_of, moment_of, relation}
use Rattle.core_state.specs.OpenTables.{planned_of, row_of, tables_of}
use Rattle.core_state.proofs.EffectSeats.{begun_same, its_active, others_away, own, stopped}
use Rattle.core_state.proofs.MayStand.{numbered_map, rising_apart}
use Rattle.core_state.proofs.SeatFrames.{row_frame}
use Rattle.core_state.proofs.StoodRows.{Apart, rows_changed}

-- as many are pending as the process alone says
pub pending_at : (courses : List Course) (m : Moment) (i : ℕ) → pending_count (process_state courses m i) ≡ length (hold_of courses m i).pending
pending_at courses m i =
    let k = staying (progress courses m i) in
    let a = length-drop k (net_steps m.events i) in
    let b = length-drop k (net_of m.events i) in
    let c = length-map (net_of m.events i) (λ (e : Entry). e.step) in
    omega arith

-- among the entries of those that are listed a process has all its own
pub own_listed : (i : ℕ) (is : List ℕ) (es : List Entry) → is_in i is ≡ true → of_process i (filter (λ (x : Entry). is_in x.process is) es) ≡ of_process i es
own_listed i is es among = filter-kept (λ (x : Entry). eqb x.process i) (λ x. is_in x.process is) es
    (every (λ (x : Entry). is_in x.process is ≡ false → eqb x.process i ≡ false) es (λ x out. other x (eqb x.process i) out refl))
  where
    other : (x : Entry) (c : Bool) → is_in x.process is ≡ false → eqb x.process i ≡ c → eqb x.process i ≡ false
    other x false out at = at
    other x true out at = absurd (false≢true (sym out ∙ (ap (λ k. is_in k is) (eqb-true x.process i at) ∙ among)))

module _ (c : CoreState) (core : IsCore c) (d : Piece) (found : piece_of c.kept d.number ≡ Some d) (out : runs (moment_of c) d.number ≡ true) where
  abbrev cs : List Course
  cs = courses_in c

  abbrev m : Moment
  m = moment_of c

  abbrev i : ℕ
  i = d.process

  abbrev after : Moment
  after = advance (relation c) (courses_in c) (moment_of c) (Effect d.number)

  pub apart_now : Apart (active (moment_of c).events)
  apart_now = rising_apart (active m.events) (active-rising no_conflict cs m.events (own c core d found out).legal)

  pub listed : is_in d.process (active (moment_of c).events) ≡ true
  listed = is_active-is_in m.events i ∙ its_active c core d found out

  -- it is what its process has under way
  pub runs_it : running_of (moment_of c) d.process ≡ Some d
  runs_it = out_runs m d.number d (own c core d found out).order.tidy out (ap (λ ks. piece_of ks d.number) (now-kept (relation c) (machine_of c)) ∙ found)

  pub its_row : kept_of (tables_of c.conflicts (courses_in c) (moment_of c)) d.process ≡ row_of (courses_in c) (moment_of c) d.process
  its_row = numbered_map (row_of cs m) i (active m.events) (λ j. refl) listed

  pub others_stay : (j : ℕ) → eqb j d.process ≡ false → row_of (courses_in c) (moment_of c) j ≡ row_of (courses_in c) (advance (relation c) (courses_in c) (moment_of c) (Effect d.number)) j
  others_stay j other = sym (row_frame c core (Effect d.number) out j (others_away c core d found out j other) (begun_same c core d found out j))

  -- the net entries of the active processes
  pub net_listed : (n : Moment) → active_net (holdings (courses_in c) n) ≡ filter (λ (x : Entry). is_in x.process (active n.events)) (net n.events)
  net_listed n = ap (λ is. filter (λ (x : Entry). is_in x.process is) (net n.events)) (holders-active cs n)

  -- where the same processes are active, the row of this one changes
  pub rows_are : (f : OpenProcess → OpenProcess) → active (advance (relation c) (courses_in c) (moment_of c) (Effect d.number)).events ≡ active (moment_of c).events
      → f (row_of (courses_in c) (moment_of c) d.process) ≡ row_of (courses_in c) (advance (relation c) (courses_in c) (moment_of c) (Effect d.number)) d.process
      → change_numbered f d.process (map (row_of (courses_in c) (moment_of c)) (active (moment_of c).events))
      ≡ map (row_of (courses_in c) (advance (relation c) (courses_in c) (moment_of c) (Effect d.number))) (active (advance (relation c) (courses_in c) (moment_of c) (Effect d.number)).events)
  rows_are f same its =
      rows_changed f (row_of cs m) (row_of cs after) i (active m.events) apart_now (λ j. refl) its others_stay listed
      ∙ ap (map (row_of cs after)) (sym same)

  -- the row of the process, by its parts: nothing is under way
  abbrev pub row_by : List (ℕ × ℕ × ℕ) → ℕ → ℕ → OpenProcess
  row_by planned fixed pending = record { process = d.process; steps = length (shape (courses_in c) d.process).kinds; running = None; reserved = planned; fixed = fixed; pending = pending }

  pub row_after : row_of (courses_in c) (advance (relation c) (courses_in c) (moment_of c) (Effect d.number)) d.process
      ≡ (let g = hold_of (courses_in c) (advance (relation c) (courses_in c) (moment_of c) (Effect d.number)) d.process in
      record {
        process = d.process;
        steps = length (shape (courses_in c) d.process).kinds;
        running = None;
        reserved = planned_of g.reserved;
        fixed = fixed_len (shape (courses_in c) d.process) (net_steps (advance (relation c) (courses_in c) (moment_of c) (Effect d.number)).events d.process);
        pending = length g.pending;
      })
  row_after =
      let g = hold_of cs after i in
      ap (λ (o : Option Piece). record { process = i; steps = length (shape cs i).kinds; running = entry_of cs o; reserved = planned_of g.reserved; fixed = fixed_len (shape cs i) (net_steps after.events i); pending = length g.pending })
      (stopped c core d found out)
