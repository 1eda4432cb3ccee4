-- Worked sessions, computed: what their lines print on files in which nothing has happened.
use Rattle.std.specs.Prelude.{◌≡◌, ℕ, List, [], ◌∷◌, ◌++◌, codes, refl}
use Rattle.std.specs.Fmt.{digits}
use Rattle.process_tree.specs.declared.plan.Plan.{Plan}
use Rattle.process_tree.specs.declared.play.Outcome.TheVariants.{Done, Refused}
use Rattle.commute_table.specs.declared.catalog.Catalog.{Catalog}
use Rattle.process_core.specs.Cores.{opened_on}
use Rattle.process_report.specs.Examples.{addition, purchase, sale, small, stock}
use Rattle.session_text.specs.declared.line.Line.{Line}
use Rattle.session_text.specs.declared.line.Line.TheVariants.{Start, Admit, Next, Finish, Abort, Show}
use Rattle.session_run.specs.Playthrough.{printed_by}

-- what these lines print under this catalog, with these plans
abbrev pub prints : Catalog → List Plan → List Line → List ℕ
prints c plans lines = printed_by c plans (opened_on c.conflicts [] []) lines

-- an addition is started, and goes to its end
pub to_its_end : prints small (addition ∷ []) (Start (codes "a") ∷ Next ∷ Finish 1 Done ∷ Next ∷ Finish 2 Done ∷ Next ∷ [])
    ≡ codes "started 1 a\npiece 1: do 1.x\neffected 2\npiece 2: end 1\neffected 3\nall ended\n"
unfolding digits
to_its_end = refl

-- a process that the scenario lacks, processes and pieces that there aren't, and an end that is not refused
pub refusals : prints small (addition ∷ [])
    (Start (codes "b") ∷ Admit 1 ∷ Abort 0 ∷ Finish 1 Done ∷ Start (codes "a") ∷ Admit 1 ∷ Admit 1 ∷ Finish 1 Done ∷ Finish 1 Done
    ∷ Admit 1 ∷ Finish 2 Refused ∷ Finish 2 Done ∷ Admit 1 ∷ [])
    ≡ codes "no process b\nunknown 1\nunknown 0\nno piece 1\nstarted 1 a\npiece 1: do 1.x\nrunning 1\neffected 2\n"
    ++ codes "no piece 1\npiece 2: end 1\nend is not refused 2\neffected 3\nended 1\n"
unfolding digits
refusals = refl

-- the sale has built on the purchase and is taken along where that is asked to complete; what was done last is undone first
pub taken_along : prints stock (purchase ∷ sale ∷ [])
    (Start (codes "a") ∷ Start (codes "b") ∷ Admit 1 ∷ Finish 1 Done ∷ Admit 2 ∷ Finish 2 Done ∷ Admit 2 ∷ Admit 1 ∷ Abort 1
    ∷ Abort 1 ∷ Finish 3 Done ∷ Finish 3 Done ∷ Next ∷ Finish 4 Refused ∷ [])
    ≡ codes "started 1 a\nstarted 2 b\npiece 1: do 1.x\neffected 3\npiece 2: do 2.u\neffected 4\n"
    ++ codes "blocked on 1.x by 2.u rule A3\npiece 3: do 1.y\naborting 1 2\nalready 1\ndropped 8\n"
    ++ codes "no piece 3\npiece 4: undo 2.u\nretry 1\n"
unfolding digits
taken_along = refl

-- a taking is barred where nothing was added, though its work is done
pub barred : prints stock (sale ∷ []) (Start (codes "b") ∷ Next ∷ Finish 1 Done ∷ Next ∷ [])
    ≡ codes "started 1 b\npiece 1: do 1.u\nfailed\npiece 2: end 1\n"
unfolding digits
barred = refl

-- the report of the moment has the causes of the session
pub shown : prints small (addition ∷ []) (Start (codes "a") ∷ Abort 1 ∷ Show ∷ [])
    ≡ codes "started 1 a\naborting 1\n"
    ++ codes "conflicts\nhistory\nstart 1 a\ncompletion\nend 1\nends\n1 a active\ncauses\n1 abort\ntrace\nserial\n"
unfolding digits
shown = refl
