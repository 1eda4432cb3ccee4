-- Worked examples, computed.
use Rattle.std.specs.Prelude.{◌≡◌, List, [], ◌∷◌, ◌++◌, ℕ, codes, Ok, Err, Some, None, refl}
use Rattle.std.specs.Fmt.{digits}
use Rattle.process_tree.specs.declared.play.Outcome.TheVariants.{Done, Refused}
use Rattle.session_text.specs.declared.line.Line.TheVariants.{Start, Admit, Next, Finish, Queue, Flush, Abort, Show}
use Rattle.session_text.specs.Forms.{line_of}
use Rattle.session_text.specs.Sessions.{said, scenario_of}

-- a scenario, and lines of each form
abbrev pub worked : List ℕ
worked = codes "version = 1\n%%\nstart a\n\nadmit 1\nfinish 1 done\nnext\n"
    ++ codes "finish 2 refused\nabort 0\nqueue 3 done\nflush\nshow\nstop\nwhatever"

pub worked_scenario : scenario_of worked ≡ codes "version = 1\n"
worked_scenario = refl

pub worked_lines : said worked ≡ Ok (Start (codes "a") ∷ Admit 1 ∷ Finish 1 Done ∷ Next ∷ Finish 2 Refused ∷ Abort 0 ∷ Queue 3 Done
    ∷ Flush ∷ Show ∷ [])
unfolding digits
worked_lines = refl

-- the first line without a form is told by its number in the whole text
pub bad_line : said (codes "version = 1\n%%\nnext\n\nadmit 01\nstart 1") ≡ Err 5
unfolding digits
bad_line = refl

-- a text without a mark is a scenario, and so is the mark's line no line of the scenario where it is the last
pub no_mark : said (codes "version = 1") ≡ Ok []
no_mark = refl

pub mark_alone : scenario_of (codes "%%") ≡ []
mark_alone = refl

-- two spaces, a number that 32 bits don't hold, and a space at the end have no form
pub two_spaces : line_of (codes "admit  1") ≡ None
unfolding digits
two_spaces = refl

pub too_great : line_of (codes "admit 4294967296") ≡ None
unfolding digits
too_great = refl

pub greatest : line_of (codes "admit 4294967295") ≡ Some (Admit 4294967295)
unfolding digits
greatest = refl

pub space_behind : line_of (codes "next ") ≡ None
unfolding digits
space_behind = refl
