-- Worked examples, computed: verdicts on a report of two processes, and on texts that are none.
use Rattle.std.specs.Prelude.{◌≡◌, ℕ, List, [], ◌++◌, codes, refl}
use Rattle.std.specs.Fmt.{digits}
use Rattle.trace_verify.specs.declared.verdict.Verified.{Verified}
use Rattle.trace_verify.specs.declared.verdict.Verified.TheVariants.{Accepted, BadText, StepRefused, NotSerial, SerialDiffers}
use Rattle.trace_verify.specs.Verdicts.{verdict}

-- two processes took turns: the second ended first
abbrev pub before_trace : List ℕ
before_trace =
    codes "conflicts\nadd take\ntake take\nnote note\nbook book\n"
    ++ codes "history\nstart 1 a\nstart 2 b\ndo 1.x add\ndo 2.u add\ndo 2.v ship\ndo 1.y pay\nend 2\nend 1\n"
    ++ codes "completion\nends\n1 a path x y\n2 b path u v\ncauses\ntrace\n"

-- the second, and then the first
abbrev pub first_three : List ℕ
first_three = codes "serial\ndo 2.u add\ndo 2.v ship\ndo 1.x add\n"

abbrev pub serial_list : List ℕ
serial_list = first_three ++ codes "do 1.y pay\n"

pub report_is_accepted : verdict (before_trace ++ codes "move 2 1\nmove 3 2\n" ++ serial_list) ≡ Accepted
unfolding digits
report_is_accepted = refl

-- the entry would be carried over one of its own process
pub step_is_refused : verdict (before_trace ++ codes "move 2 1\nmove 3 1\n" ++ serial_list) ≡ StepRefused 2
unfolding digits
step_is_refused = refl

-- a move to its own place
pub move_to_itself_is_refused : verdict (before_trace ++ codes "move 1 1\n" ++ serial_list) ≡ StepRefused 1
unfolding digits
move_to_itself_is_refused = refl

-- without its steps it isn't serial, which comes before that the printed list differs
pub list_is_not_serial : verdict (before_trace ++ serial_list) ≡ NotSerial 4
unfolding digits
list_is_not_serial = refl

-- the printed list ends early
pub last_line_is_missing : verdict (before_trace ++ codes "move 2 1\nmove 3 2\n" ++ first_three) ≡ SerialDiffers 4
unfolding digits
last_line_is_missing = refl

-- a line without its line feed, and no line at all
pub last_line_has_no_end : verdict (before_trace ++ codes "serial") ≡ BadText 21
unfolding digits
last_line_has_no_end = refl

pub text_ends_early : verdict before_trace ≡ BadText 21
unfolding digits
text_ends_early = refl

pub empty_text : verdict [] ≡ BadText 1
unfolding digits
empty_text = refl

-- The same with keys: two processes took from the stock, and only what has the same key depends on one another. The mode of
-- takings, and the key of the second, are left open.
abbrev pub before_keyed_trace : List ℕ → List ℕ → List ℕ
before_keyed_trace mode key =
    codes "conflicts 2\ntake take " ++ mode
    ++ codes "\nhistory\nstart 1 a\nstart 2 b\ndo 1.x take 7\ndo 2.u take " ++ key
    ++ codes "\ndo 2.v ship 0\ndo 1.y pay 0\nend 2\nend 1\n"
    ++ codes "completion\nends\n1 a path x y\n2 b path u v\ncauses\ntrace\nmove 2 1\nmove 3 2\n"

-- the second, and then the first
abbrev pub keyed_serial_list : List ℕ → List ℕ
keyed_serial_list key = codes "serial\ndo 2.u take " ++ key ++ codes "\ndo 2.v ship 0\ndo 1.x take 7\ndo 1.y pay 0\n"

abbrev pub keyed_verdict : List ℕ → List ℕ → List ℕ → Verified
keyed_verdict mode key printed_key = verdict (before_keyed_trace mode key ++ keyed_serial_list printed_key)

-- takings with different keys change places
pub keyed_report_is_accepted : keyed_verdict (codes "key") (codes "9") (codes "9") ≡ Accepted
unfolding digits
keyed_report_is_accepted = refl

-- with one key they don't
pub equal_keys_conflict : keyed_verdict (codes "key") (codes "7") (codes "7") ≡ StepRefused 1
unfolding digits
equal_keys_conflict = refl

-- nor where they always conflict
pub whatever_the_keys : keyed_verdict (codes "always") (codes "9") (codes "9") ≡ StepRefused 1
unfolding digits
whatever_the_keys = refl

-- two lines with different modes: they always conflict, in whichever order the lines stand
pub wider_mode_behind : keyed_verdict (codes "key\ntake take always") (codes "9") (codes "9") ≡ StepRefused 1
unfolding digits
wider_mode_behind = refl

pub wider_mode_in_front : keyed_verdict (codes "always\ntake take key") (codes "9") (codes "9") ≡ StepRefused 1
unfolding digits
wider_mode_in_front = refl

-- the serial list has another key
pub printed_key_differs : keyed_verdict (codes "key") (codes "9") (codes "8") ≡ SerialDiffers 1
unfolding digits
printed_key_differs = refl

-- a key that isn't a number within 32 bits
pub key_is_no_number : keyed_verdict (codes "key") (codes "4294967296") (codes "9") ≡ BadText 7
unfolding digits
key_is_no_number = refl

-- another word for a mode
pub mode_is_none : keyed_verdict (codes "never") (codes "9") (codes "9") ≡ BadText 2
unfolding digits
mode_is_none = refl

-- lines of the one form in a report of the other
pub key_is_missing : verdict (codes "conflicts 2\nhistory\nstart 1 a\ndo 1.x add\n") ≡ BadText 4
unfolding digits
key_is_missing = refl

pub key_is_too_much : verdict (codes "conflicts\nhistory\nstart 1 a\ndo 1.x add 7\n") ≡ BadText 4
unfolding digits
key_is_too_much = refl

pub mode_is_missing : verdict (codes "conflicts 2\nadd take\n") ≡ BadText 2
unfolding digits
mode_is_missing = refl

pub mode_is_too_much : verdict (codes "conflicts\nadd take key\n") ≡ BadText 2
unfolding digits
mode_is_too_much = refl
