-- Worked lines of refusals, each of which holds by computing.
use Rattle.std.specs.Prelude.{◌≡◌, refl, [], ◌∷◌, codes, length, replicate}
use Rattle.std.specs.Fmt.{digits}
use Rattle.command_refusals.specs.declared.faults.Quantity.TheVariants.{Input, Operations, Entries}
use Rattle.command_refusals.specs.declared.faults.ScenarioFault.TheVariants.{BadToml, BadKey, UnknownOperation, SameOperation}
use Rattle.command_refusals.specs.declared.faults.FileFault.TheVariants.{NotEmpty, BadHeader, BadRecord, BadHistory, BadBook}
use Rattle.command_refusals.specs.declared.refusal.Refusal.TheVariants.{Scenario, CatalogDiffers, BadLine, Limit, Unfinished, File}
use Rattle.command_refusals.specs.declared.refusal.Refusal.TheVariants.{BookDiffers, Commuting, Exhausted}
use Rattle.command_refusals.specs.Shown.{shown_word}
use Rattle.command_refusals.specs.Refusals.{refusal_text}

pub no_toml : refusal_text (Scenario BadToml) ≡ codes "bad toml"
no_toml = refl

pub unknown_key : refusal_text (Scenario (BadKey (shown_word (codes "colour")))) ≡ codes "bad key colour"
unknown_key = refl

-- a tab, a byte above those of ASCII and the one behind `~` are printed as `?`
pub odd_key : refusal_text (Scenario (BadKey (shown_word (97 ∷ 9 ∷ 195 ∷ 126 ∷ 127 ∷ 32 ∷ [])))) ≡ codes "bad key a??~? "
odd_key = refl

-- a key of 70 bytes is cut
pub long_key : length (shown_word (replicate 70 97)) ≡ 64
long_key = refl

pub no_operation : refusal_text (Scenario (UnknownOperation (shown_word (codes "fly")))) ≡ codes "unknown operation fly"
no_operation = refl

pub repeated_operation : refusal_text (Scenario (SameOperation (codes "add"))) ≡ codes "same operation add"
repeated_operation = refl

pub unnamed_conflict : refusal_text (Commuting (codes "note") (codes "note")) ≡ codes "commuting note note"
unnamed_conflict = refl

pub other_catalog : refusal_text (CatalogDiffers 1) ≡ codes "catalog differs at byte 1"
unfolding digits
other_catalog = refl

pub no_line : refusal_text (BadLine 7) ≡ codes "bad line 7"
unfolding digits
no_line = refl

pub too_much_input : refusal_text (Limit Input 1048577) ≡ codes "limit input 1048577"
unfolding digits
too_much_input = refl

pub too_many_operations : refusal_text (Limit Operations 257) ≡ codes "limit operations 257"
unfolding digits
too_many_operations = refl

pub too_many_entries : refusal_text (Limit Entries 16387) ≡ codes "limit entries 16387"
unfolding digits
too_many_entries = refl

pub active_process : refusal_text (Unfinished 1) ≡ codes "unfinished 1"
unfolding digits
active_process = refl

pub made_files : refusal_text (File (NotEmpty 0)) ≡ codes "not empty file 0"
unfolding digits
made_files = refl

pub short_file : refusal_text (File (BadHeader 0)) ≡ codes "bad header file 0"
unfolding digits
short_file = refl

pub odd_record : refusal_text (File (BadRecord 1 2)) ≡ codes "bad record file 1 at 2"
unfolding digits
odd_record = refl

pub odd_history : refusal_text (File (BadHistory 3)) ≡ codes "bad history at record 3"
unfolding digits
odd_history = refl

pub odd_book : refusal_text (File (BadBook 1 4)) ≡ codes "bad book file 1 at record 4"
unfolding digits
odd_book = refl

pub other_book : refusal_text (BookDiffers 0 1) ≡ codes "book differs subsystem 0 at 1"
unfolding digits
other_book = refl

pub no_tries_left : refusal_text (Exhausted 1 (codes "y")) ≡ codes "exhausted 1 y"
unfolding digits
no_tries_left = refl
