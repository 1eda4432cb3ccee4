-- What a hint points at: a place of the input, and what there is to say of what stands there.
use Rattle.std.specs.Prelude.{◌≡◌, ◌≤◌, ◌<◌, ◌-◌, ℕ, Bool, true, false, List, [], ◌∷◌, length, take, codes, if◌then◌else◌, IsUtf8}
use Rattle.std.specs.Prelude.{Option, Some, None, option_map, option_and_then, slice_get, Err, Ok}
use Rattle.std.specs.Option.{option_map_or}
use Rattle.memchr.specs.Find.{FindsNeedle}
use Rattle.toml.specs.Data.{Items, Members, get_item}
use Rattle.toml.specs.Parse.{parse_document}
use Rattle.text_words.specs.declared.places.Position.{Position}
use Rattle.process_text.specs.declared.error.TextError.{TextError}
use Rattle.process_text.specs.declared.error.TextError.TheVariants.{BadText, SameName, Limit, NoMemory as TextMemory}
use Rattle.commute_table.specs.Document.{Says, IsAnswer}
use Rattle.commute_table.specs.declared.op.Op.{Op}
use Rattle.commute_table.specs.declared.errors.ScenarioError.{ScenarioError}
use Rattle.commute_table.specs.declared.errors.ScenarioError.TheVariants as errors
use Rattle.commute_table.specs.declared.scenario.Scenario.{Scenario}
use Rattle.command_refusals.specs.Shown.{shown_word}
use Rattle.command_refusals.specs.declared.faults.ReportFault.TheVariants.{BadText as BadReport}
use Rattle.command_refusals.specs.declared.faults.ScenarioFault.TheVariants.{BadToml, BadKey, UnknownOperation, SameOperation}
use Rattle.command_refusals.specs.declared.refusal.Refusal.{Refusal}
use Rattle.command_refusals.specs.declared.refusal.Refusal.TheVariants.{Text, Scenario as OfScenario, CatalogDiffers, BadLine, Report}
use Rattle.refusal_hints.specs.Places.{moved, place_of}
use Rattle.refusal_hints.specs.Words.{stands_alone}
use Rattle.refusal_hints.specs.Lines.{nth_line, key_of_table}
use Rattle.refusal_hints.specs.Found.{word_at}
use Rattle.refusal_hints.specs.Near.{name_in, nearest}
use Rattle.refusal_hints.specs.Tables.{table_from, tables_of, is_of_document}
use Rattle.refusal_hints.specs.Parts.{part_at}
use Rattle.refusal_hints.specs.declared.about.About.{About}
use Rattle.refusal_hints.specs.declared.about.About.TheVariants.{Nothing, Found, Front, Operation, Pair, Near}
use Rattle.refusal_hints.specs.declared.about.Point.{Point}
use Rattle.refusal_hints.specs.declared.parts.Part.{Part}
use Rattle.refusal_hints.specs.declared.parts.Part.TheVariants as parts
use Rattle.refusal_hints.specs.declared.documents.InputForm.{InputForm}
use Rattle.refusal_hints.specs.declared.documents.InputForm.TheVariants.{Processes, Scenario as AsScenario}

-- ---- points

abbrev pub position : ℕ → ℕ → Position
position line column = record { line = line; column = column }

abbrev pub point : Option Position → About → Point
point at about = record { at = at; about = about }

-- nothing is known of a place, and nothing there is to say
abbrev pub nowhere : Point
nowhere = point None Nothing

-- the place of the byte in front of which so many stand
abbrev pub at_offset : List ℕ → Option ℕ → Option Position
at_offset input n = option_map (λ n. place_of input n) n

-- ---- the document in an input

-- what stands in front of the first line that is `%%`, or all
abbrev pub IsDocument : List ℕ → List ℕ → Type 0
IsDocument input d =
    (n : Option ℕ) × FindsNeedle input (codes "\n%%\n") 0 n × (d ≡ take (option_map_or (λ n. n) n (length input)) input)

-- the table that the document is; or it is no TOML document
abbrev pub IsTableIn : List ℕ → Option Members → Type 0
IsTableIn input (Some t) = (d : List ℕ) × IsDocument input d × (parse_document d ≡ Some t)
IsTableIn input None = (d : List ℕ) × IsDocument input d × (IsUtf8 d → parse_document d ≡ None)

abbrev pub is_want_of_memory : ScenarioError → Bool
is_want_of_memory errors.BadToml = false
is_want_of_memory (errors.BadKey key) = false
is_want_of_memory (errors.UnknownOp name) = false
is_want_of_memory (errors.SameOp name) = false
is_want_of_memory (errors.Ops n) = false
is_want_of_memory errors.NoMemory = true

-- the document is no scenario, for a reason that it has itself
abbrev pub IsNoScenario : List ℕ → Type 0
IsNoScenario d = (e : ScenarioError) × IsAnswer d (Err e) × (is_want_of_memory e ≡ false)

-- the scenario that the document is; or it is none
abbrev pub IsScenarioIn : List ℕ → Option Scenario → Type 0
IsScenarioIn input (Some s) = (d : List ℕ) × IsDocument input d × Says d (Ok s)
IsScenarioIn input None = (d : List ℕ) × IsDocument input d × IsNoScenario d

-- ---- texts of processes

-- the word that stands at a line and a column of a text, or nothing
abbrev pub found_at : Bool → ℕ → ℕ → List ℕ → About
found_at true line column text = Found (shown_word (word_at line column text))
found_at false line column text = Nothing

-- a line and a column of a text of processes; if the word tells, it is named
abbrev pub text_point : Bool → ℕ → ℕ → List ℕ → Point
text_point tells line column input = point (Some (position line column)) (found_at tells line column input)

-- so of a text that stands in the input first at this place, or nowhere as it is
abbrev pub moved_point : Bool → ℕ → ℕ → List ℕ → List ℕ → Option ℕ → Point
moved_point tells line column input text n =
    point (option_map (λ n. moved (place_of input n) (position line column)) n) (found_at tells line column text)

-- so of the text of processes of a scenario, if there is one
abbrev pub IsInScenario : Bool → ℕ → ℕ → List ℕ → Option Scenario → Point → Type 0
IsInScenario tells line column input None p = p ≡ nowhere
IsInScenario tells line column input (Some s) p =
    (n : Option ℕ) × FindsNeedle input s.processes 0 n × (p ≡ moved_point tells line column input s.processes n)

-- so by the form of the input
abbrev pub IsTextPoint : InputForm → List ℕ → Bool → ℕ → ℕ → Point → Type 0
IsTextPoint Processes input tells line column p = p ≡ text_point tells line column input
IsTextPoint AsScenario input tells line column p =
    (s : Option Scenario) × IsScenarioIn input s × IsInScenario tells line column input s p

-- the word that doesn't fit, or the line with a name that stands for the second time
abbrev pub IsErrorPoint : InputForm → List ℕ → TextError → Point → Type 0
IsErrorPoint form input (BadText line column expected) p = IsTextPoint form input true line column p
IsErrorPoint form input (SameName line name) p = IsTextPoint form input false line 1 p
IsErrorPoint form input (Limit what n) p = p ≡ nowhere
IsErrorPoint form input TextMemory p = p ≡ nowhere

-- ---- documents

-- some byte of the input, where its document is no TOML; which one is left to the reader of TOML. None where the document is TOML
abbrev pub IsTomlFault : List ℕ → Option ℕ → Type 0
IsTomlFault input (Some n) = IsTableIn input None × (n ≤ length input)
IsTomlFault input None = (t : Members) × IsTableIn input (Some t)

abbrev pub IsTomlPoint : List ℕ → Point → Type 0
IsTomlPoint input p = (n : Option ℕ) × IsTomlFault input n × (p ≡ point (at_offset input n) Nothing)

-- the name of table k, counted from 0, as it is shown; nothing where it has none
abbrev pub table_name : ℕ → Items → List ℕ
table_name k ds = option_map_or shown_word (option_and_then name_in (get_item k ds)) []

-- table k, counted from 1, at this key
abbrev pub operation_point : List ℕ → List ℕ → Items → Option ℕ → Point
operation_point input key ds None = nowhere
operation_point input key ds (Some k) = point (at_offset input (key_of_table (k - 1) key input)) (Operation k (table_name (k - 1) ds))

-- the line of a key of the document; or the first table with a fault at the key
abbrev pub key_point : List ℕ → List ℕ → Members → Point
key_point input key t = if is_of_document key t then point (at_offset input (nth_line 0 key input)) Nothing
    else operation_point input key (tables_of t) (table_from false key 0 1 (tables_of t))

-- the second table with a name
abbrev pub name_point : List ℕ → List ℕ → Members → Point
name_point input name t = operation_point input (codes "name") (tables_of t) (table_from true name 1 1 (tables_of t))

-- a name that may be meant
abbrev pub near_about : Option (List ℕ) → About
near_about None = Nothing
near_about (Some name) = Near (shown_word name)

-- this place, and the name of an operation that is near to this one
abbrev pub unknown_point : List ℕ → List ℕ → Option ℕ → Members → Point
unknown_point input name n t = point (at_offset input n) (near_about (nearest name (tables_of t)))

-- where the name stands alone first; or it doesn't
abbrev pub IsFirstAlone : List ℕ → List ℕ → Option ℕ → Type 0
IsFirstAlone input name (Some n) =
    (n ≤ length input) × (stands_alone input name n ≡ true) × ((k : ℕ) → k < n → stands_alone input name k ≡ false)
IsFirstAlone input name None = (k : ℕ) → k < length input → stands_alone input name k ≡ false

-- what is pointed at by the table of a document, if there is one
abbrev pub by_table : (Members → Point) → Option Members → Point
by_table f None = nowhere
by_table f (Some t) = f t

abbrev pub IsByTable : List ℕ → (Members → Point) → Point → Type 0
IsByTable input f p = (t : Option Members) × IsTableIn input t × (p ≡ by_table f t)

abbrev pub IsUnknownPoint : List ℕ → List ℕ → Point → Type 0
IsUnknownPoint input name p = (n : Option ℕ) × IsFirstAlone input name n × IsByTable input (unknown_point input name n) p

-- ---- catalogs

-- the name of operation k, counted from 1
abbrev pub op_name : List Op → ℕ → List ℕ
op_name ops k = option_map_or (λ o. shown_word o.name) (slice_get ops (k - 1)) []

-- a part of a catalog with these operations, as it stands in a document
abbrev pub part_point : List ℕ → List Op → Part → Point
part_point input ops parts.Front = point None Front
part_point input ops (parts.Operation k) = point (at_offset input (key_of_table (k - 1) (codes "name") input)) (Operation k (op_name ops k))
part_point input ops (parts.Pair a b) = point (at_offset input (nth_line 0 (codes "conflicts") input)) (Pair (op_name ops a) (op_name ops b))
part_point input ops parts.Behind = nowhere

-- the part at byte n of the catalog of the scenario, if there is one
abbrev pub byte_point : List ℕ → ℕ → Option Scenario → Point
byte_point input n None = nowhere
byte_point input n (Some s) = part_point input s.catalog.ops (part_at n s.catalog.ops)

abbrev pub IsCatalogPoint : List ℕ → ℕ → Point → Type 0
IsCatalogPoint input n p = (s : Option Scenario) × IsScenarioIn input s × (p ≡ byte_point input n s)

-- ---- refusals

-- What the hint of a refusal points at. Where it names no place, there is none of that kind in the input.
abbrev pub IsPoint : InputForm → List ℕ → Refusal → Point → Type 0
IsPoint form input (Text e) p = IsErrorPoint form input e p
IsPoint form input (OfScenario BadToml) p = IsTomlPoint input p
IsPoint form input (OfScenario (BadKey key)) p = IsByTable input (key_point input key) p
IsPoint form input (OfScenario (UnknownOperation name)) p = IsUnknownPoint input name p
IsPoint form input (OfScenario (SameOperation name)) p = IsByTable input (name_point input name) p
IsPoint form input (CatalogDiffers n) p = IsCatalogPoint input n p
IsPoint form input (BadLine n) p = p ≡ point (Some (position n 1)) Nothing
IsPoint form input (Report (BadReport n)) p = p ≡ point (Some (position n 1)) Nothing
IsPoint form input r p = p ≡ nowhere
