-- The commands of which `clap` reads the words after a command's name, as `clap` sees them.
use Rattle.std.specs.Prelude.{[], ◌∷◌, Some, true, pos, codes}
use Rattle.clap.specs.Walk.{Rule, Text}
use Rattle.clap.specs.Simple.{App, new_app, new_rule, on_top, with_rule}
use Rattle.clap.specs.declared.builder.action.ArgAction.TheVariants.{Set, SetTrue}
use Rattle.clap.specs.declared.builder.value_parser.ValueParser.TheVariants.{Signed, Unsigned}

-- a command without arguments, with neither help nor version; the first word is no program's name
abbrev pub plain_app : Text → App
plain_app name = on_top (λ s. record s {
  no_binary_name = true;
  disable_help_flag = true;
  disable_version_flag = true;
}) (new_app name)

-- an option without a value
abbrev pub flag_rule : Text → Rule
flag_rule option = record (new_rule option) { long = Some option; action = Some SetTrue }

-- a command that takes one option without a value
abbrev pub flag_app : Text → Text → App
flag_app name option = with_rule (plain_app name) (flag_rule option)

-- a command that takes two options without a value
abbrev pub flags_app : Text → Text → Text → App
flags_app name first second = with_rule (with_rule (plain_app name) (flag_rule first)) (flag_rule second)

-- `--workers`, one whole number from 1 to 16, and 1 where it is not given
abbrev pub workers_rule : Rule
workers_rule = record (new_rule (codes "workers")) {
  long = Some (codes "workers");
  action = Some Set;
  parser = Some (Signed (pos 1) (pos 16));
  defaults = codes "1" ∷ [];
}

-- a command that takes `--workers`
abbrev pub workers_app : Text → App
workers_app name = with_rule (plain_app name) workers_rule

-- NUMBER, a whole number that 64 bits hold
abbrev pub number_rule : Rule
number_rule = record (new_rule (codes "number")) {
  required = true;
  action = Some Set;
  parser = Some (Unsigned 0 18446744073709551615);
}

-- COUNT, a whole number from 1 to 256
abbrev pub count_rule : Rule
count_rule = record (new_rule (codes "count")) {
  required = true;
  action = Some Set;
  parser = Some (Signed (pos 1) (pos 256));
}

-- a command that takes NUMBER and COUNT
abbrev pub numbers_app : Text → App
numbers_app name = with_rule (with_rule (plain_app name) number_rule) count_rule
