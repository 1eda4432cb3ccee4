use Rattle.std.proofs.Common.{◌≡◌, map, refl}
use Rattle.std.specs.Prelude.{string_bytes}
use Rattle.clap.specs.Simple.{app_of}
use Rattle.clap.specs.declared.parser.matches.ArgMatches.{ArgMatches}
use Rattle.program_words.specs.Apps.{plain_app}
use Rattle.program_words.proofs.PlainOnly.{plain_takes}
use Rattle.program_words.proofs.Taken.{no_fault, plain_is, taken, refused}
use Rattle.program_words.proofs.arguments.read_no_argument.Goals as goal

pub returns-in-Ok-clause-asked : goal.returns-in-Ok-clause-asked
returns-in-Ok-clause-asked c =
    let is : app_of c.disable_version_flag-command.result ≡ plain_app c.args.name.now =
    plain_is _ _ _ _ c.args.name.now c.new.ensures.app c.no_binary_name.ensures c.disable_help_flag.ensures c.disable_version_flag-command.ensures in
    taken _ (plain_app c.args.name.now) (map string_bytes c.args.rest.now) c.in-Ok.field-0 tt is refl c.in-Ok.ensures.kinds

pub returns-in-Ok-clause-alone : goal.returns-in-Ok-clause-alone
returns-in-Ok-clause-alone c =
    let is : app_of c.disable_version_flag-command.result ≡ plain_app c.args.name.now =
    plain_is _ _ _ _ c.args.name.now c.new.ensures.app c.no_binary_name.ensures c.disable_help_flag.ensures c.disable_version_flag-command.ensures in
    plain_takes c.args.name.now (map string_bytes c.args.rest.now)
    (no_fault _ (plain_app c.args.name.now) (map string_bytes c.args.rest.now) c.in-Ok.field-0 is refl c.in-Ok.ensures.kinds)

pub returns-clause-asked : goal.returns-clause-asked
returns-clause-asked c =
    let is : app_of c.disable_version_flag-command.result ≡ plain_app c.args.name.now =
    plain_is _ _ _ _ c.args.name.now c.new.ensures.app c.no_binary_name.ensures c.disable_help_flag.ensures c.disable_version_flag-command.ensures in
    refused ArgMatches _ (plain_app c.args.name.now) (map string_bytes c.args.rest.now) c.in-Err.error c.cause_of.result tt is refl c.in-Err.ensures.kinds
    c.cause_of.ensures
