use Rattle.std.proofs.Common.{◌≡◌, ◌∙◌, Some, ap, ap₂, map, refl, rules, sym, subst}
use Rattle.std.specs.Prelude.{string_bytes}
use Rattle.clap.specs.Simple.{app_of, is_simple, matches_of, with_rule}
use Rattle.clap.specs.Walk.{first_of, rows_of, rule_of}
use Rattle.clap.specs.Matches.{found_of}
use Rattle.clap.proofs.WalkLemmas.{first_value-rows}
use Rattle.clap.specs.declared.parser.matches.ArgMatches.{ArgMatches}
use Rattle.program_words.specs.Apps.{flag_rule, flags_app}
use Rattle.program_words.specs.Asked.{is_true}
use Rattle.program_words.proofs.Taken.{plain_is, refused, taken}
use Rattle.program_words.proofs.flags.read_two_flags.Goals as goal

pub returns-in-Ok-try_get_matches_from : goal.returns-in-Ok-try_get_matches_from
returns-in-Ok-try_get_matches_from c =
    let app = flags_app c.args.name.now c.args.first.now c.args.second.now in
    let rule : rule_of c.action-flag.result ≡ flag_rule c.args.first.now = search rules in
    let other : rule_of c.action-other.result ≡ flag_rule c.args.second.now = search rules in
    let is : app_of c.in-Ok-arg.command ≡ app = c.in-Ok-arg.ensures.shape (search rules) ∙ ap₂ with_rule (c.in-Ok.ensures.shape (search rules) ∙ ap₂ with_rule
    (plain_is _ _ _ _ c.args.name.now c.new-3.ensures.app c.no_binary_name.ensures c.disable_help_flag.ensures c.disable_version_flag.ensures) rule) other in
    let words = map string_bytes c.args.rest.now in
    let m = c.in-Ok-try_get_matches_from.matches in
    let rows : rows_of (found_of m) ≡ matches_of app words =
    subst (λ a. rows_of (found_of m) ≡ matches_of a words) is (c.in-Ok-try_get_matches_from.ensures.matches (ap is_simple is)).0 in
    let given : c.is_true-given.result ≡ is_true (first_of c.args.first.now (matches_of app words)) =
    c.is_true-given.ensures ∙ ap is_true (c.get_str.ensures ∙ first_value-rows (found_of m) c.args.first.now ∙ ap (first_of c.args.first.now) rows) in
    let also : c.is_true-also.result ≡ is_true (first_of c.args.second.now (matches_of app words)) =
    c.is_true-also.ensures ∙ ap is_true (c.get_str-in-Ok-try_get_matches_from.ensures ∙ first_value-rows (found_of m) c.args.second.now ∙ ap (first_of c.args.second.now) rows) in
    taken _ app words m (is_true (first_of c.args.first.now (matches_of app words)), is_true (first_of c.args.second.now (matches_of app words))) is refl c.in-Ok-try_get_matches_from.ensures.kinds
    ∙ sym (ap₂ (λ a b. Some (a, b)) given also)

pub returns-in-Err : goal.returns-in-Err
returns-in-Err c =
    let app = flags_app c.args.name.now c.args.first.now c.args.second.now in
    let rule : rule_of c.action-flag.result ≡ flag_rule c.args.first.now = search rules in
    let other : rule_of c.action-other.result ≡ flag_rule c.args.second.now = search rules in
    let is : app_of c.in-Ok-arg.command ≡ app = c.in-Ok-arg.ensures.shape (search rules) ∙ ap₂ with_rule (c.in-Ok.ensures.shape (search rules) ∙ ap₂ with_rule
    (plain_is _ _ _ _ c.args.name.now c.new-3.ensures.app c.no_binary_name.ensures c.disable_help_flag.ensures c.disable_version_flag.ensures) rule) other in
    let words = map string_bytes c.args.rest.now in
    refused ArgMatches _ app words c.in-Err.error c.cause_of.result (is_true (first_of c.args.first.now (matches_of app words)), is_true (first_of c.args.second.now (matches_of app words))) is refl
    c.in-Err.ensures.kinds c.cause_of.ensures
