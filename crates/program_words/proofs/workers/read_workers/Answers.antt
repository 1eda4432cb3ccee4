use Rattle.std.proofs.Common.{◌≡◌, ◌∙◌, ℕ, List, [], ap₂, map, refl, rules, sym, subst, slice_index, inl, inr, arith}
use Rattle.std.specs.Prelude.{Err, string_bytes, codes, pos}
use Rattle.std.specs.Str.Parse.{ParsesUnsigned, ExplainsUnsignedError, HasUnsignedDigitsIfOk}
use Rattle.clap.specs.Simple.{app_of, matches_of, with_rule}
use Rattle.clap.specs.Walk.{rule_of}
use Rattle.clap.specs.declared.builder.value_parser.ValueParser.TheVariants as vp
use Rattle.clap.specs.declared.parser.matches.ArgMatches.{ArgMatches}
use Rattle.program_words.specs.Apps.{workers_app, workers_rule}
use Rattle.program_words.specs.Asked.{Answers, number_of, workers_asked}
use Rattle.program_words.proofs.EntryReads.{one_default_read}
use Rattle.program_words.proofs.NumberReads.{HasText, asked_number, reads_signed_in, reads_within, within_asked}
use Rattle.program_words.proofs.Complete.{answered, workers_form_asked}
use Rattle.program_words.proofs.Taken.{plain_is, refused}
use Rattle.program_words.proofs.workers.read_workers.Goals as goal

-- `clap` found a text for the option, which passed its parser
text : (c : goal.Joined-matches) → HasText c.in-Ok-try_get_matches_from.matches (codes "workers") c.default_value-workers.result.ignore_case (vp.Signed (pos 1) (pos 16))
text c =
    let arg = c.default_value-workers.result in
    let m = c.in-Ok-try_get_matches_from.matches in
    let name_id : arg.id.now ≡ codes "workers" = search rules in
    let first : (t : List ℕ) → arg.id.now ≡ t → slice_index t 0 ≡ 119 = λ t e. rw (← e, name_id) refl in
    let read = one_default_read c.disable_version_flag.result c.in-Ok.command arg m
    c.in-Ok.ensures (search rules) (search rules) (search rules) (search rules) (search rules) (search rules) (search rules)
    (search rules) (search rules)
    (λ e. let bad : 0 ≡ 119 = first [] e in absurd (omega arith))
    (λ auto. elim auto [
      | inl h ↦ let bad : 104 ≡ 119 = first _ h in absurd (omega arith)
      | inr h ↦ let bad : 118 ≡ 119 = first _ h in absurd (omega arith)
    ])
    (vp.Signed (pos 1) (pos 16)) (search rules) c.in-Ok-try_get_matches_from.ensures.parsed in
    subst (λ (id : List ℕ). HasText m id arg.ignore_case (vp.Signed (pos 1) (pos 16))) name_id read

pub returns-in-Ok-try_get_matches_from-clause-asked : goal.returns-in-Ok-try_get_matches_from-clause-asked
returns-in-Ok-try_get_matches_from-clause-asked c =
    let arg = c.default_value-workers.result in
    let rule : rule_of arg ≡ workers_rule = search rules in
    let is : app_of c.in-Ok.command ≡ workers_app c.args.name.now = c.in-Ok.ensures.shape (search rules) ∙ ap₂ with_rule
    (plain_is _ _ _ _ c.args.name.now c.new-3.ensures.app c.no_binary_name.ensures c.disable_help_flag.ensures c.disable_version_flag.ensures) rule in
    let words = map string_bytes c.args.rest.now in
    let m = c.in-Ok-try_get_matches_from.matches in
    let number = reads_signed_in _ (workers_app c.args.name.now) words m (codes "workers") arg.ignore_case _ (λ bs r. ParsesUnsigned 32 10 bs r × ExplainsUnsignedError 10 bs r × HasUnsignedDigitsIfOk bs r)
    32 1 16 c.get_one.result is refl c.in-Ok-try_get_matches_from.ensures.matches
    (text c)
    c.get_one.ensures.value (λ u x g. g.0) (omega arith) in
    subst (Answers (workers_asked c.args.name.now words)) (sym c.ok_or.ensures.value)
    (asked_number _ (workers_app c.args.name.now) words m _ c.get_one.result is refl c.in-Ok-try_get_matches_from.ensures.kinds number)

pub returns-in-Ok-try_get_matches_from-clause-range : goal.returns-in-Ok-try_get_matches_from-clause-range
returns-in-Ok-try_get_matches_from-clause-range c =
    let m = c.in-Ok-try_get_matches_from.matches in
    let within = reads_within m (codes "workers") c.default_value-workers.result.ignore_case _ (λ bs r. ParsesUnsigned 32 10 bs r × ExplainsUnsignedError 10 bs r × HasUnsignedDigitsIfOk bs r)
    32 1 16 c.get_one.result (text c) c.get_one.ensures.value (λ u x g. g.0) (omega arith) in
    within_asked 1 16 c.get_one.result c.ok_or.result within c.ok_or.ensures.value

pub returns-in-Err-clause-asked : goal.returns-in-Err-clause-asked
returns-in-Err-clause-asked c =
    let rule : rule_of c.default_value-workers.result ≡ workers_rule = search rules in
    let is : app_of c.in-Ok.command ≡ workers_app c.args.name.now = c.in-Ok.ensures.shape (search rules) ∙ ap₂ with_rule
    (plain_is _ _ _ _ c.args.name.now c.new-3.ensures.app c.no_binary_name.ensures c.disable_help_flag.ensures c.disable_version_flag.ensures) rule in
    let words = map string_bytes c.args.rest.now in
    refused ArgMatches _ (workers_app c.args.name.now) words c.in-Err.error c.cause_of.result (number_of (codes "workers") (matches_of (workers_app c.args.name.now) words)) is refl c.in-Err.ensures.kinds
    c.cause_of.ensures

pub returns-in-Ok-try_get_matches_from-clause-complete : goal.returns-in-Ok-try_get_matches_from-clause-complete
returns-in-Ok-try_get_matches_from-clause-complete c =
    λ n form. answered n _ c.ok_or.result (returns-in-Ok-try_get_matches_from-clause-asked c) (workers_form_asked c.args.name.now n (map string_bytes c.args.rest.now) form)

pub returns-in-Err-clause-complete : goal.returns-in-Err-clause-complete
returns-in-Err-clause-complete c =
    λ n form. answered n _ (Err c.cause_of.result) (returns-in-Err-clause-asked c) (workers_form_asked c.args.name.now n (map string_bytes c.args.rest.now) form)
