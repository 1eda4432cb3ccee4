use Rattle.std.proofs.Common.{◌≡◌, ◌∙◌, ℕ, List, [], ap, ap₂, map, refl, rules, sym, subst, slice_index, inl, inr, arith}
use Rattle.std.specs.Prelude.{Err, string_bytes, codes, pos}
use Rattle.std.specs.Option.{ok_or}
use Rattle.std.specs.Str.Parse.{ParsesUnsigned, ExplainsUnsignedError, HasUnsignedDigitsIfOk}
use Rattle.clap.specs.Simple.{app_of, matches_of, with_rule}
use Rattle.clap.specs.Walk.{rule_of}
use Rattle.clap.specs.declared.builder.value_parser.ValueParser.TheVariants as vp
use Rattle.clap.specs.declared.parser.matches.ArgMatches.{ArgMatches}
use Rattle.program_words.specs.Apps.{count_rule, number_rule, numbers_app}
use Rattle.program_words.specs.Asked.{Answers, number_of, numbers_asked}
use Rattle.program_words.specs.declared.refusals.WordsError.TheVariants.{BadWords}
use Rattle.program_words.proofs.EntryReads.{IsWanted, two_required_reads}
use Rattle.program_words.proofs.NumberReads.{HasText, asked_numbers, reads_signed_in, reads_unsigned_in, reads_within, second_within}
use Rattle.program_words.proofs.Complete.{answered, numbers_form_asked}
use Rattle.program_words.proofs.Taken.{plain_is, refused}
use Rattle.program_words.proofs.numbers.read_number_and_count.Goals as goal

-- `clap` found a text for each argument, which passed its parser
texts : (c : goal.Joined-matches) → HasText c.in-Ok-try_get_matches_from.matches (codes "number") c.value_parser-number.result.ignore_case (vp.Unsigned 0 18446744073709551615)
    × HasText c.in-Ok-try_get_matches_from.matches (codes "count") c.value_parser-count.result.ignore_case (vp.Signed (pos 1) (pos 256))
texts c =
    let number = c.value_parser-number.result in
    let count = c.value_parser-count.result in
    let number_id : number.id.now ≡ codes "number" = search rules in
    let count_id : count.id.now ≡ codes "count" = search rules in
    let first : (t : List ℕ) → number.id.now ≡ t → slice_index t 0 ≡ 110 = λ t e. rw (← e, number_id) refl in
    let second : (t : List ℕ) → count.id.now ≡ t → slice_index t 0 ≡ 99 = λ t e. rw (← e, count_id) refl in
    let m = c.in-Ok-try_get_matches_from.matches in
    let number_wanted : IsWanted number (vp.Unsigned 0 18446744073709551615) = record {
      plain = search rules;
      global = search rules;
      required = search rules;
      set = search rules;
      delimiter = search rules;
      least = search rules;
      parser = search rules;
      named = λ e. let bad : 0 ≡ 110 = first [] e in absurd (omega arith);
      own = λ auto. elim auto [
        | inl h ↦ let bad : 104 ≡ 110 = first _ h in absurd (omega arith)
        | inr h ↦ let bad : 118 ≡ 110 = first _ h in absurd (omega arith)
      ];
    } in
    let count_wanted : IsWanted count (vp.Signed (pos 1) (pos 256)) = record {
      plain = search rules;
      global = search rules;
      required = search rules;
      set = search rules;
      delimiter = search rules;
      least = search rules;
      parser = search rules;
      named = λ e. let bad : 0 ≡ 99 = second [] e in absurd (omega arith);
      own = λ auto. elim auto [
        | inl h ↦ let bad : 104 ≡ 99 = second _ h in absurd (omega arith)
        | inr h ↦ let bad : 118 ≡ 99 = second _ h in absurd (omega arith)
      ];
    } in
    let both = two_required_reads c.disable_version_flag.result c.in-Ok.with_number c.in-Ok-arg.command number count _ _ m
    c.in-Ok.ensures c.in-Ok-arg.ensures (search rules) (search rules) (search rules) (search rules) number_wanted count_wanted
    (rw (number_id, count_id) refl) (rw (number_id, count_id) refl) c.in-Ok-try_get_matches_from.ensures.parsed in (
      subst (λ (id : List ℕ). HasText m id number.ignore_case (vp.Unsigned 0 18446744073709551615)) number_id both.0,
      subst (λ (id : List ℕ). HasText m id count.ignore_case (vp.Signed (pos 1) (pos 256))) count_id both.1,
    )

pub returns-in-Ok-try_get_matches_from-clause-asked : goal.returns-in-Ok-try_get_matches_from-clause-asked
returns-in-Ok-try_get_matches_from-clause-asked c =
    let app = numbers_app c.args.name.now in
    let number = c.value_parser-number.result in
    let count = c.value_parser-count.result in
    let rule : rule_of number ≡ number_rule = search rules in
    let other : rule_of count ≡ count_rule = search rules in
    let is : app_of c.in-Ok-arg.command ≡ app = c.in-Ok-arg.ensures.shape (search rules) ∙ ap₂ with_rule (c.in-Ok.ensures.shape (search rules) ∙ ap₂ with_rule
    (plain_is _ _ _ _ c.args.name.now c.new-4.ensures.app c.no_binary_name.ensures c.disable_help_flag.ensures c.disable_version_flag.ensures) rule) other in
    let words = map string_bytes c.args.rest.now in
    let m = c.in-Ok-try_get_matches_from.matches in
    let read = texts c in
    let a_number = reads_unsigned_in _ app words m (codes "number") number.ignore_case _ (λ bs r. ParsesUnsigned 64 10 bs r × ExplainsUnsignedError 10 bs r × HasUnsignedDigitsIfOk bs r)
    0 18446744073709551615 c.get_one.result is refl c.in-Ok-try_get_matches_from.ensures.matches read.0
    c.get_one.ensures.value (λ u x g. g.0) in
    let a_count = reads_signed_in _ app words m (codes "count") count.ignore_case _ (λ bs r. ParsesUnsigned 32 10 bs r × ExplainsUnsignedError 10 bs r × HasUnsignedDigitsIfOk bs r)
    32 1 256 c.get_one-in-Ok-try_get_matches_from.result is refl c.in-Ok-try_get_matches_from.ensures.matches read.1
    c.get_one-in-Ok-try_get_matches_from.ensures.value (λ u x g. g.0) (omega arith) in
    subst (Answers (numbers_asked c.args.name.now words)) (sym (c.ok_or.ensures.value ∙ ap (λ o. ok_or o BadWords) c.zip.ensures))
    (asked_numbers _ app words m _ _ c.get_one.result c.get_one-in-Ok-try_get_matches_from.result is refl c.in-Ok-try_get_matches_from.ensures.kinds a_number a_count)

pub returns-in-Ok-try_get_matches_from-clause-range : goal.returns-in-Ok-try_get_matches_from-clause-range
returns-in-Ok-try_get_matches_from-clause-range c =
    let m = c.in-Ok-try_get_matches_from.matches in
    let within = reads_within m (codes "count") c.value_parser-count.result.ignore_case _ (λ bs r. ParsesUnsigned 32 10 bs r × ExplainsUnsignedError 10 bs r × HasUnsignedDigitsIfOk bs r)
    32 1 256 c.get_one-in-Ok-try_get_matches_from.result (texts c).1 c.get_one-in-Ok-try_get_matches_from.ensures.value (λ u x g. g.0) (omega arith) in
    second_within 1 256 c.get_one.result c.get_one-in-Ok-try_get_matches_from.result c.ok_or.result within (c.ok_or.ensures.value ∙ ap (λ o. ok_or o BadWords) c.zip.ensures)

pub returns-in-Err-clause-asked : goal.returns-in-Err-clause-asked
returns-in-Err-clause-asked c =
    let app = numbers_app c.args.name.now in
    let rule : rule_of c.value_parser-number.result ≡ number_rule = search rules in
    let other : rule_of c.value_parser-count.result ≡ count_rule = search rules in
    let is : app_of c.in-Ok-arg.command ≡ app = c.in-Ok-arg.ensures.shape (search rules) ∙ ap₂ with_rule (c.in-Ok.ensures.shape (search rules) ∙ ap₂ with_rule
    (plain_is _ _ _ _ c.args.name.now c.new-4.ensures.app c.no_binary_name.ensures c.disable_help_flag.ensures c.disable_version_flag.ensures) rule) other in
    let words = map string_bytes c.args.rest.now in
    refused ArgMatches _ app words c.in-Err.error c.cause_of.result (number_of (codes "number") (matches_of app words), number_of (codes "count") (matches_of app words)) is refl
    c.in-Err.ensures.kinds c.cause_of.ensures

pub returns-in-Ok-try_get_matches_from-clause-complete : goal.returns-in-Ok-try_get_matches_from-clause-complete
returns-in-Ok-try_get_matches_from-clause-complete c =
    λ n k form. answered (n, k) _ c.ok_or.result (returns-in-Ok-try_get_matches_from-clause-asked c) (numbers_form_asked c.args.name.now n k (map string_bytes c.args.rest.now) form)

pub returns-in-Err-clause-complete : goal.returns-in-Err-clause-complete
returns-in-Err-clause-complete c =
    λ n k form. answered (n, k) _ (Err c.cause_of.result) (returns-in-Err-clause-asked c) (numbers_form_asked c.args.name.now n k (map string_bytes c.args.rest.now) form)
