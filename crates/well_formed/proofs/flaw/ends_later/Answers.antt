use Rattle.std.proofs.Common.{sym, ap, ◌∙◌}
use Rattle.std.specs.Option.{option_copied}
use Rattle.well_formed.specs.Spots.{is_later}
use Rattle.well_formed.proofs.Judging.{last_at}
use Rattle.well_formed.proofs.flaw.ends_later.Goals as goal

pub returns-in-Some : goal.returns-in-Some
returns-in-Some c = sym (ap (is_later c.args.step) (last_at c.args.path.now ∙ sym c.last.ensures.value ∙ ap option_copied c.in-Some.is))
