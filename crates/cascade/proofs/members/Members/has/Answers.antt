use Rattle.std.proofs.Common.{List, ap, sym, ◌∙◌}
use Rattle.schedule_model.specs.Histories.{is_in}
use Rattle.cascade.specs.declared.marks.Mark.{Mark}
use Rattle.cascade.specs.Sets.{Numbers, marked}
use Rattle.cascade.proofs.Sets.{is_listed}
use Rattle.cascade.proofs.members.Members.has.Goals as goal

pub returns : goal.returns
returns c =
    c.is_in.ensures ∙ ap (λ (marks : List Mark). marked marks c.args.i) c.deref.ensures.value ∙ sym (is_listed c.args.i c.self.inside.marks.items) ∙ ap (λ (set : Numbers). is_in c.args.i set.members) c.self.view_is
