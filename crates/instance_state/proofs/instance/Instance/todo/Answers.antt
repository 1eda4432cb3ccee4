use Rattle.std.proofs.Common.{◌∙◌, ◌<◌, length, subst, sym}
use Rattle.instance_state.proofs.Forward.{next_within}
use Rattle.instance_state.proofs.instance.Instance.todo.Goals as goal

pub tries-requires : goal.tries-requires
tries-requires c no_end =
    let t = c.self.inside.rows.shape in
    subst (λ n. n < length t.kinds) (sym c.next-work.ensures.step) (next_within t c.self.inside.at c.self.invariant (λ e. no_end (c.next-work.ensures.work ∙ e)))
