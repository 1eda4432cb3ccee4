use Rattle.std.proofs.Common.{sym, ◌∙◌, ap}
use Rattle.subsystem_store.specs.Bodies.{last_number}
use Rattle.subsystem_store.specs.Opened.{Opened}
use Rattle.subsystem_store.proofs.Places.{last_number_at}
use Rattle.subsystem_store.proofs.store.Store.last_in_doubt.Goals as goal

pub returns : goal.returns
returns g c = sym (last_number_at c.in_doubt.result.now _ c.in-len1-up.len_at_least) ∙ ap last_number (c.in_doubt.ensures ∙ ap (λ (s : Opened g.row.B.Denot). s.doubt) c.self.view_is)
