use Rattle.std.proofs.Common.{refl, inr}
use Rattle.process_top.specs.Replies.{printed}
use Rattle.process_top.proofs.expanding.expand.Goals as goal

pub returns-in-Ok : goal.returns-in-Ok
returns-in-Ok g c = (
  printed c.in-Ok.text.items,
  refl,
  (c.in_ok-text.text.items, c.in_ok-text.ensures.text, rw (← c.deref.ensures.value) c.in-Ok.ensures.good, rw (← c.deref.ensures.value) c.in-Ok.ensures.text, c.in-Ok.ensures.plain),
  refl,
  refl,
)

pub returns : goal.returns
returns g c = inr (c.in_ok-text.text.items, c.in_ok-text.ensures.text, (c.in-Err.error, c.text_refusal.ensures, rw (← c.deref.ensures.value) c.in-Err.ensures.refused))
