use Rattle.machine_model.specs.declared.replies.StartWhy.TheVariants.{NoRoom, TooMany}
use Rattle.session_play.proofs.starting.put_refusal.Goals as goal

pub returns-in_ok-put_not_started-in-TooMany-clause-told : goal.returns-in_ok-put_not_started-in-TooMany-clause-told
returns-in_ok-put_not_started-in-TooMany-clause-told c = (TooMany c.in-TooMany.n, c.in-TooMany.is, (λ same. absurd cc), c.in_ok-put_not_started-in-TooMany.ensures)

pub returns-in_ok-put_not_started-in-NoRoom-clause-told : goal.returns-in_ok-put_not_started-in-NoRoom-clause-told
returns-in_ok-put_not_started-in-NoRoom-clause-told c = (NoRoom c.in-NoRoom.n, c.in-NoRoom.is, (λ same. absurd cc), c.in_ok-put_not_started-in-NoRoom.ensures)
