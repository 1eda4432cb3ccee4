use Rattle.std.proofs.Common.{◌≡◌, ◌-◌, suc, ◌∷◌, ◌++◌, length, ap, ◌∙◌, arith}
use borrow.Rule.Slice.PartMut.{put_mid}
use Rattle.schedule_rules.proofs.Turned.{first_to_last, turned_on}
use Rattle.schedule_rules.proofs.applying.first_to_last.Goals as goal

pub returns-clause-turned : goal.returns-clause-turned
returns-clause-turned c front x bs rest is start end =
    let ys = c.rotate_left.new.self in
    let k : c.args.end - c.args.start ≡ suc (length bs) = omega (arith, end) in
    ap (λ es. put_mid c.args.start (c.args.end - c.args.start) es ys) is
    ∙ (ap (λ n. put_mid n (c.args.end - c.args.start) (front ++ x ∷ (bs ++ rest)) ys) start
    ∙ (ap (λ n. put_mid (length front) n (front ++ x ∷ (bs ++ rest)) ys) k
    ∙ first_to_last front x bs rest ys
    (c.rotate_left.ensures.after
    ∙ (ap (turned_on c.args.start (c.args.end - c.args.start)) is
    ∙ (ap (λ n. turned_on n (c.args.end - c.args.start) (front ++ x ∷ (bs ++ rest))) start
    ∙ ap (λ n. turned_on (length front) n (front ++ x ∷ (bs ++ rest))) k)))))
