use Rattle.std.proofs.Common.{◌≡◌, ◌-◌, suc, ◌∷◌, ◌++◌, length, ap, ◌∙◌, arith}
use borrow.Rule.Slice.PartMut.{put_mid}
use Rattle.schedule_rules.proofs.Turned.{last_to_first, turned_back}
use Rattle.schedule_rules.proofs.applying.last_to_first.Goals as goal

pub returns-clause-turned : goal.returns-clause-turned
returns-clause-turned c front x bs rest is start end =
    let ys = c.rotate_right.new.self in
    let k : c.args.end - c.args.start ≡ suc (length bs) = omega (arith, end) in
    ap (λ es. put_mid c.args.start (c.args.end - c.args.start) es ys) is
    ∙ (ap (λ n. put_mid n (c.args.end - c.args.start) (front ++ (bs ++ x ∷ rest)) ys) start
    ∙ (ap (λ n. put_mid (length front) n (front ++ (bs ++ x ∷ rest)) ys) k
    ∙ last_to_first front x bs rest ys
    (c.rotate_right.ensures.after
    ∙ (ap (turned_back c.args.start (c.args.end - c.args.start)) is
    ∙ (ap (λ n. turned_back n (c.args.end - c.args.start) (front ++ (bs ++ x ∷ rest))) start
    ∙ ap (λ n. turned_back (length front) n (front ++ (bs ++ x ∷ rest))) k)))))
