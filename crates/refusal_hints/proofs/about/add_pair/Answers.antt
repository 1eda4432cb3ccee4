use Rattle.std.proofs.Common.{◌≡◌, ◌∙◌, ◌++◌, ap, append_assoc, codes, List, ℕ, Ok, Err}
use Rattle.std.specs.Prelude.{Result, OnOk}
use Rattle.refusal_hints.specs.Hints.{between}
use Rattle.refusal_hints.proofs.about.add_pair.Goals as goal

then : {T E : Type 0} {P Q : Type 0} → (P → Q) → (r : Result T E) → OnOk r P → OnOk r Q
then f (Ok x) p = f p
then f (Err e) p = p

joined : (old first second middle new : List ℕ) → middle ≡ old ++ first → new ≡ middle ++ second → new ≡ old ++ (first ++ second)
joined old first second middle new one two = two ∙ ap (λ (out : List ℕ). out ++ second) one ∙ append_assoc old first second

pub returns : goal.returns
returns c =
    let first = between (codes "operations '") c.args.a.now (codes "' and ") in
    let second = between (codes "'") c.args.b.now (codes "': ") in
    then (λ is. joined c.args.out.now.items first second c.add_between.new.out.items c.add_between-2.new.out.items c.in_ok-add_between.ensures is) c.add_between-2.result c.add_between-2.ensures
