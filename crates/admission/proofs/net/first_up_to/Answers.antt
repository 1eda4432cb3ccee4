use Rattle.std.proofs.Common.{◌≡◌, ◌+◌, ◌<◌, ◌++◌, ◌∷◌, [], suc, drop, take, sym, ap, subst, ◌∙◌, arith}
use Rattle.process_tree.specs.declared.entry.Entry.{Entry}
use Rattle.process_tree.specs.Order.{Each}
use Rattle.process_tree.proofs.Every.{Each-append}
use Rattle.admission.proofs.Places.{part_last, part_none}
use Rattle.admission.proofs.net.first_up_to.Goals as goal

pub places-init : goal.places-init
places-init c =
    let least = c.requires.places in
    record {
      after = omega arith;
      before = least.0;
      passed = subst (Each (λ (e : Entry). c.args.most < e.process)) (sym (part_none c.args.holds.now.net c.args.from (omega arith))) tt;
    }

pub places-preserved : goal.places-preserved
places-preserved c =
    let net = c.args.holds.now.net in
    let e = c.net_at.result in
    let low = c.places.invariant.after in
    let lt = c.places-test.true in
    let most = c.requires.places.1 in
    let next : c.places.place + 1 ≡ suc c.places.place = omega arith in
    let more : drop c.args.from (take (c.places.place + 1) net) ≡ drop c.args.from (take c.places.place net) ++ e ∷ []
    = ap (λ n. drop c.args.from (take n net)) next ∙ part_last net c.args.from c.places.place e low (omega arith)
    ∙ ap (λ x. drop c.args.from (take c.places.place net) ++ x ∷ []) (sym (c.net_at.ensures.entry e)) in
    record {
      after = omega arith;
      before = omega arith;
      passed = subst (Each (λ (x : Entry). c.args.most < x.process)) (sym more)
          (Each-append (λ (x : Entry). c.args.most < x.process) (drop c.args.from (take c.places.place net)) (e ∷ []) c.places.invariant.passed (c.if-most-net_at.true, tt));
    }
