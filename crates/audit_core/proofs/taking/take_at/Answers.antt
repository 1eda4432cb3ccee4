use Rattle.std.proofs.Common.{refl, subst, rules}
use Rattle.process_tree.specs.Conflicts.{do_conflict}
use Rattle.audit_core.specs.Taking.{IsUndoBehind}
use Rattle.audit_core.proofs.Takings.{removed_pair}
use Rattle.audit_core.proofs.taking.take_at.Goals as goal

pub returns-in-Some : goal.returns-in-Some
returns-in-Some c =
    let f = subst (IsUndoBehind (do_conflict c.args.c.now) c.args.at c.args.list.now.items) c.in-Some.is (subst (λ xs. IsUndoBehind (do_conflict c.args.c.now) c.args.at xs c.in_ok-size.field-0) c.deref.ensures.value c.in_ok-size.ensures.found) in
    record {
      took = (
        f.0,
        f.1,
        f.2,
        f.3,
        f.4,
        f.5,
        f.7,
        removed_pair f.0 f.1 f.2 c.args.list.now.items c.remove.new.self.items c.remove-in-Some.new.self.items f.3 f.4 c.args.at c.in-Some.size f.5 f.6 f.7 (search rules) (search rules),
        f.8,
        f.9,
      );
    }

pub returns-in-None : goal.returns-in-None
returns-in-None c =
    record { took = (refl, subst (IsUndoBehind (do_conflict c.args.c.now) c.args.at c.args.list.now.items) c.in-None.is (subst (λ xs. IsUndoBehind (do_conflict c.args.c.now) c.args.at xs c.in_ok-size.field-0) c.deref.ensures.value c.in_ok-size.ensures.found)) }
