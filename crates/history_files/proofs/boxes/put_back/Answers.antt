use Rattle.std.proofs.Common.{◌∙◌, ap, sym, subst, arith, map}
use Rattle.subsystem_store.specs.Opened.{Fits, account_of}
use Rattle.history_files.specs.Boxes.{AreParted}
use Rattle.history_files.specs.Standing.{AtEach}
use Rattle.history_files.proofs.Clearing.{comes_back, each_of_more, last_of_more, map_reverse, no_stores}
use Rattle.history_files.proofs.boxes.put_back.Goals as goal

pub loop-store-preserved : goal.loop-store-preserved
loop-store-preserved g c =
    let box = g.B.Resource in
    let old = c.loop-store in
    let popped = c.in-Some.ensures.items in
    let fits = subst (AtEach (λ q s. Fits box (account_of s))) popped old.invariant.fits in
    let own = last_of_more (λ q s. Fits box (account_of s)) c.pop.new.self.items c.in-Some.store fits in
    let parted = subst (λ ss. AreParted box.sort ss old.boxes.items) popped old.invariant.parted in
    record {
      fits = each_of_more (λ q s. Fits box (account_of s)) c.pop.new.self.items c.in-Some.store fits;
      parted = subst (AreParted box.sort c.pop.new.self.items) (sym c.push_reserved.ensures.items)
          (comes_back box.sort c.pop.new.self.items c.in-Some.store old.boxes.items c.into_resource.result (ap box.sort c.into_resource.ensures ∙ own.kind) parted);
      room = omega (arith, old.invariant.room, c.in-Some.ensures.cases, c.push_reserved.ensures.len, c.push_reserved.ensures.capacity);
      capacity = omega (arith, old.invariant.capacity, c.push_reserved.ensures.capacity);
    }

pub returns-clause-boxes : goal.returns-clause-boxes
returns-clause-boxes g c =
    let sort = g.B.Resource.sort in
    let old = c.loop-store in
    c.clear_all.ensures.kinds ∙ ap (map sort) c.reverse.ensures.items ∙ map_reverse sort old.boxes.items
    ∙ no_stores sort old.stores.items old.boxes.items (omega (arith, c.in_default.ensures.cases, old.stores.ok)) old.invariant.parted
