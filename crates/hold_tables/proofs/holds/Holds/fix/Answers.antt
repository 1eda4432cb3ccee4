use Rattle.std.proofs.Common.{◌≡◌, ◌≤◌, length, refl, ◌∙◌, ap, subst, arith}
use Rattle.schedule_model.specs.Histories.{of_process}
use Rattle.hold_tables.specs.Tables.{OpenProcess, Tables, numbered, kept_of}
use Rattle.hold_tables.specs.Changes.{with_fixed}
use Rattle.hold_tables.specs.Kept.{IsTidy}
use Rattle.hold_tables.specs.Places.{place_of}
use Rattle.hold_tables.proofs.Tidy.{each_numbered, found_row, is_among, returned, stood}
use Rattle.hold_tables.proofs.GraphStays.{graph_stood}
use Rattle.hold_tables.proofs.Effects.{few_own, tidy_fixed}
use Rattle.hold_tables.specs.Operations.{net_ops, pending_ops, reserved_ops, running_ops}
use Rattle.hold_tables.proofs.Told.{beside_told, place_within, stays_told}
use Rattle.hold_tables.proofs.ToldNet.{rows_kept}
use Rattle.hold_tables.proofs.holds.Holds.fix.Goals as goal

pub invariant_of-self : goal.invariant_of-self
invariant_of-self c =
    let i = c.args.process in
    let rows = c.self.inside.rows.items in
    let net = c.self.inside.net.items in
    let has = is_among i c.self.inside.conflicts net rows c.args.self.now c.self.view_is c.requires.open in
    let place = c.place_of-at.ensures.place ∙ ap (place_of i) c.deref.ensures.value in
    let row = found_row i rows c.place_of-at.result c.index.result.now has place c.index.ensures in
    let own = each_numbered (IsTidy c.self.inside.conflicts net) i rows has c.self.invariant.0.0.tidy in
    let few : length (of_process i net) ≤ (numbered i rows).steps = subst (λ k. length (of_process k net) ≤ (numbered i rows).steps) own.1 (few_own c.self.inside.conflicts (of_process (numbered i rows).process net) (numbered i rows) own.0) in
    let count : c.count_of.result ≡ length (of_process i net) = c.count_of.ensures ∙ ap (λ es. length (of_process i es)) c.deref-2.ensures.value in
    let steps : c.steps.result ≡ (numbered i rows).steps = c.steps.ensures ∙ ap (λ (r : OpenProcess). r.steps) row in
    let most = c.from-most.ensures in
    let least = c.min-fixed.ensures in
    let all : c.min-fixed.result ≡ length (of_process i net) = omega (arith, few, count, steps, most, least) in
    let fixed = all ∙ ap (λ (t : Tables). length (of_process i t.net)) c.self.view_is in (
      stood (with_fixed (length (of_process i c.args.self.now.net))) i c.self.inside.conflicts net rows c.place_of-at.result c.index_mut.result.now c.fix.new.self c.args.self.now _ c.self.view_is c.requires.open place c.index_mut.ensures.value (c.fix.ensures ∙ ap (λ n. with_fixed n c.index_mut.result.now) fixed) (λ r. (refl, refl))
          (λ tidy own. subst (λ k. IsTidy c.args.self.now.conflicts c.args.self.now.net (with_fixed (length (of_process k c.args.self.now.net)) (kept_of c.args.self.now i))) own
          (tidy_fixed c.args.self.now.conflicts (of_process (kept_of c.args.self.now i).process c.args.self.now.net) (kept_of c.args.self.now i) c.requires.forward tidy)) c.self.invariant.0,
      graph_stood (with_fixed (length (of_process i c.args.self.now.net))) i c.self.inside.conflicts net rows c.self.inside.graph.counts c.self.inside.graph.walks c.place_of-at.result c.index_mut.result.now c.fix.new.self c.args.self.now c.self.view_is c.requires.open place c.index_mut.ensures.value (c.fix.ensures ∙ ap (λ n. with_fixed n c.index_mut.result.now) fixed)
          (λ r. (refl, refl)) c.self.invariant.1,
      beside_told c.self.inside.net.items c.self.inside.net.items c.self.inside.rows.items c.place_of-at.result c.fix.new.self c.self.inside.beside _ (place_within c.deref.result.now c.self.inside.rows.items c.place_of-at.result c.deref.ensures.value c.place_of-at.ensures.within) c.self.invariant.2
          (stays_told running_ops c.self.inside.rows.items c.place_of-at.result c.index_mut.result.now (running_ops c.fix.new.self) c.self.inside.beside.running (place_within c.deref.result.now c.self.inside.rows.items c.place_of-at.result c.deref.ensures.value c.place_of-at.ensures.within) c.index_mut.ensures.value (ap running_ops c.fix.ensures) c.self.invariant.2.running)
          (stays_told (pending_ops c.self.inside.net.items) c.self.inside.rows.items c.place_of-at.result c.index_mut.result.now ((pending_ops c.self.inside.net.items) c.fix.new.self) c.self.inside.beside.pending (place_within c.deref.result.now c.self.inside.rows.items c.place_of-at.result c.deref.ensures.value c.place_of-at.ensures.within) c.index_mut.ensures.value (ap (pending_ops c.self.inside.net.items) c.fix.ensures) c.self.invariant.2.pending)
          (stays_told reserved_ops c.self.inside.rows.items c.place_of-at.result c.index_mut.result.now (reserved_ops c.fix.new.self) c.self.inside.beside.reserved (place_within c.deref.result.now c.self.inside.rows.items c.place_of-at.result c.deref.ensures.value c.place_of-at.ensures.within) c.index_mut.ensures.value (ap reserved_ops c.fix.ensures) c.self.invariant.2.reserved)
          (λ p other. refl),
      rows_kept (net_ops c.self.inside.net.items) c.self.inside.rows.items c.place_of-at.result c.fix.new.self c.index_mut.result.now c.self.inside.in_net
          (place_within c.deref.result.now c.self.inside.rows.items c.place_of-at.result c.deref.ensures.value c.place_of-at.ensures.within) c.index_mut.ensures.value (ap (net_ops c.self.inside.net.items) c.fix.ensures) c.self.invariant.3,
    )

pub returns : goal.returns
returns c =
    let i = c.args.process in
    let rows = c.self.inside.rows.items in
    let net = c.self.inside.net.items in
    let has = is_among i c.self.inside.conflicts net rows c.args.self.now c.self.view_is c.requires.open in
    let place = c.place_of-at.ensures.place ∙ ap (place_of i) c.deref.ensures.value in
    let row = found_row i rows c.place_of-at.result c.index.result.now has place c.index.ensures in
    let own = each_numbered (IsTidy c.self.inside.conflicts net) i rows has c.self.invariant.0.0.tidy in
    let few : length (of_process i net) ≤ (numbered i rows).steps = subst (λ k. length (of_process k net) ≤ (numbered i rows).steps) own.1 (few_own c.self.inside.conflicts (of_process (numbered i rows).process net) (numbered i rows) own.0) in
    let count : c.count_of.result ≡ length (of_process i net) = c.count_of.ensures ∙ ap (λ es. length (of_process i es)) c.deref-2.ensures.value in
    let steps : c.steps.result ≡ (numbered i rows).steps = c.steps.ensures ∙ ap (λ (r : OpenProcess). r.steps) row in
    let most = c.from-most.ensures in
    let least = c.min-fixed.ensures in
    let all : c.min-fixed.result ≡ length (of_process i net) = omega (arith, few, count, steps, most, least) in
    let fixed = all ∙ ap (λ (t : Tables). length (of_process i t.net)) c.self.view_is in
    returned (with_fixed (length (of_process i c.args.self.now.net))) i c.self.inside.conflicts net rows c.place_of-at.result c.index_mut.result.now c.fix.new.self c.args.self.now c.self.view_is c.requires.open place c.index_mut.ensures.value (c.fix.ensures ∙ ap (λ n. with_fixed n c.index_mut.result.now) fixed)
