use Rattle.std.proofs.Common.{◌∙◌, refl, arith, rules}
use Rattle.history_opening.proofs.SettledStores.{each_since, follow_since, due_before, due_behind, since_start}
use Rattle.history_opening.proofs.settling.take_back_each.Goals as goal

pub loop-q-init : goal.loop-q-init
loop-q-init g c =
    let f = c.args.files.now in
    record {
      within = omega arith;
      fits = c.requires.fits;
      good = λ good. good;
      come = c.requires.come;
      below = due_before c.args.catalog.now.ops c.args.history.now f.stores;
      journal = refl;
      told = λ told. since_start c.args.catalog.now c.args.history.now f.journal f.stores (g.R.Rack.disk f.rack) (c.requires.stand told) (c.soundness_holds.ensures.each told c.args.catalog.now c.args.history.now (c.requires.stand told));
      tells = refl;
      later = omega arith;
    }

pub loop-q-preserved : goal.loop-q-preserved
loop-q-preserved g c =
    let old = c.loop-q in
    let did = c.in_ok-take_back.ensures in
    record {
      within = omega (arith, c.loop-q-test.true);
      fits = did.fits;
      good = λ good. did.good (old.invariant.good good);
      come = did.come;
      below = did.below;
      journal = did.journal ∙ old.invariant.journal;
      told = λ told.
          let told_old = old.invariant.tells ∙ told in
          let since = old.invariant.told told in
          let start = g.R.Rack.disk c.args.files.now.rack in
          let before = g.R.Rack.disk old.files.rack in
          let after = g.R.Rack.disk c.take_back.new.files.rack in
          record {
            stand = did.acknowledged told_old;
            follow = follow_since c.args.catalog.now c.args.history.now old.files.journal old.files.stores start before after (g.met.R.Rack.honest c.take_back.new.files.rack (did.rack.tells ∙ told_old)) since (did.rack.follow told_old);
            each = each_since c.args.catalog.now c.args.history.now old.files.journal old.files.stores start before after since (did.rack.follow told_old) (did.any_moment told_old);
          };
      tells = did.rack.tells ∙ old.invariant.tells;
      later = omega (arith, did.rack.later, old.invariant.later);
    }

pub returns-in_err-take_back-clause-good : goal.returns-in_err-take_back-clause-good
returns-in_err-take_back-clause-good g c good = c.in_err-take_back.ensures.good (c.loop-q.invariant.good good)

pub returns-in_err-take_back-clause-rack : goal.returns-in_err-take_back-clause-rack
returns-in_err-take_back-clause-rack g c = record {
  follow = λ told.
      let old = c.loop-q in
      let told_old = old.invariant.tells ∙ told in
      let did = c.in_err-take_back.ensures in
      follow_since c.args.catalog.now c.args.history.now old.files.journal old.files.stores (g.R.Rack.disk c.args.files.now.rack) (g.R.Rack.disk old.files.rack) (g.R.Rack.disk c.take_back.new.files.rack)
      (g.met.R.Rack.honest c.take_back.new.files.rack (did.rack.tells ∙ told_old)) (old.invariant.told told) (did.rack.follow told_old);
  tells = search rules;
  later = search rules;
  fault = search rules;
}

pub returns-clause-due : goal.returns-clause-due
returns-clause-due g c =
    let old = c.loop-q in
    due_behind old.q c.args.catalog.now.ops c.args.history.now old.files.stores c.stores_hold.ensures (omega (arith, old.invariant.within, c.loop-q-test.false)) old.invariant.below
