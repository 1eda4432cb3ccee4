use Rattle.std.proofs.Common.{◌≡◌, ◌∙◌, Some, ap, sym, subst}
use Rattle.std.specs.Prelude.{unwrap_or}
use Rattle.std.specs.List.{slice_get}
use Rattle.subsystem_store.specs.Opened.{Opened}
use Rattle.history_files.specs.Sound.{is_barred}
use Rattle.history_files.proofs.CalledStore.{it_fits}
use Rattle.history_files.proofs.Places.{at_place}
use Rattle.history_files.proofs.files.Files.bars.Goals as goal

pub bars-requires : goal.bars-requires
bars-requires g c = record {
  fits = it_fits _ _ c.self.view_is c.args.q _ (at_place _ c.args.q _ _ c.from.ensures c.self.invariant.0.eight c.requires.subsystem c.index.ensures) g.B.Resource c.requires.fits;
}

pub returns : goal.returns
returns g c s at_s =
    let at = at_place _ c.args.q _ _ c.from.ensures c.self.invariant.0.eight c.requires.subsystem c.index.ensures in
    let is : c.index.result.now ≡ s = ap (λ o. unwrap_or o s) (sym at ∙ subst (λ f. slice_get f.stores c.args.q ≡ Some s) (sym c.self.view_is) at_s) in
    subst (λ (x : Opened _). c.bars.result ≡ is_barred x.kind x.book c.args.effect.now) is c.bars.ensures
