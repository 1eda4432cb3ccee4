use Rattle.std.proofs.Common.{refl, sym, ◌∙◌, ap, arith, subst, true, ◌≡◌, [], take, drop, All}
use Rattle.std.proofs.lemmas.List.{drop_all, length-take-le, take-take}
use Rattle.std.proofs.lemmas.List.Elements.{All-nil}
use Rattle.resource_box.specs.Meaning.{has_key}
use Rattle.subsystem_store.specs.declared.effect.Effect.{Effect}
use Rattle.subsystem_store.specs.Opened.{Fits}
use Rattle.subsystem_store.proofs.Fitting.{fits_still}
use Rattle.subsystem_store.proofs.account.Account.release.Goals as goal

pub returns-clause-fits : goal.returns-clause-fits
returns-clause-fits g c =
    let box = g.B.Resource in
    let fits = subst (Fits box) (sym c.self.view_is) c.requires.fits in
    let Has : Effect → Type 0 = λ e. has_key (box.meaning c.self.inside.resource).items e.call.key ≡ true in
    let n = c.self.inside.committed in
    let effects = c.self.inside.effects.items in
    let cut : c.truncate.new.self.items ≡ take n effects = c.truncate.ensures.items in
    let none : drop n c.truncate.new.self.items ≡ [] = ap (drop n) cut ∙ drop_all n (take n effects) (omega (arith, length-take-le n effects c.self.invariant.0)) in
    let same : take n c.truncate.new.self.items ≡ take n effects = ap (take n) cut ∙ take-take n n effects (omega arith) in
    fits_still box _ _ fits refl same refl (λ key. refl) (λ key had. had) (subst (All Has) (sym none) (All-nil Has)) fits.room
