use Rattle.std.proofs.Common.{refl, sym, subst, true, ◌≡◌, ℕ, All}
use Rattle.std.proofs.lemmas.List.Elements.{All-nil}
use Rattle.resource_box.specs.Meaning.{has_key}
use Rattle.subsystem_store.specs.Opened.{Fits}
use Rattle.subsystem_store.proofs.Fitting.{fits_still}
use Rattle.subsystem_store.proofs.account.Account.forget_room.Goals as goal

pub returns-clause-fits : goal.returns-clause-fits
returns-clause-fits g c =
    let box = g.B.Resource in
    let fits = subst (Fits box) (sym c.self.view_is) c.requires.fits in
    let Has : ℕ → Type 0 = λ key. has_key (box.meaning c.self.inside.resource).items key ≡ true in
    fits_still box _ _ fits refl refl refl (λ key. refl) (λ key had. had) fits.doubt_ready (subst (All Has) (sym c.clear.ensures.items) (All-nil Has))
