use Rattle.std.proofs.Common.{◌≡◌, ◌≢◌, ◌+◌, ◌∷◌, [], drop, refl, sym, ◌∙◌, ap, subst, true, All}
use Rattle.std.proofs.lemmas.List.{drop_more}
use Rattle.std.proofs.lemmas.List.Elements.{All-head}
use Rattle.resource_box.specs.Meaning.{has_key}
use Rattle.subsystem_store.specs.declared.effect.Effect.{Effect}
use Rattle.subsystem_store.specs.Opened.{Account, Fits}
use Rattle.subsystem_store.proofs.Parts.{take_next, some_left}
use Rattle.subsystem_store.proofs.Fitting.{fits_after}
use Rattle.subsystem_store.proofs.account.Account.commit_next.Goals as goal

pub returns-clause-fits : goal.returns-clause-fits
returns-clause-fits g c =
    let box = g.B.Resource in
    let fits = subst (Fits box) (sym c.self.view_is) c.requires.fits in
    let was = c.self.invariant in
    let n = c.self.inside.committed in
    let effects = c.self.inside.effects.items in
    let e = c.index-effect.result.now in
    let within = some_left n effects (subst (λ (a : Account g.row.B.Denot). a.doubt ≢ []) (sym c.self.view_is) c.requires.doubt) in
    let next : drop n effects ≡ e ∷ drop (n + 1) effects = drop_more effects n e within ∙ ap (λ (f : Effect). f ∷ drop (n + 1) effects) (sym c.index-effect.ensures) in
    let front = take_next n effects e (drop (n + 1) effects) was.0 next in
    let Has : Effect → Type 0 = λ f. has_key (box.meaning c.self.inside.resource).items f.call.key ≡ true in
    let has = All-head Has e (drop (n + 1) effects) (subst (All Has) next fits.doubt_ready) in
    fits_after box _ _ c.self.inside.undoable.items e fits was.2 refl front next refl c.settle.ensures.kind has c.settle.ensures.pairs
