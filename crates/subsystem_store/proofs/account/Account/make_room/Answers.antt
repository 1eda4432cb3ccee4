use Rattle.std.proofs.Common.{List, ◌≡◌, ◌++◌, ◌∷◌, [], length, take, drop, refl, sym, ◌∙◌, ap, arith, subst, true, ℕ, All}
use Rattle.std.proofs.lemmas.List.Elements.{All-push}
use Rattle.resource_box.specs.Meaning.{value_at, has_key}
use Rattle.resource_box.proofs.Maps.{ready_changes_no_value, had_before_ready}
use Rattle.subsystem_store.specs.declared.effect.Effect.{Effect}
use Rattle.subsystem_store.specs.Values.{settled}
use Rattle.subsystem_store.specs.Room.{forwards, UndosFind}
use Rattle.subsystem_store.specs.Opened.{Fits}
use Rattle.subsystem_store.proofs.Parts.{size_of_parts}
use Rattle.subsystem_store.proofs.Rooms.{forwards_few}
use Rattle.subsystem_store.proofs.Fitting.{fits_still, room_kept, doubt_kept}
use Rattle.subsystem_store.proofs.account.Account.make_room.Goals as goal

pub returns-in_err-ready-clause-fits : goal.returns-in_err-ready-clause-fits
returns-in_err-ready-clause-fits g c =
    let box = g.B.Resource in
    let fits = subst (Fits box) (sym c.self.view_is) c.requires.fits in
    let same = c.in_err-ready.ensures.err in
    let reserved = c.reserve.ensures.same in
    let n = c.self.inside.committed in
    let effects = c.self.inside.effects.items in
    let Had : ℕ → Type 0 = λ key. has_key (box.meaning c.self.inside.resource).items key ≡ true in
    let Has : ℕ → Type 0 = λ key. has_key (box.meaning c.ready.new.self).items key ≡ true in
    let keeps : (key : ℕ) → Had key → Has key = λ key had. ap (λ ps. has_key ps key) same ∙ had in
    fits_still box _ _ fits refl (ap (take n) reserved.0) c.ready.ensures.kind (λ key. ap (λ ps. value_at ps key) same) keeps
    (subst (All (λ (e : Effect). Has e.call.key)) (sym (ap (drop n) reserved.0)) (doubt_kept Had Has (drop n effects) keeps fits.doubt_ready))
    (subst (All Has) (sym reserved.2) (room_kept Had Has c.self.inside.ready.items keeps fits.room))

pub invariant_of-self-2 : goal.invariant_of-self-2
invariant_of-self-2 g c =
    let was = c.self.invariant in
    let n = c.self.inside.committed in
    let kind = c.self.inside.kind in
    let effects = c.self.inside.effects.items in
    let reserved = c.reserve.ensures.same in
    let room = c.in_ok-reserve.ensures.room in
    let few = forwards_few (drop n effects) in
    let parts = size_of_parts n effects was.0 in
    let of_doubt = ap (λ (es : List Effect). forwards (drop n es)) reserved.0 in (
      omega (arith, was.0, ap length reserved.0),
      omega (arith, was.1, ap length reserved.0),
      reserved.1 ∙ was.2 ∙ ap (λ (es : List Effect). (settled kind (take n es)).undoable) (sym reserved.0),
      omega (arith, room.0, few, parts, of_doubt, c.len.ensures, ap length reserved.0, ap length c.push_reserved.ensures.items),
      omega (arith, room.1, few, parts, of_doubt, c.len.ensures, ap length reserved.0, ap length c.push_reserved.ensures.items),
      subst (λ (es : List Effect). UndosFind kind (take n es) (drop n es)) (sym reserved.0) was.5,
    )

pub returns-clause-fits : goal.returns-clause-fits
returns-clause-fits g c =
    let box = g.B.Resource in
    let fits = subst (Fits box) (sym c.self.view_is) c.requires.fits in
    let is = c.in_ok-ready.ensures.ok in
    let pairs = (box.meaning c.self.inside.resource).items in
    let key = c.args.key in
    let reserved = c.reserve.ensures.same in
    let n = c.self.inside.committed in
    let effects = c.self.inside.effects.items in
    let Had : ℕ → Type 0 = λ k. has_key pairs k ≡ true in
    let Has : ℕ → Type 0 = λ k. has_key (box.meaning c.ready.new.self).items k ≡ true in
    let keeps : (k : ℕ) → Had k → Has k = λ k had. ap (λ ps. has_key ps k) is ∙ had_before_ready pairs key k had in
    let keys = c.push_reserved.ensures.items ∙ ap (λ ks. ks ++ key ∷ []) reserved.2 in
    fits_still box _ _ fits refl (ap (take n) reserved.0) c.ready.ensures.kind
    (λ k. ap (λ ps. value_at ps k) is ∙ (ready_changes_no_value pairs key k).1)
    keeps
    (subst (All (λ (e : Effect). Has e.call.key)) (sym (ap (drop n) reserved.0)) (doubt_kept Had Has (drop n effects) keeps fits.doubt_ready))
    (subst (All Has) (sym keys) (All-push Has c.self.inside.ready.items key (room_kept Had Has c.self.inside.ready.items keeps fits.room) c.in_ok-ready.ensures.ready))
