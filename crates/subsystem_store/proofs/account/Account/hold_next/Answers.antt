use Rattle.std.proofs.Common.{List, ◌≡◌, ◌-◌, ◌++◌, ◌∷◌, [], length, length-append, take-append-drop, take, drop, refl, sym, ◌∙◌, ap, arith, subst, true, false, vec_capacity, ℕ, All}
use Rattle.std.proofs.lemmas.List.{length-take-le}
use Rattle.std.proofs.lemmas.List.Elements.{All-push, All-take}
use Rattle.resource_box.specs.Meaning.{has_key}
use Rattle.subsystem_store.specs.declared.effect.Effect.{Effect}
use Rattle.subsystem_store.specs.Values.{settled}
use Rattle.subsystem_store.specs.Order.{may_follow}
use Rattle.subsystem_store.specs.Room.{forwards, UndosFind}
use Rattle.subsystem_store.specs.Opened.{Account, Fits}
use Rattle.subsystem_store.proofs.Parts.{take_push, drop_push, size_of_parts}
use Rattle.subsystem_store.proofs.Rooms.{forwards_push, finds_of_follows, place_for_next, room_for_one, undos_find_push}
use Rattle.subsystem_store.proofs.Fitting.{fits_still, key_of_next}
use Rattle.subsystem_store.proofs.account.Account.hold_next.Goals as goal

pub push_reserved-requires : goal.push_reserved-requires
push_reserved-requires g c =
    let was = c.self.invariant in
    let n = c.self.inside.committed in
    let kind = c.self.inside.kind in
    let effects = c.self.inside.effects.items in
    let e = c.args.effect in
    let size = length-take-le n effects was.0 in
    let follows : may_follow kind (take n effects ++ drop n effects) e ≡ true = subst (λ (a : Account g.row.B.Denot). may_follow a.kind (a.book ++ a.doubt) e ≡ true) (sym c.self.view_is) c.requires.follows in
    let ready = room_for_one e (length c.self.inside.ready.items) (λ forward. omega (arith, (c.requires.ready forward).0, ap (λ (a : Account g.row.B.Denot). length a.ready) c.self.view_is)) in
    let place = place_for_next kind (take n effects) (drop n effects) e (length c.self.inside.ready.items) (vec_capacity c.self.inside.effects) was.5 (finds_of_follows kind (take n effects ++ drop n effects) e follows) ready (omega (arith, was.3, ap length was.2, size)) in
    omega (arith, place, size, size_of_parts n effects was.0)

pub invariant_of-self : goal.invariant_of-self
invariant_of-self g c =
    let was = c.self.invariant in
    let n = c.self.inside.committed in
    let kind = c.self.inside.kind in
    let effects = c.self.inside.effects.items in
    let e = c.args.effect in
    let follows : may_follow kind (take n effects ++ drop n effects) e ≡ true = subst (λ (a : Account g.row.B.Denot). may_follow a.kind (a.book ++ a.doubt) e ≡ true) (sym c.self.view_is) c.requires.follows in
    let ready = room_for_one e (length c.self.inside.ready.items) (λ forward. omega (arith, (c.requires.ready forward).0, ap (λ (a : Account g.row.B.Denot). length a.ready) c.self.view_is)) in
    let pushed = c.push_reserved.ensures.items in
    let front = ap (take n) pushed ∙ take_push n effects e was.0 in
    let back = ap (drop n) pushed ∙ drop_push n effects e was.0 in
    let many = ap forwards back ∙ forwards_push (drop n effects) e in
    let left : length c.truncate.new.self.items ≡ length c.self.inside.ready.items - forwards (e ∷ []) =
    ap length c.truncate.ensures.items ∙ length-take-le _ c.self.inside.ready.items (omega (arith, c.len.ensures)) ∙ omega (arith, c.len.ensures, c.places_of.ensures) in
    let few = ap (λ (a : Account g.row.B.Denot). length (a.book ++ a.doubt)) c.self.view_is in
    let room = c.push_reserved.ensures.capacity in (
      omega (arith, was.0, ap length pushed, length-append effects (e ∷ [])),
      omega (arith, c.requires.few, few, ap length (take-append-drop n effects), ap length pushed, length-append effects (e ∷ [])),
      was.2 ∙ ap (λ (b : List Effect). (settled kind b).undoable) (sym front),
      omega (arith, was.3, many, left, ready, room),
      omega (arith, was.4, many, left, ready),
      subst (λ (b : List Effect). UndosFind kind b (drop n c.push_reserved.new.self.items)) (sym front)
          (subst (UndosFind kind (take n effects)) (sym back) (undos_find_push kind (take n effects) (drop n effects) e was.5 (finds_of_follows kind (take n effects ++ drop n effects) e follows))),
    )

pub returns-clause-fits : goal.returns-clause-fits
returns-clause-fits g c =
    let box = g.B.Resource in
    let fits = subst (Fits box) (sym c.self.view_is) c.requires.fits in
    let was = c.self.invariant in
    let n = c.self.inside.committed in
    let kind = c.self.inside.kind in
    let effects = c.self.inside.effects.items in
    let e = c.args.effect in
    let Has : ℕ → Type 0 = λ key. has_key (box.meaning c.self.inside.resource).items key ≡ true in
    let follows : may_follow kind (take n effects ++ drop n effects) e ≡ true = subst (λ (a : Account g.row.B.Denot). may_follow a.kind (a.book ++ a.doubt) e ≡ true) (sym c.self.view_is) c.requires.follows in
    let forward : e.undo ≡ false → Has e.call.key = λ is. subst (λ (a : Account g.row.B.Denot). has_key (box.meaning a.resource).items e.call.key ≡ true) (sym c.self.view_is) (c.requires.ready is).1 in
    let pushed = c.push_reserved.ensures.items in
    let front = ap (take n) pushed ∙ take_push n effects e was.0 in
    let back = ap (drop n) pushed ∙ drop_push n effects e was.0 in
    let OfKey : Effect → Type 0 = λ f. Has f.call.key in
    fits_still box _ _ fits refl front refl (λ key. refl) (λ key had. had)
    (subst (All OfKey) (sym back) (All-push OfKey (drop n effects) e fits.doubt_ready (key_of_next box _ e fits follows forward)))
    (subst (All Has) (sym c.truncate.ensures.items) (All-take Has _ c.self.inside.ready.items fits.room))
