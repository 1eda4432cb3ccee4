use Rattle.std.proofs.Common.{ℕ, List, ◌≡◌, ◌⊎◌, ◌++◌, ◌∷◌, [], length, length-append, append_assoc, sym, ◌∙◌, ap, arith, subst, refl, true, All}
use Rattle.std.proofs.lemmas.List.Elements.{All-tail}
use Rattle.resource_box.specs.Meaning.{has_key}
use Rattle.subsystem_store.specs.declared.effect.Effect.{Effect}
use Rattle.subsystem_store.specs.Order.{MayFollowEach}
use Rattle.subsystem_store.specs.Room.{forwards}
use Rattle.subsystem_store.proofs.Rooms.{ready_for_first}
use Rattle.subsystem_store.proofs.Fitting.{keys_of_room}
use Rattle.subsystem_store.proofs.account.hold_in_room.Goals as goal

pub effects-init : goal.effects-init
effects-init g c = record {
  fits = c.requires.fits;
  kind = refl;
  book = refl;
  all = refl;
  few = c.requires.few;
  follow = c.requires.follow;
  keys = keys_of_room g.B.Resource _ c.args.effects.now c.requires.fits c.requires.room;
  many = c.requires.room.many;
}

pub effects-preserved : goal.effects-preserved
effects-preserved g c =
    let was = c.effects.invariant in
    let e = c.in-Some.effect.now in
    let after = c.in-Some.after.now in
    let split = c.in-Some.ensures.cases.0 in
    let a = c.effects.account in
    let held = c.hold_next.ensures in
    let now : c.hold_next.new.self.book ++ c.hold_next.new.self.doubt ≡ (a.book ++ a.doubt) ++ e ∷ [] =
    ap (λ (b : List Effect). b ++ c.hold_next.new.self.doubt) held.same.1 ∙ ap (λ (d : List Effect). a.book ++ d) held.doubt ∙ sym (append_assoc a.book a.doubt (e ∷ [])) in
    let next = subst (MayFollowEach a.kind (a.book ++ a.doubt)) split was.follow in
    let Key : Effect → Type 0 = λ f. (f.undo ≡ true) ⊎ (has_key (g.B.Resource.meaning a.resource).items f.call.key ≡ true) in
    record {
      fits = held.fits;
      kind = held.same.0 ∙ was.kind;
      book = held.same.1 ∙ was.book;
      all = ap (λ (d : List Effect). d ++ after) held.doubt ∙ append_assoc a.doubt (e ∷ []) after ∙ ap (λ (r : List Effect). a.doubt ++ r) (sym split) ∙ was.all;
      few = omega (arith, was.few, ap length split, ap length now, length-append (a.book ++ a.doubt) (e ∷ []));
      follow = subst (λ k. MayFollowEach k (c.hold_next.new.self.book ++ c.hold_next.new.self.doubt) after) (sym held.same.0) (subst (λ b. MayFollowEach a.kind b after) (sym now) next.1);
      keys = subst (λ r. All (λ (f : Effect). (f.undo ≡ true) ⊎ (has_key (g.B.Resource.meaning r).items f.call.key ≡ true)) after) (sym held.same.2) (All-tail Key e after (subst (All Key) split was.keys));
      many = omega (arith, was.many, ap forwards split, held.ready);
    }

pub hold_next-requires-clause-ready : goal.hold_next-requires-clause-ready
hold_next-requires-clause-ready g c =
    let was = c.effects.invariant in
    let split = c.in-Some.ensures.cases.0 in
    let Has : ℕ → Type 0 = λ key. has_key (g.B.Resource.meaning c.effects.account.resource).items key ≡ true in
    ready_for_first Has c.in-Some.effect.now c.in-Some.after.now (length c.effects.account.ready) (subst (All (λ (f : Effect). (f.undo ≡ true) ⊎ Has f.call.key)) split was.keys) (omega (arith, was.many, ap forwards split))
