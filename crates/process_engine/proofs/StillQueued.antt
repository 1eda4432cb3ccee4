-- What is queued stays so.
use Rattle.std.proofs.Common.{◌≡◌, ◌⊎◌, inl, inr, ◌∙◌, ◌<◌, eqb, ℕ, Bool, true, false, List, [], ◌∷◌, ◌++◌, length, length-append, is_some, refl, sym, ap, subst, arith}
use Rattle.std.proofs.lemmas.Bool.{eqb-false, ne_eqb, or_parts, or_from}
use Rattle.std.proofs.lemmas.List.{length-map, map-append}
use Rattle.process_tree.specs.Order.{Each}
use Rattle.process_tree.proofs.Every.{Each-append}
use Rattle.process_tree.specs.declared.play.Outcome.TheVariants.{Refused as Fails}
use Rattle.schedule_model.specs.Histories.{active, is_in}
use Rattle.schedule_model.proofs.Appends.{is_in-append}
use Rattle.machine_model.specs.declared.kept.Work.TheVariants.{Forward, Undo, End}
use Rattle.machine_model.specs.declared.replies.PieceState.{PieceState}
use Rattle.machine_model.specs.declared.replies.PieceState.TheVariants.{Out, Over}
use Rattle.machine_model.specs.Calls.{finish}
use Rattle.machine_model.specs.Moment.{Piece}
use Rattle.machine_model.specs.Pieces.{is_finished, state_of}
use Rattle.machine_model.specs.Replies.{Finish, Handed, effected, refused, over, dropped, no_piece, no_refusal, finish_kept, finish_reply}
use Rattle.machine_model.proofs.OverPieces.{over_is_finished}
use Rattle.machine_model.proofs.Snoc.{is_finished-append}
use Rattle.machine_model.proofs.TidyMoments.{piece_of-more}
use Rattle.process_core.specs.Answers.{after_call}
use Rattle.process_core.specs.Cores.{CoreState, IsCore, IsHandedBy, courses_in, machine_of, moment_of, relation}
use Rattle.history_files.specs.Effects.{subsystem_of}
use Rattle.history_files.specs.Rooms.{HasRoomAt}
use Rattle.engine_steps.specs.Engines.{EngineState, with_core}
use Rattle.engine_steps.specs.Pieces.{act_of}
use Rattle.engine_steps.specs.Rooms.{AddsRoomFor, KeepsRoomFor, MakesRoomFor, effect_of}
use Rattle.engine_steps.proofs.SameHistory.{refused_same}
use Rattle.process_engine.specs.Most.{most_queued}
use Rattle.process_engine.specs.Pieces.{AreDistinct, numbers_of}
use Rattle.process_engine.specs.Queues.{AreQueued, HasPlaces, HasRoomFor, IsOfActive, IsUnfinished, pieces_of}
use Rattle.process_engine.proofs.FewQueued.{few_unfinished, out_active}
use Rattle.process_engine.proofs.MoreQueued.{places_back, places_kept, places_more, rooms_kept, rooms_more, with_stores}

-- a piece that is out isn't finished
out_by : (b : Bool) (s : PieceState) → s ≡ Out → (b ≡ true → s ≡ Over) → b ≡ false
out_by true s is only = absurd (let same : Out ≡ Over = sym is ∙ only refl in cc)
out_by false s is only = refl

pub out_unfinished : (core : CoreState) → IsCore core → (p : Piece) → IsHandedBy core p → state_of (moment_of core) p.number ≡ Out → IsUnfinished core p
out_unfinished core is p handed out = record {
  handed = handed;
  unfinished = out_by (is_finished core.kept p.number) (state_of (moment_of core) p.number) out
      (over_is_finished (relation core) (machine_of core) p.number is.session.run (ap is_some handed)).1;
}

distinct_more : (ns : List ℕ) (n : ℕ) → AreDistinct ns → is_in n ns ≡ false → AreDistinct (ns ++ n ∷ [])
distinct_more [] n distinct new = (refl, tt)
distinct_more (m ∷ ns) n distinct new =
    let parts = or_parts (eqb n m) (is_in n ns) new in (
      is_in-append m ns (n ∷ []) ∙ or_from (is_in m ns) (is_in m (n ∷ [])) distinct.0 (or_from (eqb m n) false (ne_eqb m n (λ same. eqb-false n m parts.0 (sym same))) refl),
      distinct_more ns n distinct.1 parts.1,
    )

-- one piece more
module _ {R B : Type 0} (e : EngineState R B) (group : List Handed) (d : Handed) (queued : AreQueued e group) (is : IsCore e.core) (handed : IsHandedBy e.core d.piece)
    (out : state_of (moment_of e.core) d.piece.number ≡ Out) (new : is_in d.piece.number (numbers_of (pieces_of group)) ≡ false) where
  abbrev p : Piece
  p = d.piece

  pieces_more : pieces_of (group ++ d ∷ []) ≡ pieces_of group ++ p ∷ []
  pieces_more = map-append (λ (x : Handed). x.piece) group (d ∷ [])

  each_unfinished : Each (IsUnfinished e.core) (pieces_of group ++ d.piece ∷ [])
  each_unfinished = Each-append (IsUnfinished e.core) (pieces_of group) (p ∷ []) queued.unfinished (out_unfinished e.core is p handed out, tt)

  each_active : Each (IsOfActive e.core) (pieces_of group ++ d.piece ∷ [])
  each_active = Each-append (IsOfActive e.core) (pieces_of group) (p ∷ []) queued.active (out_active e.core is p handed out, tt)

  all_distinct : AreDistinct (numbers_of (pieces_of group ++ d.piece ∷ []))
  all_distinct = subst AreDistinct (sym (map-append (λ (x : Piece). x.number) (pieces_of group) (p ∷ []))) (distinct_more (numbers_of (pieces_of group)) p.number queued.distinct new)

  pub finds_room : length group < most_queued
  finds_room =
      let few = few_unfinished e.core is (pieces_of group ++ p ∷ []) each_unfinished each_active all_distinct in
      omega (arith, few, length-append (pieces_of group) (p ∷ []), length-map group (λ (x : Handed). x.piece))

  one_more : HasRoomFor e d.piece → HasPlaces e (pieces_of group ++ d.piece ∷ []) → AreQueued e (group ++ d ∷ [])
  one_more room places = record {
    unfinished = subst (Each (IsUnfinished e.core)) (sym pieces_more) each_unfinished;
    distinct = subst (λ ps. AreDistinct (numbers_of ps)) (sym pieces_more) all_distinct;
    active = subst (Each (IsOfActive e.core)) (sym pieces_more) each_active;
    room = subst (Each (HasRoomFor e)) (sym pieces_more) (Each-append (HasRoomFor e) (pieces_of group) (p ∷ []) queued.room (room, tt));
    places = subst (HasPlaces e) (sym pieces_more) places;
  }

  -- an undo or an end needs no room
  pub back_queued : (d.piece.work ≡ Undo) ⊎ (d.piece.work ≡ End) → AreQueued e (group ++ d ∷ [])
  back_queued back = one_more (no_room back) (places_back e (pieces_of group) p back queued.places)
    where
      no_room : (d.piece.work ≡ Undo) ⊎ (d.piece.work ≡ End) → HasRoomFor e d.piece
      no_room (inl undo) forward = absurd (let same : Undo ≡ Forward = sym undo ∙ forward in cc)
      no_room (inr end) forward = absurd (let same : End ≡ Forward = sym end ∙ forward in cc)

-- a refusal ends no other piece
kept_others : (n k : ℕ) (r : Finish) → (k ≡ n → ⊥) → is_finished (finish_kept n r) k ≡ false
kept_others n k (effected m) other = or_from _ _ (or_from _ _ (ne_eqb k n other) refl) refl
kept_others n k (refused r) other = or_from _ _ (or_from _ _ refl (ne_eqb k n other)) refl
kept_others n k over other = refl
kept_others n k (dropped m) other = refl
kept_others n k no_piece other = refl
kept_others n k no_refusal other = refl

module _ {R B : Type 0} (e : EngineState R B) (n : ℕ) where
  abbrev later : EngineState R B
  later = with_core e (after_call e.core (finish n Fails))

  abbrev reply : Finish
  reply = finish_reply (relation e.core) (courses_in e.core) (moment_of e.core) n Fails

  unfinished_later : (q : Piece) → (q.number ≡ n → ⊥) → IsUnfinished e.core q → IsUnfinished later.core q
  unfinished_later q other was = record {
    handed = piece_of-more e.core.kept (finish_kept n reply) q.number q was.handed;
    unfinished = is_finished-append e.core.kept (finish_kept n reply) q.number ∙ or_from _ _ was.unfinished (kept_others n q.number reply other);
  }

  all_later : (ps : List Piece) → is_in n (numbers_of ps) ≡ false → Each (IsUnfinished e.core) ps → Each (IsUnfinished later.core) ps
  all_later [] none each = tt
  all_later (q ∷ ps) none each =
      let parts = or_parts (eqb n q.number) (is_in n (numbers_of ps)) none in
      (unfinished_later q (λ same. eqb-false n q.number parts.0 (sym same)) each.0, all_later ps parts.1 each.1)

  -- what is queued stays so where another piece is refused
  pub queued_later : (group : List Handed) → AreQueued e group → is_in n (numbers_of (pieces_of group)) ≡ false → AreQueued later group
  queued_later group queued new = record {
    unfinished = all_later (pieces_of group) new queued.unfinished;
    distinct = queued.distinct;
    active = subst (λ h. Each (λ (p : Piece). is_in p.process (active h.events) ≡ true) (pieces_of group)) (sym (refused_same e.core n)) queued.active;
    room = queued.room;
    places = queued.places;
  }

-- what is queued stays so where the stores are asked for room, if it may be queued at the engine with the stores of after
same_engine : {R B : Type 0} (e later : EngineState R B) (p : Piece) → MakesRoomFor e later p → (group : List Handed) → AreQueued (with_stores e later) group → AreQueued later group
same_engine e later p room group was =
    subst (λ k. AreQueued (record { core = k; catalog = later.catalog; files = later.files; phase = later.phase }) group) (sym room.core)
    (subst (λ c. AreQueued (record { core = e.core; catalog = c; files = later.files; phase = later.phase }) group) (sym room.catalog)
    (record { unfinished = was.unfinished; distinct = was.distinct; active = was.active; room = was.room; places = was.places }))

-- no room was made
pub queued_kept : {R B : Type 0} (e later : EngineState R B) (p : Piece) → MakesRoomFor e later p → KeepsRoomFor e later p → (group : List Handed) → AreQueued e group → AreQueued later group
queued_kept e later p room keeps group queued = same_engine e later p room group (record {
  unfinished = queued.unfinished;
  distinct = queued.distinct;
  active = queued.active;
  room = rooms_kept e later p keeps (pieces_of group) queued.room;
  places = places_kept e later p keeps (pieces_of group) queued.places;
})

-- room is made for one more, which is queued
pub queued_with_room : {R B : Type 0} (e later : EngineState R B) (group : List Handed) (d : Handed) → MakesRoomFor e later d.piece → AddsRoomFor e later d.piece → AreQueued e group → IsCore e.core
    → IsHandedBy e.core d.piece → state_of (moment_of e.core) d.piece.number ≡ Out → is_in d.piece.number (numbers_of (pieces_of group)) ≡ false
    → HasRoomAt (subsystem_of e.catalog.ops (act_of e.core.plans d.piece).op) (effect_of e d.piece).call.key later.files.stores → AreQueued later (group ++ d ∷ [])
queued_with_room e later group d room adds queued is handed out new there =
    let rooms = rooms_more e later d.piece adds (pieces_of group) queued.room in
    let more = map-append (λ (x : Handed). x.piece) group (d ∷ []) in
    same_engine e later d.piece room (group ++ d ∷ []) (record {
      unfinished = subst (Each (IsUnfinished e.core)) (sym more) (each_unfinished e group d queued is handed out new);
      distinct = subst (λ ps. AreDistinct (numbers_of ps)) (sym more) (all_distinct e group d queued is handed out new);
      active = subst (Each (IsOfActive e.core)) (sym more) (each_active e group d queued is handed out new);
      room = subst (Each (HasRoomFor (with_stores e later))) (sym more) (Each-append (HasRoomFor (with_stores e later)) (pieces_of group) (d.piece ∷ []) rooms ((λ forward. there), tt));
      places = subst (HasPlaces (with_stores e later)) (sym more) (places_more e later d.piece adds (pieces_of group) queued.places);
    })

-- nothing is queued at any engine
pub none_queued : {R B : Type 0} (e : EngineState R B) → AreQueued e []
none_queued e = record { unfinished = tt; distinct = tt; active = tt; room = tt; places = λ q s at. omega arith }
