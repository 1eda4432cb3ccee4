-- How much room effects in doubt take.
use Rattle.std.specs.Prelude.{if◌then◌else◌, is_some, fold}
use Rattle.std.proofs.Common.{◌≡◌, ◌⊎◌, ⊎_elim, ◌<◌, ◌≤◌, ◌+◌, ◌*◌, ℕ, ℤ, Bool, true, false, List, [], ◌∷◌, ◌++◌, length, All, Option, Some, None, refl, sym, ◌∙◌, ap, subst, arith, append_assoc, append-nil, length-append}
use Rattle.std.proofs.lemmas.List.Elements.{All-head}
use Rattle.resource_box.specs.declared.call.Kind.{Kind}
use Rattle.resource_box.specs.Meaning.{value_at}
use Rattle.subsystem_store.specs.declared.effect.Effect.{Effect}
use Rattle.subsystem_store.specs.declared.effect.Undoable.{Undoable}
use Rattle.subsystem_store.specs.Values.{Settled, settled, settle, undone, done, unused, can_undo, take_last}
use Rattle.subsystem_store.specs.Order.{may_follow}
use Rattle.subsystem_store.specs.Room.{forwards, undos, UndosFind}
use Rattle.subsystem_store.proofs.Counts.{takes_one, undoable_behind}
use Rattle.subsystem_store.proofs.Fitting.{undo_follows}

-- forward effects and undos, with one more
pub forwards_push : (effects : List Effect) (e : Effect) → forwards (effects ++ e ∷ []) ≡ forwards effects + forwards (e ∷ [])
forwards_push [] e = omega arith
forwards_push (first ∷ effects) e = omega (arith, forwards_push effects e)

-- they are all there are
pub both_kinds : (effects : List Effect) → forwards effects + undos effects ≡ length effects
both_kinds [] = refl
both_kinds (e ∷ effects) = by e.undo (both_kinds effects)
  where
    by : (u : Bool) → forwards effects + undos effects ≡ length effects → (if u then 0 else 1) + forwards effects + ((if u then 1 else 0) + undos effects) ≡ length (e ∷ effects)
    by true rest = omega (arith, rest)
    by false rest = omega (arith, rest)

pub forwards_few : (effects : List Effect) → forwards effects ≤ length effects
forwards_few effects = omega (arith, both_kinds effects)

-- an undo that may come behind others
pub undos_find_push : (kind : Kind) (before effects : List Effect) (e : Effect) → UndosFind kind before effects → (e.undo ≡ true → can_undo kind (before ++ effects) e ≡ true) → UndosFind kind before (effects ++ e ∷ [])
undos_find_push kind before [] e find finds = (subst (λ (b : List Effect). e.undo ≡ true → can_undo kind b e ≡ true) (append-nil before) finds, tt)
undos_find_push kind before (first ∷ effects) e (first_finds, find) finds =
    (first_finds, undos_find_push kind (before ++ first ∷ []) effects e find (subst (λ (b : List Effect). e.undo ≡ true → can_undo kind b e ≡ true) (sym (append_assoc before (first ∷ []) effects)) finds))

-- where an effect may follow, it finds what it undoes
pub finds_of_follows : (kind : Kind) (before : List Effect) (e : Effect) → may_follow kind before e ≡ true → e.undo ≡ true → can_undo kind before e ≡ true
finds_of_follows kind before e follows = undo_follows kind before e follows

-- some may be undone where one can be
some_undoable : (kind : Kind) (before : List Effect) (e : Effect) → can_undo kind before e ≡ true → 1 ≤ length (settled kind before).undoable
some_undoable kind before e can = by (settled kind before).undoable can
  where
    by : (us : List Undoable) → is_some (take_last e us) ≡ true → 1 ≤ length us
    by [] can = absurd cc
    by (u ∷ us) can = omega arith

-- An undo behind others has a place: that of the undo of what it undoes.
pub place_for_undo : (kind : Kind) (book doubt : List Effect) (e : Effect) → UndosFind kind book doubt → can_undo kind (book ++ doubt) e ≡ true → undos doubt + 1 ≤ length (settled kind book).undoable + forwards doubt
place_for_undo kind book doubt e find can = omega (arith, undoable_behind kind book doubt find, some_undoable kind (book ++ doubt) e can)

pub place_for_forward : (kind : Kind) (book doubt : List Effect) → UndosFind kind book doubt → undos doubt ≤ length (settled kind book).undoable + forwards doubt
place_for_forward kind book doubt find = omega (arith, undoable_behind kind book doubt find)

-- so many are to be ready for one effect
pub room_for_one : (e : Effect) (ready : ℕ) → (e.undo ≡ false → 1 ≤ ready) → forwards (e ∷ []) ≤ ready
room_for_one e ready some = by e.undo some
  where
    by : (u : Bool) → (u ≡ false → 1 ≤ ready) → (if u then 0 else 1) + 0 ≤ ready
    by true some = omega arith
    by false some = omega (arith, some refl)

-- where room is ready for these effects, it is for the first
pub ready_for_first : (Has : ℕ → Type 0) (e : Effect) (rest : List Effect) (ready : ℕ) → All (λ (f : Effect). (f.undo ≡ true) ⊎ Has f.call.key) (e ∷ rest) → forwards (e ∷ rest) ≤ ready → e.undo ≡ false
    → (1 ≤ ready) × Has e.call.key
ready_for_first Has e rest ready keys many forward =
    let Key : Effect → Type 0 = λ f. (f.undo ≡ true) ⊎ Has f.call.key in
    let of : Bool → ℕ = λ u. if u then 0 else 1 in
    let one : of e.undo ≡ 1 = ap of forward in
    (omega (arith, many, one), ⊎_elim (λ undo. absurd (let no : true ≡ false = sym undo ∙ forward in cc)) (λ has. has) (All-head Key e rest keys))

-- An effect that comes next has a place, where room is ready for it if it is forward.
pub place_for_next : (kind : Kind) (book doubt : List Effect) (e : Effect) (ready capacity : ℕ) → UndosFind kind book doubt → (e.undo ≡ true → can_undo kind (book ++ doubt) e ≡ true) → forwards (e ∷ []) ≤ ready
    → length book + length (settled kind book).undoable + 2 * (forwards doubt + ready) ≤ capacity → length book + length doubt < capacity
place_for_next kind book doubt e ready capacity find finds is_ready room = by e.undo refl is_ready
  where
    by : (u : Bool) → e.undo ≡ u → (if u then 0 else 1) + 0 ≤ ready → length book + length doubt < capacity
    by true is is_ready = omega (arith, both_kinds doubt, place_for_undo kind book doubt e find (finds is), room)
    by false is is_ready = omega (arith, both_kinds doubt, place_for_forward kind book doubt find, is_ready, room)

-- no more may be undone than there are effects
pub undoable_few : (kind : Kind) (book : List Effect) → length (settled kind book).undoable ≤ length book
undoable_few kind book = omega (arith, folded unused book)
  where
    no_more : (s : Settled) (e : Effect) → length (settle kind s e).undoable ≤ length s.undoable + 1
    no_more s e = told e.undo (take_last e s.undoable) refl
      where
        told : (u : Bool) (o : Option (ℤ × List Undoable)) → take_last e s.undoable ≡ o → length (if u then undone kind s e o else done kind s e).undoable ≤ length s.undoable + 1
        told true None is = omega arith
        told true (Some found) is = omega (arith, (takes_one e e s.undoable found is).size)
        told false o is = omega (arith, length-append s.undoable ((record { effect = e; before = value_at s.pairs e.call.key }) ∷ []))

    folded : (s : Settled) (effects : List Effect) → length (fold (settle kind) s effects).undoable ≤ length s.undoable + length effects
    folded s [] = omega arith
    folded s (e ∷ effects) = omega (arith, no_more s e, folded (settle kind s e) effects)
