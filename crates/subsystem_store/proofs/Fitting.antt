-- That a box fits its book.
use Rattle.std.specs.Prelude.{IsTrue, fold, if◌then◌else◌, is_some, not, ◌&&◌, ◌||◌}
use Rattle.std.proofs.Common.{◌≡◌, ◌⊎◌, inl, inr, ⊎_elim, ℕ, ℤ, Bool, true, false, List, [], ◌∷◌, ◌++◌, Option, Some, None, All, refl, sym, ◌∙◌, ap, subst}
use Rattle.std.proofs.lemmas.List.Elements.{All-weaker, All-push, All-same, All-head, All-tail, All-cons, All-nil, All-append, All-contains}
use Rattle.std.specs.List.{Contains}
use Rattle.std.proofs.lemmas.List.Sums.{fold_push}
use Rattle.std.proofs.lemmas.Bool.{cases_eq, eqb-true}
use Rattle.resource_box.specs.declared.resource.Resource.{Ghosts as Resources}
use Rattle.resource_box.specs.declared.call.Kind.{Kind}
use Rattle.resource_box.specs.Meaning.{value_at, has_key, with_value}
use Rattle.resource_box.proofs.Maps.{reads_what_was_set, keeps_other_keys, has_still}
use Rattle.subsystem_store.specs.declared.effect.Effect.{Effect}
use Rattle.resource_box.specs.Table.{applied, reverted}
use Rattle.subsystem_store.specs.declared.effect.Undoable.{Undoable}
use Rattle.subsystem_store.specs.Values.{Settled, values, settled, settle, unused, done, undone, take_last, take_later, is_of, can_undo, beside}
use Rattle.subsystem_store.specs.Order.{may_follow}
use Rattle.subsystem_store.specs.Room.{HasRoom}
use Rattle.subsystem_store.specs.Opened.{Account, Fits}

-- A box of the same values fits the same book, where no pair went.
pub fits_still : {B : Type 0} (box : Resources B) (a new : Account B) → Fits box a → new.kind ≡ a.kind → new.book ≡ a.book → box.sort new.resource ≡ box.sort a.resource
    → ((key : ℕ) → value_at (box.meaning new.resource).items key ≡ value_at (box.meaning a.resource).items key)
    → ((key : ℕ) → has_key (box.meaning a.resource).items key ≡ true → has_key (box.meaning new.resource).items key ≡ true)
    → All (λ (e : Effect). IsTrue (has_key (box.meaning new.resource).items e.call.key)) new.doubt → All (λ (key : ℕ). IsTrue (has_key (box.meaning new.resource).items key)) new.ready → Fits box new
fits_still box a new fits kind book sorts same keeps doubt room = record {
  kind = sorts ∙ fits.kind ∙ sym kind;
  values = λ key. same key ∙ fits.values key ∙ ap (λ (v : List (ℕ × ℤ)). value_at v key) (ap (λ k. values k a.book) (sym kind) ∙ ap (values new.kind) (sym book));
  ready = All-same (λ (e : Effect). has_key (box.meaning new.resource).items e.call.key ≡ true) new.book a.book book
      (All-weaker (λ (e : Effect). has_key (box.meaning a.resource).items e.call.key ≡ true) (λ (e : Effect). has_key (box.meaning new.resource).items e.call.key ≡ true) (λ e has. keeps e.call.key has) a.book fits.ready);
  doubt_ready = doubt;
  room = room;
}

-- what is kept of the pairs of these effects, and of these keys
pub doubt_kept : (had has : ℕ → Type 0) (effects : List Effect) → ((key : ℕ) → had key → has key) → All (λ (e : Effect). had e.call.key) effects → All (λ (e : Effect). has e.call.key) effects
doubt_kept had has effects keeps = All-weaker (λ (e : Effect). had e.call.key) (λ (e : Effect). has e.call.key) (λ e kept. keeps e.call.key kept) effects

pub room_kept : (had has : ℕ → Type 0) (keys : List ℕ) → ((key : ℕ) → had key → has key) → All had keys → All has keys
room_kept had has keys keeps = All-weaker had has keeps keys

-- Two maps that read alike do so when the same is set at a key.
pub alike_set : (one two : List (ℕ × ℤ)) (key : ℕ) (v w : ℤ) → v ≡ w → ((k : ℕ) → value_at one k ≡ value_at two k) → (k : ℕ) → value_at (with_value one key v) k ≡ value_at (with_value two key w) k
alike_set one two key v w is alike k = elim (cases_eq k key) [
  | inl same ↦ subst (λ j. value_at (with_value one key v) j ≡ value_at (with_value two key w) j) (sym same) (reads_what_was_set one key v ∙ is ∙ sym (reads_what_was_set two key w))
  | inr other ↦ keeps_other_keys one key v k other ∙ alike k ∙ sym (keeps_other_keys two key w k other)
]

-- Values that read alike do so after the same effect, and so does what may be undone.
pub record Alike (one two : Settled) : Type 0 where
  pub undoable : one.undoable ≡ two.undoable
  pub values : (key : ℕ) → value_at one.pairs key ≡ value_at two.pairs key

undone_alike : (kind : Kind) (one two : Settled) (e : Effect) (o : Option (ℤ × List Undoable)) → Alike one two → Alike (undone kind one e o) (undone kind two e o)
undone_alike kind one two e None alike = alike
undone_alike kind one two e (Some found) alike = record {
  undoable = refl;
  values = alike_set one.pairs two.pairs e.call.key _ _ (ap (λ v. reverted kind e.call v found.0) (alike.values e.call.key)) alike.values;
}

done_alike : (kind : Kind) (one two : Settled) (e : Effect) → Alike one two → Alike (done kind one e) (done kind two e)
done_alike kind one two e alike =
    let before = alike.values e.call.key in
    record {
      undoable = ap (λ (us : List Undoable). us ++ (record { effect = e; before = value_at one.pairs e.call.key }) ∷ []) alike.undoable ∙ ap (λ v. two.undoable ++ (record { effect = e; before = v }) ∷ []) before;
      values = alike_set one.pairs two.pairs e.call.key _ _ (ap (λ v. applied kind e.call v) before) alike.values;
    }

pub settle_alike : (kind : Kind) (one two : Settled) (e : Effect) → Alike one two → Alike (settle kind one e) (settle kind two e)
settle_alike kind one two e alike = by e.undo
  where
    by : (b : Bool) → Alike (if b then undone kind one e (take_last e one.undoable) else done kind one e) (if b then undone kind two e (take_last e two.undoable) else done kind two e)
    by true = subst (λ (us : List Undoable). Alike (undone kind one e (take_last e one.undoable)) (undone kind two e (take_last e us))) alike.undoable (undone_alike kind one two e (take_last e one.undoable) alike)
    by false = done_alike kind one two e alike

-- after one effect more
pub settled-push : (kind : Kind) (book : List Effect) (e : Effect) → settled kind (book ++ e ∷ []) ≡ settle kind (settled kind book) e
settled-push kind book e = fold_push (settle kind) unused book e

-- no effect takes a pair away
pub has_settled : (kind : Kind) (s : Settled) (e : Effect) (key : ℕ) → has_key s.pairs key ≡ true → has_key (settle kind s e).pairs key ≡ true
has_settled kind s e key had = by e.undo (take_last e s.undoable)
  where
    by : (b : Bool) (o : Option (ℤ × List Undoable)) → has_key (if b then undone kind s e o else done kind s e).pairs key ≡ true
    by true None = had
    by true (Some found) = has_still s.pairs e.call.key key _ had
    by false o = has_still s.pairs e.call.key key _ had

-- A box that fits, after an effect of which it has the key.
pub fits_after : {B : Type 0} (box : Resources B) (a new : Account B) (us : List Undoable) (e : Effect) → Fits box a → us ≡ (settled a.kind a.book).undoable
    → new.kind ≡ a.kind → new.book ≡ a.book ++ e ∷ [] → a.doubt ≡ e ∷ new.doubt → new.ready ≡ a.ready → box.sort new.resource ≡ box.sort a.resource → has_key (box.meaning a.resource).items e.call.key ≡ true
    → (box.meaning new.resource).items ≡ (settle (box.sort a.resource) (beside (box.meaning a.resource).items us) e).pairs → Fits box new
fits_after {B} box a new us e fits undoable kind book doubt ready sorts has changed =
    let old = beside (box.meaning a.resource).items us in
    let alike : Alike old (settled a.kind a.book) = record { undoable = undoable; values = fits.values } in
    let of_kind : (box.meaning new.resource).items ≡ (settle a.kind old e).pairs = subst (λ k. (box.meaning new.resource).items ≡ (settle k old e).pairs) fits.kind changed in
    let keeps : (key : ℕ) → has_key (box.meaning a.resource).items key ≡ true → has_key (box.meaning new.resource).items key ≡ true = λ key had. ap (λ (ps : List (ℕ × ℤ)). has_key ps key) of_kind ∙ has_settled a.kind old e key had in
    let Has : Effect → Type 0 = λ f. has_key (box.meaning new.resource).items f.call.key ≡ true in
    let Had : Effect → Type 0 = λ f. has_key (box.meaning a.resource).items f.call.key ≡ true in
    let after = settle_alike a.kind old (settled a.kind a.book) e alike in
    let all : values new.kind new.book ≡ (settle a.kind (settled a.kind a.book) e).pairs = ap (λ k. values k new.book) kind ∙ ap (values a.kind) book ∙ ap (λ (s : Settled). s.pairs) (settled-push a.kind a.book e) in
    record {
      kind = sorts ∙ fits.kind ∙ sym kind;
      values = λ key. ap (λ (ps : List (ℕ × ℤ)). value_at ps key) of_kind ∙ after.values key ∙ sym (ap (λ (ps : List (ℕ × ℤ)). value_at ps key) all);
      ready = All-same Has new.book (a.book ++ e ∷ []) book (All-push Has a.book e (All-weaker Had Has (λ f had. keeps f.call.key had) a.book fits.ready) (keeps e.call.key has));
      doubt_ready = All-weaker Had Has (λ f had. keeps f.call.key had) new.doubt (All-tail Had e new.doubt (subst (All Had) doubt fits.doubt_ready));
      room = subst (All (λ (key : ℕ). has_key (box.meaning new.resource).items key ≡ true)) (sym ready)
          (All-weaker (λ (key : ℕ). has_key (box.meaning a.resource).items key ≡ true) (λ (key : ℕ). has_key (box.meaning new.resource).items key ≡ true) keeps a.ready fits.room);
    }

-- and what may be undone after it
pub undoable_after : {B : Type 0} (box : Resources B) (a : Account B) (us : List Undoable) (e : Effect) → Fits box a → us ≡ (settled a.kind a.book).undoable
    → (settle (box.sort a.resource) (beside (box.meaning a.resource).items us) e).undoable ≡ (settled a.kind (a.book ++ e ∷ [])).undoable
undoable_after box a us e fits undoable =
    let old = beside (box.meaning a.resource).items us in
    let alike : Alike old (settled a.kind a.book) = record { undoable = undoable; values = fits.values } in
    ap (λ k. (settle k old e).undoable) fits.kind ∙ (settle_alike a.kind old (settled a.kind a.book) e alike).undoable ∙ sym (ap (λ (s : Settled). s.undoable) (settled-push a.kind a.book e))

-- what is taken where no later one is, by a test
abbrev first_taken : Undoable → List Undoable → Bool → Option (ℤ × List Undoable)
first_taken first us b = if b then Some (first.before, us) else None

some_same : (one two : ℤ × List Undoable) → Some one ≡ Some two → one ≡ two
some_same one two is = cc

-- an undo has the key of the forward effect that it is of
both : (a b : Bool) → (a && b) ≡ true → (a ≡ true) × (b ≡ true)
both true b t = (refl, t)
both false b t = absurd cc

same_key : (undo forward : Effect) → is_of undo forward ≡ true → undo.call.key ≡ forward.call.key
same_key undo forward is =
    let call = (both _ _ is).1 in
    let keys = (both _ _ (both _ _ call).0).1 in
    eqb-true undo.call.key forward.call.key keys

key_of_taken : (Has : ℕ → Type 0) (undo : Effect) (us : List Undoable) → is_some (take_last undo us) ≡ true → All (λ (u : Undoable). Has u.effect.call.key) us → Has undo.call.key
key_of_taken Has undo [] some all = absurd cc
key_of_taken Has undo (first ∷ us) some all =
    by (take_last undo us) (is_of undo first.effect) refl refl some (λ more. key_of_taken Has undo us more (All-tail (λ (u : Undoable). Has u.effect.call.key) first us all))
  where
    by : (o : Option (ℤ × List Undoable)) (b : Bool) → take_last undo us ≡ o → is_of undo first.effect ≡ b → is_some (take_later undo first us o) ≡ true → (is_some (take_last undo us) ≡ true → Has undo.call.key) → Has undo.call.key
    by (Some found) b o_is b_is some further = further (ap is_some o_is)
    by None true o_is b_is some further = subst Has (sym (same_key undo first.effect b_is)) (All-head (λ (u : Undoable). Has u.effect.call.key) first us all)
    by None false o_is b_is some further = absurd (let no : is_some (first_taken first us false) ≡ true = subst (λ b. is_some (first_taken first us b) ≡ true) b_is some in cc)

-- what is left when one is taken is of those there were
left_of_taken : (P : Undoable → Type 0) (undo : Effect) (us : List Undoable) (found : ℤ × List Undoable) → take_last undo us ≡ Some found → All P us → All P found.1
left_of_taken P undo [] found is all = absurd cc
left_of_taken P undo (first ∷ us) found is all =
    by (take_last undo us) (is_of undo first.effect) refl refl is (λ f taken. left_of_taken P undo us f taken (All-tail P first us all))
  where
    by : (o : Option (ℤ × List Undoable)) (b : Bool) → take_last undo us ≡ o → is_of undo first.effect ≡ b → take_later undo first us o ≡ Some found
        → ((f : ℤ × List Undoable) → take_last undo us ≡ Some f → All P f.1) → All P found.1
    by (Some f) b o_is b_is is further =
        let same : first ∷ f.1 ≡ found.1 = ap (λ (p : ℤ × List Undoable). p.1) (some_same (f.0, first ∷ f.1) found is) in
        subst (All P) same (All-cons P first f.1 (All-head P first us all) (further f o_is))
    by None true o_is b_is is further =
        let taken : first_taken first us true ≡ Some found = subst (λ b. first_taken first us b ≡ Some found) b_is is in
        subst (All P) (ap (λ (p : ℤ × List Undoable). p.1) (some_same (first.before, us) found taken)) (All-tail P first us all)
    by None false o_is b_is is further = absurd (let no : first_taken first us false ≡ Some found = subst (λ b. first_taken first us b ≡ Some found) b_is is in cc)

-- What each effect of a book has, each that may be undone has.
undoable_has : (P : Effect → Type 0) (kind : Kind) (s : Settled) (book : List Effect) → All (λ (u : Undoable). P u.effect) s.undoable → All P book → All (λ (u : Undoable). P u.effect) (fold (settle kind) s book).undoable
undoable_has P kind s [] so_far all = so_far
undoable_has P kind s (e ∷ book) so_far all = undoable_has P kind (settle kind s e) book (by e.undo (take_last e s.undoable) refl) (All-tail P e book all)
  where
    Of : Undoable → Type 0
    Of u = P u.effect

    by : (b : Bool) (o : Option (ℤ × List Undoable)) → take_last e s.undoable ≡ o → All Of (if b then undone kind s e o else done kind s e).undoable
    by true None is = so_far
    by true (Some found) is = left_of_taken Of e s.undoable found is so_far
    by false o is = All-push Of s.undoable _ so_far (All-head P e book all)

-- A box that fits has the key of each undo that may come.
pub key_of_undo : {B : Type 0} (box : Resources B) (a : Account B) (undo : Effect) → Fits box a → can_undo a.kind (a.book ++ a.doubt) undo ≡ true → has_key (box.meaning a.resource).items undo.call.key ≡ true
key_of_undo box a undo fits can =
    let Has : ℕ → Type 0 = λ key. has_key (box.meaning a.resource).items key ≡ true in
    let Of : Effect → Type 0 = λ e. Has e.call.key in
    key_of_taken Has undo (settled a.kind (a.book ++ a.doubt)).undoable can
    (undoable_has Of a.kind unused (a.book ++ a.doubt) (All-nil (λ (u : Undoable). Of u.effect)) (All-append Of a.book a.doubt fits.ready fits.doubt_ready))

-- where an undo may follow, it can be of something
pub undo_follows : (kind : Kind) (book : List Effect) (undo : Effect) → may_follow kind book undo ≡ true → undo.undo ≡ true → can_undo kind book undo ≡ true
undo_follows kind book undo follows is = by undo.undo (can_undo kind book undo) (both _ _ follows).1 is
  where
    by : (u c : Bool) → (not u || c) ≡ true → u ≡ true → c ≡ true
    by true c either is = either
    by false c either is = absurd cc

-- of an undo that is above the last, that it can be of something decides
pub follows_by_undo : (above undo can : Bool) → above ≡ true → undo ≡ true → can ≡ (above && (not undo || can))
follows_by_undo true true can above undo = refl
follows_by_undo true false can above undo = absurd cc
follows_by_undo false undo can above undo_is = absurd cc

-- A box that fits has the key of each effect that may come next, where it has that of a forward one.
pub key_of_next : {B : Type 0} (box : Resources B) (a : Account B) (e : Effect) → Fits box a → may_follow a.kind (a.book ++ a.doubt) e ≡ true → (e.undo ≡ false → has_key (box.meaning a.resource).items e.call.key ≡ true)
    → has_key (box.meaning a.resource).items e.call.key ≡ true
key_of_next box a e fits follows forward = by e.undo refl
  where
    by : (u : Bool) → e.undo ≡ u → has_key (box.meaning a.resource).items e.call.key ≡ true
    by true is = key_of_undo box a e fits (undo_follows a.kind (a.book ++ a.doubt) e follows is)
    by false is = forward is

-- and where room is made, it has the keys
pub keys_of_room : {B : Type 0} (box : Resources B) (a : Account B) (effects : List Effect) → Fits box a → HasRoom a.ready effects
    → All (λ (e : Effect). (e.undo ≡ true) ⊎ (has_key (box.meaning a.resource).items e.call.key ≡ true)) effects
keys_of_room box a effects fits room =
    let Has : ℕ → Type 0 = λ key. has_key (box.meaning a.resource).items key ≡ true in
    All-weaker (λ (e : Effect). (e.undo ≡ true) ⊎ Contains a.ready e.call.key) (λ (e : Effect). (e.undo ≡ true) ⊎ Has e.call.key)
    (λ e. ⊎_elim (λ undo. inl undo) (λ there. inr (All-contains Has a.ready e.call.key fits.room there))) effects room.keys
