-- What several effects at once make of the stores of their subsystems.
use Rattle.std.specs.Prelude.{◌≡◌, ◌≢◌, ◌+◌, ◌*◌, ◌≤◌, ℕ, Bool, true, false, List, [], ◌∷◌, ◌++◌, length, Some}
use Rattle.std.specs.Prelude.{slice_index_or}
use Rattle.std.specs.List.{slice_get}
use Rattle.process_disk.specs.Disk.{FileSet}
use Rattle.gate_log.specs.Standing.{LogState}
use Rattle.gate_log.specs.Staging.{staging_all, unstaged, with_staged}
use Rattle.subsystem_store.specs.declared.effect.Effect.{Effect}
use Rattle.subsystem_store.specs.Bodies.{prepared_bodies, committed_bytes, last_number}
use Rattle.subsystem_store.specs.Order.{MayFollowEach, most_effects}
use Rattle.subsystem_store.specs.Room.{HasRoom}
use Rattle.subsystem_store.specs.Opened.{Opened, IsStoreOfEither, account_of}

-- the effects for the store at a place, in order
abbrev pub effects_for : List (List Effect) → ℕ → List Effect
effects_for effects q = slice_index_or effects q []

-- there is an effect among these
abbrev pub has_any : List Effect → Bool
has_any [] = false
has_any (e ∷ effects) = true

-- The stores of a list became others, each in its place.
pub record BecomeEach {B : Type 0} (step : ℕ → Opened B → Opened B → Type 0) (old new : List (Opened B)) : Type 0 where
  pub count : length new ≡ length old
  pub each : (q : ℕ) (s t : Opened B) → slice_get old q ≡ Some s → slice_get new q ≡ Some t → step q s t

-- the file, the kind, the book and what is in doubt stay
pub record IsUnchanged {B : Type 0} (s t : Opened B) : Type 0 where
  pub file : t.log.file ≡ s.log.file
  pub account : account_of t ≡ account_of s

-- Effects may be prepared in a store: nothing is in doubt, there is a place in its book for each, one write can take their records,
-- each may follow the book and those before it, and room is made for them.
pub record MayPrepare {B : Type 0} (s : Opened B) (effects : List Effect) : Type 0 where
  pub settled : s.doubt ≡ []
  pub few : length s.book + length effects ≤ most_effects
  pub together : 28 * length effects ≤ 65538
  pub follow : MayFollowEach s.kind s.book effects
  pub room : HasRoom s.ready effects

-- so it is of the effects at each place, in the store there, if there are some
abbrev pub MayPrepareEach : {B : Type 0} → List (List Effect) → List (Opened B) → Type 0
MayPrepareEach {B} effects stores = (q : ℕ) (s : Opened B) → slice_get stores q ≡ Some s → effects_for effects q ≢ []
    → MayPrepare s (effects_for effects q)

-- the effects are in doubt in the store, and else nothing changed
pub record IsPrepared {B : Type 0} (effects : List Effect) (s t : Opened B) : Type 0 where
  pub file : t.log.file ≡ s.log.file
  pub kind : t.kind ≡ s.kind
  pub book : t.book ≡ s.book
  pub doubt : t.doubt ≡ s.doubt ++ effects

-- all that was in doubt is committed
pub record IsCommitted {B : Type 0} (s t : Opened B) : Type 0 where
  pub file : t.log.file ≡ s.log.file
  pub kind : t.kind ≡ s.kind
  pub book : t.book ≡ s.book ++ s.doubt
  pub doubt : t.doubt ≡ []

-- the set has each store as it was or with all its effects prepared, whichever the others are
abbrev pub AreBeforeOrPrepared : {B : Type 0} → List (List Effect) → List (Opened B) → FileSet → Type 0
AreBeforeOrPrepared {B} effects stores files = (q : ℕ) (s : Opened B) → slice_get stores q ≡ Some s
    → IsStoreOfEither s.log.file (s.book, s.doubt) (s.book, s.doubt ++ effects_for effects q) files

-- the set has each store as it was or with all that was in doubt committed, whichever the others are
abbrev pub AreBeforeOrCommitted : {B : Type 0} → List (Opened B) → FileSet → Type 0
AreBeforeOrCommitted {B} stores files = (q : ℕ) (s : Opened B) → slice_get stores q ≡ Some s
    → IsStoreOfEither s.log.file (s.book, s.doubt) (s.book ++ s.doubt, []) files

-- the body that commits these effects, if there are some
abbrev pub commit_bodies : List Effect → List (List ℕ)
commit_bodies [] = []
commit_bodies (e ∷ effects) = committed_bytes (last_number (e ∷ effects)) ∷ []

-- the log behind the records that are staged for these effects, if there are some
abbrev pub taking : List Effect → LogState → LogState
taking [] log = log
taking (e ∷ effects) log = with_staged log

-- the preparing of effects is staged in a store, and nothing else
pub record StagesEffects {B : Type 0} (effects : List Effect) (s t : Opened B) : Type 0 where
  pub log : t.log ≡ staging_all (unstaged s.log) (prepared_bodies effects)
  pub account : account_of t ≡ account_of s

-- the commit of what is in doubt is staged, if anything is, and nothing else
pub record StagesCommit {B : Type 0} (s t : Opened B) : Type 0 where
  pub log : t.log ≡ staging_all (unstaged s.log) (commit_bodies s.doubt)
  pub account : account_of t ≡ account_of s

-- staged effects may be taken
pub record MayTake {B : Type 0} (s : Opened B) (effects : List Effect) : Type 0 where
  pub prepare : MayPrepare s effects
  pub staged : s.log.staged ≡ prepared_bodies effects

-- so may those at each place, in the store there, if there are some
abbrev pub MayTakeEach : {B : Type 0} → List (List Effect) → List (Opened B) → Type 0
MayTakeEach {B} effects stores = (q : ℕ) (s : Opened B) → slice_get stores q ≡ Some s → effects_for effects q ≢ []
    → MayTake s (effects_for effects q)

-- what is in doubt, if anything is, has its commit staged
abbrev pub MayTakeCommit : {B : Type 0} → Opened B → Type 0
MayTakeCommit s = s.log.staged ≡ commit_bodies s.doubt

-- staged effects, if there are some, are taken
pub record TakesEffects {B : Type 0} (effects : List Effect) (s t : Opened B) : Type 0 where
  pub log : t.log ≡ taking effects s.log
  pub kind : t.kind ≡ s.kind
  pub book : t.book ≡ s.book
  pub doubt : t.doubt ≡ s.doubt ++ effects

-- the staged commit of what is in doubt, if anything is, is taken
pub record TakesCommit {B : Type 0} (s t : Opened B) : Type 0 where
  pub log : t.log ≡ taking s.doubt s.log
  pub kind : t.kind ≡ s.kind
  pub book : t.book ≡ s.book ++ s.doubt
  pub doubt : t.doubt ≡ []
