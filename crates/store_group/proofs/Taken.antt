-- Records that are staged in several stores, and taken once they are on the disk.
use Rattle.std.proofs.Common.{◌≡◌, ◌≢◌, inl, inr, ◌+◌, ℕ, List, [], ◌∷◌, ◌++◌, append-nil, length, ◌≤◌, Some, refl, sym, ◌∙◌, ap, subst, ⊎_elim}
use Rattle.std.specs.List.{slice_get}
use Rattle.process_disk.specs.Disk.{Disk, FileSet}
use Rattle.process_disk.specs.Images.{RunBy}
use Rattle.process_disk.proofs.Images.{run_so}
use Rattle.gate_log.specs.Standing.{LogState, StandsFor}
use Rattle.gate_log.specs.Staging.{LogsBeforeOrWithAll, with_staged}
use Rattle.gate_log.proofs.Standing.{stands_alike}
use Rattle.resource_box.specs.declared.resource.Resource.{Ghosts as Resources}
use Rattle.subsystem_store.specs.declared.effect.Effect.{Effect}
use Rattle.subsystem_store.specs.Bodies.{AreBodiesOf, SomeBodies, prepared_bodies}
use Rattle.subsystem_store.specs.Order.{MayFollowEach, most_effects}
use Rattle.subsystem_store.specs.Room.{HasRoom}
use Rattle.subsystem_store.specs.Opened.{Account, Fits, IsStoreOfEither, Opened, Stands, account_of}
use Rattle.subsystem_store.specs.Staged.{IsBeforeOrWith}
use Rattle.subsystem_store.proofs.StoreFiles.{bodies_prepared, bodies_committed}
use Rattle.store_group.specs.Events.{AreBeforeOrCommitted, AreBeforeOrPrepared, BecomeEach, IsCommitted, IsPrepared, IsUnchanged, MayPrepare, MayPrepareEach, MayTake, MayTakeCommit, MayTakeEach, StagesCommit, StagesEffects, TakesCommit, TakesEffects, commit_bodies, effects_for, taking}
use Rattle.store_group.specs.Groups.{AllStand, AreBeforeOrWith, AreInOrder, HasStaged, OfEach, SameButStores}
use Rattle.store_group.proofs.InOrder.{become_then, of_became, of_was}

-- Records are staged in a store and nothing else is: its log stands for its list as before.
pub record Stages {B : Type 0} (more : List (List ℕ)) (s t : Opened B) : Type 0 where
  pub file : t.log.file ≡ s.log.file
  pub count : t.log.count ≡ s.log.count
  pub end : t.log.end ≡ s.log.end
  pub staged : t.log.staged ≡ more
  pub account : account_of t ≡ account_of s

pub stages_effects : {B : Type 0} (effects : List Effect) (s t : Opened B) → StagesEffects effects s t → Stages (prepared_bodies effects) s t
stages_effects effects s t is = record {
  file = ap (λ l. l.file) is.log;
  count = ap (λ l. l.count) is.log;
  end = ap (λ l. l.end) is.log;
  staged = ap (λ l. l.staged) is.log;
  account = is.account;
}

pub stages_commit : {B : Type 0} (s t : Opened B) → StagesCommit s t → Stages (commit_bodies s.doubt) s t
stages_commit s t is = record {
  file = ap (λ l. l.file) is.log;
  count = ap (λ l. l.count) is.log;
  end = ap (λ l. l.end) is.log;
  staged = ap (λ l. l.staged) is.log;
  account = is.account;
}

-- bodies of a store are those of another of the same account
pub bodies_alike : {B : Type 0} (s t : Opened B) (bodies : List (List ℕ)) → account_of t ≡ account_of s → AreBodiesOf s.book s.doubt bodies → AreBodiesOf t.book t.doubt bodies
bodies_alike {B} s t bodies account of = subst (λ (a : Account B). AreBodiesOf a.book a.doubt bodies) (sym account) of

-- the store stands as before,
pub stands_staged : {B : Type 0} (more : List (List ℕ)) (s t : Opened B) (disk : Disk) → Stages more s t → Stands s disk → Stands t disk
stands_staged more s t disk is stands = record {
  bodies = stands.bodies;
  of = bodies_alike s t stands.bodies is.account stands.of;
  so = stands_alike s.log t.log stands.bodies disk is.file is.count is.end stands.so;
}

-- its box fits its book,
pub fits_staged : {B : Type 0} (box : Resources B) (more : List (List ℕ)) (s t : Opened B) → Stages more s t → Fits box (account_of s) → Fits box (account_of t)
fits_staged box more s t is fits = subst (Fits box) (sym is.account) fits

-- What some bodies make of a book, with more behind them.
abbrev pub Adds : List Effect → List Effect → List (List ℕ) → List Effect → List Effect → Type 0
Adds book doubt more new_book new_doubt = (bodies : List (List ℕ)) → AreBodiesOf book doubt bodies → AreBodiesOf new_book new_doubt (bodies ++ more)

-- and a set has it as before or with the records
pub either_staged : {B : Type 0} (more : List (List ℕ)) (s t : Opened B) (book doubt : List Effect) (files : FileSet) → Stages more s t → Adds s.book s.doubt more book doubt → IsBeforeOrWith t files
    → IsStoreOfEither s.log.file (s.book, s.doubt) (book, doubt) files
either_staged {B} more s t book doubt files is adds either =
    let of : AreBodiesOf s.book s.doubt either.bodies = bodies_alike t s either.bodies (sym is.account) either.of in
    let logs = subst (λ k. LogsBeforeOrWithAll k either.bodies more files) is.file (subst (λ bs. LogsBeforeOrWithAll t.log.file either.bodies bs files) is.staged either.so) in
    ⊎_elim (λ l. inl (record { bodies = either.bodies; of = of; so = l })) (λ l. inr (record { bodies = either.bodies ++ more; of = adds either.bodies of; so = l })) logs

-- the bodies with effects prepared, and with what is in doubt committed
pub adds_effects : (effects book doubt : List Effect) → Adds book doubt (prepared_bodies effects) book (doubt ++ effects)
adds_effects effects book doubt = λ bodies of. bodies_prepared book doubt effects bodies of

pub adds_commit : (book doubt : List Effect) → Adds book doubt (commit_bodies doubt) (book ++ doubt) []
adds_commit book [] = λ bodies of. subst (λ (bs : List (List ℕ)). AreBodiesOf (book ++ []) [] bs) (sym (append-nil bodies)) (subst (λ (b : List Effect). AreBodiesOf b [] bodies) (sym (append-nil book)) of)
adds_commit book (e ∷ doubt) = λ bodies of. bodies_committed book (e ∷ doubt) bodies (λ none. cc) of

-- the log behind what is staged, if anything is
abbrev pub behind : List (List ℕ) → LogState → LogState
behind [] log = log
behind (body ∷ more) log = with_staged log

-- A store whose records are on the disk stands for the list with them, once they are taken.
pub stands_taken : {B : Type 0} (more : List (List ℕ)) (t u : Opened B) (disk : Disk) (book doubt : List Effect) → HasStaged t disk → t.log.staged ≡ more → Adds t.book t.doubt more book doubt
    → u.log ≡ behind more t.log → u.book ≡ book → u.doubt ≡ doubt → Stands u disk
stands_taken {B} more t u disk book doubt has staged adds log is_book is_doubt =
    subst (λ b. SomeBodies b u.doubt (λ bodies. StandsFor u.log bodies disk)) (sym is_book)
    (subst (λ d. SomeBodies book d (λ bodies. StandsFor u.log bodies disk)) (sym is_doubt)
    (subst (λ l. SomeBodies book doubt (λ bodies. StandsFor l bodies disk)) (sym log) (by more staged adds)))
  where
    by : (more : List (List ℕ)) → t.log.staged ≡ more → Adds t.book t.doubt more book doubt → SomeBodies book doubt (λ bodies. StandsFor (behind more t.log) bodies disk)
    by [] none adds =
        let stands = has.none none in
        record { bodies = stands.bodies; of = subst (AreBodiesOf book doubt) (append-nil stands.bodies) (adds stands.bodies stands.of); so = stands.so }
    by (body ∷ more) some adds =
        let stands = has.some (λ none. let no : body ∷ more ≡ [] = sym some ∙ none in absurd cc) in
        record {
          bodies = stands.bodies ++ body ∷ more;
          of = adds stands.bodies stands.of;
          so = subst (λ bs. StandsFor (with_staged t.log) (stands.bodies ++ bs) disk) some stands.so;
        }

-- what is taken is behind what is staged
taking_prepared : (effects : List Effect) (log : LogState) → taking effects log ≡ behind (prepared_bodies effects) log
taking_prepared [] log = refl
taking_prepared (e ∷ effects) log = refl

taking_commit : (doubt : List Effect) (log : LogState) → taking doubt log ≡ behind (commit_bodies doubt) log
taking_commit [] log = refl
taking_commit (e ∷ doubt) log = refl

-- the file stays
file_taken : (effects : List Effect) (l : LogState) → (taking effects l).file ≡ l.file
file_taken [] l = refl
file_taken (e ∷ effects) l = refl

-- What is asked of staged effects that are taken.
pub may_take : {B : Type 0} (s t : Opened B) (effects : List Effect) → MayPrepare s effects → Stages (prepared_bodies effects) s t → MayTake t effects
may_take s t effects may is = record {
  prepare = record {
    settled = ap (λ a. a.doubt) is.account ∙ may.settled;
    few = subst (λ (a : Account _). length a.book + length effects ≤ most_effects) (sym is.account) may.few;
    together = may.together;
    follow = subst (λ (a : Account _). MayFollowEach a.kind a.book effects) (sym is.account) may.follow;
    room = subst (λ (a : Account _). HasRoom a.ready effects) (sym is.account) may.room;
  };
  staged = is.staged;
}

module _ {B : Type 0} (effects : List (List Effect)) (old mid : List (Opened B)) (became : BecomeEach (λ q s t. StagesEffects (effects_for effects q) s t) old mid) where
  -- the stores in which effects are staged,
  stages : (q : ℕ) (s t : Opened B) → StagesEffects (effects_for effects q) s t → Stages (prepared_bodies (effects_for effects q)) s t
  stages q s t is = stages_effects (effects_for effects q) s t is

  -- are those of before,
  pub effects_unchanged : BecomeEach (λ q s t. IsUnchanged s t) old mid
  effects_unchanged = record {
    count = became.count;
    each = λ q s t at_s at_t. let is = stages q s t (became.each q s t at_s at_t) in record { file = is.file; account = is.account };
  }

  -- stand as before,
  pub effects_stand_still : (disk : Disk) → AllStand old disk → AllStand mid disk
  effects_stand_still disk all = of_became _ (λ q t. Stands t disk) old mid became (λ q s t at by. stands_staged (prepared_bodies (effects_for effects q)) s t disk (stages q s t by) (all q s at))

  -- may be taken,
  pub effects_may_be_taken : MayPrepareEach effects old → MayTakeEach effects mid
  effects_may_be_taken may q t at some = of_became _ (λ k x. effects_for effects k ≢ [] → MayTake x (effects_for effects k)) old mid became
      (λ k s x at_s by some. may_take s x (effects_for effects k) (may k s at_s some) (stages k s x by)) q t at some

  -- and in a set each is as before or with its effects.
  pub images_of_effects : (files : FileSet) → AreBeforeOrWith mid files → AreBeforeOrPrepared effects old files
  images_of_effects files each = of_was _ (λ k x. IsStoreOfEither x.log.file (x.book, x.doubt) (x.book, x.doubt ++ effects_for effects k) files) old mid became
      (λ k x t at_t by. either_staged (prepared_bodies (effects_for effects k)) x t x.book (x.doubt ++ effects_for effects k) files (stages k x t by) (adds_effects (effects_for effects k) x.book x.doubt) (each k t at_t))

  -- Once they are taken, each stands with its effects in doubt,
  pub effects_stand : (new : List (Opened B)) (disk : Disk) → OfEach (λ t. HasStaged t disk) mid → BecomeEach (λ q t u. TakesEffects (effects_for effects q) t u) mid new → AllStand new disk
  effects_stand new disk has took = of_became _ (λ q u. Stands u disk) mid new took (λ q t u at by.
      let es = effects_for effects q in
      stands_taken (prepared_bodies es) t u disk t.book (t.doubt ++ es) (has q t at) (staged q t at) (adds_effects es t.book t.doubt) (by.log ∙ taking_prepared es t.log) by.book by.doubt)
    where
      staged : (q : ℕ) (t : Opened B) → slice_get mid q ≡ Some t → t.log.staged ≡ prepared_bodies (effects_for effects q)
      staged = of_became _ (λ q t. t.log.staged ≡ prepared_bodies (effects_for effects q)) old mid became (λ q s t at by. (stages q s t by).staged)

  -- as it was asked
  pub effects_prepared : (new : List (Opened B)) → BecomeEach (λ q t u. TakesEffects (effects_for effects q) t u) mid new → BecomeEach (λ q s u. IsPrepared (effects_for effects q) s u) old new
  effects_prepared new took = become_then _ _ _ old mid new became took (λ q s t u first second.
      let is = stages q s t first in record {
        file = ap (λ l. l.file) second.log ∙ file_taken (effects_for effects q) t.log ∙ is.file;
        kind = second.kind ∙ ap (λ a. a.kind) is.account;
        book = second.book ∙ ap (λ a. a.book) is.account;
        doubt = second.doubt ∙ ap (λ (a : Account B). a.doubt ++ effects_for effects q) is.account;
      })

module _ {B : Type 0} (old mid : List (Opened B)) (became : BecomeEach (λ q s t. StagesCommit s t) old mid) where
  -- The stores in which commits are staged are those of before,
  pub commits_unchanged : BecomeEach (λ q s t. IsUnchanged s t) old mid
  commits_unchanged = record {
    count = became.count;
    each = λ q s t at_s at_t. let is = stages_commit s t (became.each q s t at_s at_t) in record { file = is.file; account = is.account };
  }

  -- stand as before,
  pub commits_stand_still : (disk : Disk) → AllStand old disk → AllStand mid disk
  commits_stand_still disk all = of_became _ (λ q t. Stands t disk) old mid became (λ q s t at by. stands_staged (commit_bodies s.doubt) s t disk (stages_commit s t by) (all q s at))

  -- may be taken,
  pub commits_may_be_taken : OfEach MayTakeCommit mid
  commits_may_be_taken = of_became _ (λ q t. MayTakeCommit t) old mid became (λ q s t at by.
      let is = stages_commit s t by in is.staged ∙ ap (λ (a : Account B). commit_bodies a.doubt) (sym is.account))

  -- and in a set each is as before or with its commit.
  pub images_of_commits : (files : FileSet) → AreBeforeOrWith mid files → AreBeforeOrCommitted old files
  images_of_commits files each = of_was _ (λ k x. IsStoreOfEither x.log.file (x.book, x.doubt) (x.book ++ x.doubt, []) files) old mid became
      (λ k x t at_t by. either_staged (commit_bodies x.doubt) x t (x.book ++ x.doubt) [] files (stages_commit x t by) (adds_commit x.book x.doubt) (each k t at_t))

  -- Once they are taken, each stands with nothing in doubt,
  pub commits_stand : (new : List (Opened B)) (disk : Disk) → OfEach (λ t. HasStaged t disk) mid → BecomeEach (λ q t u. TakesCommit t u) mid new → AllStand new disk
  commits_stand new disk has took = of_became _ (λ q u. Stands u disk) mid new took (λ q t u at by.
      stands_taken (commit_bodies t.doubt) t u disk (t.book ++ t.doubt) [] (has q t at) (commits_may_be_taken q t at) (adds_commit t.book t.doubt) (by.log ∙ taking_commit t.doubt t.log) by.book by.doubt)

  -- as it was asked
  pub commits_committed : (new : List (Opened B)) → BecomeEach (λ q t u. TakesCommit t u) mid new → BecomeEach (λ q s u. IsCommitted s u) old new
  commits_committed new took = become_then _ _ _ old mid new became took (λ q s t u first second.
      let is = stages_commit s t first in record {
        file = ap (λ l. l.file) second.log ∙ file_taken t.doubt t.log ∙ is.file;
        kind = second.kind ∙ ap (λ a. a.kind) is.account;
        book = second.book ∙ ap (λ (a : Account B). a.book ++ a.doubt) is.account;
        doubt = second.doubt;
      })

-- Of stores that are unchanged, what is asked before holds:
module _ {B : Type 0} (old mid : List (Opened B)) (same : BecomeEach (λ q s t. IsUnchanged s t) old mid) where
  -- they are in order,
  pub order_unchanged : AreInOrder old → AreInOrder mid
  order_unchanged order = of_became _ (λ q t. t.log.file ≡ q + 1) old mid same (λ q s t at by. by.file ∙ order q s at)

  -- their boxes fit,
  pub fits_unchanged : (box : Resources B) → OfEach (λ s. Fits box (account_of s)) old → OfEach (λ s. Fits box (account_of s)) mid
  fits_unchanged box fits = of_became _ (λ q t. Fits box (account_of t)) old mid same (λ q s t at by. subst (Fits box) (sym by.account) (fits q s at))

  -- and a run on them is one on those of before.
  pub run_unchanged : (start now : Disk) → RunBy (SameButStores mid) start now → RunBy (SameButStores old) start now
  run_unchanged start now run = run_so (SameButStores mid) (SameButStores old) start now
      (λ a b by. record { others = λ k none. by.others k (of_became _ (λ q t. t.log.file ≢ k) old mid same (λ q s t at is one. none q s at (sym is.file ∙ one))) }) run
