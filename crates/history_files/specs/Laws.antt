-- What is proved of the effects of histories.
use Rattle.std.specs.Prelude.{◌≡◌, ◌≢◌, ◌<◌, ℕ, true, false, List, [], ◌∷◌, ◌++◌, length}
use Rattle.process_tree.specs.declared.entry.Entry.{Entry}
use Rattle.process_tree.specs.declared.plan.Plan.{Plan}
use Rattle.schedule_model.specs.declared.event.Event.TheVariants.{Act, End}
use Rattle.schedule_model.specs.declared.history.History.{History}
use Rattle.schedule_model.specs.Histories.{acts}
use Rattle.commute_table.specs.declared.catalog.Catalog.{Catalog}
use Rattle.commute_table.specs.declared.op.Op.{Op}
use Rattle.subsystem_store.specs.declared.effect.Effect.{Effect}
use Rattle.subsystem_store.specs.Bodies.{is_amount}
use Rattle.subsystem_store.specs.Opened.{Opened}
use Rattle.subsystem_store.specs.Order.{may_follow, most_effects}
use Rattle.process_journal.specs.Bodies.{with_event, with_start}
use Rattle.process_journal.specs.Journals.{IsHistoryUnder}
use Rattle.history_files.specs.Effects.{effect_of, effects, subsystem_of}
use Rattle.history_files.specs.Sound.{is_among, kind_of}
use Rattle.history_files.specs.Standing.{AtEach}

-- the effect that an act has behind a history
abbrev pub next_effect : List Op → History → Entry → Effect
next_effect ops h e = effect_of ops h.plans (length (acts h.events)) e

-- What an act adds to the effects: its own on its subsystem, and nothing on another; none of before is the same.
pub record AddsItsEffect (ops : List Op) (h : History) (e : Entry) : Type 0 where
  pub own : (q : ℕ) → subsystem_of ops e.op ≡ q → effects ops (with_event h (Act e)) q ≡ effects ops h q ++ next_effect ops h e ∷ []
  pub others : (q : ℕ) → subsystem_of ops e.op ≢ q → effects ops (with_event h (Act e)) q ≡ effects ops h q
  pub new : (q : ℕ) → is_among (next_effect ops h e) (effects ops h q) ≡ false

abbrev pub ActsAddTheirEffect : Type 0
ActsAddTheirEffect = (ops : List Op) (h : History) (e : Entry) → AddsItsEffect ops h e

-- An end adds none,
abbrev pub EndsAddNone : Type 0
EndsAddNone = (ops : List Op) (h : History) (i q : ℕ) → effects ops (with_event h (End i)) q ≡ effects ops h q

-- and a start adds none to those of a history that a journal may have.
abbrev pub StartsAddNone : Type 0
StartsAddNone = (c : Catalog) (h : History) (i : ℕ) (p : Plan) (q : ℕ) → IsHistoryUnder c h
    → effects c.ops (with_start h i p) q ≡ effects c.ops h q

-- nothing is in doubt, and each book has the effects of the history
abbrev pub AreSettled : {B : Type 0} → List Op → History → List (Opened B) → Type 0
AreSettled ops h stores = AtEach (λ q s. (s.doubt ≡ []) × (s.book ≡ effects ops h q)) stores

-- What a store is asked of an effect that is prepared.
pub record MayBePrepared (c : Catalog) (h : History) (e : Entry) (q : ℕ) : Type 0 where
  pub few : length (effects c.ops h q) < most_effects
  pub follows : may_follow (kind_of q) (effects c.ops h q) (next_effect c.ops h e) ≡ true
  pub amount : is_amount (next_effect c.ops h e).call.amount ≡ true

-- So it is with each act with which a history that a journal may have goes on to one that it may have.
abbrev pub NextEffectsMayBePrepared : Type 0
NextEffectsMayBePrepared = (c : Catalog) (h : History) (e : Entry) (q : ℕ) → subsystem_of c.ops e.op ≡ q
    → IsHistoryUnder c (with_event h (Act e)) → MayBePrepared c h e q
