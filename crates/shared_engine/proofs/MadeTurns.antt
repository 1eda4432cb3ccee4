-- Turns at a desk, as the seat sees them.
use Rattle.std.proofs.Common.{◌≡◌, ◌∙◌, ◌+◌, List, [], ◌∷◌, ◌++◌, length, ap, subst, Option as Maybe, Some, None, IfSome}
use Rattle.process_disk.specs.declared.rack.Rack.{Ghosts as Racks}
use Rattle.resource_box.specs.declared.resource.Resource.{Ghosts as Resources}
use Rattle.engine_steps.specs.Targets.{targets_of}
use Rattle.engine_steps.specs.Engines.{EngineState}
use Rattle.history_lock.specs.declared.view.View.{View}
use Rattle.shared_engine.specs.declared.entries.TurnEntry.{TurnEntry}
use Rattle.shared_engine.specs.declared.shared.SharedEngine.{SharedEngine}
use Rattle.shared_engine.specs.Progress.{Progress, opened, progress}
use Rattle.shared_engine.specs.Seats.{HasAdded, core_at}
use Rattle.shared_engine.specs.Shared.{AreOf, IsOpening, StandsFor}
use Rattle.shared_engine.proofs.HandedLater.{led_to}

pub if_map : {A : Type 0} (m : Maybe A) (P Q : A → Type 0) → ((x : A) → P x → Q x) → IfSome m P → IfSome m Q
if_map None P Q so some = tt
if_map (Some x) P Q so some = so x some

module _ {R B : Type 0} (racks : Racks R) (box : Resources B) where
  -- what the state of a turn stands for, where the opening is known
  pub turn_stands : (m : Maybe (SharedEngine R B)) (o x : SharedEngine R B) (es : List TurnEntry) → IfSome m (λ z. StandsFor racks box z es x) → m ≡ Some o
      → IsOpening racks.disk box o → AreOf racks box o.engine es x
  turn_stands m o x es stands known sound = subst (λ (k : Maybe (SharedEngine R B)). IfSome k (λ z. StandsFor racks box z es x)) known stands sound

  -- its core is what the entries make
  pub core_is : (o : EngineState R B) (x : SharedEngine R B) (es : List TurnEntry) → AreOf racks box o es x → x.engine.core ≡ core_at o es
  core_is o x es are = ap (λ (p : Progress). p.core) (led_to (targets_of o.catalog.ops) (opened o) es (progress x) are.told)

module _ {R B : Type 0} where
  pub added_by : (e : TurnEntry) (v t w : View (SharedEngine R B) TurnEntry) (more : List TurnEntry) → t.opening ≡ v.opening → t.places ≡ v.places → t.share ≡ v.share → t.seen ≡ v.seen ++ more
      → w.opening ≡ t.opening → w.share ≡ t.share → w.seen ≡ t.seen ++ e ∷ [] → w.places ≡ t.places ++ (length t.seen + 1, e) ∷ [] → HasAdded e v w
  added_by e v t w more opening places share seen opening' share' seen' places' = record {
    opening = opening' ∙ opening;
    share = share' ∙ share;
    meanwhile = more;
    seen = seen' ∙ ap (λ l. l ++ e ∷ []) seen;
    places = places' ∙ ap (λ l. l ++ (length t.seen + 1, e) ∷ []) places ∙ ap (λ l. v.places ++ (length l + 1, e) ∷ []) seen;
  }
