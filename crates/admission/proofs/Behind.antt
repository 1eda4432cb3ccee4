-- Entries of processes that come behind a block have none that is less.
use Rattle.std.proofs.Common.{◌≡◌, ◌<◌, Bool, true, false, ◌&&◌, ◌||◌, if◌then◌else◌, List, [], ◌∷◌, Some, refl, ap, ◌∙◌}
use Rattle.std.specs.Prelude.{nat_eq, nat_lt}
use Rattle.std.proofs.lemmas.Bool.{lt-ltb}
use Rattle.process_tree.specs.Order.{Each}
use Rattle.process_tree.specs.declared.entry.Entry.{Entry}
use Rattle.schedule_model.specs.Conflict.{ConflictRelation, conflict}
use Rattle.machine_model.specs.declared.blocked.Blocked.{Blocked}
use Rattle.machine_model.specs.declared.blocked.Rule.{Rule}
use Rattle.machine_model.specs.Blocks.{lesser, less_then, rule_number}
use Rattle.admission.specs.Least.{block_on, least_on, least_with, lesser_of}
use Rattle.admission.proofs.Order.{thrice}
use Rattle.admission.proofs.Over.{on-cons}

-- a block on a lesser process is less
less_by_process : (b a : Blocked) → b.on < a.on → lesser a (Some b) ≡ Some b
less_by_process b a less =
    ap (λ s. if s || (nat_eq b.on a.on && less_then b.other a.other (less_then b.own a.own (nat_lt (rule_number b.rule) (rule_number a.rule)))) then Some b else Some a)
    (lt-ltb b.on a.on less)

module _ (table : ConflictRelation) (r : Rule) (own : Entry) (b : Blocked) where
  pub none_less : (es : List Entry) → Each (λ e. b.on < e.process) es → lesser_of (least_on table r own es) (Some b) ≡ Some b
  none_less [] behind = refl
  none_less (e ∷ es) behind = ap (λ o. lesser_of o (Some b)) (on-cons table r own e es) ∙ by (conflict table own e) refl (none_less es behind.1)
    where
      by : (t : Bool) → conflict table own e ≡ t → lesser_of (least_on table r own es) (Some b) ≡ Some b
          → lesser_of (least_with table r own e (least_on table r own es)) (Some b) ≡ Some b
      by true is rest =
          ap (λ t. lesser_of (if t then lesser (block_on r own e) (least_on table r own es) else least_on table r own es) (Some b)) is
          ∙ thrice (Some (block_on r own e)) (least_on table r own es) (Some b) ∙ ap (lesser (block_on r own e)) rest
          ∙ less_by_process b (block_on r own e) behind.0
      by false is rest =
          ap (λ t. lesser_of (if t then lesser (block_on r own e) (least_on table r own es) else least_on table r own es) (Some b)) is ∙ rest
