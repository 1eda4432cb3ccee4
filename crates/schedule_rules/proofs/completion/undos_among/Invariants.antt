use Rattle.std.proofs.Common.{◌≡◌, ◌≤◌, ◌++◌, filter, length, map, reverse}
use Rattle.std.specs.List.{list_any}
use Rattle.schedule_model.specs.declared.event.Event.TheVariants.{Act}
use Rattle.schedule_model.specs.Histories.{same_step, undoing}
use Rattle.schedule_rules.proofs.completion.undos_among.Given as goal

abbrev pub invariant-loop-rest : goal.invariant-loop-rest
invariant-loop-rest l = record {
  added : l.added.items ++ map (λ e. Act (undoing e)) (reverse (filter (λ e. list_any (same_step e) l.listed) l.rest))
      ≡ map (λ e. Act (undoing e)) (reverse (filter (λ e. list_any (same_step e) l.listed) l.entries));
  within : length l.rest ≤ length l.entries;
}

abbrev pub decreases-loop-rest : goal.decreases-loop-rest
decreases-loop-rest l = length l.rest
