use Rattle.resource_box.proofs.Maps.{reads_what_was_set, keeps_other_keys, ready_changes_no_value}
use Rattle.resource_box.proofs.laws.maps_are_changed_at_one_key.Goals as goal

pub returns : goal.returns
returns c = record { set = reads_what_was_set; others = keeps_other_keys; ready = ready_changes_no_value }
