-- At want of memory the commands over a history or a log do what may be wanted of them, and so they do at a status that is told in its place.
use Rattle.std.proofs.Common.{◌≡◌, ◌⊎◌, subst, sym, inl, inr}
use Rattle.process_disk.specs.Disk.{Disk}
use Rattle.command_refusals.specs.declared.status.Status.{Status}
use Rattle.command_refusals.specs.declared.status.Status.TheVariants.{NoMemory}
use Rattle.command_input.specs.Inputs.{Input}
use Rattle.command_input.specs.FilesLeft.{Files}
use Rattle.replay_run.specs.Replay.{IsReplayComplete}
use Rattle.process_top.specs.Audit.{IsAuditComplete, IsHistoryAuditComplete}

pub replay_wanting : (disk : Disk) (status : Status) → status ≡ NoMemory → IsReplayComplete disk status
replay_wanting disk status is = record { sound = λ c h idle sound. inr (inl is); unsound = λ c h idle unsound. inr (inl is) }

pub audit_wanting : (input : Input) (status : Status) → status ≡ NoMemory → IsAuditComplete input status
audit_wanting input status is = record { reducible = λ bytes c plans has. inr (inl is); irreducible = λ bytes c plans has. inr (inl is) }

pub history_wanting : (input : Input) (files : Files) (status : Status) → status ≡ NoMemory → IsHistoryAuditComplete input files status
history_wanting input files status is = λ bytes c plans own h told few bound good known journal. inr (inr (inr (inr (inl is))))

-- what holds of the status of what was found, and at want of memory, holds of the status at which it was told
pub told_so : (P : Status → Type 0) (status own : Status) → (status ≡ own) ⊎ (status ≡ NoMemory) → P own → (status ≡ NoMemory → P status) → P status
told_so P status own (inl same) holds wanting = subst P (sym same) holds
told_so P status own (inr memory) holds wanting = wanting memory
