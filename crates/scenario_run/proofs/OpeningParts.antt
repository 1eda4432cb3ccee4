-- What an opening refuses, in two parts: the files are not opened; or they are, and are not gone on with.
use Rattle.std.proofs.Common.{◌≡◌, ◌⊎◌, ℕ, List, [], Some, inl, inr, subst}
use Rattle.process_tree.specs.Shape.{first_of}
use Rattle.process_tree.specs.declared.plan.Plan.{Plan}
use Rattle.schedule_model.specs.declared.history.History.{History}
use Rattle.schedule_model.specs.Histories.{active}
use Rattle.commute_table.specs.declared.catalog.Catalog.{Catalog}
use Rattle.history_opening.specs.declared.faults.OpenError.{OpenError}
use Rattle.command_refusals.specs.declared.refusal.Refusal.{Refusal}
use Rattle.command_refusals.specs.declared.refusal.Refusal.TheVariants.{Unfinished}
use Rattle.command_refusals.specs.Order.{IsFirstRefusal}
use Rattle.command_input.specs.FilesLeft.{Files}
use Rattle.scenario_run.specs.Opening.{open_refusal, AreNotOpened, AreOpenedOn, IsNotOpenedFor, IsNotOpenedWith, IsOther}
use Rattle.scenario_run.specs.Run.{run_opening_tests, IsPastLimit}

-- the files are refused
abbrev pub AreRefused : Refusal → Files → Files → Type 0
AreRefused r before after = (e : OpenError) × (r ≡ open_refusal e) × AreNotOpened e before after

-- this is the least process that is active in a history
abbrev pub IsUnfinished : History → Refusal → Type 0
IsUnfinished h r = (i : ℕ) × (r ≡ Unfinished i) × (first_of (active h.events) ≡ Some i)

-- a history of files of one catalog doesn't go on with processes of a scenario of another
abbrev pub IsUnfit : Catalog → Catalog → History → Refusal → Type 0
IsUnfit c own h r = IsOther c own r ⊎ ((own ≡ c) × IsUnfinished h r)

-- the two parts for an opening whoever is active, and for one where none may be
abbrev pub IsRefusedWith : Catalog → Refusal → Files → Files → Type 0
IsRefusedWith c r before after =
    AreRefused r before after ⊎ ((own : Catalog) × (h : History) × AreOpenedOn own h before after × IsOther c own r)

abbrev pub IsRefusedIdle : Catalog → Refusal → Files → Files → Type 0
IsRefusedIdle c r before after =
    AreRefused r before after ⊎ ((own : Catalog) × (h : History) × AreOpenedOn own h before after × IsUnfit c own h r)

module _ (c : Catalog) (r : Refusal) (before after : Files) where
  pub with_in_parts : IsNotOpenedWith c r before after → IsRefusedWith c r before after
  with_in_parts (inl why) = inl why
  with_in_parts (inr (own, sound, (other, on))) = inr (own.0, own.1, on, other)

  pub with_of_parts : IsRefusedWith c r before after → IsNotOpenedWith c r before after
  with_of_parts (inl why) = inl why
  with_of_parts (inr (own, h, on, other)) = inr ((own, h), on.sound, (other, on))

  pub for_in_parts : IsNotOpenedFor c r before after → IsRefusedIdle c r before after
  for_in_parts (inl why) = inl why
  for_in_parts (inr (own, sound, inl (other, on))) = inr (own.0, own.1, on, inl other)
  for_in_parts (inr (own, sound, inr (u, same, (unfinished, on)))) = inr (own.0, own.1, on, inr (same, unfinished))

  pub for_of_parts : IsRefusedIdle c r before after → IsNotOpenedFor c r before after
  for_of_parts (inl why) = inl why
  for_of_parts (inr (own, h, on, inl other)) = inr ((own, h), on.sound, inl (other, on))
  for_of_parts (inr (own, h, on, inr (same, unfinished))) = inr ((own, h), on.sound, inr (tt, same, (unfinished, on)))

  -- what is refused whoever is active is refused where none may be,
  pub with_then_idle : IsNotOpenedWith c r before after → IsNotOpenedFor c r before after
  with_then_idle (inl why) = inl why
  with_then_idle (inr (own, sound, (other, on))) = inr (own, sound, inl (other, on))

  -- that by `run`, before it looks whether the processes fit,
  module _ (plans : List Plan) where
    pub idle_then_room : IsNotOpenedFor c r before after → IsFirstRefusal (run_opening_tests c plans before after) r
    idle_then_room (inl why) = inl why
    idle_then_room (inr (own, sound, inl why)) = inr (own, sound, inl why)
    idle_then_room (inr (own, sound, inr (u, same, why))) = inr (own, sound, inr (u, same, inl why))

    -- and then a limit that they pass,
    pub room_refused : (own : Catalog) (h : History) → AreOpenedOn own h before after → own ≡ c → active h.events ≡ [] → IsPastLimit own h plans before after r
        → IsFirstRefusal (run_opening_tests c plans before after) r
    room_refused own h on same idle past = inr ((own, h), on.sound, inr (tt, same, inr (tt, idle, (past, on))))

    -- and nothing else.
    pub idle_or_room : IsFirstRefusal (run_opening_tests c plans before after) r → IsNotOpenedFor c r before after ⊎ ((h : History) × IsPastLimit c h plans before after r)
    idle_or_room (inl why) = inl (inl why)
    idle_or_room (inr (own, sound, inl why)) = inl (inr (own, sound, inl why))
    idle_or_room (inr (own, sound, inr (u, same, inl why))) = inl (inr (own, sound, inr (u, same, why)))
    idle_or_room (inr (own, sound, inr (u, same, inr (v, idle, (past, on))))) = inr (own.1, subst (λ d. IsPastLimit d own.1 plans before after r) same past)
