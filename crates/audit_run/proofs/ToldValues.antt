-- What is told of the values of a log is what it leaves itself.
use Rattle.std.proofs.Common.{◌≡◌, ◌∙◌, ◌++◌, ℕ, List, codes, Option, Some, None, refl, sym, ap, append-nil, arith}
use Rattle.std.specs.Option.{option_map}
use Rattle.std.proofs.lemmas.Bool.{false≢true}
use Rattle.process_tree.specs.declared.entry.Entry.{Entry}
use Rattle.process_tree.specs.declared.plan.Plan.{Plan}
use Rattle.commute_table.specs.declared.catalog.Catalog.{Catalog}
use Rattle.schedule_model.specs.Course.{courses_of}
use Rattle.schedule_model.specs.Histories.{acts}
use Rattle.schedule_model.proofs.Active.{completion-none}
use Rattle.process_report.specs.Lines.{Line}
use Rattle.process_report.specs.Report.{section}
use Rattle.value_conflict.specs.Names.{names_at}
use Rattle.value_conflict.specs.ValueConflict.{FirstCommutingIsExact, IsValueSound, first_commuting}
use Rattle.serial_values.specs.Laws.{SerialListsLeaveWhatLogsLeave}
use Rattle.serial_values.specs.Told.{told_values, values_text, values_unless}
use Rattle.audit_run.specs.Laws.{LogsLeaveWhatIsTold}
use Rattle.audit_run.proofs.SerialSteps.{log_ordered, log_planned, told_reached, told_steps}

-- where the catalog names each conflict in value, the values are told
told-of_sound : FirstCommutingIsExact → (c : Catalog) (plans : List Plan) (es : List Entry) → IsValueSound c → values_text c plans es ≡ told_values c.ops plans es
told-of_sound exact c plans es sound = by (first_commuting c) refl
  where
    by : (o : Option (ℕ × ℕ)) → first_commuting c ≡ o → values_unless c plans es (option_map (names_at c) o) ≡ told_values c.ops plans es
    by None is = refl
    by (Some pair) is =
        let least = (exact c).some pair.0 pair.1 is in
        absurd (false≢true (sym (sound pair.0 pair.1 (omega (arith, least.ordered, least.there)) least.there) ∙ least.is))

pub logs_leave : FirstCommutingIsExact → SerialListsLeaveWhatLogsLeave → LogsLeaveWhatIsTold
logs_leave exact law c l serial good sound is found =
    let same = law c l.started l.events serial.items good sound (log_planned c l serial good is found) (log_ordered c l serial good is found)
    (told_steps c l serial good is found) (told_reached c l serial good is found) in
    let told = told-of_sound exact c l.started serial.items sound ∙ ap (λ (ls : List Line). section (codes "values") ls) same in
    record {
      completed = told;
      ended = λ none. told ∙ ap (λ es. told_values c.ops l.started (acts es)) (ap (λ es. l.events ++ es) (completion-none (courses_of l.started) l.events none) ∙ append-nil l.events);
    }
