-- The entries to whose processes a walk of the conflict graph leads, one after another.
use Rattle.std.proofs.Common.{◌≡◌, ◌∙◌, ℕ, Bool, true, false, if◌then◌else◌, List, [], ◌∷◌, filter, None, refl, ap}
use Rattle.process_tree.specs.declared.entry.Entry.{Entry}
use Rattle.process_tree.specs.Conflicts.{do_conflict}
use Rattle.process_tree.specs.Order.{Each}
use Rattle.schedule_model.specs.Blocking.{Clash, against, in_a_circle}
use Rattle.schedule_model.specs.Conflict.{conflict}
use Rattle.schedule_model.specs.Holdings.{reaches}
use Rattle.machine_model.specs.declared.blocked.Rule.TheVariants.{A2}
use Rattle.hold_tables.specs.Kept.{AreTidy}
use Rattle.hold_tables.specs.Tables.{Tables, holdings_of, is_open}
use Rattle.hold_tables.proofs.Reaching.{active_net-is}
use Rattle.admission.specs.Least.{least_with}
use Rattle.admission.specs.Parts.{with_circle}
use Rattle.admission.proofs.Assembled.{least_by}

module _ (t : Tables) (b : Entry) where
  -- the clashes with those among these
  abbrev pub circle : List Entry → List Clash
  circle es = filter (λ c. reaches (do_conflict t.conflicts) (holdings_of t) b.process c.other.process) (against (do_conflict t.conflicts) b es)

  -- one entry more
  pub circle_more : (e : Entry) (es : List Entry) → least_by A2 (circle (e ∷ es)) ≡ with_circle t b e (least_by A2 (circle es))
  circle_more e es = by (conflict (do_conflict t.conflicts) b e) (reaches (do_conflict t.conflicts) (holdings_of t) b.process e.process) refl refl
    where
      by : (s r : Bool) → conflict (do_conflict t.conflicts) b e ≡ s → reaches (do_conflict t.conflicts) (holdings_of t) b.process e.process ≡ r
          → least_by A2 (circle (e ∷ es)) ≡ with_circle t b e (least_by A2 (circle es))
      by true true is led = rw (is, led) refl
      by true false is led = rw (is, led) refl
      by false true is led = rw (is, led) refl
      by false false is led = rw (is, led) refl

  -- of the whole net
  pub circle-is : AreTidy t → least_by A2 (in_a_circle (do_conflict t.conflicts) (holdings_of t) b) ≡ least_by A2 (circle t.net)
  circle-is tidy = ap (λ es. least_by A2 (circle es)) (active_net-is t tidy.of_open)

  -- where no walk leads from the process, there is none
  pub none_led : ((k : ℕ) → is_open t k ≡ true → reaches (do_conflict t.conflicts) (holdings_of t) b.process k ≡ false)
      → (es : List Entry) → Each (λ e. is_open t e.process ≡ true) es → least_by A2 (circle es) ≡ None
  none_led none [] each = refl
  none_led none (e ∷ es) each =
      let rest = least_by A2 (circle es) in
      circle_more e es
      ∙ ap (λ led. if led then least_with (do_conflict t.conflicts) A2 b e rest else rest) (none e.process each.0)
      ∙ none_led none es each.1
