-- Why a process can't start, by what is counted.
use Rattle.std.proofs.Common.{◌≡◌, ◌∙◌, ℕ, ◌+◌, ◌≤◌, ◌<◌, leb, ltb, List, length, Some, None, sym, ap}
use Rattle.std.proofs.lemmas.Bool.{le-leb, le-ltb, lt-leb, lt-ltb}
use Rattle.schedule_model.specs.Course.{Course}
use Rattle.schedule_model.specs.Histories.{active, starts}
use Rattle.schedule_model.specs.Limits.{entries, most_entries, need}
use Rattle.machine_model.specs.declared.replies.StartWhy.TheVariants.{NoRoom, TooMany}
use Rattle.machine_model.specs.Moment.{Moment}
use Rattle.machine_model.specs.Runs.{no_room, start_refusal, too_many_active, too_many_started}

module _ (courses : List Course) (m : Moment) (c : Course) where
  -- too many are active
  pub refused_active : 256 ≤ length (active m.events) → Some (TooMany 256) ≡ start_refusal courses m c
  refused_active many = sym (ap (too_many_active courses m c) (le-leb 256 (length (active m.events)) many))

  module _ (few : length (active m.events) < 256) where
    past_active : start_refusal courses m c ≡ too_many_started courses m c (leb 4096 (length (starts m.events)))
    past_active = ap (too_many_active courses m c) (lt-leb 256 (length (active m.events)) few)

    -- too many have started
    pub refused_started : 4096 ≤ length (starts m.events) → Some (TooMany 4096) ≡ start_refusal courses m c
    refused_started many = sym (past_active ∙ ap (too_many_started courses m c) (le-leb 4096 (length (starts m.events)) many))

    module _ (started : length (starts m.events) < 4096) (n : ℕ) (is : n ≡ entries courses m.events + need c) where
      past_started : start_refusal courses m c ≡ no_room (entries courses m.events + need c) (ltb most_entries (entries courses m.events + need c))
      past_started = past_active ∙ ap (too_many_started courses m c) (lt-leb 4096 (length (starts m.events)) started)

      -- there would be too many entries
      pub refused_room : 16384 < n → Some (NoRoom n) ≡ start_refusal courses m c
      refused_room many =
          ap (λ k. Some (NoRoom k)) is ∙ sym (past_started ∙ ap (no_room (entries courses m.events + need c)) (ap (ltb most_entries) (sym is) ∙ lt-ltb most_entries n many))

      pub not_refused : n ≤ 16384 → None ≡ start_refusal courses m c
      not_refused fits = sym (past_started ∙ ap (no_room (entries courses m.events + need c)) (ap (ltb most_entries) (sym is) ∙ le-ltb most_entries n fits))
