-- What came in turn: what each image holds, and one run of calls after another.
use Rattle.std.proofs.Common.{◌≡◌, ◌⊎◌, ◌∙◌, ◌≤◌, ◌<◌, ℕ, Bool, true, false, leb, leb-true, List, [], ◌∷◌, ◌++◌, filter, inl, inr, ⊎_elim, refl, ap, subst, sym, append-nil, append_assoc, arith, if◌then◌else◌}
use Rattle.std.proofs.lemmas.Bool.{leb-false}
use Rattle.process_disk.specs.Disk.{Disk, FileSet, IsHonest}
use Rattle.process_disk.specs.Images.{EachImage, ImagesFollow}
use Rattle.schedule_model.specs.declared.event.Event.{Event}
use Rattle.schedule_model.specs.declared.history.History.{History}
use Rattle.commute_table.specs.declared.catalog.Catalog.{Catalog}
use Rattle.process_journal.specs.Laws.{beginning}
use Rattle.history_files.specs.Sound.{IsSound, IsSoundForEither}
use Rattle.engine_calls.specs.Acknowledged.{ComeInTurn, acknowledged, events_of}

-- the events of what came, and of what came then
pub events_of-append : (came later : List (ℕ × List Event)) → events_of (came ++ later) ≡ events_of came ++ events_of later
events_of-append [] later = refl
events_of-append (e ∷ came) later = ap (λ es. e.1 ++ es) (events_of-append came later) ∙ sym (append_assoc e.1 (events_of came) (events_of later))

module _ (c : Catalog) (h : History) (IsAhead : FileSet → Type 0) (disk : Disk) where
  -- no sooner than the moment from which on they come is any acknowledged
  ack_by : (m : ℕ) (e : ℕ × List Event) (came : List (ℕ × List Event)) (b : Bool) → leb e.0 m ≡ b → acknowledged m (e ∷ came) ≡ (if b then e.1 ++ acknowledged m came else acknowledged m came)
  ack_by m e came true at = ap (λ b. events_of (if b then e ∷ filter (λ e. leb e.0 m) came else filter (λ e. leb e.0 m) came)) at
  ack_by m e came false at = ap (λ b. events_of (if b then e ∷ filter (λ e. leb e.0 m) came else filter (λ e. leb e.0 m) came)) at

  leb_no : (a m : ℕ) (b : Bool) → leb a m ≡ b → m < a → b ≡ false
  leb_no a m true at less = absurd (let low = leb-true a m at in omega (arith, less, low))
  leb_no a m false at less = refl

  pub none_yet : (came : List (ℕ × List Event)) (there : List Event) (t m : ℕ) → ComeInTurn c h IsAhead disk there t came → m < t → acknowledged m came ≡ []
  none_yet [] there t m turn less = refl
  none_yet (e ∷ came) there t m turn less =
      let more : m < e.0 = (let later = turn.1.later in omega (arith, less, later)) in
      ack_by m e came false (leb_no e.0 m (leb e.0 m) refl more) ∙ none_yet came (there ++ e.1) e.0 m turn.2 more

  prefix_by : (there : List Event) (m : ℕ) (e : ℕ × List Event) (came : List (ℕ × List Event)) → ((rest : List Event) × (events_of came ≡ acknowledged m came ++ rest)) → (m < e.0 → acknowledged m came ≡ [])
      → (b : Bool) → leb e.0 m ≡ b → (rest : List Event) × (events_of (e ∷ came) ≡ acknowledged m (e ∷ came) ++ rest)
  prefix_by there m e came (rest, is) none true at = (rest, ap (λ es. e.1 ++ es) is ∙ (sym (append_assoc e.1 (acknowledged m came) rest) ∙ ap (λ es. es ++ rest) (sym (ack_by m e came true at))))
  prefix_by there m e came (rest, is) none false at =
      let less : m < e.0 = (let l = leb-false e.0 m at in omega (arith, l)) in
      (events_of (e ∷ came), ap (λ es. es ++ events_of (e ∷ came)) (sym (ack_by m e came false at ∙ none less)))

  -- what was acknowledged by a moment is a beginning of what came
  pub prefix : (came : List (ℕ × List Event)) (there : List Event) (t m : ℕ) → ComeInTurn c h IsAhead disk there t came → (rest : List Event) × (events_of came ≡ acknowledged m came ++ rest)
  prefix [] there t m turn = ([], refl)
  prefix (e ∷ came) there t m turn = prefix_by there m e came (prefix came (there ++ e.1) e.0 m turn.2) (none_yet came (there ++ e.1) e.0 m turn.2) (leb e.0 m) refl

  -- Files that hold these events, and what else came as far as this.
  pub record Holds (there : List Event) (m : ℕ) (came : List (ℕ × List Event)) (files : FileSet) : Type 0 where
    pub middle : List Event
    pub rest : List Event
    pub is : events_of came ≡ acknowledged m came ++ middle ++ rest
    pub sound : IsSound c (beginning h (there ++ acknowledged m came ++ middle)) files

  holds_now : (there : List Event) (m : ℕ) (came : List (ℕ × List Event)) (files : FileSet) → acknowledged m came ≡ [] → IsSound c (beginning h there) files → Holds there m came files
  holds_now there m came files none sound = record {
    middle = [];
    rest = events_of came;
    is = ap (λ es. es ++ [] ++ events_of came) (sym none);
    sound = subst (λ es. IsSound c (beginning h (there ++ es ++ [])) files) (sym none)
        (subst (λ es. IsSound c (beginning h es) files) (sym (append-nil (there ++ []) ∙ append-nil there)) sound);
  }

  -- one group more was acknowledged
  holds_more : (there : List Event) (m : ℕ) (e : ℕ × List Event) (came : List (ℕ × List Event)) (files : FileSet) → leb e.0 m ≡ true → Holds (there ++ e.1) m came files → Holds there m (e ∷ came) files
  holds_more there m e came files at held =
      let more : acknowledged m (e ∷ came) ≡ e.1 ++ acknowledged m came = ack_by m e came true at in
      record {
        middle = held.middle;
        rest = held.rest;
        is = ap (λ es. e.1 ++ es) held.is ∙ (sym (append_assoc e.1 (acknowledged m came ++ held.middle) held.rest)
            ∙ (ap (λ es. es ++ held.rest) (sym (append_assoc e.1 (acknowledged m came) held.middle)) ∙ ap (λ es. es ++ held.middle ++ held.rest) (sym more)));
        sound = subst (λ es. IsSound c (beginning h (there ++ es ++ held.middle)) files) (sym more)
            (subst (λ es. IsSound c (beginning h es) files) (ap (λ es. es ++ held.middle) (append_assoc there e.1 (acknowledged m came))) held.sound);
      }

  -- one group more is there, and wasn't acknowledged
  holds_sooner : (there : List Event) (m n : ℕ) (e : ℕ × List Event) (came : List (ℕ × List Event)) (files : FileSet) → acknowledged m (e ∷ came) ≡ [] → Holds (there ++ e.1) n came files → Holds there m (e ∷ came) files
  holds_sooner there m n e came files none held =
      let all = acknowledged n came ++ held.middle in
      record {
        middle = e.1 ++ all;
        rest = held.rest;
        is = ap (λ es. e.1 ++ es) held.is ∙ (sym (append_assoc e.1 all held.rest) ∙ ap (λ es. es ++ (e.1 ++ all) ++ held.rest) (sym none));
        sound = subst (λ es. IsSound c (beginning h (there ++ es ++ (e.1 ++ all))) files) (sym none) (subst (λ es. IsSound c (beginning h es) files)
            (append_assoc (there ++ e.1) (acknowledged n came) held.middle ∙ (append_assoc there e.1 all ∙ ap (λ es. es ++ (e.1 ++ all)) (sym (append-nil there)))) held.sound);
      }

  -- what an image is that holds one group more, or is ahead
  abbrev Next : List Event → ℕ → (ℕ × List Event) → List (ℕ × List Event) → FileSet → Type 0
  Next there m e came files = Holds (there ++ e.1) m came files ⊎ IsAhead files

  held_by : (there : List Event) (t m : ℕ) (e : ℕ × List Event) (came : List (ℕ × List Event)) (files : FileSet) → ComeInTurn c h IsAhead disk there t (e ∷ came)
      → (e.0 ≤ m → Next there m e came files) → (m < e.0 → Next there e.0 e came files ⊎ IsSoundForEither c (beginning h there) (beginning h (there ++ e.1)) files)
      → (b : Bool) → leb e.0 m ≡ b → Holds there m (e ∷ came) files ⊎ IsAhead files
  held_by there t m e came files turn more less true at = ⊎_elim (λ held. inl (holds_more there m e came files at held)) (λ ahead. inr ahead) (more (leb-true e.0 m at))
  held_by there t m e came files turn more less false at =
      let low : m < e.0 = (let l = leb-false e.0 m at in omega (arith, l)) in
      let none : acknowledged m (e ∷ came) ≡ [] = ack_by m e came false at ∙ none_yet came (there ++ e.1) e.0 m turn.2 low in
      ⊎_elim
      (λ next. ⊎_elim (λ held. inl (holds_sooner there m e.0 e came files none held)) (λ ahead. inr ahead) next)
      (λ either. ⊎_elim
      (λ one. inl (holds_now there m (e ∷ came) files none one))
      (λ two. inl (holds_sooner there m m e came files none (holds_now (there ++ e.1) m came files (none_yet came (there ++ e.1) e.0 m turn.2 low) two)))
      either)
      (less low)

  -- What is left at a moment, or later, holds all that was acknowledged by then, or is ahead of all.
  pub held : IsHonest disk → (came : List (ℕ × List Event)) (there : List Event) (t m : ℕ) → ComeInTurn c h IsAhead disk there t came → t ≤ m → (files : FileSet) → disk.left_since m files
      → Holds there m came files ⊎ IsAhead files
  held honest [] there t m turn low files left = ⊎_elim (λ sound. inl (holds_now there m [] files refl sound)) (λ ahead. inr ahead) (turn.has files (honest.earlier t m files low left))
  held honest (e ∷ came) there t m turn low files left =
      held_by there t m e came files turn
      (λ later. held honest came (there ++ e.1) e.0 m turn.2 later files left)
      (λ sooner. ⊎_elim
      (λ since. inl (held honest came (there ++ e.1) e.0 e.0 turn.2 (omega arith) files since))
      (λ either. inr either)
      (turn.1.until files (honest.earlier t m files low left)))
      (leb e.0 m) refl

-- What came in turn up to the middle of a run, and then from there on, came in turn.
module _ (c : Catalog) (mid_h h : History) (AheadFirst IsAhead : FileSet → Type 0) (mid new : Disk) (honest : IsHonest new) (follow : ImagesFollow mid new) (none : (files : FileSet) → AheadFirst files → ⊥) where
  -- the beginnings of the history in the middle are those of the later one
  abbrev BeginAlike : List Event → List (ℕ × List Event) → Type 0
  BeginAlike there came = (g rest : List Event) → there ++ events_of came ≡ g ++ rest → beginning mid_h g ≡ beginning h g

  pub in_turn_by : (there : List Event) (t : ℕ) (later : List (ℕ × List Event)) → beginning mid_h there ≡ beginning h there → t ≤ mid.moment
      → EachImage mid t (λ files. IsSound c (beginning mid_h there) files ⊎ AheadFirst files) → ComeInTurn c h IsAhead new there mid.moment later → ComeInTurn c h IsAhead new there t later
  in_turn_by there t [] same low each turn = record {
    has = λ files left. ⊎_elim
        (λ first. ⊎_elim (λ sound. inl (subst (λ g. IsSound c g files) same sound)) (λ ahead. absurd (none files ahead)) (each.has files first))
        (λ since. turn.has files since)
        (follow.nothing_else t files low left);
  }
  in_turn_by there t (e ∷ later) same low each turn = (
    turn.0,
    record {
      later = (let l = turn.1.later in omega (arith, low, l));
      by_now = turn.1.by_now;
      until = λ files left. ⊎_elim
          (λ first. ⊎_elim (λ sound. inr (inl (subst (λ g. IsSound c g files) same sound))) (λ ahead. absurd (none files ahead)) (each.has files first))
          (λ since. turn.1.until files since)
          (follow.nothing_else t files low left);
    },
    turn.2,
  )

  either_alike : (there : List Event) (es : List Event) (files : FileSet) → beginning mid_h there ≡ beginning h there → beginning mid_h (there ++ es) ≡ beginning h (there ++ es)
      → IsSoundForEither c (beginning mid_h there) (beginning mid_h (there ++ es)) files → IsSoundForEither c (beginning h there) (beginning h (there ++ es)) files
  either_alike there es files one two either = ⊎_elim (λ sound. inl (subst (λ g. IsSound c g files) one sound)) (λ sound. inr (subst (λ g. IsSound c g files) two sound)) either

  pub in_turn_then : (came : List (ℕ × List Event)) (there : List Event) (t : ℕ) (later : List (ℕ × List Event)) → BeginAlike there came → t ≤ mid.moment → ComeInTurn c mid_h AheadFirst mid there t came
      → ComeInTurn c h IsAhead new (there ++ events_of came) mid.moment later → ComeInTurn c h IsAhead new there t (came ++ later)
  in_turn_then [] there t later alike low first second =
      in_turn_by there t later (alike there [] refl) low first (subst (λ es. ComeInTurn c h IsAhead new es mid.moment later) (append-nil there) second)
  in_turn_then (e ∷ came) there t later alike low first second =
      let high : e.0 ≤ mid.moment = first.1.by_now in (
        first.0,
        record {
          later = first.1.later;
          by_now = (let l = follow.later in omega (arith, l, high));
          until = λ files left. ⊎_elim
              (λ mid_left. ⊎_elim
              (λ since. inl (follow.keeps e.0 files high since))
              (λ either. inr (either_alike there e.1 files (alike there (e.1 ++ events_of came) refl)
              (alike (there ++ e.1) (events_of came) (sym (append_assoc there e.1 (events_of came)))) either))
              (first.1.until files mid_left))
              (λ since. inl (honest.earlier e.0 mid.moment files high since))
              (follow.nothing_else t files low left);
        },
        in_turn_then came (there ++ e.1) e.0 later (λ g rest is. alike g rest (sym (append_assoc there e.1 (events_of came)) ∙ is)) high first.2
            (subst (λ es. ComeInTurn c h IsAhead new es mid.moment later) (sym (append_assoc there e.1 (events_of came))) second),
      )

-- What is ahead may be said otherwise.
pub in_turn_so : (c : Catalog) (h : History) (IsAhead IsOther : FileSet → Type 0) (disk : Disk) → ((files : FileSet) → IsAhead files → IsOther files)
    → (came : List (ℕ × List Event)) (there : List Event) (t : ℕ) → ComeInTurn c h IsAhead disk there t came → ComeInTurn c h IsOther disk there t came
in_turn_so c h IsAhead IsOther disk so [] there t turn = record { has = λ files left. ⊎_elim (λ sound. inl sound) (λ ahead. inr (so files ahead)) (turn.has files left) }
in_turn_so c h IsAhead IsOther disk so (e ∷ came) there t turn = (turn.0, turn.1, in_turn_so c h IsAhead IsOther disk so came (there ++ e.1) e.0 turn.2)
