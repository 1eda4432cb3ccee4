-- The sections of a report, read one after another.
use Rattle.std.proofs.Common.{◌≡◌, ℕ, suc, ◌+◌, ◌≤◌, ◌<◌, Bool, true, false, cond, ◌&&◌, List, [], ◌∷◌, ◌++◌, append_assoc, append-nil, length, length-append, map, decimal, Some, None, sym, refl, ap, ◌∙◌, subst, arith}
use Rattle.std.specs.Prelude.{codes}
use Rattle.std.specs.Option.{option_map}
use Rattle.std.proofs.lemmas.Bool.{and_from, lt-ltb}
use Rattle.std.proofs.lemmas.List.{map-append, length-map}
use Rattle.process_tree.specs.declared.conflicts.Mode.{Mode}
use Rattle.process_tree.specs.declared.conflicts.Mode.TheVariants.{Never, Key, Always}
use Rattle.process_tree.specs.Conflicts.{mode_of}
use Rattle.process_tree.specs.Name.{is_name}
use Rattle.process_tree.specs.declared.entry.Entry.{Entry}
use Rattle.process_tree.specs.declared.plan.Plan.{Plan}
use Rattle.process_text.specs.Canonical.{line_of}
use Rattle.commute_table.specs.declared.catalog.Catalog.{Catalog}
use Rattle.commute_table.specs.declared.op.Op.{Op}
use Rattle.schedule_model.specs.declared.event.Event.{Event}
use Rattle.schedule_model.specs.declared.event.Event.TheVariants.{Start, Act, End}
use Rattle.schedule_model.specs.Histories.{acts}
use Rattle.schedule_model.proofs.Appends.{acts-append}
use Rattle.schedule_model.proofs.Members.{Among, among_there}
use Rattle.trace_verify.specs.declared.form.Form.{Form}
use Rattle.trace_verify.specs.declared.form.Form.TheVariants.{Plain, Keyed}
use Rattle.trace_verify.specs.declared.section.Section.{Section}
use Rattle.trace_verify.specs.declared.section.Section.TheVariants.{Conflicts}
use Rattle.trace_verify.specs.Forms.{NamedAct, Pair, is_end_line, is_cause_line}
use Rattle.trace_verify.specs.Forms as forms
use Rattle.trace_verify.specs.Reports.{Report, with_pair, with_event, with_act, with_line}
use Rattle.process_report.specs.Names.{process_name, step_name, op_name}
use Rattle.process_report.specs.Lines.{Line, text_of, key_words, entry_line, event_line}
use Rattle.process_report.specs.Blocks.{joined}
use Rattle.process_report.specs.Report.{form_of, may_conflict, mode_word, mode_words, pair_line}
use Rattle.process_report.proofs.Plain.{lacks, lacks-append, name-lacks, number-lacks}
use Rattle.process_report.proofs.LinesRead.{Reads, reads-line, reads-each}
use Rattle.process_report.proofs.LineForms.{read_mode, named, IsKey, IsPrintable, after-other, words-lack, pair-read, entry-read, start-read, end-read}

-- x stands where a list is split at it
pub at-split : {X : Type 0} (all done : List X) (x : X) (after : List X) → all ≡ done ++ x ∷ after → Among x all
at-split all done x after is = subst (Among x) (sym is) (among_there done x after)

-- two names, of which each lacks a line feed
pub name-free : (w : List ℕ) → is_name w ≡ true → lacks 10 w ≡ true
name-free w good = name-lacks 10 w refl good

pub number-free : (n : ℕ) → n ≤ 4294967295 → lacks 10 (decimal n) ≡ true
number-free n small = number-lacks 10 n (omega arith) small

pub two-free : (v w : List ℕ) → lacks 10 v ≡ true → lacks 10 w ≡ true → lacks 10 (joined (v ∷ w ∷ [])) ≡ true
two-free v w one other = words-lack (v ∷ w ∷ []) (and_from (lacks 10 v) (lacks 10 w && true) one (and_from (lacks 10 w) true other refl))

pub three-free : (v w x : List ℕ) → lacks 10 v ≡ true → lacks 10 w ≡ true → lacks 10 x ≡ true → lacks 10 (joined (v ∷ w ∷ x ∷ [])) ≡ true
three-free v w x one two three =
    words-lack (v ∷ w ∷ x ∷ []) (and_from (lacks 10 v) (lacks 10 w && (lacks 10 x && true)) one (and_from (lacks 10 w) (lacks 10 x && true) two (and_from (lacks 10 x) true three refl)))

-- Pairs.

-- the line of a pair has no line feed
pair-free : (form : Form) (a b : List ℕ) (mode : Mode) → is_name a ≡ true → is_name b ≡ true → lacks 10 (joined (a ∷ b ∷ mode_words form mode)) ≡ true
pair-free Plain a b mode one other = two-free a b (name-free a one) (name-free b other)
pair-free Keyed a b mode one other = three-free a b (mode_word mode) (name-free a one) (name-free b other) (by mode)
  where
    by : (mode : Mode) → lacks 10 (mode_word mode) ≡ true
    by Never = refl
    by Key = refl
    by Always = refl

module _ (c : Catalog) where
  -- the mode of two operations
  abbrev pub mode_at : ℕ × ℕ → Mode
  mode_at p = mode_of c.conflicts p.0 p.1

  abbrev pub named_pair : ℕ × ℕ → Pair
  named_pair p = record { first = op_name c.ops p.0; second = op_name c.ops p.1; mode = read_mode (form_of c) (mode_at p) }

  -- what is wanted of two operations that are printed
  abbrev pub IsPrintablePair : ℕ × ℕ → Type 0
  IsPrintablePair p = (is_name (op_name c.ops p.0) ≡ true) × (is_name (op_name c.ops p.1) ≡ true) × (may_conflict (mode_at p) ≡ true)

  abbrev pub in_conflicts : List (ℕ × ℕ) → Report
  in_conflicts ps = record { section = Conflicts; form = form_of c; pairs = map named_pair ps; acts = []; steps = []; serial = [] }

  pub conflicts-read : (ps : List (ℕ × ℕ)) → ((p : ℕ × ℕ) → Among p ps → IsPrintablePair p)
      → Reads (in_conflicts []) (text_of (map (λ p. pair_line c p.0 p.1) ps)) (in_conflicts ps)
  conflicts-read ps good = reads-each (λ p. pair_line c p.0 p.1) in_conflicts ps step [] ps refl
    where
      step : (done : List (ℕ × ℕ)) (p : ℕ × ℕ) (after : List (ℕ × ℕ)) → ps ≡ done ++ p ∷ after → Reads (in_conflicts done) (line_of (pair_line c p.0 p.1)) (in_conflicts (done ++ p ∷ []))
      step done p after is =
          let names = good p (at-split ps done p after is) in
          let a = op_name c.ops p.0 in
          let b = op_name c.ops p.1 in
          reads-line (in_conflicts done) (in_conflicts (done ++ p ∷ [])) (pair_line c p.0 p.1) (pair-free (form_of c) a b (mode_at p) names.0 names.1)
          (after-other (in_conflicts done) a b (mode_words (form_of c) (mode_at p))
          ∙ (ap (option_map (with_pair (in_conflicts done))) (pair-read (form_of c) a b (mode_at p) names.0 names.1 names.2)
          ∙ ap (λ qs. Some (record { section = Conflicts; form = form_of c; pairs = qs; acts = []; steps = []; serial = [] })) (sym (map-append named_pair done (p ∷ [])))))

-- Events.

pub four-free : (v w x y : List ℕ) → lacks 10 v ≡ true → lacks 10 w ≡ true → lacks 10 x ≡ true → lacks 10 y ≡ true → lacks 10 (joined (v ∷ w ∷ x ∷ y ∷ [])) ≡ true
four-free v w x y one two three four =
    words-lack (v ∷ w ∷ x ∷ y ∷ []) (and_from (lacks 10 v) (lacks 10 w && (lacks 10 x && (lacks 10 y && true))) one
    (and_from (lacks 10 w) (lacks 10 x && (lacks 10 y && true)) two (and_from (lacks 10 x) (lacks 10 y && true) three (and_from (lacks 10 y) true four refl))))

-- the words of an entry have no line feed
act-free : (form : Form) (word place op : List ℕ) (key : ℕ) → lacks 10 word ≡ true → lacks 10 place ≡ true → is_name op ≡ true → IsKey form key
    → lacks 10 (joined (word ∷ place ∷ op ∷ key_words form key)) ≡ true
act-free Plain word place op key one two name fits = three-free word place op one two (name-free op name)
act-free Keyed word place op key one two name fits = four-free word place op (decimal key) one two (name-free op name) (number-free key fits)

module _ (form : Form) (plans : List Plan) (ops : List Op) where
  -- what is wanted of an event that is printed
  abbrev pub IsPrintableEvent : Event → Type 0
  IsPrintableEvent (Start i) = (i ≤ 4294967295) × (is_name (process_name plans i) ≡ true)
  IsPrintableEvent (Act e) = IsPrintable form plans ops e
  IsPrintableEvent (End i) = i ≤ 4294967295

  -- the line of an entry has no line feed
  pub entry-free : (e : Entry) → IsPrintable form plans ops e → lacks 10 (joined (entry_line form plans ops e)) ≡ true
  entry-free e good = by e.undo
    where
      place : List ℕ
      place = decimal e.process ++ 46 ∷ step_name plans e.process e.step

      op : List ℕ
      op = op_name ops e.op

      free : lacks 10 place ≡ true
      free = lacks-append 10 (decimal e.process) (46 ∷ step_name plans e.process e.step) (number-free e.process good.process) (name-free (step_name plans e.process e.step) good.step)

      by : (undo : Bool) → lacks 10 (joined (cond undo (codes "undo") (codes "do") ∷ place ∷ op ∷ key_words form e.key)) ≡ true
      by true = act-free form (codes "undo") place op e.key refl free good.op good.key
      by false = act-free form (codes "do") place op e.key refl free good.op good.key

  module _ (s : Section) (pairs : List Pair) (first : List NamedAct) (takes_events : (r : Report) (line : List ℕ) → with_line s r line ≡ with_event r (forms.event_line r.form line)) where
    abbrev pub in_events : List Event → Report
    in_events es = record { section = s; form = form; pairs = pairs; acts = first ++ map (named form plans ops) (acts es); steps = []; serial = [] }

    same-report : (es fs : List Event) → acts es ≡ acts fs → Some (in_events es) ≡ Some (in_events fs)
    same-report es fs e = ap (λ (xs : List Entry). Some (record { section = s; form = form; pairs = pairs; acts = first ++ map (named form plans ops) xs; steps = []; serial = [] })) e

    step : (es done : List Event) (x : Event) (after : List Event) → length first + length (acts es) ≤ 32768 → ((y : Event) → Among y es → IsPrintableEvent y) → es ≡ done ++ x ∷ after
        → Reads (in_events done) (line_of (event_line form plans ops x)) (in_events (done ++ x ∷ []))
    step es done (Start i) after few good is =
        let that = good (Start i) (at-split es done (Start i) after is) in
        let name = process_name plans i in
        reads-line (in_events done) (in_events (done ++ Start i ∷ [])) (codes "start" ∷ decimal i ∷ name ∷ []) (three-free (codes "start") (decimal i) name refl (number-free i that.0) (name-free name that.1))
        (after-other (in_events done) (codes "start") (decimal i) (name ∷ [])
        ∙ (takes_events (in_events done) (joined (codes "start" ∷ decimal i ∷ name ∷ []))
        ∙ (ap (with_event (in_events done)) (start-read form i name that.0 that.1)
        ∙ same-report done (done ++ Start i ∷ []) (sym (acts-append done (Start i ∷ []) ∙ append-nil (acts done))))))
    step es done (End i) after few good is =
        let that = good (End i) (at-split es done (End i) after is) in
        reads-line (in_events done) (in_events (done ++ End i ∷ [])) (codes "end" ∷ decimal i ∷ []) (two-free (codes "end") (decimal i) refl (number-free i that))
        (after-other (in_events done) (codes "end") (decimal i) []
        ∙ (takes_events (in_events done) (joined (codes "end" ∷ decimal i ∷ []))
        ∙ (ap (with_event (in_events done)) (end-read form i that)
        ∙ same-report done (done ++ End i ∷ []) (sym (acts-append done (End i ∷ []) ∙ append-nil (acts done))))))
    step es done (Act e) after few good is =
        let that = good (Act e) (at-split es done (Act e) after is) in
        let line = joined (entry_line form plans ops e) in
        let so_far = first ++ map (named form plans ops) (acts done) in
        let all : length (acts es) ≡ length (acts done) + suc (length (acts after)) = ap (λ x. length (acts x)) is ∙ (ap length (acts-append done (Act e ∷ after)) ∙ length-append (acts done) (e ∷ acts after)) in
        let long : length so_far ≡ length first + length (acts done) = length-append first (map (named form plans ops) (acts done)) ∙ ap (λ n. length first + n) (length-map (acts done) (named form plans ops)) in
        let less : length so_far < 32768 = omega (arith, all, long, few) in
        reads-line (in_events done) (in_events (done ++ Act e ∷ [])) (entry_line form plans ops e) (entry-free e that)
        (after-other (in_events done) (cond e.undo (codes "undo") (codes "do")) (decimal e.process ++ 46 ∷ step_name plans e.process e.step) (op_name ops e.op ∷ key_words form e.key)
        ∙ (takes_events (in_events done) line
        ∙ (ap (with_event (in_events done)) (entry-read form plans ops e that)
        ∙ (ap (λ t. cond t (Some (with_act (in_events done) (named form plans ops e))) None) (lt-ltb (length so_far) 32768 less)
        ∙ ap (λ (xs : List NamedAct). Some (record { section = s; form = form; pairs = pairs; acts = xs; steps = []; serial = [] }))
        (append_assoc first (map (named form plans ops) (acts done)) (named form plans ops e ∷ [])
        ∙ ap (λ xs. first ++ xs) (sym (ap (map (named form plans ops)) (acts-append done (Act e ∷ [])) ∙ map-append (named form plans ops) (acts done) (e ∷ []))))))))

    pub events-read : (es : List Event) → length first + length (acts es) ≤ 32768 → ((y : Event) → Among y es → IsPrintableEvent y)
        → Reads (in_events []) (text_of (map (event_line form plans ops) es)) (in_events es)
    events-read es few good = reads-each (event_line form plans ops) in_events es (λ done x after is. step es done x after few good is) [] es refl

-- Lines of ends and of causes change nothing.

module _ {X : Type 0} (r : Report) (f : X → Line) where
  pub same-read : (xs : List X) → ((x : X) → Among x xs → Reads r (line_of (f x)) r) → Reads r (text_of (map f xs)) r
  same-read xs good = reads-each f (λ ys. r) xs (λ done x after is. good x (at-split xs done x after is)) [] xs refl
