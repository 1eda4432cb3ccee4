-- Printed lines have the forms of a report, and are read as what they print.
use Rattle.std.proofs.Common.{◌≡◌, ℕ, ◌≤◌, Bool, true, false, cond, not, ◌&&◌, ◌||◌, List, [], ◌∷◌, ◌++◌, append-nil, nat_eq, decimal, Some, None, sym, refl, ap, ◌∙◌, arith}
use Rattle.std.specs.Prelude.{option_and_then, codes}
use Rattle.std.specs.List.{list_all}
use Rattle.std.specs.Option.{option_map}
use Rattle.std.proofs.lemmas.Bool.{and_parts, and_from, false≢true}
use Rattle.process_tree.specs.declared.conflicts.Mode.{Mode}
use Rattle.process_tree.specs.declared.conflicts.Mode.TheVariants.{Never, Key, Always}
use Rattle.process_tree.specs.Name.{is_name_byte, is_name}
use Rattle.process_tree.specs.Making.{same_text}
use Rattle.process_tree.specs.declared.entry.Entry.{Entry}
use Rattle.process_tree.specs.declared.plan.Plan.{Plan}
use Rattle.process_text.specs.Canonical.{spaced}
use Rattle.commute_table.specs.declared.op.Op.{Op}
use Rattle.schedule_model.specs.declared.trace_step.TraceStep.TheVariants.{Move, Cancel}
use Rattle.trace_verify.specs.declared.form.Form.{Form}
use Rattle.trace_verify.specs.declared.form.Form.TheVariants.{Plain, Keyed}
use Rattle.trace_verify.specs.declared.section.Section.{Section}
use Rattle.trace_verify.specs.declared.section.Section.TheVariants.{Opening, Conflicts, History, Completion, Ends, Causes, Trace, Serial}
use Rattle.trace_verify.specs.Lines.{cut, parts, of_both, both_pass, onto_front}
use Rattle.trace_verify.specs.Forms.{NamedAct, Pair, pair_of, mode_of_word, pair_from, named_act, placed_act, act_from, act_of, is_start, without_act, is_number, number_of, is_named_end, is_end, is_path, is_end_line, is_longer_cause, is_cause, is_cause_line, moved, step_of, move_of, cancel_of}
use Rattle.trace_verify.specs.Forms as forms
use Rattle.trace_verify.specs.Reports.{Report, opened, with_line, title_or, after_line}
use Rattle.trace_verify.proofs.Cuts.{parts-none, parts-some}
use Rattle.trace_verify.proofs.Naming.{same}
use Rattle.process_report.specs.Names.{step_name, op_name}
use Rattle.process_report.specs.Lines.{Line, key_words, entry_line}
use Rattle.process_report.specs.Blocks.{joined}
use Rattle.process_report.specs.Report.{may_conflict, mode_word, mode_words}
use Rattle.process_report.proofs.Plain.{lacks, lacks-append, cut-at, name-lacks, number-lacks, number-is, number-read}

-- the key that is read of an entry
abbrev pub read_key : Form → ℕ → ℕ
read_key Plain k = 0
read_key Keyed k = k

-- the mode that is read of two operations
abbrev pub read_mode : Form → Mode → Mode
read_mode Plain mode = Always
read_mode Keyed mode = mode

-- an entry as it is printed
abbrev pub named : Form → List Plan → List Op → Entry → NamedAct
named form plans ops e =
    record { process = e.process; step = step_name plans e.process e.step; op = op_name ops e.op; key = read_key form e.key; undo = e.undo }

-- A line of two words or more is no title.

has-space : (w rest : List ℕ) → lacks 32 (w ++ 32 ∷ rest) ≡ false
has-space [] rest = refl
has-space (c ∷ w) rest = by (nat_eq c 32) (has-space w rest)
  where
    by : (t : Bool) → lacks 32 (w ++ 32 ∷ rest) ≡ false → (not t && lacks 32 (w ++ 32 ∷ rest)) ≡ false
    by true later = refl
    by false later = later

no-title : (title w rest : List ℕ) → lacks 32 title ≡ true → same_text (w ++ 32 ∷ rest) title ≡ false
no-title title w rest free = by (same_text (w ++ 32 ∷ rest) title) refl
  where
    by : (b : Bool) → same_text (w ++ 32 ∷ rest) title ≡ b → b ≡ false
    by true is = absurd (false≢true (sym (has-space w rest) ∙ (ap (lacks 32) (same (w ++ 32 ∷ rest) title is) ∙ free)))
    by false is = refl

opens-none : (s : Section) (w rest : List ℕ) → opened s (w ++ 32 ∷ rest) ≡ None
opens-none Opening w rest = refl
opens-none Conflicts w rest = ap (λ b. cond b (Some History) None) (no-title (codes "history") w rest refl)
opens-none History w rest = ap (λ b. cond b (Some Completion) None) (no-title (codes "completion") w rest refl)
opens-none Completion w rest = ap (λ b. cond b (Some Ends) None) (no-title (codes "ends") w rest refl)
opens-none Ends w rest = ap (λ b. cond b (Some Causes) None) (no-title (codes "causes") w rest refl)
opens-none Causes w rest = ap (λ b. cond b (Some Trace) None) (no-title (codes "trace") w rest refl)
opens-none Trace w rest = ap (λ b. cond b (Some Serial) None) (no-title (codes "serial") w rest refl)
opens-none Serial w rest = refl

pub after-other : (r : Report) (w v : List ℕ) (ws : Line) → after_line r (joined (w ∷ v ∷ ws)) ≡ with_line r.section r (joined (w ∷ v ∷ ws))
after-other r w v ws = ap (title_or r (joined (w ∷ v ∷ ws))) (opens-none r.section w (joined (v ∷ ws)))

-- Words of a line, cut off one by one.

pub cut-first : (w v : List ℕ) (ws : Line) → lacks 32 w ≡ true → cut 32 (joined (w ∷ v ∷ ws)) ≡ Some (w, joined (v ∷ ws))
cut-first w v ws free = cut-at 32 w (joined (v ∷ ws)) free

cut-none : (b : ℕ) (w : List ℕ) → lacks b w ≡ true → cut b w ≡ None
cut-none b [] free = refl
cut-none b (c ∷ w) free = by (nat_eq c b) (cut-none b w) free
  where
    by : (t : Bool) → (lacks b w ≡ true → cut b w ≡ None) → (not t && lacks b w) ≡ true → cond t (Some ([], w)) (option_map (onto_front c) (cut b w)) ≡ None
    by true later f = absurd (cc)
    by false later f = ap (option_map (onto_front c)) (later f)

pub parts-joined : (w : List ℕ) (ws : Line) → list_all (lacks 32) (w ∷ ws) ≡ true → parts 32 (joined (w ∷ ws)) ≡ w ∷ ws
parts-joined w [] free = ap (parts 32) (append-nil w) ∙ parts-none 32 w (cut-none 32 w (and_parts (lacks 32 w) true free).0)
parts-joined w (v ∷ vs) free =
    let both = and_parts (lacks 32 w) (list_all (lacks 32) (v ∷ vs)) free in
    parts-some 32 (joined (w ∷ v ∷ vs)) w (joined (v ∷ vs)) (cut-first w v vs both.0) ∙ ap (λ xs. w ∷ xs) (parts-joined v vs both.1)

pub names-lack : (b : ℕ) (ws : Line) → is_name_byte b ≡ false → list_all is_name ws ≡ true → list_all (lacks b) ws ≡ true
names-lack b [] fails names = refl
names-lack b (w ∷ ws) fails names =
    let both = and_parts (is_name w) (list_all is_name ws) names in
    and_from (lacks b w) (list_all (lacks b) ws) (name-lacks b w fails both.0) (names-lack b ws fails both.1)

-- no line feed stands in words that have none
pub words-lack : (ws : Line) → list_all (lacks 10) ws ≡ true → lacks 10 (joined ws) ≡ true
words-lack [] free = refl
words-lack (w ∷ ws) free =
    let both = and_parts (lacks 10 w) (list_all (lacks 10) ws) free in
    lacks-append 10 w (spaced ws) both.0 (spaced-lack ws both.1)
  where
    spaced-lack : (vs : Line) → list_all (lacks 10) vs ≡ true → lacks 10 (spaced vs) ≡ true
    spaced-lack [] f = refl
    spaced-lack (v ∷ vs) f = let both = and_parts (lacks 10 v) (list_all (lacks 10) vs) f in lacks-append 10 v (spaced vs) both.0 (spaced-lack vs both.1)

-- Pairs.

mode-read : (mode : Mode) → may_conflict mode ≡ true → mode_of_word (mode_word mode) ≡ Some mode
mode-read Never may = absurd (cc)
mode-read Key may = refl
mode-read Always may = refl

pub pair-read : (form : Form) (a b : List ℕ) (mode : Mode) → is_name a ≡ true → is_name b ≡ true → may_conflict mode ≡ true
    → forms.pair_line form (joined (a ∷ b ∷ mode_words form mode)) ≡ Some (record { first = a; second = b; mode = read_mode form mode })
pair-read Plain a b mode one other may =
    ap (of_both (pair_from Plain)) (cut-first a b [] (name-lacks 32 a refl one))
    ∙ (ap (λ v. pair_of a v Always) (append-nil b) ∙ ap (λ t. cond t (Some (record { first = a; second = b; mode = Always })) None) (and_from (is_name a) (is_name b) one other))
pair-read Keyed a b mode one other may =
    let word = mode_word mode in
    ap (of_both (pair_from Keyed)) (cut-first a b (word ∷ []) (name-lacks 32 a refl one))
    ∙ (ap (of_both (λ v w. option_and_then (pair_of a v) (mode_of_word w))) (cut-first b word [] (name-lacks 32 b refl other))
    ∙ (ap (λ w. option_and_then (pair_of a b) (mode_of_word w)) (append-nil word)
    ∙ (ap (option_and_then (pair_of a b)) (mode-read mode may)
    ∙ ap (λ t. cond t (Some (record { first = a; second = b; mode = mode })) None) (and_from (is_name a) (is_name b) one other))))

-- Events.

place-lacks : (b i : ℕ) (step : List ℕ) → lacks b (decimal i) ≡ true → (not (nat_eq 46 b)) ≡ true → lacks b step ≡ true → lacks b (decimal i ++ 46 ∷ step) ≡ true
place-lacks b i step number dot free = lacks-append b (decimal i) (46 ∷ step) number (and_from (not (nat_eq 46 b)) (lacks b step) dot free)

-- what is wanted of a key that is printed
abbrev pub IsKey : Form → ℕ → Type 0
IsKey Plain k = Unit
IsKey Keyed k = k ≤ 4294967295

placed-read : (undo : Bool) (i : ℕ) (step op : List ℕ) (key : ℕ) → i ≤ 4294967295 → is_name step ≡ true → is_name op ≡ true
    → placed_act undo (decimal i ++ 46 ∷ step) op key ≡ Some (record { process = i; step = step; op = op; key = key; undo = undo })
placed-read undo i step op key small one other =
    let g : ℕ → NamedAct = λ n. record { process = n; step = step; op = op; key = key; undo = undo } in
    ap (of_both (named_act undo op key)) (cut-at 46 (decimal i) step (number-lacks 46 i (omega arith) small))
    ∙ (ap (λ t. cond t (option_map g (number_of (decimal i))) None) (and_from (is_name step) (is_name op) one other)
    ∙ ap (option_map g) (number-read i small))

place-first : (i : ℕ) (step op : List ℕ) (ws : Line) → i ≤ 4294967295 → is_name step ≡ true
    → cut 32 (joined ((decimal i ++ 46 ∷ step) ∷ op ∷ ws)) ≡ Some (decimal i ++ 46 ∷ step, joined (op ∷ ws))
place-first i step op ws small good =
    cut-first (decimal i ++ 46 ∷ step) op ws (place-lacks 32 i step (number-lacks 32 i (omega arith) small) refl (name-lacks 32 step refl good))

act-read : (form : Form) (undo : Bool) (i : ℕ) (step op : List ℕ) (key : ℕ) → i ≤ 4294967295 → is_name step ≡ true → is_name op ≡ true → IsKey form key
    → act_of form undo (joined ((decimal i ++ 46 ∷ step) ∷ op ∷ key_words form key)) ≡ Some (record { process = i; step = step; op = op; key = read_key form key; undo = undo })
act-read Plain undo i step op key small one other fits =
    let place = decimal i ++ 46 ∷ step in
    ap (of_both (act_from Plain undo)) (place-first i step op [] small one)
    ∙ (ap (λ w. placed_act undo place w 0) (append-nil op) ∙ placed-read undo i step op 0 small one other)
act-read Keyed undo i step op key small one other fits =
    let place = decimal i ++ 46 ∷ step in
    ap (of_both (act_from Keyed undo)) (place-first i step op (decimal key ∷ []) small one)
    ∙ (ap (of_both (λ op key. option_and_then (placed_act undo place op) (number_of key))) (cut-first op (decimal key) [] (name-lacks 32 op refl other))
    ∙ (ap (λ w. option_and_then (placed_act undo place op) (number_of w)) (append-nil (decimal key))
    ∙ (ap (option_and_then (placed_act undo place op)) (number-read key fits)
    ∙ placed-read undo i step op key small one other)))

-- what is wanted of an entry that is printed
pub record IsPrintable (form : Form) (plans : List Plan) (ops : List Op) (e : Entry) : Type 0 where
  pub process : e.process ≤ 4294967295
  pub step : is_name (step_name plans e.process e.step) ≡ true
  pub op : is_name (op_name ops e.op) ≡ true
  pub key : IsKey form e.key

pub entry-read : (form : Form) (plans : List Plan) (ops : List Op) (e : Entry) → IsPrintable form plans ops e
    → forms.event_line form (joined (entry_line form plans ops e)) ≡ Some (Some (named form plans ops e))
entry-read form plans ops e good = by e.undo
  where
    step : List ℕ
    step = step_name plans e.process e.step

    op : List ℕ
    op = op_name ops e.op

    by : (undo : Bool) → forms.event_line form (joined (cond undo (codes "undo") (codes "do") ∷ (decimal e.process ++ 46 ∷ step) ∷ op ∷ key_words form e.key))
        ≡ Some (Some (record { process = e.process; step = step; op = op; key = read_key form e.key; undo = undo }))
    by true = ap (option_map Some) (act-read form true e.process step op e.key good.process good.step good.op good.key)
    by false = ap (option_map Some) (act-read form false e.process step op e.key good.process good.step good.op good.key)

pub serial-read : (form : Form) (plans : List Plan) (ops : List Op) (e : Entry) → IsPrintable form plans ops e → e.undo ≡ false
    → forms.serial_line form (joined (entry_line form plans ops e)) ≡ Some (named form plans ops e)
serial-read form plans ops e good forward =
    let step = step_name plans e.process e.step in
    let op = op_name ops e.op in
    ap (λ u. forms.serial_line form (joined (cond u (codes "undo") (codes "do") ∷ (decimal e.process ++ 46 ∷ step) ∷ op ∷ key_words form e.key))) forward
    ∙ (act-read form false e.process step op e.key good.process good.step good.op good.key
    ∙ ap (λ u. Some (record { process = e.process; step = step; op = op; key = read_key form e.key; undo = u })) (sym forward))

pub start-read : (form : Form) (i : ℕ) (name : List ℕ) → i ≤ 4294967295 → is_name name ≡ true → forms.event_line form (joined (codes "start" ∷ decimal i ∷ name ∷ [])) ≡ Some None
start-read form i name small good =
    ap without_act (ap (both_pass (λ i name. is_number i && is_name name)) (cut-first (decimal i) name [] (number-lacks 32 i (omega arith) small))
    ∙ (ap (λ v. is_number (decimal i) && is_name v) (append-nil name) ∙ and_from (is_number (decimal i)) (is_name name) (number-is i small) good))

pub end-read : (form : Form) (i : ℕ) → i ≤ 4294967295 → forms.event_line form (joined (codes "end" ∷ decimal i ∷ [])) ≡ Some None
end-read form i small = ap without_act (ap is_number (append-nil (decimal i)) ∙ number-is i small)

-- Ends.

pub ends-read : (i : ℕ) (name v : List ℕ) (vs : Line) → i ≤ 4294967295 → is_name name ≡ true → is_end (joined (v ∷ vs)) ≡ true
    → is_end_line (joined (decimal i ∷ name ∷ v ∷ vs)) ≡ true
ends-read i name v vs small good end =
    ap (both_pass (λ i rest. is_number i && is_named_end rest)) (cut-first (decimal i) name (v ∷ vs) (number-lacks 32 i (omega arith) small))
    ∙ and_from (is_number (decimal i)) (is_named_end (joined (name ∷ v ∷ vs))) (number-is i small)
    (ap (both_pass (λ name end. is_name name && is_end end)) (cut-first name v vs (name-lacks 32 name refl good)) ∙ and_from (is_name name) (is_end (joined (v ∷ vs))) good end)

pub path-read : (s : List ℕ) (ss : Line) → list_all is_name (s ∷ ss) ≡ true → is_end (joined (codes "path" ∷ s ∷ ss)) ≡ true
path-read s ss names = ap (list_all is_name) (parts-joined s ss (names-lack 32 (s ∷ ss) refl names)) ∙ names

-- Causes.

pub causes-read : (i : ℕ) (v : List ℕ) (vs : Line) → i ≤ 4294967295 → is_cause (joined (v ∷ vs)) ≡ true → is_cause_line (joined (decimal i ∷ v ∷ vs)) ≡ true
causes-read i v vs small cause =
    ap (both_pass (λ i cause. is_number i && is_cause cause)) (cut-first (decimal i) v vs (number-lacks 32 i (omega arith) small))
    ∙ and_from (is_number (decimal i)) (is_cause (joined (v ∷ vs))) (number-is i small) cause

pub refused-read : (step : List ℕ) → is_name step ≡ true → is_cause (joined (codes "refused" ∷ step ∷ [])) ≡ true
refused-read step good = ap (λ v. is_name v || false) (append-nil step) ∙ ap (λ t. t || false) good

pub cascade-read : (k : ℕ) → k ≤ 4294967295 → is_cause (joined (codes "cascade" ∷ decimal k ∷ [])) ≡ true
cascade-read k small = ap is_number (append-nil (decimal k)) ∙ number-is k small

-- Steps.

pub move-read : (from to : ℕ) → from ≤ 4294967295 → to ≤ 4294967295 → forms.step_line (joined (codes "move" ∷ decimal from ∷ decimal to ∷ [])) ≡ Some (Move from to)
move-read from to one other =
    ap (of_both (λ from to. moved (number_of from) (number_of to))) (cut-first (decimal from) (decimal to) [] (number-lacks 32 from (omega arith) one))
    ∙ (ap (λ v. moved (number_of (decimal from)) (number_of v)) (append-nil (decimal to))
    ∙ (ap (λ o. moved o (number_of (decimal to))) (number-read from one) ∙ ap (moved (Some from)) (number-read to other)))

pub cancel-read : (at : ℕ) → at ≤ 4294967295 → forms.step_line (joined (codes "cancel" ∷ decimal at ∷ [])) ≡ Some (Cancel at)
cancel-read at small = ap (λ v. option_map Cancel (number_of v)) (append-nil (decimal at)) ∙ ap (option_map Cancel) (number-read at small)
