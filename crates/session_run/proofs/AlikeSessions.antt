-- Sessions that are alike but for where their plans lie in memory print the same of a line, and stay alike.
use Rattle.std.proofs.Common.{◌≡◌, ◌∙◌, ℕ, Bool, true, false, List, [], ◌∷◌, ◌++◌, ◌+◌, length, map, filter, if◌then◌else◌, Option, Some, None, refl, ap, sym, subst}
use Rattle.std.specs.List.{filter_map}
use Rattle.std.specs.Option.{option_map}
use Rattle.process_tree.specs.Blocks.{numbers_from}
use Rattle.process_tree.specs.Form.{AreEqualPlans}
use Rattle.process_tree.specs.declared.plan.Plan.{Plan}
use Rattle.process_tree.specs.declared.play.Outcome.{Outcome}
use Rattle.process_tree.specs.declared.play.Outcome.TheVariants.{Done, Refused}
use Rattle.process_text.specs.Canonical.{line_of}
use Rattle.process_tree.specs.declared.entry.Entry.{Entry}
use Rattle.schedule_model.specs.Course.{Course, course_of, courses_of, op_of, key_of}
use Rattle.schedule_model.specs.Histories.{acts, is_in, starts}
use Rattle.commute_table.specs.declared.catalog.Catalog.{Catalog}
use Rattle.machine_model.specs.declared.replies.StartWhy.{StartWhy}
use Rattle.machine_model.specs.Calls.{Answer, Call, admit, next, finish, abort, start, answer}
use Rattle.machine_model.specs.declared.began.Began.{Began}
use Rattle.machine_model.specs.declared.kept.Work.TheVariants.{End, Undo}
use Rattle.machine_model.specs.Moment.{Piece, beginning_of}
use Rattle.machine_model.specs.Progress.{same_work}
use Rattle.machine_model.specs.Pieces.{hands, piece_of}
use Rattle.machine_model.specs.Replies.{admit_reply, all_victims, next_reply, finish_reply, abort_reply}
use Rattle.machine_model.specs.Advance.{Machine, advance_all}
use Rattle.machine_model.specs.Runs.{history, now, start_refusal}
use Rattle.process_core.specs.Answers.{after_call, answer_in}
use Rattle.process_core.specs.Cores.{CoreState, began_in, courses_in, history_of, moment_of, relation}
use Rattle.process_journal.specs.Laws.{AreEqualInTurn}
use Rattle.process_journal.proofs.PlansAlike.{same_course, same_courses}
use Rattle.history_files.specs.Effects.{effect_of, effects, effects_from, subsystem_of}
use Rattle.history_files.specs.Laws.{next_effect}
use Rattle.history_files.specs.Sound.{is_barred as barred_by, kind_of}
use Rattle.engine_steps.specs.Targets.{targets_of}
use Rattle.engine_steps.specs.Engines.{full_history}
use Rattle.process_engine.specs.Finishing.{outcome_of}
use Rattle.engine_steps.specs.Pieces.{act_of, bars_act}
use Rattle.process_engine.specs.declared.gates.Answer.{Answer as GateAnswer}
use Rattle.engine_calls.specs.GateAnswers.{is_barred_in}
use Rattle.process_report.specs.Lines.{Line as Words, text_of}
use Rattle.process_report.specs.Report.{report_text}
use Rattle.session_text.specs.Answers.{abort_words, admit_words, finish_words, next_lines, no_piece_words, no_process_words, no_refusal_words, not_started_words, started_words}
use Rattle.session_text.specs.declared.line.Line.{Line}
use Rattle.session_text.specs.declared.line.Line.TheVariants as lines
use Rattle.session_play.specs.Answering.{IsCopy}
use Rattle.session_run.specs.Alike.{AreAlike, AreAlikeSessions, with_plans}
use Rattle.scenario_run.specs.Reports.{cause_of, causes_in}
use Rattle.process_engine.specs.Queueing.{taken_by}
use Rattle.machine_model.specs.Groups as groups
use Rattle.machine_model.specs.Groups.{Queue as QueueReply, flush_reply, queue_reply}
use Rattle.machine_model.specs.Pieces.{runs}
use Rattle.session_text.specs.Answers.{flush_lines, group_open_words}
use Rattle.process_engine.specs.Pieces.{after_effects}
use Rattle.session_play.specs.Playing.{SessionState, Played, answer_of, called, core_after, finish_as, finish_piece, is_at, is_open, is_refused_end, just_began, play, play_abort, play_admit, play_flush, play_next, play_show, play_start, queue_piece, queue_with, reply_to_next, reply_to_queue, start_unless, stays, victim_of}
use Rattle.session_run.proofs.EqualPlans.{admit_same, effect_same, effects_same, equal_count, equal_push, finish_same, queue_same, next_lines_same, report_same}

-- the machine of a core with these courses in place of its own
abbrev machine_with : CoreState → List Course → Machine
machine_with c courses = record { opening = c.opening; courses = courses; kept = c.kept; served = c.served }

-- a core after this answer, with these plans
abbrev core_by : CoreState → List Plan → Answer → CoreState
core_by c plans a = record { conflicts = c.conflicts; plans = plans; opening = c.opening; kept = c.kept ++ a.kept; served = a.served }

-- Two lines came to the same: the same is printed, and the sessions behind them are alike.
pub record ComeToSame (x y : Played) : Type 0 where
  pub printed : x.printed ≡ y.printed
  pub states : AreAlikeSessions x.state y.state

-- the same processes began at the last kept event
just_same : (c : CoreState) (qs : List Plan) → AreEqualInTurn c.plans qs → just_began c ≡ just_began (with_plans c qs)
just_same c qs equal =
    ap (λ cs. filter (λ i. is_at (length c.kept) (option_map (λ b. b.began) (beginning_of (now (relation c) (machine_with c cs)) i))) (numbers_from 1 (length c.plans))) (same_courses c.plans qs equal)
    ∙ ap (λ n. filter (λ i. is_at (length c.kept) (began_in (with_plans c qs) i)) (numbers_from 1 n)) (equal_count c.plans qs equal)

-- alike machines are alike once these pieces took effect
call_alike : (c : CoreState) (qs : List Plan) → AreEqualInTurn c.plans qs → (call : Call) → after_call (with_plans c qs) call ≡ with_plans (after_call c call) qs
call_alike c qs equal call = ap (core_by c qs) (sym (ap (λ cs. answer (relation c) (machine_with c cs) call) (same_courses c.plans qs equal)))

pub alike_effects : (c : CoreState) (qs : List Plan) → AreEqualInTurn c.plans qs → (ns : List ℕ) → AreAlike (after_effects c ns) (after_effects (with_plans c qs) ns)
alike_effects c qs equal [] = record { same = refl; equal = equal }
alike_effects c qs equal (n ∷ ns) =
    subst (λ x. AreAlike (after_effects (after_call c (finish n Done)) ns) (after_effects x ns)) (sym (call_alike c qs equal (finish n Done))) (alike_effects (after_call c (finish n Done)) qs equal ns)

module _ (c : CoreState) (qs : List Plan) (equal : AreEqualInTurn c.plans qs) where
  abbrev d : CoreState
  d = with_plans c qs

  pc : courses_of c.plans ≡ courses_of qs
  pc = same_courses c.plans qs equal

  alike : AreAlike c d
  alike = record { same = refl; equal = equal }

  answer_same : (call : Call) → answer_in c call ≡ answer_in d call
  answer_same call = ap (λ cs. answer (relation c) (machine_with c cs) call) pc

  alike_call : (call : Call) → AreAlike (after_call c call) (after_call d call)
  alike_call call = record { same = ap (core_by c qs) (sym (answer_same call)); equal = equal }

  history_same : history_of c ≡ history_of d
  history_same = ap (λ cs. history (relation c) (machine_with c cs)) pc

  causes_same : causes_in c ≡ causes_in d
  causes_same =
      ap (λ cs. filter_map (λ i. option_map (λ (b : Began). (i, b.cause)) (option_map (λ b. b.began) (beginning_of (now (relation c) (machine_with c cs)) i))) (numbers_from 1 (length c.plans))) pc
      ∙ ap (λ n. filter_map (cause_of d) (numbers_from 1 n)) (equal_count c.plans qs equal)

  barred_same : (cat : Catalog) (p : Piece) → is_barred_in cat c p ≡ is_barred_in cat d p
  barred_same cat p = ap (λ b. if same_work p.work End then false else b) acts_same
    where
      -- the same act, by the operation of its step
      act_by : List Course → Entry
      act_by cs = record { process = p.process; step = p.step; op = op_of cs p.process p.step; key = key_of cs p.process p.step; undo = same_work p.work Undo }

      entry : act_of c.plans p ≡ act_of qs p
      entry = ap act_by pc

      events : (q : ℕ) (e : Entry) → barred_by (kind_of q) (effects cat.ops (full_history c) q) (next_effect cat.ops (full_history c) e) ≡ barred_by (kind_of q) (effects cat.ops (full_history d) q) (next_effect cat.ops (full_history d) e)
      events q e =
          ap (λ es. barred_by (kind_of q) (effects_from cat.ops c.plans q 0 (acts es)) (effect_of cat.ops c.plans (length (acts es)) e)) history_same
          ∙ ap (λ es. barred_by (kind_of q) es (effect_of cat.ops c.plans (length (acts (history_of d))) e)) (effects_same c.plans qs equal cat.ops q 0 (acts (history_of d)))
          ∙ ap (λ x. barred_by (kind_of q) (effects cat.ops (full_history d) q) x) (effect_same c.plans qs equal cat.ops (length (acts (history_of d))) e)

      acts_same : bars_act cat.ops (full_history c) (act_of c.plans p) ≡ bars_act cat.ops (full_history d) (act_of qs p)
      acts_same = ap (bars_act cat.ops (full_history c)) entry ∙ events (subsystem_of cat.ops (act_of qs p).op) (act_of qs p)

  module _ (us gs : List ℕ) where
    abbrev s : SessionState
    s = record { core = c; unfinished = us; group = gs }

    abbrev t : SessionState
    t = record { core = d; unfinished = us; group = gs }

    stay_same : (words : Words) → ComeToSame (stays s words) (stays t words)
    stay_same words = record { printed = refl; states = record { cores = alike; unfinished = refl; group = refl } }

    call_same : (call : Call) → AreAlikeSessions (called s call) (called t call)
    call_same call = record { cores = alike_call call; unfinished = ap (λ (a : Answer). us ++ map (λ (p : Piece). p.number) (hands a.kept)) (answer_same call); group = refl }

    admit_too : (i : ℕ) → ComeToSame (play_admit s i) (play_admit t i)
    admit_too i = record {
      printed = ap line_of (admit_same c.plans qs equal i (admit_reply (relation c) (courses_in c) (moment_of c) i)
          ∙ ap (λ cs. admit_words qs i (admit_reply (relation c) cs (now (relation c) (machine_with c cs)) i)) pc);
      states = call_same (admit i);
    }

    reply_same : reply_to_next c ≡ reply_to_next d
    reply_same = ap (λ cs. let m = now (relation c) (machine_with c cs) in next_reply (relation c) cs (advance_all (relation c) cs m (all_victims (relation c) cs m)) c.served) pc

    next_too : ComeToSame (play_next s) (play_next t)
    next_too = record {
      printed = ap text_of (next_lines_same c.plans qs equal (filter_map victim_of (answer_in c next).kept) (reply_to_next c)
          ∙ ap (λ (a : Answer). next_lines qs (filter_map victim_of a.kept) (reply_to_next c)) (answer_same next)
          ∙ ap (next_lines qs (filter_map victim_of (answer_in d next).kept)) reply_same);
      states = call_same next;
    }

    finish_as_too : (p : Piece) (outcome : Outcome) → ComeToSame (finish_as s p outcome) (finish_as t p outcome)
    finish_as_too p outcome = record {
      printed = ap line_of (finish_same c.plans qs equal p (finish_reply (relation c) (courses_in c) (moment_of c) p.number outcome)
          ∙ ap (λ cs. finish_words qs p (finish_reply (relation c) cs (now (relation c) (machine_with c cs)) p.number outcome)) pc);
      states = record { cores = alike_call (finish p.number outcome); unfinished = refl; group = refl };
    }

    finish_by : (cat : Catalog) (p : Piece) (answer : GateAnswer) (refused : Bool)
        → ComeToSame (if refused then stays s (no_refusal_words p.number) else finish_as s p (outcome_of answer (is_barred_in cat c p)))
        (if refused then stays t (no_refusal_words p.number) else finish_as t p (outcome_of answer (is_barred_in cat d p)))
    finish_by cat p answer true = stay_same (no_refusal_words p.number)
    finish_by cat p answer false = subst (λ b. ComeToSame (finish_as s p (outcome_of answer (is_barred_in cat c p))) (finish_as t p (outcome_of answer b))) (barred_same cat p) (finish_as_too p (outcome_of answer (is_barred_in cat c p)))

    finish_open : (cat : Catalog) (p : Piece) (outcome : Outcome) (queued : Bool)
        → ComeToSame
        (if queued then stays s group_open_words else if is_refused_end p outcome then stays s (no_refusal_words p.number) else finish_as s p (outcome_of (answer_of outcome) (is_barred_in cat c p)))
        (if queued then stays t group_open_words else if is_refused_end p outcome then stays t (no_refusal_words p.number) else finish_as t p (outcome_of (answer_of outcome) (is_barred_in cat d p)))
    finish_open cat p outcome true = stay_same group_open_words
    finish_open cat p outcome false = finish_by cat p (answer_of outcome) (is_refused_end p outcome)

    finish_piece_too : (cat : Catalog) (n : ℕ) (outcome : Outcome) (o : Option Piece) → ComeToSame (finish_piece cat s n outcome o) (finish_piece cat t n outcome o)
    finish_piece_too cat n outcome None = stay_same (no_piece_words n)
    finish_piece_too cat n outcome (Some p) = finish_open cat p outcome (is_open gs)

    core_after_too : (n : ℕ) (r : QueueReply) → AreAlike (core_after c n r) (core_after d n r)
    core_after_too n (groups.refused r) = alike_call (finish n Refused)
    core_after_too n groups.queued = alike
    core_after_too n groups.full = alike
    core_after_too n groups.over = alike
    core_after_too n (groups.dropped k) = alike
    core_after_too n groups.no_piece = alike
    core_after_too n groups.no_refusal = alike

    queue_with_too : (p : Piece) (r : QueueReply) → ComeToSame (queue_with s p r) (queue_with t p r)
    queue_with_too p r = record {
      printed = ap line_of (queue_same c.plans qs equal p r);
      states = record { cores = core_after_too p.number r; unfinished = refl; group = refl };
    }

    reply_to_queue_same : (cat : Catalog) (p : Piece) (answer : GateAnswer) → reply_to_queue cat s p answer ≡ reply_to_queue cat t p answer
    reply_to_queue_same cat p answer =
        ap (λ b. queue_reply (relation c) (targets_of cat.ops) (courses_in c) (moment_of c) gs p.number (taken_by answer b)) (barred_same cat p)
        ∙ ap (λ cs. queue_reply (relation c) (targets_of cat.ops) cs (now (relation c) (machine_with c cs)) gs p.number (taken_by answer (is_barred_in cat d p))) pc

    queue_by : (cat : Catalog) (p : Piece) (answer : GateAnswer) (refused : Bool)
        → ComeToSame (if refused then stays s (no_refusal_words p.number) else queue_with s p (reply_to_queue cat s p answer))
        (if refused then stays t (no_refusal_words p.number) else queue_with t p (reply_to_queue cat t p answer))
    queue_by cat p answer true = stay_same (no_refusal_words p.number)
    queue_by cat p answer false =
        subst (λ r. ComeToSame (queue_with s p (reply_to_queue cat s p answer)) (queue_with t p r)) (reply_to_queue_same cat p answer) (queue_with_too p (reply_to_queue cat s p answer))

    queue_piece_too : (cat : Catalog) (n : ℕ) (outcome : Outcome) (o : Option Piece) → ComeToSame (queue_piece cat s n outcome o) (queue_piece cat t n outcome o)
    queue_piece_too cat n outcome None = stay_same (no_piece_words n)
    queue_piece_too cat n outcome (Some p) = queue_by cat p (answer_of outcome) (is_refused_end p outcome)

    abort_printed : (i : ℕ) → (play_abort s i).printed ≡ (play_abort t i).printed
    abort_printed i = ap line_of (ap (λ is. abort_words i is (abort_reply (courses_in c) (moment_of c) i)) began ∙ ap (λ cs. abort_words i (just_began (after_call d (abort i))) (abort_reply cs (now (relation c) (machine_with c cs)) i)) pc)
      where
        began : just_began (after_call c (abort i)) ≡ just_began (after_call d (abort i))
        began = just_same (after_call c (abort i)) qs equal ∙ ap (λ (a : Answer). just_began (core_by c qs a)) (answer_same (abort i))

    abort_too : (i : ℕ) → ComeToSame (play_abort s i) (play_abort t i)
    abort_too i = record { printed = abort_printed i; states = call_same (abort i) }

    show_too : (cat : Catalog) → ComeToSame (play_show cat s) (play_show cat t)
    show_too cat = record {
      printed = ap (λ es. report_text cat (record { plans = c.plans; events = es }) (causes_in c)) history_same
          ∙ ap (report_text cat (record { plans = c.plans; events = history_of d })) causes_same
          ∙ report_same c.plans qs equal cat (history_of d) (causes_in d);
      states = record { cores = alike; unfinished = refl; group = refl };
    }

    -- a start takes equal plans
    module _ (name : List ℕ) (p q : Plan) (one : AreEqualPlans p q) where
      started : answer_in c (start (course_of p)) ≡ answer_in d (start (course_of q))
      started = answer_same (start (course_of p)) ∙ ap (λ k. answer_in d (start k)) (same_course p q one)

      refused : start_refusal (courses_in c) (moment_of c) (course_of p) ≡ start_refusal (courses_in d) (moment_of d) (course_of q)
      refused = ap (λ cs. start_refusal cs (now (relation c) (machine_with c cs)) (course_of p)) pc ∙ ap (start_refusal (courses_in d) (moment_of d)) (same_course p q one)

      start_by : (o : Option StartWhy) → ComeToSame (start_unless s name p o) (start_unless t name q o)
      start_by None = record {
        printed = ap (λ es. line_of (started_words (length (starts es) + 1) name)) history_same;
        states = record {
          cores = record { same = ap (core_by c (qs ++ q ∷ [])) (sym started); equal = equal_push c.plans qs p q equal one };
          unfinished = refl;
          group = refl;
        };
      }
      start_by (Some why) = stay_same (not_started_words why)

      start_plan : ComeToSame (play_start s name (Some p)) (play_start t name (Some q))
      start_plan = subst (λ o. ComeToSame (play_start s name (Some p)) (start_unless t name q o)) refused (start_by (start_refusal (courses_in c) (moment_of c) (course_of p)))

    start_too : (name : List ℕ) (p q : Option Plan) → IsCopy p q → ComeToSame (play_start s name p) (play_start t name q)
    start_too name None None copy = stay_same (no_process_words name)
    start_too name None (Some q) copy = absurd copy
    start_too name (Some p) None copy = absurd copy
    start_too name (Some p) (Some q) copy = start_plan name p q copy

    flush_too : ComeToSame (play_flush s) (play_flush t)
    flush_too = record {
      printed = ap (λ cs. text_of (flush_lines (flush_reply (now (relation c) (machine_with c cs)) (length (history (relation c) (machine_with c cs))) gs))) pc;
      states = record {
        cores = subst (λ ns. AreAlike (after_effects c (filter (runs (moment_of c)) gs)) (after_effects d ns)) (ap (λ cs. filter (runs (now (relation c) (machine_with c cs))) gs) pc)
            (alike_effects c qs equal (filter (runs (moment_of c)) gs));
        unfinished = refl;
        group = refl;
      };
    }

    play_too : (cat : Catalog) (l : Line) (p q : Option Plan) → IsCopy p q → ComeToSame (play cat s l p) (play cat t l q)
    play_too cat (lines.Start name) p q copy = start_too name p q copy
    play_too cat (lines.Admit i) p q copy = admit_too i
    play_too cat lines.Next p q copy = next_too
    play_too cat (lines.Finish n outcome) p q copy = finish_piece_too cat n outcome (if is_in n us then piece_of c.kept n else None)
    play_too cat (lines.Queue n outcome) p q copy = queue_piece_too cat n outcome (if is_in n us then piece_of c.kept n else None)
    play_too cat lines.Flush p q copy = flush_too
    play_too cat (lines.Abort i) p q copy = abort_too i
    play_too cat lines.Show p q copy = show_too cat
    play_too cat lines.Stop p q copy = record { printed = refl; states = record { cores = alike; unfinished = refl; group = refl } }

-- Alike sessions come to the same by a line, where the plans that it takes are equal.
pub play_same : (cat : Catalog) (s t : SessionState) (l : Line) (p q : Option Plan) → AreAlikeSessions s t → IsCopy p q → ComeToSame (play cat s l p) (play cat t l q)
play_same cat s t l p q alike copy =
    let is : t ≡ record { core = with_plans s.core t.core.plans; unfinished = s.unfinished; group = s.group } =
    ap (λ core. record { core = core; unfinished = t.unfinished; group = t.group }) alike.cores.same
    ∙ (ap (λ us. record { core = with_plans s.core t.core.plans; unfinished = us; group = t.group }) (sym alike.unfinished)
    ∙ ap (λ gs. record { core = with_plans s.core t.core.plans; unfinished = s.unfinished; group = gs }) (sym alike.group)) in
    subst (λ x. ComeToSame (play cat s l p) (play cat x l q)) (sym is) (play_too s.core t.core.plans alike.cores.equal s.unfinished s.group cat l p q copy)
