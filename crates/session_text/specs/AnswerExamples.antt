-- Worked answers, computed: of a purchase and of a sale that builds on it.
use Rattle.std.specs.Prelude.{◌≡◌, List, [], ◌∷◌, codes, Some, refl}
use Rattle.std.specs.Fmt.{digits}
use Rattle.process_tree.specs.declared.plan.Plan.{Plan}
use Rattle.process_text.specs.Canonical.{line_of}
use Rattle.machine_model.specs.declared.kept.Work.TheVariants.{Forward, Undo}
use Rattle.machine_model.specs.declared.blocked.Rule.TheVariants.{A2, A3}
use Rattle.machine_model.specs.declared.replies.Aborted.TheVariants.{Ok, Already}
use Rattle.machine_model.specs.declared.replies.Refusal.TheVariants.{Retry, Alternative, Exhausted}
use Rattle.machine_model.specs.declared.replies.StartWhy.TheVariants.{TooMany, NoRoom}
use Rattle.machine_model.specs.Replies.{piece, blocked, chosen, wait, all_ended, Handed, effected, refused, over}
use Rattle.process_report.specs.Examples.{purchase, sale}
use Rattle.process_report.specs.Lines.{text_of}
use Rattle.session_text.specs.Answers.{admit_words, next_words, next_lines, finish_words, abort_words, no_process_words}
use Rattle.session_text.specs.Answers.{no_refusal_words, not_started_words, refusal_words, started_words, waiting_words}

abbrev pub plans : List Plan
plans = purchase ∷ sale ∷ []

-- the undo of the first step of the sale, as piece 3
abbrev pub undo_of_sale : Handed
undo_of_sale = record { piece = record { number = 3; process = 2; step = 0; work = Undo }; tried = 0; refuse = 0 }

-- the first step of the purchase, as piece 1
abbrev pub first_of_purchase : Handed
first_of_purchase = record { piece = record { number = 1; process = 1; step = 0; work = Forward }; tried = 0; refuse = 0 }

pub a_piece : line_of (admit_words plans 1 (piece first_of_purchase)) ≡ codes "piece 1: do 1.x\n"
unfolding digits
a_piece = refl

pub a_block : line_of (admit_words plans 2 (blocked (record { on = 1; other = 0; own = 0; rule = A3 })))
    ≡ codes "blocked on 1.x by 2.u rule A3\n"
unfolding digits
a_block = refl

pub a_victim : text_of (next_lines plans (2 ∷ []) (chosen undo_of_sale)) ≡ codes "victim 2\npiece 3: undo 2.u\n"
unfolding digits
a_victim = refl

pub a_wait : line_of (next_words plans
    (wait (Some (record { process = 1; block = record { on = 2; other = 0; own = 1; rule = A2 } }))))
    ≡ codes "wait on 2.u by 1.y rule A2\n"
unfolding digits
a_wait = refl

pub all_have_ended : line_of (next_words plans all_ended) ≡ codes "all ended\n"
all_have_ended = refl

pub an_effect : line_of (finish_words plans undo_of_sale.piece (effected 5)) ≡ codes "effected 5\n"
unfolding digits
an_effect = refl

pub a_refused_piece : line_of (finish_words plans undo_of_sale.piece (refused Exhausted)) ≡ codes "exhausted 2 u\n"
unfolding digits
a_refused_piece = refl

pub a_piece_that_is_over : line_of (finish_words plans first_of_purchase.piece over) ≡ codes "no piece 1\n"
unfolding digits
a_piece_that_is_over = refl

pub aborting : line_of (abort_words 1 (1 ∷ 2 ∷ []) Ok) ≡ codes "aborting 1 2\n"
unfolding digits
aborting = refl

pub aborted_before : line_of (abort_words 1 [] Already) ≡ codes "already 1\n"
unfolding digits
aborted_before = refl

pub no_such_process : line_of (no_process_words (codes "a")) ≡ codes "no process a\n"
no_such_process = refl

pub a_start : line_of (started_words 2 (codes "b")) ≡ codes "started 2 b\n"
unfolding digits
a_start = refl

pub too_many_active : line_of (not_started_words (TooMany 256)) ≡ codes "too many 256\n"
unfolding digits
too_many_active = refl

pub no_room : line_of (not_started_words (NoRoom 16387)) ≡ codes "no room 16387\n"
unfolding digits
no_room = refl

pub another_try : line_of (refusal_words plans 2 1 (Retry 1)) ≡ codes "retry 1\n"
unfolding digits
another_try = refl

pub another_way : line_of (refusal_words plans 1 0 Alternative) ≡ codes "failed\n"
another_way = refl

pub an_end_that_is_refused : line_of (no_refusal_words 4) ≡ codes "end is not refused 4\n"
unfolding digits
an_end_that_is_refused = refl

pub nobody_waits : line_of waiting_words ≡ codes "wait\n"
nobody_waits = refl
