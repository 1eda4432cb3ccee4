use Rattle.std.proofs.Common.{rules, ◌≡◌, ◌∙◌, ◌++◌, ◌<◌, [], length, map, false, Some, ap, inr, subst, sym, IfErr}
use Rattle.std.specs.List.{remove}
use Rattle.std.specs.Option.{option_to_list}
use Rattle.process_tree.proofs.Every.{Each-append}
use Rattle.process_core.specs.Cores.{IsHandedBy}
use Rattle.machine_model.specs.Replies.{Handed}
use Rattle.engine_calls.proofs.Goes.{goes_none}
use Rattle.session_play.specs.declared.cut.Cut.TheVariants.{NoMemory}
use Rattle.session_play.specs.Answering.{IsAnswered, IsCut, queue_alone}
use Rattle.session_play.specs.Pieces.{AreHandedBy, number_of, place_in, session_of}
use Rattle.session_play.specs.Playing.{SessionState, answer_of, is_refused_end, play_queue}
use Rattle.session_play.proofs.Outcomes.{err_map}
use Rattle.session_play.proofs.FinishAt.{end_done, index_same, left, none_queued, own, queue_answered, queue_cut_off, queue_refused, within}
use Rattle.session_play.proofs.AskedPieces.{all_stay}
use Rattle.session_play.proofs.queueing.play_queue.Goals as goal

pub returns-in_err-no_piece-clause-goes : goal.returns-in_err-no_piece-clause-goes
returns-in_err-no_piece-clause-goes g c may_start = goes_none g.R.Rack may_start c.args.engine.now c.invariant_holds.ensures.run (c.invariant_holds.ensures.each c.requires.ready.settled)

pub returns-in_default-clause-goes : goal.returns-in_default-clause-goes
returns-in_default-clause-goes g c may_start = goes_none g.R.Rack may_start c.args.engine.now c.invariant_holds.ensures.run (c.invariant_holds.ensures.each c.requires.ready.settled)

pub returns-in_err-no_refusal-clause-goes : goal.returns-in_err-no_refusal-clause-goes
returns-in_err-no_refusal-clause-goes g c may_start = goes_none g.R.Rack may_start c.args.engine.now c.invariant_holds.ensures.run (c.invariant_holds.ensures.each c.requires.ready.settled)

pub returns-then-is_refused_end-clause-goes : goal.returns-then-is_refused_end-clause-goes
returns-then-is_refused_end-clause-goes g c may_start = goes_none g.R.Rack may_start c.args.engine.now c.invariant_holds.ensures.run (c.invariant_holds.ensures.each c.requires.ready.settled)

pub returns-in_default-clause-answered : goal.returns-in_default-clause-answered
returns-in_default-clause-answered g c =
    none_queued c.args.engine.now.catalog c.args.engine.now.core c.args.pieces.now.items c.args.queued.now c.args.n c.args.outcome c.in_ok-no_piece.field-0.items
    (ap (λ hs. place_in c.args.n (map number_of hs)) (sym c.deref.ensures.value) ∙ (sym c.place_of.ensures ∙ c.in_default.is)) c.in_ok-no_piece.ensures

pub index-requires : goal.index-requires
index-requires g c =
    let hs = c.args.pieces.now.items in
    let place : place_in c.args.n (map number_of hs) ≡ Some c.in-Some.place = ap (λ hs. place_in c.args.n (map number_of hs)) (sym c.deref.ensures.value) ∙ (sym c.place_of.ensures ∙ c.in-Some.is) in
    subst (λ n. c.in-Some.place < n) (ap length (sym c.deref.ensures.value) ∙ c.deref.ensures.len) (within c.args.engine.now.catalog c.args.engine.now.core hs c.args.n c.in-Some.place c.args.outcome place)

pub remove-piece-requires : goal.remove-piece-requires
remove-piece-requires g c =
    let hs = c.args.pieces.now.items in
    let place : place_in c.args.n (map number_of hs) ≡ Some c.in-Some.place = ap (λ hs. place_in c.args.n (map number_of hs)) (sym c.deref.ensures.value) ∙ (sym c.place_of.ensures ∙ c.in-Some.is) in
    subst (λ n. c.in-Some.place < n) (ap length (sym c.deref.ensures.value) ∙ c.deref.ensures.len) (within c.args.engine.now.catalog c.args.engine.now.core hs c.args.n c.in-Some.place c.args.outcome place)

pub returns-then-is_refused_end-clause-answered : goal.returns-then-is_refused_end-clause-answered
returns-then-is_refused_end-clause-answered g c =
    let cat = c.args.engine.now.catalog in
    let core = c.args.engine.now.core in
    let hs = c.args.pieces.now.items in
    let place : place_in c.args.n (map number_of hs) ≡ Some c.in-Some.place = ap (λ hs. place_in c.args.n (map number_of hs)) (sym c.deref.ensures.value) ∙ (sym c.place_of.ensures ∙ c.in-Some.is) in
    queue_refused cat core hs c.args.n c.in-Some.place c.args.outcome place c.requires.handed c.index.result.now c.index.ensures c.args.queued.now
    (sym c.is_refused_end.ensures ∙ c.if-is_refused_end.true) c.in_ok-no_refusal.field-0.items c.in_ok-no_refusal.ensures

pub queue_piece-requires-clause-handed : goal.queue_piece-requires-clause-handed
queue_piece-requires-clause-handed g c =
    let hs = c.args.pieces.now.items in
    let place : place_in c.args.n (map number_of hs) ≡ Some c.in-Some.place = ap (λ hs. place_in c.args.n (map number_of hs)) (sym c.deref.ensures.value) ∙ (sym c.place_of.ensures ∙ c.in-Some.is) in
    own c.args.engine.now.catalog c.args.engine.now.core hs c.args.n c.in-Some.place c.args.outcome place c.requires.handed c.remove-piece.result c.remove-piece.ensures.value

pub returns-clause-answered : goal.returns-clause-answered
returns-clause-answered g c =
    let cat = c.args.engine.now.catalog in
    let core = c.args.engine.now.core in
    let hs = c.args.pieces.now.items in
    let qs = c.args.queued.now in
    let place : place_in c.args.n (map number_of hs) ≡ Some c.in-Some.place = ap (λ hs. place_in c.args.n (map number_of hs)) (sym c.deref.ensures.value) ∙ (sym c.place_of.ensures ∙ c.in-Some.is) in
    let p = c.remove-piece.result in
    let at = c.remove-piece.ensures.value in
    let one : c.index.result.now ≡ p = c.index.ensures ∙ (index_same hs c.in-Some.place c.index.result.now p (within cat core hs c.args.n c.in-Some.place c.args.outcome place) ∙ sym at) in
    let other : is_refused_end p.piece c.args.outcome ≡ false = ap (λ (h : Handed). is_refused_end h.piece c.args.outcome) (sym one) ∙ (sym c.is_refused_end.ensures ∙ c.if-is_refused_end.false) in
    let new = c.queue_piece.new.engine.core in
    let rest = c.queue_piece.new.queued in
    let full = option_to_list c.in_ok-text.full in
    let text = c.in_ok-text.text.items in
    let told = subst (λ a. IsAnswered (queue_alone cat core qs p.piece a) new full rest text) c.answer_of.ensures c.in_ok-text.ensures.answered in
    subst (λ ps. IsAnswered (play_queue cat (session_of core hs qs) c.args.n c.args.outcome) new ps rest text)
    (sym (c.in_ok-keep_full.ensures.kept ∙ ap (λ ps. ps ++ full) c.remove-piece.ensures.items))
    (queue_answered cat core hs c.args.n c.in-Some.place c.args.outcome place c.requires.handed p at qs other new full rest text told)

pub returns-clause-handed : goal.returns-clause-handed
returns-clause-handed g c =
    let cat = c.args.engine.now.catalog in
    let core = c.args.engine.now.core in
    let hs = c.args.pieces.now.items in
    let place : place_in c.args.n (map number_of hs) ≡ Some c.in-Some.place = ap (λ hs. place_in c.args.n (map number_of hs)) (sym c.deref.ensures.value) ∙ (sym c.place_of.ensures ∙ c.in-Some.is) in
    let new = c.queue_piece.new.engine.core in
    let goes = c.queue_piece.ensures.goes [] in
    let full = option_to_list c.in_ok-text.full in
    subst (AreHandedBy new) (sym (c.in_ok-keep_full.ensures.kept ∙ ap (λ ps. ps ++ full) c.remove-piece.ensures.items))
    (Each-append (λ (h : Handed). IsHandedBy new h.piece) (remove hs c.in-Some.place) full
    (all_stay core new goes.added (remove hs c.in-Some.place) goes.kept (left cat core hs c.args.n c.in-Some.place c.args.outcome place c.requires.handed c.remove-piece.result c.remove-piece.ensures.value))
    c.in_ok-text.ensures.handed)

pub returns-in_err-text-clause-cut : goal.returns-in_err-text-clause-cut
returns-in_err-text-clause-cut g c =
    let cat = c.args.engine.now.catalog in
    let core = c.args.engine.now.core in
    let hs = c.args.pieces.now.items in
    let qs = c.args.queued.now in
    let place : place_in c.args.n (map number_of hs) ≡ Some c.in-Some.place = ap (λ hs. place_in c.args.n (map number_of hs)) (sym c.deref.ensures.value) ∙ (sym c.place_of.ensures ∙ c.in-Some.is) in
    let p = c.remove-piece.result in
    let at = c.remove-piece.ensures.value in
    let one : c.index.result.now ≡ p = c.index.ensures ∙ (index_same hs c.in-Some.place c.index.result.now p (within cat core hs c.args.n c.in-Some.place c.args.outcome place) ∙ sym at) in
    let other : is_refused_end p.piece c.args.outcome ≡ false = ap (λ (h : Handed). is_refused_end h.piece c.args.outcome) (sym one) ∙ (sym c.is_refused_end.ensures ∙ c.if-is_refused_end.false) in
    let new = c.queue_piece.new.engine.core in
    let told : IfErr c.from_residual-in_err-text.result (λ cut. (cut ≡ NoMemory) × IsCut cut (queue_alone cat core qs p.piece c.answer_of.result) core new) = search rules in
    err_map c.from_residual-in_err-text.result (λ cut. (cut ≡ NoMemory) × IsCut cut (queue_alone cat core qs p.piece c.answer_of.result) core new)
    (λ cut. (cut ≡ NoMemory) × IsCut cut (play_queue cat (session_of core hs qs) c.args.n c.args.outcome) core new) told
    (λ cut is. (
      is.0,
      queue_cut_off cat core hs c.args.n c.in-Some.place c.args.outcome place c.requires.handed p at qs other new cut
          (subst (λ a. IsCut cut (queue_alone cat core qs p.piece a) core new) c.answer_of.ensures is.1),
    ))

pub returns-in_err-keep_full-clause-cut : goal.returns-in_err-keep_full-clause-cut
returns-in_err-keep_full-clause-cut g c =
    let cat = c.args.engine.now.catalog in
    let core = c.args.engine.now.core in
    let hs = c.args.pieces.now.items in
    let qs = c.args.queued.now in
    let place : place_in c.args.n (map number_of hs) ≡ Some c.in-Some.place = ap (λ hs. place_in c.args.n (map number_of hs)) (sym c.deref.ensures.value) ∙ (sym c.place_of.ensures ∙ c.in-Some.is) in
    let p = c.remove-piece.result in
    let at = c.remove-piece.ensures.value in
    let one : c.index.result.now ≡ p = c.index.ensures ∙ (index_same hs c.in-Some.place c.index.result.now p (within cat core hs c.args.n c.in-Some.place c.args.outcome place) ∙ sym at) in
    let other : is_refused_end p.piece c.args.outcome ≡ false = ap (λ (h : Handed). is_refused_end h.piece c.args.outcome) (sym one) ∙ (sym c.is_refused_end.ensures ∙ c.if-is_refused_end.false) in
    let new = c.queue_piece.new.engine.core in
    let memory : IfErr c.from_residual-in_err-keep_full.result (λ cut. cut ≡ NoMemory) = search rules in
    let led : IsCut NoMemory (queue_alone cat core qs p.piece (answer_of c.args.outcome)) core new =
    subst (λ a. IsCut NoMemory (queue_alone cat core qs p.piece a) core new) c.answer_of.ensures (inr (ap (λ (s : SessionState). s.core) c.in_ok-text.ensures.answered.state)) in
    err_map c.from_residual-in_err-keep_full.result (λ cut. cut ≡ NoMemory)
    (λ cut. (cut ≡ NoMemory) × IsCut cut (play_queue cat (session_of core hs qs) c.args.n c.args.outcome) core new) memory
    (λ cut is. (
      is,
      subst (λ x. IsCut x (play_queue cat (session_of core hs qs) c.args.n c.args.outcome) core new) (sym is)
          (queue_cut_off cat core hs c.args.n c.in-Some.place c.args.outcome place c.requires.handed p at qs other new NoMemory led),
    ))

pub queue_piece-requires-clause-end : goal.queue_piece-requires-clause-end
queue_piece-requires-clause-end g c end =
    let cat = c.args.engine.now.catalog in
    let core = c.args.engine.now.core in
    let hs = c.args.pieces.now.items in
    let place : place_in c.args.n (map number_of hs) ≡ Some c.in-Some.place = ap (λ hs. place_in c.args.n (map number_of hs)) (sym c.deref.ensures.value) ∙ (sym c.place_of.ensures ∙ c.in-Some.is) in
    let p = c.remove-piece.result in
    let at = c.remove-piece.ensures.value in
    let one : c.index.result.now ≡ p = c.index.ensures ∙ (index_same hs c.in-Some.place c.index.result.now p (within cat core hs c.args.n c.in-Some.place c.args.outcome place) ∙ sym at) in
    let other : is_refused_end p.piece c.args.outcome ≡ false = ap (λ (h : Handed). is_refused_end h.piece c.args.outcome) (sym one) ∙ (sym c.is_refused_end.ensures ∙ c.if-is_refused_end.false) in
    c.answer_of.ensures ∙ end_done p.piece c.args.outcome other end
