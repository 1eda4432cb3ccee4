use Rattle.std.proofs.Common.{arith, IfErr, IfOk, slice_index_or, ◌≡◌, ◌∙◌, ◌<◌, [], length, map, false, Some, ap, subst, sym}
use Rattle.std.specs.List.{remove}
use Rattle.machine_model.specs.Replies.{Handed}
use Rattle.engine_calls.proofs.Goes.{goes_none}
use Rattle.session_play.specs.Answering.{finish_alone, IsAnswered, IsCut}
use Rattle.session_play.specs.Pieces.{AreHandedBy, number_of, place_in, session_of}
use Rattle.session_play.specs.Playing.{is_refused_end, play_finish}
use Rattle.session_play.proofs.Outcomes.{err_map, ok_both, on_ok}
use Rattle.session_play.proofs.FinishAt.{closed_group, cut_off, end_done, finished, index_same, left, none_found, open_answered, own, refused, some_piece, within}
use Rattle.session_play.proofs.AskedPieces.{all_stay}
use Rattle.session_play.proofs.finishing.play_finish.Goals as goal

pub returns-in_err-no_piece-clause-goes : goal.returns-in_err-no_piece-clause-goes
returns-in_err-no_piece-clause-goes g c may_start = goes_none g.R.Rack may_start c.args.engine.now c.invariant_holds.ensures.run (c.invariant_holds.ensures.each c.requires.ready.settled)

pub returns-in_default-clause-goes : goal.returns-in_default-clause-goes
returns-in_default-clause-goes g c may_start = goes_none g.R.Rack may_start c.args.engine.now c.invariant_holds.ensures.run (c.invariant_holds.ensures.each c.requires.ready.settled)

pub returns-in_err-no_refusal-clause-goes : goal.returns-in_err-no_refusal-clause-goes
returns-in_err-no_refusal-clause-goes g c may_start = goes_none g.R.Rack may_start c.args.engine.now c.invariant_holds.ensures.run (c.invariant_holds.ensures.each c.requires.ready.settled)

pub returns-then-is_refused_end-clause-goes : goal.returns-then-is_refused_end-clause-goes
returns-then-is_refused_end-clause-goes g c may_start = goes_none g.R.Rack may_start c.args.engine.now c.invariant_holds.ensures.run (c.invariant_holds.ensures.each c.requires.ready.settled)

pub returns-in_err-group_open-clause-goes : goal.returns-in_err-group_open-clause-goes
returns-in_err-group_open-clause-goes g c may_start = goes_none g.R.Rack may_start c.args.engine.now c.invariant_holds.ensures.run (c.invariant_holds.ensures.each c.requires.ready.settled)

pub returns-then-count-gt0-clause-goes : goal.returns-then-count-gt0-clause-goes
returns-then-count-gt0-clause-goes g c may_start = goes_none g.R.Rack may_start c.args.engine.now c.invariant_holds.ensures.run (c.invariant_holds.ensures.each c.requires.ready.settled)

pub returns-then-count-gt0-clause-answered : goal.returns-then-count-gt0-clause-answered
returns-then-count-gt0-clause-answered g c =
    let cat = c.args.engine.now.catalog in
    let core = c.args.engine.now.core in
    let hs = c.args.pieces.now.items in
    let place : place_in c.args.n (map number_of hs) ≡ Some c.in-Some.place = ap (λ hs. place_in c.args.n (map number_of hs)) (sym c.deref.ensures.value) ∙ (sym c.place_of.ensures ∙ c.in-Some.is) in
    let p = slice_index_or hs c.in-Some.place some_piece in
    let at = index_same hs c.in-Some.place some_piece p (within cat core hs c.args.n c.in-Some.place c.args.outcome place) in
    open_answered cat core hs c.args.n c.in-Some.place c.args.outcome place c.requires.handed p at c.args.queued.now (λ none. absurd (let count = c.count.ensures in let some = c.if-count-gt0.true in omega (arith, count, some, none)))
    c.in_ok-group_open.field-0.items c.in_ok-group_open.ensures

pub returns-in_default-clause-answered : goal.returns-in_default-clause-answered
returns-in_default-clause-answered g c =
    none_found c.args.engine.now.catalog c.args.engine.now.core c.args.pieces.now.items c.args.queued.now c.args.n c.args.outcome c.in_ok-no_piece.field-0.items
    (ap (λ hs. place_in c.args.n (map number_of hs)) (sym c.deref.ensures.value) ∙ (sym c.place_of.ensures ∙ c.in_default.is)) c.in_ok-no_piece.ensures

pub index-requires : goal.index-requires
index-requires g c =
    let cat = c.args.engine.now.catalog in
    let core = c.args.engine.now.core in
    let hs = c.args.pieces.now.items in
    let place : place_in c.args.n (map number_of hs) ≡ Some c.in-Some.place = ap (λ hs. place_in c.args.n (map number_of hs)) (sym c.deref.ensures.value) ∙ (sym c.place_of.ensures ∙ c.in-Some.is) in
    subst (λ n. c.in-Some.place < n) (ap length (sym c.deref.ensures.value) ∙ c.deref.ensures.len) (within cat core hs c.args.n c.in-Some.place c.args.outcome place)

pub remove-piece-requires : goal.remove-piece-requires
remove-piece-requires g c =
    let cat = c.args.engine.now.catalog in
    let core = c.args.engine.now.core in
    let hs = c.args.pieces.now.items in
    let place : place_in c.args.n (map number_of hs) ≡ Some c.in-Some.place = ap (λ hs. place_in c.args.n (map number_of hs)) (sym c.deref.ensures.value) ∙ (sym c.place_of.ensures ∙ c.in-Some.is) in
    subst (λ n. c.in-Some.place < n) (ap length (sym c.deref.ensures.value) ∙ c.deref.ensures.len) (within cat core hs c.args.n c.in-Some.place c.args.outcome place)

pub returns-then-is_refused_end-clause-answered : goal.returns-then-is_refused_end-clause-answered
returns-then-is_refused_end-clause-answered g c =
    let cat = c.args.engine.now.catalog in
    let core = c.args.engine.now.core in
    let hs = c.args.pieces.now.items in
    let place : place_in c.args.n (map number_of hs) ≡ Some c.in-Some.place = ap (λ hs. place_in c.args.n (map number_of hs)) (sym c.deref.ensures.value) ∙ (sym c.place_of.ensures ∙ c.in-Some.is) in
    let none : c.args.queued.now ≡ [] = closed_group c.args.queued.now (let count = c.count.ensures in let few = c.if-count-gt0.false in omega (arith, count, few)) in
    subst (λ qs. IsAnswered (play_finish cat (session_of core hs qs) c.args.n c.args.outcome) core hs qs c.in_ok-no_refusal.field-0.items) (sym none)
    (refused cat core hs c.args.n c.in-Some.place c.args.outcome place c.requires.handed c.index.result.now c.index.ensures (sym c.is_refused_end.ensures ∙ c.if-is_refused_end.true) c.in_ok-no_refusal.field-0.items c.in_ok-no_refusal.ensures)

pub finish_piece-requires-clause-handed : goal.finish_piece-requires-clause-handed
finish_piece-requires-clause-handed g c =
    let cat = c.args.engine.now.catalog in
    let core = c.args.engine.now.core in
    let hs = c.args.pieces.now.items in
    let place : place_in c.args.n (map number_of hs) ≡ Some c.in-Some.place = ap (λ hs. place_in c.args.n (map number_of hs)) (sym c.deref.ensures.value) ∙ (sym c.place_of.ensures ∙ c.in-Some.is) in
    own cat core hs c.args.n c.in-Some.place c.args.outcome place c.requires.handed c.remove-piece.result c.remove-piece.ensures.value

pub finish_piece-requires-clause-end : goal.finish_piece-requires-clause-end
finish_piece-requires-clause-end g c end =
    let cat = c.args.engine.now.catalog in
    let core = c.args.engine.now.core in
    let hs = c.args.pieces.now.items in
    let place : place_in c.args.n (map number_of hs) ≡ Some c.in-Some.place = ap (λ hs. place_in c.args.n (map number_of hs)) (sym c.deref.ensures.value) ∙ (sym c.place_of.ensures ∙ c.in-Some.is) in
    let p = c.remove-piece.result in
    let at = c.remove-piece.ensures.value in
    let one : c.index.result.now ≡ p = c.index.ensures ∙ (index_same hs c.in-Some.place c.index.result.now p (within cat core hs c.args.n c.in-Some.place c.args.outcome place) ∙ sym at) in
    let other : is_refused_end p.piece c.args.outcome ≡ false = ap (λ (h : Handed). is_refused_end h.piece c.args.outcome) (sym one) ∙ (sym c.is_refused_end.ensures ∙ c.if-is_refused_end.false) in
    c.answer_of.ensures ∙ end_done p.piece c.args.outcome other end

pub returns-clause-answered : goal.returns-clause-answered
returns-clause-answered g c =
    let cat = c.args.engine.now.catalog in
    let core = c.args.engine.now.core in
    let hs = c.args.pieces.now.items in
    let place : place_in c.args.n (map number_of hs) ≡ Some c.in-Some.place = ap (λ hs. place_in c.args.n (map number_of hs)) (sym c.deref.ensures.value) ∙ (sym c.place_of.ensures ∙ c.in-Some.is) in
    let p = c.remove-piece.result in
    let at = c.remove-piece.ensures.value in
    let one : c.index.result.now ≡ p = c.index.ensures ∙ (index_same hs c.in-Some.place c.index.result.now p (within cat core hs c.args.n c.in-Some.place c.args.outcome place) ∙ sym at) in
    let other : is_refused_end p.piece c.args.outcome ≡ false = ap (λ (h : Handed). is_refused_end h.piece c.args.outcome) (sym one) ∙ (sym c.is_refused_end.ensures ∙ c.if-is_refused_end.false) in
    let new = c.finish_piece.new.engine.core in
    let made = finish_alone cat core p.piece c.answer_of.result in
    let none : c.args.queued.now ≡ [] = closed_group c.args.queued.now (let count = c.count.ensures in let few = c.if-count-gt0.false in omega (arith, count, few)) in
    subst (λ qs. IfOk c.finish_piece.result (λ text. IsAnswered (play_finish cat (session_of core hs qs) c.args.n c.args.outcome) new c.remove-piece.new.self.items qs text.items)) (sym none)
    (ok_both c.finish_piece.result (new ≡ made.state.core) (λ text. text.items ≡ made.printed)
    (λ text. IsAnswered (play_finish cat (session_of core hs []) c.args.n c.args.outcome) new c.remove-piece.new.self.items [] text.items) c.finish_piece.ensures.core c.finish_piece.ensures.text
    (λ text same told. subst (λ ps. IsAnswered (play_finish cat (session_of core hs []) c.args.n c.args.outcome) new ps [] text.items) (sym c.remove-piece.ensures.items)
    (finished cat core hs c.args.n c.in-Some.place c.args.outcome place c.requires.handed p at other new text.items
    (same ∙ ap (λ a. (finish_alone cat core p.piece a).state.core) c.answer_of.ensures) (told ∙ ap (λ a. (finish_alone cat core p.piece a).printed) c.answer_of.ensures))))

pub returns-clause-handed : goal.returns-clause-handed
returns-clause-handed g c =
    let cat = c.args.engine.now.catalog in
    let core = c.args.engine.now.core in
    let hs = c.args.pieces.now.items in
    let place : place_in c.args.n (map number_of hs) ≡ Some c.in-Some.place = ap (λ hs. place_in c.args.n (map number_of hs)) (sym c.deref.ensures.value) ∙ (sym c.place_of.ensures ∙ c.in-Some.is) in
    let new = c.finish_piece.new.engine.core in
    let goes = c.finish_piece.ensures.goes [] in
    on_ok c.finish_piece.result (AreHandedBy new c.remove-piece.new.self.items)
    (subst (AreHandedBy new) (sym c.remove-piece.ensures.items) (all_stay core new goes.added (remove hs c.in-Some.place) goes.kept
    (left cat core hs c.args.n c.in-Some.place c.args.outcome place c.requires.handed c.remove-piece.result c.remove-piece.ensures.value)))

pub returns-clause-cut : goal.returns-clause-cut
returns-clause-cut g c =
    let cat = c.args.engine.now.catalog in
    let core = c.args.engine.now.core in
    let hs = c.args.pieces.now.items in
    let place : place_in c.args.n (map number_of hs) ≡ Some c.in-Some.place = ap (λ hs. place_in c.args.n (map number_of hs)) (sym c.deref.ensures.value) ∙ (sym c.place_of.ensures ∙ c.in-Some.is) in
    let p = c.remove-piece.result in
    let at = c.remove-piece.ensures.value in
    let one : c.index.result.now ≡ p = c.index.ensures ∙ (index_same hs c.in-Some.place c.index.result.now p (within cat core hs c.args.n c.in-Some.place c.args.outcome place) ∙ sym at) in
    let other : is_refused_end p.piece c.args.outcome ≡ false = ap (λ (h : Handed). is_refused_end h.piece c.args.outcome) (sym one) ∙ (sym c.is_refused_end.ensures ∙ c.if-is_refused_end.false) in
    let new = c.finish_piece.new.engine.core in
    let none : c.args.queued.now ≡ [] = closed_group c.args.queued.now (let count = c.count.ensures in let few = c.if-count-gt0.false in omega (arith, count, few)) in
    subst (λ qs. IfErr c.finish_piece.result (λ cut. IsCut cut (play_finish cat (session_of core hs qs) c.args.n c.args.outcome) core new)) (sym none)
    (err_map c.finish_piece.result (λ cut. IsCut cut (finish_alone cat core p.piece c.answer_of.result) core new) (λ cut. IsCut cut (play_finish cat (session_of core hs []) c.args.n c.args.outcome) core new) c.finish_piece.ensures.cut
    (λ cut is_cut. cut_off cat core hs c.args.n c.in-Some.place c.args.outcome place c.requires.handed p at other new cut
    (subst (λ a. IsCut cut (finish_alone cat core p.piece a) core new) c.answer_of.ensures is_cut)))
