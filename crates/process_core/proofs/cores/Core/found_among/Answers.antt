use Rattle.std.proofs.Common.{◌≡◌, ◌∙◌, ℕ, ◌-◌, Option, None, sym, ap, arith}
use Rattle.std.specs.Option.{option_or}
use Rattle.process_tree.specs.Blocks.{numbers_from}
use Rattle.machine_model.specs.Replies.{Handed}
use Rattle.process_core.specs.declared.replies.Waiting.{Waiting}
use Rattle.process_core.specs.Handing.{admit_reply_of}
use Rattle.process_core.specs.Moments.{reply_in}
use Rattle.process_core.specs.Rotation.{first_told, piece_in, waiting_in}
use Rattle.process_core.proofs.Rotations.{no_piece, or_none, some_or, told_here, told_more, told_next}
use Rattle.process_core.proofs.Waits.{no_block}
use Rattle.process_core.proofs.cores.Core.found_among.Goals.{in-Blocked, in_default}
use Rattle.process_core.proofs.cores.Core.found_among.Goals as goal

pub loop-i-init : goal.loop-i-init
loop-i-init c =
    let v = c.args.self.now in
    let none : c.args.from - c.args.from ≡ 0 = omega arith in
    record {
      piece = ap (λ n. first_told (λ i. piece_in (reply_in v i)) (numbers_from c.args.from n)) none;
      waiting = sym (ap (λ n. first_told (λ i. waiting_in i (reply_in v i)) (numbers_from c.args.from n)) none);
      low = omega arith;
    }

pub returns-in-Piece-clause-piece : goal.returns-in-Piece-clause-piece
returns-in-Piece-clause-piece c =
    let v = c.args.self.now in
    sym (told_here (λ i. piece_in (reply_in v i)) c.args.from c.loop-i.i c.args.to c.in-Piece.piece c.loop-i.invariant.low c.loop-i-test.true c.loop-i.invariant.piece
    (ap piece_in (sym c.reply_of.ensures) ∙ ap (λ r. piece_in (admit_reply_of r)) c.in-Piece.is))

pub loop-i-preserved-then-is_passed : goal.loop-i-preserved-then-is_passed
loop-i-preserved-then-is_passed c =
    let v = c.args.self.now in
    let low = c.loop-i.invariant.low in
    let f : ℕ → Option Handed = λ i. piece_in (reply_in v i) in
    let g : ℕ → Option Waiting = λ i. waiting_in i (reply_in v i) in
    record {
      piece = told_next f c.args.from c.loop-i.i low c.loop-i.invariant.piece ∙ c.is_passed.ensures.piece c.if-is_passed.true;
      waiting =
          sym (some_or c.loop-i.waiting (g c.loop-i.i) (c.is_passed.ensures.waiting c.if-is_passed.true))
          ∙ ap (λ o. option_or o (g c.loop-i.i)) c.loop-i.invariant.waiting ∙ sym (told_more g c.args.from c.loop-i.i low);
      low = omega arith;
    }

pub loop-i-preserved : goal.loop-i-preserved
loop-i-preserved c =
    let v = c.args.self.now in
    let low = c.loop-i.invariant.low in
    let f : ℕ → Option Handed = λ i. piece_in (reply_in v i) in
    let g : ℕ → Option Waiting = λ i. waiting_in i (reply_in v i) in
    let none : f c.loop-i.i ≡ None = ap piece_in (sym c.reply_of.ensures) ∙ elim c.match-reply_of.branch [
      | in-Blocked w ↦ ap (λ r. piece_in (admit_reply_of r)) w.in-Blocked.is
      | in_default w ↦ no_piece c.reply_of.result w.in_default.not-Piece
    ] in
    let told : g c.loop-i.i ≡ waiting_in c.loop-i.i (admit_reply_of c.reply_of.result) = ap (waiting_in c.loop-i.i) (sym c.reply_of.ensures) in
    let joined : c.match-reply_of.waiting ≡ option_or c.loop-i.waiting (g c.loop-i.i) = elim c.match-reply_of.branch [
      | in-Blocked w ↦
          w.waiting-is ∙ w.or-waiting.ensures
          ∙ ap (option_or c.loop-i.waiting) (sym (told ∙ ap (λ r. waiting_in c.loop-i.i (admit_reply_of r)) w.in-Blocked.is))
      | in_default w ↦
          w.waiting-is ∙ sym (or_none c.loop-i.waiting)
          ∙ ap (option_or c.loop-i.waiting) (sym (told ∙ no_block c.loop-i.i c.reply_of.result w.in_default.not-Blocked))
    ] in
    record {
      piece = told_next f c.args.from c.loop-i.i low c.loop-i.invariant.piece ∙ none;
      waiting = joined ∙ ap (λ o. option_or o (g c.loop-i.i)) c.loop-i.invariant.waiting ∙ sym (told_more g c.args.from c.loop-i.i low);
      low = omega arith;
    }
