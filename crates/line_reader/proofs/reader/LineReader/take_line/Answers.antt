use Rattle.std.proofs.Common.{◌≡◌, ◌≤◌, [], ◌++◌, arith, length, Err, inl, inr, refl, rules, subst, sym, ◌∙◌}
use Rattle.std.specs.Io.KnownBytes.{IsAtEnd}
use Rattle.std.proofs.KnownBytes.{Consumes-trans}
use Rattle.line_reader.specs.Taking.{most_ahead}
use Rattle.line_reader.proofs.UnderWay.{goes_on, left_is_less, line_ends, all_taken, none_now, none_ready, none_there}
use Rattle.line_reader.proofs.reader.LineReader.take_line.Goals as goal

pub returns-then-branch-clause-taken : goal.returns-then-branch-clause-taken
returns-then-branch-clause-taken g c =
    line_ends _ _ _ _ _ _ _ _ _ _ c.if-branch.true c.loop.invariant.under_way c.in_ok-take_front.ensures.taken c.ended.ensures.first (c.ended.ensures.end _)

pub returns-then-not-branch-clause-taken : goal.returns-then-not-branch-clause-taken
returns-then-not-branch-clause-taken g c =
    let end : (c.refill.new.self ≡ []) × IsAtEnd (g.S.Source.left c.refill.new.source) = c.in_ok-refill.ensures.end c.if-not-branch.true in
    let all = goes_on _ _ _ _ _ _ _ _ _ _ _ c.if-branch.false c.loop.invariant.under_way c.in_ok-take_front.ensures.taken c.in_ok-refill.ensures.more c.refill.ensures.ahead in
    all_taken _ _ _ _ _ _ _ end.0 all c.at_end.ensures.first (c.at_end.ensures.end _ end.1)

pub loop-preserved : goal.loop-preserved
loop-preserved g c = record {
  under_way = goes_on _ _ _ _ _ _ _ _ _ _ _ c.if-branch.false c.loop.invariant.under_way c.in_ok-take_front.ensures.taken c.in_ok-refill.ensures.more c.refill.ensures.ahead;
  called = inl (none_ready c.args.most _ _ c.take_front.new.self _ _ _ c.if-branch.false c.loop.invariant.called c.in_ok-take_front.ensures.taken);
  quiet = c.in_ok-refill.ensures.quiet ∙ c.loop.invariant.quiet;
  little = c.refill.ensures.ahead;
}

pub returns-in_err-refill-clause-gave : goal.returns-in_err-refill-clause-gave
returns-in_err-refill-clause-gave g c =
    let failed : c.from_residual-in_err-refill.result ≡ Err c.in_err-refill.field-0.0 = search rules in
    let way = c.loop.invariant.under_way in
    let more = c.in_err-refill.ensures.gave in
    rw failed (
      way.given ++ more.0,
      Consumes-trans _ _ _ way.given more.0 way.gave more.1,
      (λ is. none_there c.args.most _ _ c.take_front.new.self more.0 _ _ _ _ _ c.if-branch.false way c.in_ok-take_front.ensures.taken (more.2 is)),
      inr (way.given, more.0, refl, none_now c.args.most _ _ c.take_front.new.self _ _ _ _ _ c.if-branch.false way c.in_ok-take_front.ensures.taken, more.3),
    )

pub returns-in_err-take_front-clause-ahead : goal.returns-in_err-take_front-clause-ahead
returns-in_err-take_front-clause-ahead g c = subst (λ bs. length bs ≤ most_ahead) (sym c.in_err-take_front.ensures.same) c.loop.invariant.little

pub returns-then-branch-clause-ahead : goal.returns-then-branch-clause-ahead
returns-then-branch-clause-ahead g c = let less = left_is_less c.args.most c.loop.self c.take_front.new.self c.loop.line.items c.take_front.new.line.items c.in_ok-take_front.field-0 c.in_ok-take_front.ensures.taken in omega (arith, less, c.loop.invariant.little)

pub returns-clause-ahead : goal.returns-clause-ahead
returns-clause-ahead g c = c.loop.invariant.little
