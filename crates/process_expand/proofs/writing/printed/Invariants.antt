use Rattle.std.proofs.Common.{◌≡◌, ◌≤◌, ◌++◌, [], drop, map}
use Rattle.process_expand.specs.Layout.{printed}
use Rattle.process_expand.proofs.writing.printed.Given as goal

abbrev pub invariant-loop-token : goal.invariant-loop-token
invariant-loop-token l = record {
  printed : l.page.out.items ++ printed (map (λ w. w.now) l.words) l.all (map (λ g. g.items) l.page.given.items) l.page.depth (drop l.token-index l.tokens)
      ≡ printed (map (λ w. w.now) l.words) l.all [] 0 l.tokens;
  depth : l.page.depth ≤ l.token-index;
}
