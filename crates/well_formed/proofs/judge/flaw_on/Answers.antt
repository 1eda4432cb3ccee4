use Rattle.process_tree.specs.Order.{Each}
use Rattle.std.proofs.Common.{◌+◌, ap, subst, take, sym, ◌∙◌, slice_index}
use Rattle.std.proofs.lemmas.Bool.{ltb-true}
use Rattle.process_tree.specs.Shape.{shape_by}
use Rattle.well_formed.specs.Flaws.{IsSound}
use Rattle.well_formed.proofs.Rounds.{Each-taken, Each-next, on_at, path_at, IsWalked, walk_begins, walk_commits, walk_passes, sound_below}
use Rattle.well_formed.proofs.Standing.{on_branch, on_within}
use Rattle.well_formed.proofs.judge.flaw_on.Goals as goal
use Rattle.well_formed.proofs.judge.flaw_on.Goals.{then-commits_there, else-commits_there}

pub flaw_of-requires-clause-on : goal.flaw_of-requires-clause-on
flaw_of-requires-clause-on c =
    let t = shape_by c.args.kinds.now c.args.paths.now in
    let p = c.as_slice-path.result.now in
    let is = path_at c.args.paths.now c.args.at c.index-paths-at.result p c.requires.within c.index-paths-at.is c.as_slice-path.ensures in
    on_at t c.args.at c.loop-place.place p c.requires.within is c.loop-place-test.true

pub flaw_of-requires-clause-known : goal.flaw_of-requires-clause-known
flaw_of-requires-clause-known c = λ known.
    let t = shape_by c.args.kinds.now c.args.paths.now in
    let p = c.as_slice-path.result.now in
    let is = path_at c.args.paths.now c.args.at c.index-paths-at.result p c.requires.within c.index-paths-at.is c.as_slice-path.ensures in
    Each-taken (IsSound t) c.args.skip c.loop-place.place p (subst (λ q. Each (IsSound t) (take c.args.skip q)) (sym is) c.requires.skip) (ltb-true c.loop-place.place c.args.skip known) c.loop-place-test.true

pub returns-in-Some : goal.returns-in-Some
returns-in-Some c =
    let t = shape_by c.args.kinds.now c.args.paths.now in
    let p = c.as_slice-path.result.now in
    let k = c.loop-place.place in
    let is = path_at c.args.paths.now c.args.at c.index-paths-at.result p c.requires.within c.index-paths-at.is c.as_slice-path.ensures in
    let on = on_at t c.args.at k p c.requires.within is c.loop-place-test.true in (
      on_branch t _ (slice_index p k) c.requires.orderly on,
      sym c.flaw_of.ensures ∙ c.in-Some.is,
      sound_below t c.args.at k p c.requires.orderly c.requires.within is c.loop-place-test.true c.requires.earlier c.loop-place.invariant.sound,
    )

pub loop-place-init : goal.loop-place-init
loop-place-init c = record { sound = tt; walked = walk_begins (shape_by c.args.kinds.now c.args.paths.now) c.as_slice-path.result.now }

pub commits_there-requires : goal.commits_there-requires
commits_there-requires c =
    let t = shape_by c.args.kinds.now c.args.paths.now in
    let p = c.as_slice-path.result.now in
    let k = c.loop-place.place in
    let is = path_at c.args.paths.now c.args.at c.index-paths-at.result p c.requires.within c.index-paths-at.is c.as_slice-path.ensures in
    on_within t (take k p) (slice_index p k) c.requires.orderly (on_at t c.args.at k p c.requires.within is c.loop-place-test.true)

pub loop-place-preserved : goal.loop-place-preserved
loop-place-preserved c =
    let t = shape_by c.args.kinds.now c.args.paths.now in
    let p = c.as_slice-path.result.now in
    let k = c.loop-place.place in
    let fixed = c.loop-place.fixed in
    let owed = c.loop-place.owed.now in
    let o = c.requires.orderly in
    let lt = c.loop-place-test.true in
    let at = c.loop-place.invariant.walked in
    let is = path_at c.args.paths.now c.args.at c.index-paths-at.result p c.requires.within c.index-paths-at.is c.as_slice-path.ensures in
    let on = on_at t c.args.at k p c.requires.within is lt in
    let sound = Each-next (IsSound t) k p 0 lt c.loop-place.invariant.sound (sym c.flaw_of.ensures ∙ c.in_default.is) in
    elim c.if-commits_there.branch [
      | then-commits_there f ↦ record {
        sound = sound;
        walked =
            subst (λ n. IsWalked t p (k + 1) n c.if-commits_there.owed.now) (sym f.fixed-is)
            (subst (IsWalked t p (k + 1) (k + 1)) (sym (ap (λ q. q.now) f.owed-is ∙ f.owed_behind-owed.ensures))
            (walk_commits t p k fixed owed o lt on at (sym c.commits_there.ensures ∙ f.if-commits_there.true)));
      }
      | else-commits_there f ↦ record {
        sound = sound;
        walked =
            subst (λ n. IsWalked t p (k + 1) n c.if-commits_there.owed.now) (sym f.fixed-is)
            (subst (IsWalked t p (k + 1) fixed) (sym (ap (λ q. q.now) f.owed-is))
            (walk_passes t p k fixed owed o lt on at (sym c.commits_there.ensures ∙ f.if-commits_there.false)));
      }
    ]
