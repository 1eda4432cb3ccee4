use Rattle.std.proofs.Common.{◌≡◌, ◌∙◌, refl, sym, ap, subst}
use Rattle.process_disk.specs.Images.{EachImage}
use Rattle.gate_log.specs.Standing.{LogState, StandsFor}
use Rattle.gate_log.specs.Staging.{staging, unstaged, LogsBeforeOrWithAll}
use Rattle.gate_log.proofs.Standing.{stands_alike}
use Rattle.gate_log.proofs.log.Log.append.Goals as goal

pub returns-clause-any_moment : goal.returns-clause-any_moment
returns-clause-any_moment g c = λ told bodies stands.
    let old = g.R.Rack.disk c.args.rack.now in
    let new = g.R.Rack.disk c.append_staged-result.new.rack in
    let log = c.args.self.now in
    let body = c.args.body.now in
    let staged : c.stage.new.self ≡ staging (unstaged log) body = c.stage.ensures ∙ ap (λ (l : LogState). staging l body) c.unstage.ensures in
    let still = stands_alike log (staging (unstaged log) body) bodies old refl refl refl stands in
    subst (λ (l : LogState). EachImage new old.moment (LogsBeforeOrWithAll l.file bodies l.staged)) staged
    (c.append_staged-result.ensures.any_moment told bodies (subst (λ (l : LogState). StandsFor l bodies old) (sym staged) still))
