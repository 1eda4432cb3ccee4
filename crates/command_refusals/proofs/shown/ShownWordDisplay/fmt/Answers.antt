use Rattle.std.proofs.Common.{◌≡◌, true}
use Rattle.std.specs.List.{list_all}
use Rattle.std.proofs.lemmas.Str.{IsUtf8-from_ascii}
use Rattle.command_refusals.specs.Shown.{is_shown}
use Rattle.command_refusals.proofs.ShownWords.{shown_are_ascii}
use Rattle.command_refusals.proofs.shown.ShownWordDisplay.fmt.Goals as goal

pub unreachable-requires : goal.unreachable-requires
unreachable-requires g c =
    let shown : list_all is_shown c.deref.result.now ≡ true = rw c.deref.ensures.value c.self.invariant in
    c.in-Err.ensures.cases.0 (IsUtf8-from_ascii c.deref.result.now (shown_are_ascii c.deref.result.now shown))
