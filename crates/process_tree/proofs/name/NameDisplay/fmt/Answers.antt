use Rattle.std.proofs.Common.{◌≡◌, true}
use Rattle.std.proofs.lemmas.Str.{IsUtf8-from_ascii}
use Rattle.process_tree.specs.Name.{is_name}
use Rattle.process_tree.proofs.NameBytes.{name_is_ascii}
use Rattle.process_tree.proofs.name.NameDisplay.fmt.Goals as goal

pub unreachable-requires : goal.unreachable-requires
unreachable-requires g c =
    let named : is_name c.deref.result.now ≡ true = rw c.deref.ensures.value c.self.invariant in
    c.in-Err.ensures.cases.0 (IsUtf8-from_ascii c.deref.result.now (name_is_ascii c.deref.result.now named))
