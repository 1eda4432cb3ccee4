use Rattle.std.proofs.Common.{◌≡◌, ap, sym, ◌∙◌, Some, false, true, string_bytes}
use Rattle.commute_table.specs.Document.{is_known}
use Rattle.commute_table.proofs.Unknown.{first_unknown, first_known}
use Rattle.commute_table.proofs.document.least_unknown.Goals as goal

pub returns-then-not-is_known : goal.returns-then-not-is_known
returns-then-not-is_known c =
    let unknown : is_known c.args.keys (string_bytes c.in-Some.key.now) ≡ false = ap (is_known c.args.keys) (sym c.as_str.ensures.value) ∙ sym c.is_known.ensures ∙ c.if-not-is_known.true in
    ap Some c.as_str-then-not-is_known.ensures.value ∙ sym (first_unknown c.args.keys c.loop-key.key-iterator _ c.next.new.self _ c.loop-key.invariant.sorted c.in-Some.ensures.steps unknown c.loop-key.invariant.same)

pub loop-key-preserved : goal.loop-key-preserved
loop-key-preserved c =
    let known : is_known c.args.keys (string_bytes c.in-Some.key.now) ≡ true = ap (is_known c.args.keys) (sym c.as_str.ensures.value) ∙ sym c.is_known.ensures ∙ c.if-not-is_known.false in
    let next = first_known c.args.keys c.loop-key.key-iterator _ c.next.new.self _ c.loop-key.invariant.sorted c.in-Some.ensures.steps known c.loop-key.invariant.same in
    record { same = next.0; sorted = next.1 }
