use Rattle.std.proofs.Common.{◌≡◌, ◌⊎◌, inl, inr, ◌≤◌, ◌<◌, ◌+◌, ◌++◌, ◌∷◌, [], ◌^◌, length, None, Err, All, subst, sym, ◌∙◌, ap, arith, length-append}
use Rattle.std.proofs.lemmas.List.Elements.{All-nil, All-push}
use Rattle.gate_log.specs.LogFile.{first_record, records_size}
use Rattle.gate_log.specs.declared.errors.LogError.TheVariants.{BadRecord}
use Rattle.gate_log.proofs.Logs.{records_size-push}
use Rattle.gate_log.proofs.Reading.{read_start, read_step, read_stop, read_closed, read_broken}
use Rattle.gate_log.proofs.records.bodies_in.Goals as goal
use Rattle.gate_log.proofs.records.bodies_in.Goals.{else-records-test, then-records-test+in_default}

pub records-init : goal.records-init
records-init c =
    let none = c.new-bodies.ensures.items in
    record {
      few = omega (arith, ap length none);
      read = read_start _ c.args.bytes.now none;
      size = omega (arith, ap records_size none);
      short = subst (All (λ body. length body < 2 ^ 16)) (sym none) (All-nil (λ body. length body < 2 ^ 16));
      bound = omega (arith, ap records_size none);
    }

pub records-preserved : goal.records-preserved
records-preserved c =
    let bodies = c.records.bodies.items in
    let body = c.in-Some.body.now in
    let is : c.push.new.self.items ≡ bodies ++ body ∷ [] = c.in_ok-push.ensures.items ∙ ap (λ b. bodies ++ b ∷ []) (c.new.ensures ∙ c.in_ok-to_vec.ensures.items_if_clones_equal (λ x y h. h)) in
    let few : length bodies < 65536 = omega (arith, c.records-test.true, c.len.ensures) in
    let count = ap length is ∙ length-append bodies (body ∷ []) in
    let size = ap records_size is ∙ records_size-push bodies body in
    record {
      few = omega (arith, few, count);
      read = read_step bodies _ body c.args.bytes.now c.records.rest.now _ few c.in-Some.ensures.first is c.records.invariant.read;
      size = omega (arith, size, c.in-Some.ensures.size, c.records.invariant.size);
      short = subst (All (λ b. length b < 2 ^ 16)) (sym is) (All-push (λ b. length b < 2 ^ 16) bodies body c.records.invariant.short c.in-Some.ensures.short);
      bound = omega (arith, size, count, c.in-Some.ensures.short, c.records.invariant.bound);
    }

pub returns-then-is_closed-clause-ok : goal.returns-then-is_closed-clause-ok
returns-then-is_closed-clause-ok c =
    let bodies = c.records.bodies.items in
    let why : (65536 ≤ length bodies) ⊎ (first_record c.records.rest.now ≡ None) = elim c.records-test.branch [
      | else-records-test w ↦ inl (omega (arith, w.records-test.false, c.len.ensures))
      | then-records-test+in_default w ↦ inr w.in_default.ensures.first
    ] in
    let stop = read_stop bodies c.args.bytes.now c.records.rest.now why c.records.invariant.read in
    sym stop ∙ read_closed bodies c.records.rest.now (sym c.if-is_closed.ensures)

pub returns-else-is_closed-clause-bad : goal.returns-else-is_closed-clause-bad
returns-else-is_closed-clause-bad c = λ memory.
    let bodies = c.records.bodies.items in
    let why : (65536 ≤ length bodies) ⊎ (first_record c.records.rest.now ≡ None) = elim c.records-test.branch [
      | else-records-test w ↦ inl (omega (arith, w.records-test.false, c.len.ensures))
      | then-records-test+in_default w ↦ inr w.in_default.ensures.first
    ] in
    let stop = read_stop bodies c.args.bytes.now c.records.rest.now why c.records.invariant.read in
    let count : length bodies ≡ c.len-else-is_closed.result = omega (arith, c.len-else-is_closed.ensures) in
    sym stop ∙ read_broken bodies c.records.rest.now (sym c.if-is_closed.ensures) ∙ ap (λ n. Err (BadRecord (n + 1))) count
