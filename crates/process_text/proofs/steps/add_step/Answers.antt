use Rattle.std.proofs.Common.{arith, ◌≡◌, ◌∙◌, true, nat_lt, length}
use Rattle.std.proofs.lemmas.Bool.{lt-ltb}
use Rattle.process_text.specs.Leading.{with_names}
use Rattle.process_text.proofs.Turns.{no_settings_left}
use Rattle.process_text.proofs.steps.add_step.Goals as goal

pub returns-clause-leads : goal.returns-clause-leads
returns-clause-leads c = λ earlier choices.
    let room : nat_lt (length c.args.names.now) 256 ≡ true = lt-ltb (length c.args.names.now) 256 (omega arith) in
    rw room (c.in_ok-step.ensures.leads earlier choices ∙ no_settings_left (with_names c.read_step.new.names earlier choices) c.read_step.new.words)
