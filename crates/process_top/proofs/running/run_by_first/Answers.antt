use Rattle.std.proofs.Common.{◌≡◌, ◌∙◌, Vec, Global, length, inl, inr, refl, ap, subst, sym, arith}
use Rattle.command_input.specs.Inputs.{input}
use Rattle.command_input.specs.FilesLeft.{files}
use Rattle.init_run.proofs.FilesMade.{untouched}
use Rattle.worker_gate.specs.ManyGates.{AskedGates, asked_gates}
use Rattle.scenario_run.specs.Run.{IsRunDue}
use Rattle.process_top.specs.Run.{first_gates, gates_asked}
use Rattle.process_top.specs.Worlds.{gates}
use Rattle.process_top.specs.Commands.{AreOthersAsBefore}
use Rattle.process_top.proofs.FirstGates.{first_of_all, others_kept}
use Rattle.process_top.proofs.running.run_by_first.Given.{Over}
use Rattle.process_top.proofs.running.run_by_first.Goals as goal

pub returns-in-Err-clause-due : goal.returns-in-Err-clause-due
returns-in-Err-clause-due g c =
    let same = ap (λ (gs : Vec g.row.G.Denot Global). gs.items) c.in-Err.ensures.err in
    let unasked = ap (λ items. (first_gates c.args.workers (gates_asked (gates g.G.Gate c.args.gates.items) (gates g.G.Gate items))).after) same in
    inl (inl (inr (inr refl), untouched (g.R.Rack.disk c.args.parts.rack) (c.racks_are_honest.ensures c.args.parts.rack)), unasked)

-- as many gates come back as went
as_many : (g : Over) (c : goal.After-destroy_empty g) → length c.run-parts.result.gates.items ≡ c.args.workers
as_many g c = omega (arith, c.run-parts.ensures.gates.0, c.in-Ok.ensures.len, c.run-parts.result.gates.ok)

pub returns-clause-due : goal.returns-clause-due
returns-clause-due g c =
    let all = c.args.gates.items in
    let first = c.run-parts.result.gates.items in
    let rest = c.in-Ok.others.items in
    let before = input g.S.Source c.args.source.now in
    let after = input g.S.Source c.run-parts.new.source in
    let found = files g.R.Rack c.args.parts.rack in
    let left = files g.R.Rack c.run-parts.result.parts.rack in
    let they_are = first_of_all g.G.Gate c.args.workers all first rest (as_many g c) (omega (arith, c.requires.workers, c.requires.gates)) c.in-Ok.ensures.tail
    ∙ ap (λ front. asked_gates g.G.Gate front first) (sym c.in-Ok.ensures.items) in
    subst (λ items. IsRunDue (first_gates c.args.workers (gates_asked (gates g.G.Gate all) (gates g.G.Gate items))) before after found left c.run-parts.result.found) (sym c.in-Ok-append.ensures.items)
    (subst (λ (asked : AskedGates). IsRunDue asked before after found left c.run-parts.result.found) (sym they_are) c.run-parts.ensures.due)

pub returns-clause-others : goal.returns-clause-others
returns-clause-others g c =
    let all = c.args.gates.items in
    subst (λ items. AreOthersAsBefore c.args.workers (gates g.G.Gate all) (gates g.G.Gate items)) (sym c.in-Ok-append.ensures.items)
    (others_kept g.G.Gate c.args.workers all c.run-parts.result.gates.items c.in-Ok.others.items (as_many g c) (omega (arith, c.requires.workers, c.requires.gates)) c.in-Ok.ensures.tail)
