use Rattle.std.proofs.Common.{◌∙◌, refl, sym, subst}
use Rattle.process_disk.specs.Disk.{Told}
use Rattle.process_disk.specs.Images.{EachImage}
use Rattle.history_files.specs.Sound.{IsSound}
use Rattle.engine_steps.specs.Engines.{full_history}
use Rattle.process_engine.proofs.AloneGroups.{at_err}
use Rattle.process_engine.proofs.BarredPieces.{unfinished}
use Rattle.process_engine.proofs.DonePieces.{done, undone}
use Rattle.process_engine.proofs.finishing.finish_effect.Goals as goal

pub returns-then-is_err-clause-finishes : goal.returns-then-is_err-clause-finishes
returns-then-is_err-clause-finishes g c =
    let e = c.args.engine.now in
    let disk = g.R.Rack.disk in
    let did = c.make_room.ensures in
    unfinished disk e c.make_room.new.engine c.args.piece c.requires.out.handed
    (subst (λ r. Told (disk e.files.rack) → EachImage (disk r) (disk e.files.rack).moment (IsSound e.catalog (full_history e.core))) (sym did.rack) (c.invariant_holds.ensures.each c.requires.settled))
    c.requires.out.out c.args.piece refl (at_err c.make_room.result (sym c.is_err.ensures.value ∙ c.if-is_err.true) did.step) did.core did.catalog (did.phase ∙ c.requires.settled) did.rack

pub returns-in-Ok-clause-finishes : goal.returns-in-Ok-clause-finishes
returns-in-Ok-clause-finishes g c =
    let did = c.make_room.ensures in
    done g.R.Rack.disk c.args.engine.now c.make_room.new.engine c.put_alone.new.engine c.args.piece c.invariant_holds.ensures.run c.requires.out did.core did.catalog did.rack c.put_alone.ensures.any_moment
    c.in-Ok.count c.in-Ok.ensures.settles (c.invariant_holds-in-Ok.ensures.each c.in-Ok.ensures.settles.settled)

pub returns-in-Err-clause-finishes : goal.returns-in-Err-clause-finishes
returns-in-Err-clause-finishes g c =
    let did = c.make_room.ensures in
    undone g.R.Rack.disk c.args.engine.now c.make_room.new.engine c.put_alone.new.engine c.args.piece c.invariant_holds.ensures.run c.requires.out did.core did.catalog did.rack c.put_alone.ensures.any_moment
    c.in-Err.field-0 c.in-Err.ensures.settles
