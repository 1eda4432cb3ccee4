-- What a call leaves of a rack, whatever it answers.
use Rattle.std.specs.Prelude.{◌≡◌, ◌≤◌}
use Rattle.process_flow.specs.Causes.{Rose}
use Rattle.process_disk.specs.declared.rack.Rack.{Ghosts as Racks}
use Rattle.process_disk.specs.Disk.{Told}
use Rattle.process_disk.specs.Images.{ImagesFollow}

-- The rack tells as before, and its count of faults didn't fall, and rose where the call failed by one.
pub record LeavesRack {R : Type 0} (racks : Racks R) (old new : R) (Failed : Type 0) : Type 0 where
  pub tells : (racks.disk new).tells ≡ (racks.disk old).tells
  pub later : racks.faults old ≤ racks.faults new
  pub fault : Failed → Rose (racks.faults old) (racks.faults new)

-- The same, and where the files are told, images follow.
pub record LeavesImages {R : Type 0} (racks : Racks R) (old new : R) (Failed : Type 0) : Type 0 where
  pub follow : Told (racks.disk old) → ImagesFollow (racks.disk old) (racks.disk new)
  pub tells : (racks.disk new).tells ≡ (racks.disk old).tells
  pub later : racks.faults old ≤ racks.faults new
  pub fault : Failed → Rose (racks.faults old) (racks.faults new)
