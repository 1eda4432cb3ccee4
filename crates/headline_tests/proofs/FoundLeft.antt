-- What a stop within a call leaves of a rack in memory is what the next call finds.
use Rattle.std.proofs.Common.{◌≡◌, ◌∙◌, ◌≤◌, ℕ, List, [], length, arith, ap, subst, sym}
use Rattle.process_flow.specs.declared.source.Source.{Ghosts as Sources}
use Rattle.process_flow.specs.declared.sink.Sink.{Ghosts as Sinks}
use Rattle.process_disk.specs.declared.rack.Rack.{Ghosts as Racks}
use Rattle.process_disk.specs.declared.memory.MemoryRack.{MemoryRack}
use Rattle.process_disk.specs.Disk.{Disk, FileSet}
use Rattle.process_disk.specs.Memory.{LeftSince, MemoryDisk, disk_of, fresh}
use Rattle.process_disk.specs.MemoryView.{memory}
use Rattle.process_disk.specs.Stop.{from_latest, is_through}
use Rattle.process_engine.specs.declared.gates.Gate.{Ghosts as Gates}
use Rattle.resource_box.specs.declared.resource.Resource.{Ghosts as Resources}
use Rattle.headline.specs.Headline.{FindsLeft, WereLeft}
use Rattle.headline.proofs.Stops.{fresh_finds_left, stopped_was_left}
use Rattle.headline_tests.specs.Example.{IsAnswered, see}

-- what is told by this rack is told by the same one
pub as_told : (racks : Racks MemoryRack) → ((rack : MemoryRack) → racks.disk rack ≡ disk_of (memory rack)) → (P : Disk → Type 0) (x y : MemoryRack) → x ≡ y → P (disk_of (memory y)) → P (racks.disk x)
as_told racks tells P x y same holds = subst (λ z. P (racks.disk z)) (sym same) (subst P (sym (tells y)) holds)

-- a rack that nobody has called is that of its own files
pub off_itself : (m : MemoryDisk) (files : FileSet) → m ≡ fresh files [] → m ≡ fresh m.first []
off_itself m files is = is ∙ ap (λ fs. fresh fs []) (sym (ap (λ (x : MemoryDisk). x.first) is))

module _ {S K B G : Type 0} (sources : Sources S) (sinks : Sinks K) (racks : Racks MemoryRack) (resources : Resources B) (workers : Gates G)
    (tells : (rack : MemoryRack) → racks.disk rack ≡ disk_of (memory rack)) where
  pub found_left : (rack played left : MemoryRack) (number call t : ℕ) (sink : K) (words : List (List ℕ)) → (memory rack).made ≡ []
      → (was : IsAnswered sources sinks racks resources workers words rack number sink played)
      → LeftSince (memory played).first (from_latest (is_through call) (memory played).made) t (memory left).first → memory left ≡ fresh (memory left).first []
      → FindsLeft (WereLeft (see sources sinks racks resources workers was.before) (see sources sinks racks resources workers was.after) t) (racks.disk left)
  found_left rack played left number call t sink words unmade was image off =
      let stopped : WereLeft (see sources sinks racks resources workers was.before) (see sources sinks racks resources workers was.after) t (memory left).first = record {
        begun = as_told racks tells (λ d. d.moment ≤ t) was.before.rack rack was.on (let none = ap length unmade in omega (arith, none));
        image = as_told racks tells (λ d. d.left_since t (memory left).first) was.after.rack played was.leaves (stopped_was_left (memory played) call t (memory left).first image);
      } in
      subst (FindsLeft (WereLeft (see sources sinks racks resources workers was.before) (see sources sinks racks resources workers was.after) t)) (sym (tells left))
      (subst (λ m. FindsLeft (WereLeft (see sources sinks racks resources workers was.before) (see sources sinks racks resources workers was.after) t) (disk_of m)) (sym off)
      (fresh_finds_left (WereLeft (see sources sinks racks resources workers was.before) (see sources sinks racks resources workers was.after) t) (memory left).first [] stopped))
