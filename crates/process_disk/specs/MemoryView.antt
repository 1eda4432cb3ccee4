-- What a rack in memory is seen as.
use Rattle.std.specs.Prelude.{reverse}
use Rattle.process_disk.specs.Memory.{MemoryDisk}
use Rattle.process_disk.specs.declared.memory.MemoryRack.{MemoryRack}

-- what it holds
abbrev pub memory : MemoryRack → MemoryDisk
memory rack = record {
  first = rack.first;
  made = reverse rack.made.items;
  fails = rack.fails.items;
  calls = rack.calls;
  faults = rack.faults;
  starved = rack.starved;
}
