use Rattle.sq_outside.specs.MemoryDisk.{MemoryDisk}
use Rattle.sq_outside.specs.declared.memory.disk.MemDisk.{MemDisk}

-- the disk that the fields stand for
abbrev pub memory_disk : MemDisk → MemoryDisk
memory_disk d = record { history = d.store; fail = d.fail.items; calls = d.counts.made; faults = d.counts.failed }
