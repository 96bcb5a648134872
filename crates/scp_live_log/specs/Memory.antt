-- The contents of a log in memory.
use Rattle.std.specs.Prelude.{ℕ, List}
use Rattle.scp_live_log.specs.declared.memory.MemoryLog.{MemoryLog}

-- The bytes that it holds now.
abbrev pub memory_bytes : MemoryLog → List ℕ
memory_bytes m = m.bytes.items
