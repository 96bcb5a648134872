use Rattle.std.proofs.Common.{◌≡◌, ◌<◌, ℕ, map}
use Rattle.std.specs.Prelude.{string_bytes}
use Rattle.scp_live_lines.specs.Says.{name_of}
use Rattle.scp_live_lines.proofs.words.link_of.Given as goal

-- no link before has this name
abbrev pub invariant-loop-index : goal.invariant-loop-index
invariant-loop-index l = (k : ℕ) → k < l.index → ¬ (l.word ≡ name_of (map string_bytes l.names) k)
