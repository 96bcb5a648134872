use Rattle.std.proofs.Common.{take, map, string_bytes}
use Rattle.scp_command.specs.Converting.{AreConverted}
use Rattle.scp_command.proofs.converting.convert_lines.Given as goal

-- the lines so far came to this
abbrev pub invariant-loop-index : goal.invariant-loop-index
invariant-loop-index l = AreConverted l.conversion 1 (take l.index (map (λ line. line.now) l.lines)) (string_bytes l.text) l.refused.items
