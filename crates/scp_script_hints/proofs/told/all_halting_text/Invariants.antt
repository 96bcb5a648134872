use Rattle.std.proofs.Common.{take, string_bytes}
use Rattle.scp_script_hints.specs.Told.{TellAllHalting}
use Rattle.scp_script_hints.proofs.told.all_halting_text.Given as goal

abbrev pub invariant-loop-member : goal.invariant-loop-member
invariant-loop-member l = TellAllHalting l.members (take l.member-index l.members) (string_bytes l.out)
