use Rattle.std.proofs.Common.{map, take}
use Rattle.scp_ledger.specs.scp_quorum.specs.Quorum.{set_of}
use Rattle.scp_judged.specs.Verdicts.{heard_of, heard_by}
use Rattle.scp_judged.specs.inside.Backed.{AreAccepting}
use Rattle.scp_judged.proofs.backed.accepting.Given as goal

abbrev pub invariant-loop-said : goal.invariant-loop-said
invariant-loop-said l = AreAccepting (heard_by (map heard_of (take l.said-index l.counting))) l.counter l.value (set_of l.sets)
