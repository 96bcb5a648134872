use Rattle.std.proofs.Common.{drop, map}
use Rattle.scp_shown.specs.Contradictions.{pairs_with}
use Rattle.scp_shown.specs.inside.Placing.{placed}
use Rattle.scp_shown.proofs.Pairing.{PairsLead}
use Rattle.scp_shown.proofs.contradictions.add_earlier.Given as goal

-- with those of what is left they are all
abbrev pub invariant-loop-first : goal.invariant-loop-first
invariant-loop-first l = PairsLead l.ledger (pairs_with (map placed (drop l.first-index l.earlier)) (placed l.last)) l.lines.items (pairs_with (map placed l.earlier) (placed l.last)) l.fn.lines.items
