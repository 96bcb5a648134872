use Rattle.std.proofs.Common.{[], map}
use Rattle.scp_shown.specs.Contradictions.{pairs_from}
use Rattle.scp_shown.specs.inside.Placing.{placed}
use Rattle.scp_shown.proofs.Pairing.{PairsLead, pairs_left}
use Rattle.scp_shown.proofs.contradictions.add_all.Given as goal

-- with those of what is left they are all
abbrev pub invariant-loop-at : goal.invariant-loop-at
invariant-loop-at l = PairsLead l.ledger (pairs_left l.all l.at) l.lines.items (pairs_from [] (map placed l.all)) l.fn.lines.items
