use Rattle.std.proofs.Common.{◌+◌, List, [], ◌∷◌, drop, map, subst, arith}
use Rattle.scp_shown.specs.Contradictions.{Pair, pairs_with}
use Rattle.scp_shown.specs.inside.Placing.{placed}
use Rattle.scp_shown.proofs.Pairing.{PairsLead, lead_first, lead_more, lead_last, row_more, row_none}
use Rattle.scp_shown.proofs.contradictions.add_earlier.Goals as goal

pub loop-first-init : goal.loop-first-init
loop-first-init c = lead_first c.args.ledger (pairs_with (map placed c.args.earlier.now) (placed c.args.last.now)) c.args.lines.now.items

pub loop-first-preserved : goal.loop-first-preserved
loop-first-preserved c =
    let ps = c.args.earlier.now in
    let i = c.loop-first.first-index in
    let last = placed c.args.last.now in
    let x = c.first-item.result in
    let all = pairs_with (map placed ps) last in
    lead_more c.args.ledger ((placed x, last) ∷ []) (pairs_with (map placed (drop (i + 1) ps)) last) all c.loop-first.lines.items c.add_pair.new.lines.items c.args.lines.now.items c.in_ok-add_pair.ensures
    (subst (λ (left : List Pair). PairsLead c.args.ledger left c.loop-first.lines.items all c.args.lines.now.items) (row_more ps i x last (omega arith) c.first-item.is) c.loop-first.invariant)

pub returns : goal.returns
returns c =
    let ps = c.args.earlier.now in
    let last = placed c.args.last.now in
    let all = pairs_with (map placed ps) last in
    lead_last c.args.ledger all c.loop-first.lines.items c.args.lines.now.items
    (subst (λ (left : List Pair). PairsLead c.args.ledger left c.loop-first.lines.items all c.args.lines.now.items) (row_none ps c.loop-first.first-index last (omega arith)) c.loop-first.invariant)
