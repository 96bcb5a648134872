use Rattle.std.proofs.Common.{◌+◌, ◌++◌, List, [], map, take, subst, arith}
use Rattle.scp_shown.specs.Contradictions.{Pair, pairs_with, pairs_from}
use Rattle.scp_shown.specs.declared.contradictions.Placed.{Placed as There}
use Rattle.scp_shown.specs.inside.Placing.{placed}
use Rattle.scp_shown.proofs.Pairing.{PairsLead, pairs_left, lead_first, lead_more, lead_last, rows_more, rows_none, pair_lines}
use Rattle.scp_shown.proofs.contradictions.add_all.Goals as goal

pub loop-at-init : goal.loop-at-init
loop-at-init c = lead_first c.args.ledger (pairs_from [] (map placed c.args.all.now)) c.args.lines.now.items

pub loop-at-preserved : goal.loop-at-preserved
loop-at-preserved c =
    let ps = c.args.all.now in
    let i = c.loop-at.at in
    let x = c.index-all-at.result in
    let all = pairs_from [] (map placed ps) in
    lead_more c.args.ledger (pairs_with (map placed (take i ps)) (placed x)) (pairs_left ps (i + 1)) all c.loop-at.lines.items c.add_earlier.new.lines.items c.args.lines.now.items
    c.in_ok-add_earlier.ensures
    (subst (λ (left : List Pair). PairsLead c.args.ledger left c.loop-at.lines.items all c.args.lines.now.items) (rows_more ps i x (omega arith) c.index-all-at.is) c.loop-at.invariant)

pub returns : goal.returns
returns c =
    let ps = c.args.all.now in
    let all = pairs_from [] (map placed ps) in
    pair_lines c.args.ledger (map placed ps) c.loop-at.lines.items c.args.lines.now.items
    (lead_last c.args.ledger all c.loop-at.lines.items c.args.lines.now.items
    (subst (λ (left : List Pair). PairsLead c.args.ledger left c.loop-at.lines.items all c.args.lines.now.items) (rows_none ps c.loop-at.at (omega arith)) c.loop-at.invariant))
