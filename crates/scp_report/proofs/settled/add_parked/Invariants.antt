use Rattle.std.proofs.Common.{◌≡◌, fold, drop}
use Rattle.std.specs.BTreeSet.{insert_key}
use Rattle.scp_core.specs.scp_types.specs.Order.{conn_cmp}
use Rattle.scp_report.proofs.settled.add_parked.Given as goal

-- what is left leads to all
abbrev pub invariant-loop-waiting : goal.invariant-loop-waiting
invariant-loop-waiting l = fold (λ conns waiting. insert_key conn_cmp conns waiting.conn) l.conns.keys (drop l.waiting-index l.parked) ≡ fold (λ conns waiting. insert_key conn_cmp conns waiting.conn) l.initial.conns.keys l.parked
