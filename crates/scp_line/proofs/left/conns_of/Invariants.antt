use Rattle.std.proofs.Common.{◌≡◌, fold, drop}
use Rattle.std.specs.BTreeSet.{insert_key}
use Rattle.scp_turn.specs.scp_types.specs.Order.{conn_cmp}
use Rattle.scp_line.specs.Left.{conns_waiting}
use Rattle.scp_line.proofs.left.conns_of.Given as goal

-- what is left leads to all
abbrev pub invariant-loop-message : goal.invariant-loop-message
invariant-loop-message l = fold (λ conns message. insert_key conn_cmp conns message.conn) l.conns.keys (drop l.message-index l.messages) ≡ conns_waiting l.messages
