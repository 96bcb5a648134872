-- The pending stage, of the node and the peers that it was made for.
use Rattle.std.proofs.Common.{List, [], ◌++◌, sym, subst}
use Rattle.scp_wire.specs.scp_types.specs.declared.names.NodeId.{NodeId}
use Rattle.scp_wire.specs.declared.link.Inbound.{Inbound}
use Rattle.scp_pending.specs.declared.ready.Ready.{Ready}
use Rattle.scp_pending.specs.Pends.{Pends, PendsHere, HereFromNothing, HerePasses}
use Rattle.scp_pending.specs.Rules.{PendingView}
use Rattle.scp_pending.proofs.Linked.{its_node}

here : (me : NodeId) (peers : List NodeId) (taken : List Inbound) (given : List Ready) (v : PendingView) → Pends me peers taken given v → PendsHere taken given v
here me peers taken given v p =
    let is = its_node me peers taken given v p in
    subst (λ (ps : List NodeId). Pends v.settled.me ps taken given v) (sym is.1) (subst (λ (n : NodeId). Pends n peers taken given v) (sym is.0) p)

pub here_from_nothing : HereFromNothing
here_from_nothing = λ me peers v p. (here me peers [] [] v p, p.left)

pub here_passes : HerePasses
here_passes = λ more out old new passes taken given p. here old.settled.me old.settled.peers (taken ++ more) (given ++ out) new (passes old.settled.me old.settled.peers taken given p)
