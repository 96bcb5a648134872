-- The pending stage, where messages wait for their quorum sets.
use Rattle.std.specs.Prelude.{◌≡◌, List, []}
use Rattle.scp_theorem.specs.scp_types.specs.declared.names.NodeId.{NodeId}
use Rattle.scp_theorem.specs.scp_quorum.specs.QuorumTree.{QuorumTree}
use Rattle.scp_theorem.specs.scp_wire.specs.declared.link.Inbound.{Inbound}
use Rattle.scp_theorem.specs.scp_pending.specs.declared.ready.Ready.{Ready}
use Rattle.scp_theorem.specs.scp_pending.specs.Rules.{PendingView, fresh}
use Rattle.scp_theorem.specs.scp_pending.specs.Pends.{Pends}
use Rattle.scp_theorem.specs.scp_ledger.specs.declared.took.Outgoing.{Outgoing}
use Rattle.scp_theorem.specs.Handed.{replies_from}
use Rattle.scp_workers.specs.Working.{Work, End, HasRun}

-- what contracts see of the worker of the pending stage
abbrev pub PendWork : Type 0
PendWork = Work Inbound Ready PendingView

-- and of what it ends with
abbrev pub PendEnd : Type 0
PendEnd = End Inbound Ready PendingView

-- A stage with the node, the peers and the own quorum set of the first one took these by its rules, gave these, and handed out its replies to them.
pub record PendsFrom (first : PendingView) (took : List Inbound) (gave : List Ready) (out : List Outgoing) (now : PendingView) : Type 0 where
  pub pends : Pends first.settled.me first.settled.peers took gave now
  pub local_is : now.settled.store.local ≡ first.settled.store.local
  pub out_is : out ≡ replies_from (fresh first.settled.me first.settled.peers first.settled.store.local) took

-- nothing is ready
abbrev pub HasNothingReady : PendingView → Type 0
HasNothingReady now = now.leaving ≡ []

-- each producer ended; what was sent is what the stage gives for what was received; its replies were put into the outboxes; nothing is ready
abbrev pub HasPendedAll : PendEnd → Type 0
HasPendedAll e = HasRun PendsFrom HasNothingReady e

-- the stage is this node's
pub record IsFor (me : NodeId) (peers : List NodeId) (local : QuorumTree) (v : PendingView) : Type 0 where
  pub me_is : v.settled.me ≡ me
  pub peers_are : v.settled.peers ≡ peers
  pub local_is : v.settled.store.local ≡ local
