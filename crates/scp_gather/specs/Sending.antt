-- What the stages of a node that has ended put into the outboxes of its links.
use Rattle.std.specs.Prelude.{List}
use Rattle.scp_workers.specs.scp_driver.specs.Driver.{Says}
use Rattle.scp_workers.specs.scp_types.specs.declared.names.NodeId.{NodeId}
use Rattle.scp_workers.specs.scp_quorum.specs.QuorumTree.{QuorumTree}
use Rattle.scp_workers.specs.scp_ledger.specs.declared.took.Outgoing.{Outgoing}
use Rattle.scp_workers.specs.scp_theorem.specs.Grounds.{Grounds}
use Rattle.scp_workers.specs.scp_theorem.specs.Laws.{grounds_in, AreHandedOut}
use Rattle.scp_workers.specs.Working.{HavePut}
use Rattle.scp_gather.specs.Gathered.{account_gathered}
use Rattle.scp_gather.specs.Left.{Left}

module _ {D : Type 0} where
  -- what a node that has ended may have sent, from what its threads left: who it is, what came to its pending
  -- stage, and what its slot stage and its applier made of that
  abbrev pub grounds_gathered : NodeId → QuorumTree → List NodeId → Left D → Grounds
  grounds_gathered me set peers e = grounds_in (account_gathered me set peers e)

module _ {D : Type 0} (says : Says D) where
  -- Each of the three stages put into each link's outbox exactly what it handed out for that link, in order. Nothing is left between the
  -- stages, so each took all that the one before it gave.
  pub record ArePutOut (me : NodeId) (set : QuorumTree) (peers : List NodeId) (e : Left D) : Type 0 where
    pub replies : List Outgoing
    pub said : List Outgoing
    pub answers : List Outgoing
    pub handed : AreHandedOut says (account_gathered me set peers e) replies said answers
    pub replies_put : HavePut replies e.pend.outlets
    pub said_put : HavePut said e.slot.outlets
    pub answers_put : HavePut answers e.apply.outlets
