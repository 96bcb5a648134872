-- What follows from a turn in which nothing moves: the node has come to rest.
use Rattle.std.specs.Prelude.{ℕ, ◌≡◌, false, List, [], Some, None, slice_get}
use Rattle.scp_core.specs.scp_driver.specs.Driver.{Says}
use Rattle.scp_core.specs.scp_pending.specs.Pends.{IsIdle}
use Rattle.scp_core.specs.Config.{IsConfigOfMany}
use Rattle.scp_core.specs.History.{Exchange}
use Rattle.scp_core.specs.Node.{LinkView, NodeView}
use Rattle.scp_core.specs.Theorem.{LedgerTheorem}
use Rattle.scp_turn.specs.Turn.{Does, IsTurn, IsStill}

module _ {D : Type 0} where
  -- no queue holds anything, no hand does, and the pending stage has nothing ready
  pub record IsAtRest (v : NodeView D) : Type 0 where
    pub queues : (l : ℕ) → (k : LinkView) → slice_get v.links l ≡ Some k → k.queue ≡ []
    pub hands : (l : ℕ) → (k : LinkView) → slice_get v.links l ≡ Some k → k.hand ≡ []
    pub inbox : v.inbox ≡ []
    pub pending : IsIdle v.pending
    pub pend_hand : v.pend_hand ≡ None
    pub ready : v.ready ≡ []
    pub slot_hand : v.slot_hand ≡ None
    pub decided : v.decided ≡ []

module _ {D : Type 0} (says : Says D) where
  -- A turn in which nothing moved and the node didn't fail changed nothing, and the node was at rest. For whatever is blocked waits for what
  -- comes after it, up to the applier, which waits for nothing.
  abbrev pub StillIsAtRest : Type 0
  StillIsAtRest = (past : List Exchange) (a b : NodeView D) (heard : List Exchange) → LedgerTheorem says past a → IsConfigOfMany a.config → Does says a heard b → IsTurn a heard b → IsStill heard → b.failed ≡ false → IsAtRest a × (b ≡ a)
