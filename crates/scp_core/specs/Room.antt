-- Lengths of queues, and how often links were opened, from the replies; also of a node that failed.
use Rattle.std.specs.Prelude.{ℕ, ◌+◌, ◌-◌, ◌≤◌, ◌≡◌, true, false, List, [], ◌∷◌, ◌++◌, Some, length, slice_get}
use Rattle.scp_theorem.specs.scp_driver.specs.Driver.{Says}
use Rattle.scp_theorem.specs.scp_wire.specs.declared.link.LinkItem.{LinkItem}
use Rattle.scp_theorem.specs.scp_wire.specs.declared.link.LinkItem.TheVariants.{Opened, Bytes, Closed}
use Rattle.scp_core.specs.declared.event.Event.{Event}
use Rattle.scp_core.specs.declared.event.Reply.{Reply}
use Rattle.scp_core.specs.History.{Exchange, past_of, Past}
use Rattle.scp_core.specs.Node.{NodeView, LinkView, lives_at, room_at, LeavesRoom}
use Rattle.scp_core.specs.Ledger.{IsFailure}
use Rattle.scp_core.specs.Theorem.{LedgerTheoremFrom}

-- 1 for the opening of a link, 0 for any other item
abbrev pub opened_by : LinkItem → ℕ
opened_by (Opened conn) = 1
opened_by (Bytes conn bytes) = 0
opened_by (Closed conn) = 0

-- how often a link with these items was opened
abbrev pub opens_in : List LinkItem → ℕ
opens_in [] = 0
opens_in (x ∷ xs) = opened_by x + opens_in xs

module _ {D : Type 0} where
  -- A link's queue holds what was accepted at its tail minus what its reader took. Its room is its capacity minus that.
  pub record LinkHasRoom (v : NodeView D) (p : Past) (l : ℕ) (k : LinkView) : Type 0 where
    pub room : k.room ≡ v.config.capacities.link
    pub held : length k.queue + (p.links l).taken ≡ length (p.links l).items
    pub left : room_at v l ≡ v.config.capacities.link - length k.queue

  -- the same for all links and queues of a node that runs
  pub record RunningHasRoom (v : NodeView D) (p : Past) : Type 0 where
    pub links : (l : ℕ) → (k : LinkView) → slice_get v.links l ≡ Some k → LinkHasRoom v p l k
    pub rooms : (v.inbox_room ≡ v.config.capacities.inbox) × (v.ready_room ≡ v.config.capacities.ready) × (v.decided_room ≡ v.config.capacities.decided)
    pub ready : p.ready_put ≡ p.ready_taken + length v.ready
    pub decided : p.decided_put ≡ p.decided_taken + length v.decided
    pub inbox : length v.inbox ≤ length p.came

  -- of a node that failed: what it had before the exchange that failed it, and what that left
  pub record FailedHasRoom (past : List Exchange) (v : NodeView D) : Type 0 where
    pub earlier : List Exchange
    pub event : Event
    pub reply : Reply
    pub fails : IsFailure reply
    pub later : List Exchange
    pub past_is : past ≡ earlier ++ (event, reply) ∷ later
    pub moment : NodeView D
    pub was : RunningHasRoom moment (past_of moment.config earlier)
    pub left : LeavesRoom moment event v

  -- the lives of each link are the accepted opens, also for a node that failed
  pub record HasRoom (past : List Exchange) (v : NodeView D) : Type 0 where
    pub lives : (l : ℕ) → (k : LinkView) → slice_get v.links l ≡ Some k → lives_at v l ≡ opens_in ((past_of v.config past).links l).items
    pub running : v.failed ≡ false → RunningHasRoom v (past_of v.config past)
    pub failed : v.failed ≡ true → FailedHasRoom past v

module _ {D : Type 0} (says : Says D) where
  -- `HasRoom` follows from `LedgerTheoremFrom`, of whichever beginning
  abbrev pub TheoremGivesRoom : Type 0
  TheoremGivesRoom = (first : ℕ) (base : List ℕ) (past : List Exchange) (v : NodeView D) → LedgerTheoremFrom says first base past v → HasRoom past v
