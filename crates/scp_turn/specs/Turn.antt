-- What the stages of a node do in a turn.
use Rattle.std.specs.Prelude.{ℕ, ◌≡◌, zero, suc, min, List, [], ◌∷◌, ◌++◌, map, length}
use Rattle.scp_core.specs.scp_types.specs.declared.limits.TheConstants.{LINK_LIMIT}
use Rattle.std.specs.List.{AllByRecursion}
use Rattle.scp_core.specs.scp_driver.specs.Driver.{Says}
use Rattle.scp_core.specs.declared.event.Event.{Event}
use Rattle.scp_core.specs.declared.event.Event.TheVariants as event
use Rattle.scp_core.specs.declared.event.Reply.{Reply}
use Rattle.scp_core.specs.declared.event.Reply.TheVariants as reply
use Rattle.scp_core.specs.History.{Exchange}
use Rattle.scp_core.specs.Node.{NodeView, Step}
use Rattle.scp_core.specs.Theorem.{LedgerTheorem}

module _ {D : Type 0} (says : Says D) where
  -- these exchanges are steps of a node, each from what the one before it left
  abbrev pub Does : NodeView D → List Exchange → NodeView D → Type 0
  Does old [] new = new ≡ old
  Does old (x ∷ heard) new = (mid : NodeView D) × Step says old x.0 x.1 mid × Does mid heard new

  -- A node heard more, of which this holds: steps, one after the other. The ledger theorem holds
  -- for what it heard before, followed by this, if it held before.
  pub record Goes (old new : NodeView D) (Is : NodeView D → List Exchange → NodeView D → Type 0) : Type 0 where
    pub heard : List Exchange
    pub is : Is old heard new
    pub does : Does old heard new
    pub theorem : (past : List Exchange) → LedgerTheorem says past old → LedgerTheorem says (past ++ heard) new

-- nothing moves with this reply, and nothing is sent
abbrev pub IsStillReply : Reply → Type 0
IsStillReply reply.Moved = ⊥
IsStillReply (reply.Sent bytes) = ⊥
IsStillReply reply = Unit {0}

-- nothing moved, and nothing was sent
abbrev pub IsStill : List Exchange → Type 0
IsStill heard = AllByRecursion (λ x. IsStillReply x.1) heard

-- the events of exchanges
abbrev pub events_of : List Exchange → List Event
events_of heard = map (λ x. x.0) heard

-- what the readers of this many links do in a turn
abbrev pub reader_events : ℕ → List Event
reader_events zero = []
reader_events (suc link) = reader_events link ++ event.ReaderTake link ∷ event.ReaderPut link ∷ []

-- what the stages of a node with this many links do in a turn: the reader of each link, and the stages after them
abbrev pub stage_events : ℕ → List Event
stage_events links = reader_events links ++ event.PendTake ∷ event.PendPut ∷ event.SlotTake ∷ event.SlotPut ∷ event.ApplyTake ∷ []

module _ {D : Type 0} where
  -- how many links a node has: one from each of its peers, of which there are at most a hundred
  abbrev pub links_of : NodeView D → ℕ
  links_of v = min (length v.config.peers) LINK_LIMIT

  -- a node's turn: its stages do one step each, a reader for each link
  abbrev pub IsTurn : NodeView D → List Exchange → NodeView D → Type 0
  IsTurn old heard new = events_of heard ≡ stage_events (links_of old)
