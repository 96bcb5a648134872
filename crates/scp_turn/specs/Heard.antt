-- What several nodes hear, one event after the other.
use Rattle.std.specs.Prelude.{ℕ, ◌+◌, ◌<◌, ◌≡◌, List, zero, suc, [], ◌∷◌, ◌++◌, Some, length, flat_map, get_or, nat_eq, slice_get, slice_set, if◌then◌else◌}
use Rattle.scp_core.specs.declared.event.Event.{Event}
use Rattle.scp_core.specs.declared.event.Reply.{Reply}
use Rattle.scp_core.specs.History.{Exchange}
use Rattle.scp_core.specs.Kv.{NodeView, Step, LedgerTheorem}
use Rattle.scp_turn.specs.Kv.{Noting}

-- the nodes, node 1 first
abbrev pub Nodes : Type 0
Nodes = List NodeView

-- what one node heard, and answered
pub record Heard : Type 0 where
  pub node : ℕ  -- its number, from 1 on
  pub event : Event
  pub reply : Reply

-- one node did one step, and the others did nothing
pub record IsHeard (old : Nodes) (h : Heard) (new : Nodes) : Type 0 where
  pub place : ℕ
  pub number : h.node ≡ place + 1
  pub before : NodeView
  pub was : slice_get old place ≡ Some before
  pub after' : NodeView
  pub step : Step before h.event h.reply after'
  pub is : new ≡ slice_set old place after'

-- the exchange, if it is of the node of this number
abbrev pub exchange_at : ℕ → Heard → List Exchange
exchange_at number h = if nat_eq h.node number then (h.event, h.reply) ∷ [] else []

-- what the node of this number heard
abbrev pub past_at : ℕ → List Heard → List Exchange
past_at number heard = flat_map (exchange_at number) heard

-- the ledger theorem holds of each node, for what it heard
abbrev pub HaveHeard : List Heard → Nodes → Type 0
HaveHeard heard nodes = (i : ℕ) → (d : NodeView) → i < length nodes → LedgerTheorem (past_at (i + 1) heard) (get_or nodes i d)

-- first this was heard, and then that
pub record Then (First Next : Nodes → List Heard → Nodes → Type 0) (old : Nodes) (heard : List Heard) (new : Nodes) : Type 0 where
  pub mid : Nodes
  pub first : List Heard
  pub rest : List Heard
  pub split : heard ≡ first ++ rest
  pub one : First old first mid
  pub two : Next mid rest new

-- nothing was heard
abbrev pub IsNothing : Nodes → List Heard → Nodes → Type 0
IsNothing old heard new = (heard ≡ []) × (new ≡ old)

-- one event was heard
abbrev pub IsOne : Heard → Nodes → List Heard → Nodes → Type 0
IsOne h old heard new = (heard ≡ h ∷ []) × IsHeard old h new

-- this holds for 1, 2, .. up to a number, one after the other
abbrev pub InOrder : (ℕ → Nodes → List Heard → Nodes → Type 0) → ℕ → Nodes → List Heard → Nodes → Type 0
InOrder Is zero old heard new = IsNothing old heard new
InOrder Is (suc n) old heard new = Then (InOrder Is n) (Is (suc n)) old heard new

-- both hold of what was heard
abbrev pub With : (Nodes → List Heard → Nodes → Type 0) → (Nodes → List Heard → Nodes → Type 0) → Nodes → List Heard → Nodes → Type 0
With Also Is old heard new = Is old heard new × Also old heard new

-- nothing more is claimed
abbrev pub Anything : Nodes → List Heard → Nodes → Type 0
Anything old heard new = Unit {0}

-- a watch noted each step, in order, with the nodes as they were in between
abbrev pub Noted : {W : Type 0} → Noting W → W → W → Nodes → List Heard → Nodes → Type 0
Noted {W} Note w z old [] new = (new ≡ old) × (z ≡ w)
Noted {W} Note w z old (h ∷ heard) new = (mid : Nodes) × (v : W) × (s : IsHeard old h mid) × Note w h.node h.event h.reply s.before s.after' v × Noted Note v z mid heard new
