-- What the nodes heard more, while something was done.
use Rattle.std.specs.Prelude.{ℕ, ◌≡◌, ◌⊎◌, ◌<◌, Bool, true, false, List, ◌++◌, Option, Some, None, Result, Ok, Err, length, slice_set, replicate, ◌&&◌, nat_le, if◌then◌else◌}
use Rattle.scp_core.specs.scp_types.specs.declared.limits.TheConstants.{NETWORK_LIMIT}
use Rattle.scp_core.specs.declared.event.Event.{Event}
use Rattle.scp_core.specs.declared.event.Reply.{Reply}
use Rattle.scp_turn.specs.declared.network.TheConstants.{PLACES}
use Rattle.scp_turn.specs.Heard.{Nodes, Heard, HaveHeard, IsOne, With}
use Rattle.scp_turn.specs.Rounds.{RestsAs, Breaks, AllRun, place_of}

-- More was heard, of which this holds. The ledger theorem holds for what was heard before, followed by this, if it held before.
pub record Hear (old new : Nodes) (Is : Nodes → List Heard → Nodes → Type 0) : Type 0 where
  pub heard : List Heard
  pub is : Is old heard new
  pub count : length new ≡ length old
  pub have : (past : List Heard) → HaveHeard past old → HaveHeard (past ++ heard) new

-- the node of this number did one step, of which this holds also
abbrev pub IsAnswered : (Nodes → List Heard → Nodes → Type 0) → Nodes → ℕ → Event → Reply → Nodes → Type 0
IsAnswered Also old number event reply new = Hear old new (With Also (IsOne (record { node = number; event = event; reply = reply })))

-- the nodes came to rest, or went on to the last round, and none failed; or one failed; and this also holds of what was heard
abbrev pub Settled : (Nodes → List Heard → Nodes → Type 0) → List Bool → Nodes → Result Bool ℕ → Nodes → Type 0
Settled Also driven old (Ok calm) new = Hear old new (With Also (RestsAs driven (length old) calm)) × AllRun new
Settled Also driven old (Err number) new = Hear old new (With Also (Breaks driven (length old) number))

-- what contracts see of a network: its nodes, and the links that are driven
pub record NetworkView : Type 0 where
  pub nodes : Nodes
  pub driven : List Bool  -- by place_of: whether the caller alone sends on that link

-- an event was offered to the node of this number, and this also holds of its step; nothing is returned if the node isn't there
abbrev pub Offered : (Nodes → List Heard → Nodes → Type 0) → NetworkView → ℕ → Event → Option Reply → NetworkView → Type 0
Offered Also old number event (Some reply) new = IsAnswered Also old.nodes number event reply new.nodes × (new.driven ≡ old.driven)
Offered Also old number event None new = ((number ≡ 0) ⊎ (length old.nodes < number)) × (new ≡ old)

-- a node of this number can be there: it is from 1 to 101
abbrev pub is_number : ℕ → Bool
is_number number = nat_le 1 number && nat_le number NETWORK_LIMIT

-- no link is driven
abbrev pub none_driven : List Bool
none_driven = replicate PLACES false

-- one more link is driven, if both nodes can be there
abbrev pub driven_more : List Bool → ℕ → ℕ → List Bool
driven_more driven from to = if is_number from && is_number to then slice_set driven (place_of from to) true else driven

-- from now on only the caller sends on the link from one node to another
abbrev pub Drives : NetworkView → ℕ → ℕ → NetworkView → Type 0
Drives old from to new = (new.nodes ≡ old.nodes) × (new.driven ≡ driven_more old.driven from to)
