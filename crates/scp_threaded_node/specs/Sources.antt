-- What a node is started with.
use Rattle.std.specs.Prelude.{◌≡◌, ℕ, Bool, List, [], Option, Some, None, is_none}
use Rattle.scp_gather.specs.scp_shared_outbox.specs.Ends.{TakerView}
use Rattle.scp_threaded_node.specs.declared.node.Source.{Source}
use Rattle.scp_threaded_node.specs.Seats.{Each}

-- on each link that the host drives there is no courier, and on each other link there is one
abbrev pub AreSources : (ℕ → Bool) → List (Option Source) → Type 0
AreSources driven sources = Each (λ i source. is_none source ≡ driven i) sources

-- the courier's outbox end has given nothing yet
abbrev pub IsFresh : Option Source → Type 0
IsFresh None = Unit {0}
IsFresh (Some source) = source.taker.gave ≡ []

-- the same for each link
abbrev pub AreFresh : List (Option Source) → Type 0
AreFresh sources = Each (λ i source. IsFresh source) sources

-- the outbox end that a courier is given; none if the host sends on the link
abbrev pub taker_from : Option Source → Option TakerView
taker_from None = None
taker_from (Some source) = Some source.taker
