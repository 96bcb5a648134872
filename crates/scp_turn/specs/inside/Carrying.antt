-- What the nodes heard more, while something was done.
-- No public clause reaches these definitions: nothing here need be believed.
use Rattle.std.specs.Prelude.{ℕ, ◌≡◌, ◌⊎◌, ◌↔◌, Bool, true, false, List, Some, slice_get}
use Rattle.scp_core.specs.Node.{accepts_at}
use Rattle.scp_core.specs.Kv.{NodeView}
use Rattle.scp_turn.specs.Heard.{Nodes, Heard, With}
use Rattle.scp_turn.specs.Rounds.{IsStill, IsDry, IsSent}
use Rattle.scp_turn.specs.Network.{Hear}

-- more was heard, of which both of these hold; `moved` is false exactly if nothing moved and nothing was sent
abbrev pub Acts : (Nodes → List Heard → Nodes → Type 0) → Nodes → Nodes → (Nodes → List Heard → Nodes → Type 0) → Bool → Type 0
Acts Also old new Is moved = Hear old new (With Also (λ a heard b. Is a heard b × ((moved ≡ false) ↔ IsStill heard)))

-- the node at a place accepts what is sent on a link
abbrev pub AcceptsAt : Nodes → ℕ → ℕ → Type 0
AcceptsAt nodes place link = (node : NodeView) × (slice_get nodes place ≡ Some node) × (accepts_at node link ≡ true)

abbrev pub Transmits : ℕ → ℕ → Nodes → List Heard → Nodes → Type 0
Transmits from to old heard new = IsDry from to old heard new ⊎ IsSent from to old heard new
