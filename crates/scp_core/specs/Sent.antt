-- What was sent to the peer of each link, and what it rests on (this project's profile).
use Rattle.std.specs.Prelude.{ℕ, List, [], ◌∷◌, flat_map, nat_eq, if◌then◌else◌}
use Rattle.scp_theorem.specs.scp_wire.specs.declared.link.Inbound.{Inbound}
use Rattle.scp_theorem.specs.Grounds.{Who, Grounds}
use Rattle.scp_core.specs.declared.config.Config.{Config}
use Rattle.scp_core.specs.declared.event.Event.{Event}
use Rattle.scp_core.specs.declared.event.Event.TheVariants.{Drain}
use Rattle.scp_core.specs.declared.event.Reply.{Reply}
use Rattle.scp_core.specs.declared.event.Reply.TheVariants as reply
use Rattle.scp_core.specs.History.{Exchange}
use Rattle.scp_core.specs.Node.{NodeView}

-- what an event with its reply sent over the link: the bytes of a drain that was answered by Sent
abbrev pub sent_by : ℕ → Event → Reply → List (List ℕ)
sent_by link (Drain l) (reply.Sent bytes) = if nat_eq l link then bytes ∷ [] else []
sent_by link event reply = []

-- all that was sent to the peer of a link, in order
abbrev pub sent_to : ℕ → List Exchange → List (List ℕ)
sent_to link past = flat_map (λ (x : Exchange). sent_by link x.0 x.1) past

-- who a node of this configuration is
abbrev pub who_of : Config → Who
who_of c = record { me = c.me; peers = c.peers; set = c.set }

module _ {D : Type 0} where
  -- who the node is, what its pending stage took, and what its slot stage and its applier made of that
  abbrev pub grounds_of : NodeView D → List Inbound → Grounds
  grounds_of v taken = record { who = who_of v.config; taken = taken; journal = v.ledger.journal; decisions = v.ledger.decisions; applied = v.applier.applied }
