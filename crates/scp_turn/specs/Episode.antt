-- What comes of an event that a host gives to a node: the node comes to rest, and then all that waits for a peer goes out.
use Rattle.std.specs.Prelude.{ℕ, ◌≡◌, zero, suc, Bool, true, false, List, [], ◌∷◌, ◌++◌, replicate, flat_map, if◌then◌else◌}
use Rattle.std.specs.List.{AllByRecursion, list_any}
use Rattle.scp_core.specs.scp_driver.specs.Driver.{Says}
use Rattle.scp_core.specs.scp_outbox.specs.Handing.{waiting_at}
use Rattle.scp_core.specs.declared.event.Event.{Event}
use Rattle.scp_core.specs.declared.event.Event.TheVariants as event
use Rattle.scp_core.specs.declared.event.Reply.{Reply}
use Rattle.scp_core.specs.declared.event.Reply.TheVariants as reply
use Rattle.scp_core.specs.History.{Exchange}
use Rattle.scp_core.specs.Node.{NodeView, Step, accepts_at}
use Rattle.scp_turn.specs.Turn.{Does, events_of, links_of}
use Rattle.scp_turn.specs.Rest.{Rests}
use Rattle.scp_turn.specs.declared.sending.Sending.{Sending}

-- an event that a host gives: at the tail of a link, or a command; the others are steps of the node's stages
abbrev pub IsOfHost : Event → Type 0
IsOfHost (event.Open l) = Unit {0}
IsOfHost (event.Send l bytes) = Unit {0}
IsOfHost (event.Close l) = Unit {0}
IsOfHost (event.Local command) = Unit {0}
IsOfHost e = ⊥

module _ {D : Type 0} where
  -- how many messages go out over a link: all that wait in its outbox if the link is open and has room, else none
  abbrev pub leaving_at : NodeView D → ℕ → ℕ
  leaving_at v l = if accepts_at v l then waiting_at v.outboxes l else 0

  -- what goes out of a node over this many links: link by link, all that is leaving
  abbrev pub drains_of : NodeView D → ℕ → List Event
  drains_of v zero = []
  drains_of v (suc l) = drains_of v l ++ replicate (leaving_at v l) (event.Drain l)

-- a reply by which bytes went out
abbrev pub IsSentReply : Reply → Type 0
IsSentReply (reply.Sent bytes) = Unit {0}
IsSentReply other = ⊥

-- bytes went out by each of these
abbrev pub AreSent : List Exchange → Type 0
AreSent heard = AllByRecursion (λ x. IsSentReply x.1) heard

module _ {D : Type 0} (says : Says D) where
  -- The node came to rest, and then what was leaving went out, all of it.
  pub record Follows (old : NodeView D) (heard : List Exchange) (new : NodeView D) : Type 0 where
    pub calm : Bool  -- whether it came to rest within 100,000 turns
    pub rested : NodeView D
    pub turns : List Exchange
    pub drains : List Exchange
    pub split : heard ≡ turns ++ drains
    pub rests : Rests says calm old turns rested
    pub does : Does says rested drains new
    pub all : events_of drains ≡ drains_of rested (links_of rested)
    pub sent : AreSent drains

  -- all this follows after an event that was accepted, and nothing after one that was refused
  abbrev pub FollowsOn : Reply → NodeView D → List Exchange → NodeView D → Type 0
  FollowsOn reply.Accepted old heard new = Follows old heard new
  FollowsOn other old heard new = (heard ≡ []) × (new ≡ old)

  -- An episode of an event: its step, and what follows from it.
  pub record IsEpisode (event : Event) (reply : Reply) (old : NodeView D) (heard : List Exchange) (new : NodeView D) : Type 0 where
    pub stepped : NodeView D
    pub rest : List Exchange
    pub is : heard ≡ (event, reply) ∷ rest
    pub step : Step says old event reply stepped
    pub follows : FollowsOn reply stepped rest new

-- a step found the journal full, and failed the node
abbrev pub is_full_reply : Reply → Bool
is_full_reply reply.JournalFull = true
is_full_reply other = false

-- one of these steps found the journal full
abbrev pub finds_full : List Exchange → Bool
finds_full heard = list_any (λ (x : Exchange). is_full_reply x.1) heard

-- what an exchange sent, and over which link
abbrev pub sent_by : Event → Reply → List Sending
sent_by (event.Drain l) (reply.Sent bytes) = record { link = l; bytes = bytes } ∷ []
sent_by e r = []

-- all that was sent, in order, each with its link
abbrev pub sent_in : List Exchange → List Sending
sent_in heard = flat_map (λ (x : Exchange). sent_by x.0 x.1) heard
