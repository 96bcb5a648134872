-- Two runs of a node that receive the same events.
use Rattle.std.specs.Prelude.{◌≡◌, ℕ, false, List, [], ◌∷◌, ◌++◌}
use Rattle.scp_again.specs.scp_core.specs.declared.event.Event.{Event}
use Rattle.scp_again.specs.scp_core.specs.declared.event.Reply.{Reply}
use Rattle.scp_again.specs.scp_core.specs.History.{Exchange}
use Rattle.scp_again.specs.scp_core.specs.Kv.{NodeView, LedgerTheorem}
use Rattle.scp_again.specs.scp_core.specs.Same.{ShowSameNode}
use Rattle.scp_again.specs.Laws.{NeverGoesBack}
use Rattle.scp_turn.specs.Rest.{Then}
use Rattle.scp_turn.specs.Kv.{IsEpisode}

-- An episode that begins with this event, whatever its reply.
abbrev pub AnEpisode : Event → NodeView → List Exchange → NodeView → Type 0
AnEpisode event old heard new = (reply : Reply) × IsEpisode event reply old heard new

-- Episodes that begin with these events, one after the other.
abbrev pub AreEpisodes : List Event → NodeView → List Exchange → NodeView → Type 0
AreEpisodes [] old heard new = (heard ≡ []) × (new ≡ old)
AreEpisodes (event ∷ events) old heard new = Then (AnEpisode event) (AreEpisodes events) old heard new

-- Take two runs of a node with the same configuration, each from the newly made node on, with episodes of the same events. If neither
-- run leaves the node failed, both have the same exchanges and leave nodes that show the same.
abbrev pub SameEventsSameEpisodes : Type 0
SameEventsSameEpisodes =
    (events : List Event) (a b v w : NodeView) (x y : List Exchange) → LedgerTheorem [] a → LedgerTheorem [] b → a.config ≡ b.config → AreEpisodes events a x v → AreEpisodes events b y w → v.failed ≡ false → w.failed ≡ false → (x ≡ y) × ShowSameNode v w

-- A later run received and replied all that an earlier one did, and then more. The ledger theorem holds of all of it. Over no link it goes
-- back: not by what was sent, nor by what the earlier run would send once more at its end, and the later one at its own.
pub record GoesOn (earlier later : List Exchange) (old new : NodeView) : Type 0 where
  pub more : List Exchange
  pub is : later ≡ earlier ++ more
  pub theorem : LedgerTheorem later new
  pub never_back : (link : ℕ) → NeverGoesBack link earlier more old new

-- Take two runs of a node with the same configuration, each from the newly made node on. The later one has episodes of the events of the
-- earlier one, and then of more events. If neither run leaves the node failed, the later one goes on from where the earlier one ended.
abbrev pub FurtherEventsGoOn : Type 0
FurtherEventsGoOn =
    (events more : List Event) (a b v w : NodeView) (x y : List Exchange) → LedgerTheorem [] a → LedgerTheorem [] b → a.config ≡ b.config → AreEpisodes events a x v → AreEpisodes (events ++ more) b y w → v.failed ≡ false → w.failed ≡ false → GoesOn x y v w
