-- What one outbox of a node is, and one put; nothing here need be believed.
use Rattle.std.specs.Prelude.{◌≡◌, ◌⊎◌, ℕ, true, List, [], Some, None, slice_get, slice_set}
use Rattle.scp_wire.specs.declared.message.Message.{Message}
use Rattle.scp_outbox.specs.Outbox.{OutboxView, Puts}

-- its link is live, and no mark waits
abbrev pub IsLive : OutboxView → Type 0
IsLive o = (o.live ≡ true) × (o.marks ≡ [])

-- a message is put into the outbox of a link that is there; the others stay
pub record PutsThere (old : List OutboxView) (link : ℕ) (message : Message) (new : List OutboxView) : Type 0 where
  pub before : OutboxView
  pub after' : OutboxView
  pub there : slice_get old link ≡ Some before
  pub puts : Puts before message after'
  pub is : new ≡ slice_set old link after'

-- the same; a message for a link that isn't there is dropped
abbrev pub PutsAt : List OutboxView → ℕ → Message → List OutboxView → Type 0
PutsAt old link message new = ((slice_get old link ≡ None) × (new ≡ old)) ⊎ PutsThere old link message new
