-- What is handed out for links, and how it reaches their outboxes (this project's profile).
use Rattle.std.specs.Prelude.{◌≡◌, ◌⊎◌, ℕ, ◌+◌, true, List, [], ◌∷◌, length, Option, Some, None, nat_eq, if◌then◌else◌, slice_get, slice_set}
use Rattle.scp_wire.specs.declared.message.Message.{Message}
use Rattle.scp_outbox.specs.declared.mark.Out.TheVariants as out
use Rattle.scp_wire.specs.Fitting.{IsFitting}
use Rattle.scp_outbox.specs.Outbox.{OutboxView, Puts, Gives}

-- an outbox of a live link in which nothing waits, and from which nothing was lost
abbrev pub empty_outbox : OutboxView
empty_outbox = record { live = true; marks = []; ring = []; statements = []; overwritten = 0 }

-- how many messages wait for a link; 0 for a link that isn't there
abbrev pub waiting_in : Option OutboxView → ℕ
waiting_in None = 0
waiting_in (Some o) = length o.ring + length o.statements

-- how many messages wait for the link with this number; 0 if there is none
abbrev pub waiting_at : List OutboxView → ℕ → ℕ
waiting_at outboxes link = waiting_in (slice_get outboxes link)

-- how many statements for a link were lost; 0 for a link that isn't there
abbrev pub overwritten_in : Option OutboxView → ℕ
overwritten_in None = 0
overwritten_in (Some o) = o.overwritten

-- how many statements for the link with this number were lost; 0 if there is none
abbrev pub overwritten_at : List OutboxView → ℕ → ℕ
overwritten_at outboxes link = overwritten_in (slice_get outboxes link)

-- each of these messages fits a link, and is put, in order
abbrev pub PutsAll : OutboxView → List Message → OutboxView → Type 0
PutsAll old [] new = new ≡ old
PutsAll old (message ∷ messages) new = (next : OutboxView) × IsFitting message × Puts old message next × PutsAll next messages new

-- all that is handed out for a link is put into that link's outbox, in order; what is for a link that isn't there is dropped
pub record HandsOut (old : List OutboxView) (handed : ℕ → List Message) (new : List OutboxView) : Type 0 where
  pub count : length new ≡ length old
  pub puts : (link : ℕ) → (before : OutboxView) → slice_get old link ≡ Some before → (after' : OutboxView) × (slice_get new link ≡ Some after') × PutsAll before (handed link) after'

-- a message for one link
abbrev pub to_link : ℕ → Message → ℕ → List Message
to_link link message l = if nat_eq l link then message ∷ [] else []

-- a message for each link
abbrev pub to_each : Message → ℕ → List Message
to_each message l = message ∷ []

-- what an outbox in which no mark waits gives next: a message; or nothing, and then nothing changes
abbrev pub GivesNext : OutboxView → Option Message → OutboxView → Type 0
GivesNext old None new = Gives old out.Nothing old × (new ≡ old)
GivesNext old (Some message) new = Gives old (out.Message message) new

-- the outbox of a link gives what is next there; the others stay
pub record GivesThere (old : List OutboxView) (link : ℕ) (result : Option Message) (new : List OutboxView) : Type 0 where
  pub before : OutboxView
  pub after' : OutboxView
  pub there : slice_get old link ≡ Some before
  pub gives : GivesNext before result after'
  pub is : new ≡ slice_set old link after'

-- the same, and a link that isn't there gives nothing
abbrev pub GivesAt : List OutboxView → ℕ → Option Message → List OutboxView → Type 0
GivesAt old link result new = ((slice_get old link ≡ None) × (result ≡ None) × (new ≡ old)) ⊎ GivesThere old link result new
