-- Laws of puts and gives.
use Rattle.std.specs.Prelude.{◌≡◌, ◌⊎◌, ℕ, ◌+◌, true, List, [], length, Contains}
use Rattle.scp_wire.specs.Boxed.{Boxed}
use Rattle.scp_wire.specs.declared.message.Message.{Message}
use Rattle.scp_wire.specs.declared.message.Message.TheVariants.{Envelope}
use Rattle.scp_outbox.specs.declared.mark.Out.{Out}
use Rattle.scp_outbox.specs.declared.mark.Out.TheVariants.{Nothing}
use Rattle.scp_wire.specs.Fitting.{IsFitting}
use Rattle.scp_outbox.specs.Outbox.{OutboxView, Puts, Gives, IfMessage, IsOutbox, AreOneEach, Takes}

-- the message waits: among the requests and answers, or as a statement
abbrev pub Waits : OutboxView → Message → Type 0
Waits v message = Contains v.ring message ⊎ ((envelope : Boxed) × (message ≡ Envelope envelope) × Contains v.statements envelope)

-- what waits after a put waited before, or was put
abbrev pub PutsAddTheMessage : Type 0
PutsAddTheMessage = (old : OutboxView) (put : Message) (new : OutboxView) → Puts old put new → (message : Message) → Waits new message → Waits old message ⊎ (message ≡ put)

-- a message that is given waited
abbrev pub GivesAreOfWhatWaits : Type 0
GivesAreOfWhatWaits = (old : OutboxView) (result : Out) (new : OutboxView) → Gives old result new → IfMessage result (Waits old)

-- what waits after something was given waited before
abbrev pub GivesAddNothing : Type 0
GivesAddNothing = (old : OutboxView) (result : Out) (new : OutboxView) → Gives old result new → (message : Message) → Waits new message → Waits old message

-- whatever statement comes, at most one of each slot and kind waits
abbrev pub StatementsKeepOneEach : Type 0
StatementsKeepOneEach = (old : List Boxed) (e : Boxed) (new : List Boxed) (lost : ℕ) → AreOneEach old → Takes old e new lost → AreOneEach new

-- a put of what fits keeps the limits, and one statement of each slot and kind
abbrev pub PutsKeepOneEach : Type 0
PutsKeepOneEach = (old : OutboxView) (put : Message) (new : OutboxView) → IsOutbox old → IsFitting put → Puts old put new → IsOutbox new

-- so does giving, and a message that is given fits
abbrev pub GivesKeepOneEach : Type 0
GivesKeepOneEach = (old : OutboxView) (result : Out) (new : OutboxView) → IsOutbox old → Gives old result new → IsOutbox new × IfMessage result IsFitting

-- how much waits
abbrev pub waiting : OutboxView → ℕ
waiting v = length v.marks + (length v.ring + length v.statements)

-- one item less waits than before; or nothing was given, and nothing changed
abbrev pub GivesTakeOne : Type 0
GivesTakeOne = (old : OutboxView) (result : Out) (new : OutboxView) → Gives old result new → (waiting old ≡ waiting new + 1) ⊎ ((result ≡ Nothing) × (new ≡ old))

-- a message is given only if the link is live and no mark waits
abbrev pub GivesMessagesWhileLive : Type 0
GivesMessagesWhileLive = (old : OutboxView) (result : Out) (new : OutboxView) → Gives old result new → IfMessage result (λ _. (old.live ≡ true) × (old.marks ≡ []))
