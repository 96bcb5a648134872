-- What follows if something is what an outbox gives.
use Rattle.std.specs.Prelude.{◌≡◌, ◌≢◌, ℕ, List, [], ◌∷◌, ◌++◌, None, All, Contains}
use Rattle.scp_outbox.specs.scp_wire.specs.declared.message.Message.{Message}
use Rattle.scp_outbox.specs.declared.mark.Mark.{Mark}
use Rattle.scp_outbox.specs.declared.mark.Out.{Out}
use Rattle.scp_outbox.specs.declared.mark.Out.TheVariants as out
use Rattle.scp_outbox.specs.Outbox.{OutboxView}
use Rattle.scp_outbox.specs.Sent.{statement_of, AreNewer}
use Rattle.scp_shared_outbox.specs.Turns.{IsOutOf}

-- each message that was given was put by a producer
abbrev pub GivenWasPut : Type 0
GivenWasPut = (puts : ℕ → List Message) (marks : List Mark) (gave : List Out) (left : OutboxView) → IsOutOf puts marks gave left → (message : Message) → Contains gave (out.Message message) → (p : ℕ) × Contains (puts p) message

-- the marks among what was given
abbrev pub marks_of : List Out → List Mark
marks_of [] = []
marks_of (out.Mark mark ∷ rest) = mark ∷ marks_of rest
marks_of (out.Message message ∷ rest) = marks_of rest
marks_of (out.Nothing ∷ rest) = marks_of rest

-- the marks that were given are the first that were left, in their order
abbrev pub MarksComeInOrder : Type 0
MarksComeInOrder = (puts : ℕ → List Message) (marks : List Mark) (gave : List Out) (left : OutboxView) → IsOutOf puts marks gave left → (rest : List Mark) × (marks ≡ marks_of gave ++ rest)

-- the messages among what was given
abbrev pub messages_of : List Out → List Message
messages_of [] = []
messages_of (out.Mark mark ∷ rest) = messages_of rest
messages_of (out.Message message ∷ rest) = message ∷ messages_of rest
messages_of (out.Nothing ∷ rest) = messages_of rest

-- if only one producer puts statements, each newer than those of its slot and kind before it, those that are given are so too
abbrev pub StatementsGoInOrder : Type 0
StatementsGoInOrder = (puts : ℕ → List Message) (marks : List Mark) (gave : List Out) (left : OutboxView) → IsOutOf puts marks gave left → (sayer : ℕ) → AreNewer (puts sayer) → ((p : ℕ) → p ≢ sayer → All (λ m. statement_of m ≡ None) (puts p)) → AreNewer (messages_of gave)
