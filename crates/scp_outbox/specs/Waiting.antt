-- What was given or sent and what waits, together; nothing here need be believed.
use Rattle.std.specs.Prelude.{◌≡◌, ℕ, List, [], ◌∷◌, ◌++◌, Some, None, All, Contains}
use Rattle.scp_wire.specs.Boxed.{Boxed}
use Rattle.scp_wire.specs.declared.message.Message.{Message}
use Rattle.scp_wire.specs.declared.message.Message.TheVariants.{Envelope}
use Rattle.scp_outbox.specs.declared.mark.Out.{Out}
use Rattle.scp_outbox.specs.declared.mark.Out.TheVariants as out
use Rattle.scp_outbox.specs.Outbox.{OutboxView, AreOneEach}
use Rattle.scp_outbox.specs.Sent.{statement_of, IsStep, AreNewer, AreSent}

-- The messages that were given had been handed out, and each statement is newer than all of its slot and kind before it. What
-- waits was handed out too, at most one statement of each slot and kind, and is newer than those that were given.
pub record Owes (handed : List Message) (messages : List Message) (o : OutboxView) : Type 0 where
  pub were_handed : All (Contains handed) messages
  pub newer : AreNewer messages
  pub ring : All (λ m. (statement_of m ≡ None) × Contains handed m) o.ring
  pub statements : All (λ (e : Boxed). Contains handed (Envelope e)) o.statements
  pub one_each : AreOneEach o.statements
  pub ahead : All (λ m. All (λ (e : Boxed). IsStep (statement_of m) (Some e.value.statement)) o.statements) messages

-- the messages that were given, with this one
abbrev pub and_given : List Message → Out → List Message
and_given messages (out.Mark mark) = messages
and_given messages (out.Message message) = messages ++ message ∷ []
and_given messages out.Nothing = messages

-- all that was sent to a link, and what waits for it, was handed out for it
pub record Sends (handed : List Message) (bytes : List (List ℕ)) (o : OutboxView) : Type 0 where
  pub sent : AreSent handed bytes
  pub waits : Owes handed sent.messages o
