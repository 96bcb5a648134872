-- What stays true, whatever is put and given.
use Rattle.std.specs.Prelude.{◌≡◌, ℕ, List, [], ◌∷◌, ◌++◌, All}
use Rattle.scp_wire.specs.Message.{message_value, SpellsMessage}
use Rattle.scp_wire.specs.declared.message.Message.{Message}
use Rattle.scp_outbox.specs.Outbox.{OutboxView, Puts, Gives}
use Rattle.scp_outbox.specs.declared.mark.Mark.{Mark}
use Rattle.scp_outbox.specs.declared.mark.Out.{Out}
use Rattle.scp_outbox.specs.declared.mark.Out.TheVariants as out
use Rattle.scp_outbox.specs.Handing.{PutsAll, HandsOut, empty_outbox}
use Rattle.scp_outbox.specs.Sent.{statement_of, IsStep, AreNewer, AreSent}
use Rattle.scp_outbox.specs.Waiting.{Owes, and_given, Sends}

-- it holds at first: nothing was handed out, nothing was given, and nothing waits
abbrev pub EmptyOwes : Type 0
EmptyOwes = (o : OutboxView) → o.ring ≡ [] → o.statements ≡ [] → Owes [] [] o

-- it stays true when one more message is handed out and put, and its statement is newer than all of its slot and kind before it
abbrev pub PutsKeepOwes : Type 0
PutsKeepOwes = (handed messages : List Message) (old : OutboxView) (put : Message) (new : OutboxView) → All (λ m. IsStep (statement_of m) (statement_of put)) handed → Puts old put new → Owes handed messages old → Owes (handed ++ put ∷ []) messages new

-- it stays true when the next is given
abbrev pub GivesKeepOwes : Type 0
GivesKeepOwes = (handed messages : List Message) (old : OutboxView) (result : Out) (new : OutboxView) → Gives old result new → Owes handed messages old → Owes handed (and_given messages result) new

-- it stays true when one more mark waits
abbrev pub MarksKeepOwes : Type 0
MarksKeepOwes = (handed messages : List Message) (old : OutboxView) (mark : Mark) → Owes handed messages old → Owes handed messages (record old { marks = old.marks ++ mark ∷ [] })

-- it holds at first: nothing was handed out, nothing was sent, and nothing waits
abbrev pub EmptySends : Type 0
EmptySends = Sends [] [] empty_outbox

-- it stays true when more is handed out and put, and each statement is newer than all of its slot and kind before it
abbrev pub PutsKeepSends : Type 0
PutsKeepSends = (handed more : List Message) (sent : List (List ℕ)) (old new : OutboxView) → AreNewer (handed ++ more) → PutsAll old more new → Sends handed sent old → Sends (handed ++ more) sent new

-- it stays true when the next is sent
abbrev pub GivesKeepSends : Type 0
GivesKeepSends = (handed : List Message) (sent : List (List ℕ)) (old new : OutboxView) (message : Message) (bytes : List ℕ) → Gives old (out.Message message) new → SpellsMessage bytes (message_value message) → Sends handed sent old → Sends handed (sent ++ bytes ∷ []) new

-- it stays true when a mark is given, or one more mark waits
abbrev pub MarksKeepSends : Type 0
MarksKeepSends = (handed : List Message) (sent : List (List ℕ)) (old : OutboxView) (mark : Mark) → Sends handed sent old → ((new : OutboxView) → Gives old (out.Mark mark) new → Sends handed sent new) × Sends handed sent (record old { marks = old.marks ++ mark ∷ [] })

-- so all that was sent was handed out, and each statement is newer than those of its slot and kind sent before
abbrev pub SendsAreSent : Type 0
SendsAreSent = (handed : List Message) (sent : List (List ℕ)) (o : OutboxView) → Sends handed sent o → AreSent handed sent

-- if nothing is handed out, nothing changes
abbrev pub NothingChangesNothing : Type 0
NothingChangesNothing = (outboxes : List OutboxView) → HandsOut outboxes (λ link. []) outboxes

-- what is handed out in two turns is handed out as one list, one after the other
abbrev pub TurnsAddUp : Type 0
TurnsAddUp = (first second : ℕ → List Message) (old between new : List OutboxView) → HandsOut old first between → HandsOut between second new → HandsOut old (λ link. first link ++ second link) new
