-- What an outbox gives, from what its producers put and what is marked.
use Rattle.std.specs.Prelude.{◌≡◌, ℕ, ◌==◌, if◌then◌else◌, false, List, [], ◌∷◌, ◌++◌}
use Rattle.scp_outbox.specs.scp_wire.specs.declared.message.Message.{Message}
use Rattle.scp_outbox.specs.declared.mark.Mark.{Mark}
use Rattle.scp_outbox.specs.declared.mark.Out.{Out}
use Rattle.scp_outbox.specs.Outbox.{OutboxView}
use Rattle.scp_outbox.specs.Outbox as outbox
use Rattle.scp_shared_outbox.specs.declared.turn.Turn.{Turn}
use Rattle.scp_shared_outbox.specs.declared.turn.Turn.TheVariants.{Puts, Marks, Gives}

-- a new outbox: not live, and nothing waits
abbrev pub unused : OutboxView
unused = record { live = false; marks = []; ring = []; statements = []; overwritten = 0 }

-- the outbox is like this after these turns, the latest first
abbrev pub Stands : List Turn → OutboxView → Type 0
Stands [] new = new ≡ unused
Stands (Puts p message ∷ turns) new = (old : OutboxView) × Stands turns old × outbox.Puts old message new
Stands (Marks mark ∷ turns) new = (old : OutboxView) × Stands turns old × (new ≡ record old { marks = old.marks ++ mark ∷ [] })
Stands (Gives out ∷ turns) new = (old : OutboxView) × Stands turns old × outbox.Gives old out new

-- what the producer with this number put, oldest first
abbrev pub put_by : ℕ → List Turn → List Message
put_by p [] = []
put_by p (Puts n message ∷ turns) = if n == p then put_by p turns ++ message ∷ [] else put_by p turns
put_by p (Marks mark ∷ turns) = put_by p turns
put_by p (Gives out ∷ turns) = put_by p turns

-- what was marked, oldest first
abbrev pub marked : List Turn → List Mark
marked [] = []
marked (Puts p message ∷ turns) = marked turns
marked (Marks mark ∷ turns) = marked turns ++ mark ∷ []
marked (Gives out ∷ turns) = marked turns

-- what was given, oldest first
abbrev pub given : List Turn → List Out
given [] = []
given (Puts p message ∷ turns) = given turns
given (Marks mark ∷ turns) = given turns
given (Gives out ∷ turns) = given turns ++ out ∷ []

-- in some single order of what the producers put, what was marked and what was given, one outbox gives this, and this is left
pub record IsOutOf (puts : ℕ → List Message) (marks : List Mark) (gave : List Out) (left : OutboxView) : Type 0 where
  pub turns : List Turn
  pub stands : Stands turns left
  pub each : (p : ℕ) → put_by p turns ≡ puts p
  pub marked_is : marked turns ≡ marks
  pub gave_is : given turns ≡ gave
