-- What waits for one peer, and how it changes (this project's profile).
use Rattle.std.specs.Prelude.{◌≡◌, ◌≤◌, ℕ, Bool, true, false, ◌&&◌, List, [], ◌∷◌, ◌++◌, length, Some, MatchOption, nat_eq, if◌then◌else◌, not, position, slice_get, slice_set, All, AllPairs, ◌⊎◌, ◌+◌, ◌-◌, ◌^◌, min}
use Rattle.scp_outbox.specs.declared.outbox.TheConstants.{MARK_LIMIT, WAITING_LIMIT}
pub use Rattle.circular_buffer.specs.Buffer.{keep_last}
use Rattle.scp_wire.specs.scp_envelope.specs.declared.statement.Pledges.{Pledges}
use Rattle.scp_wire.specs.scp_envelope.specs.declared.statement.Pledges.TheVariants.{Prepare, Confirm, Externalize, Nominate}
use Rattle.scp_wire.specs.scp_envelope.specs.declared.statement.Statement.{Statement}
use Rattle.scp_wire.specs.scp_envelope.specs.Newer.{IsNewer}
use Rattle.scp_wire.specs.Boxed.{Boxed}
use Rattle.scp_wire.specs.declared.message.Message.{Message}
use Rattle.scp_wire.specs.declared.message.Message.TheVariants.{Envelope, GetSet, Set, NoSet, GetRecord, Record, Records}
use Rattle.scp_wire.specs.Fitting.{IsFitting}
use Rattle.scp_outbox.specs.declared.mark.Mark.{Mark}
use Rattle.scp_outbox.specs.declared.mark.Mark.TheVariants.{Opened, Closed, Stop}
use Rattle.scp_outbox.specs.declared.mark.Out.{Out}
use Rattle.scp_outbox.specs.declared.mark.Out.TheVariants as out

-- what waits, each list in the order in which it is given
pub record OutboxView : Type 0 where
  pub live : Bool  -- messages may be given
  pub marks : List Mark
  pub ring : List Message  -- requests and answers
  pub statements : List Boxed
  pub overwritten : ℕ  -- how many statements were lost before they were given

-- whether it is a nomination, and not a ballot statement
abbrev pub is_nomination : Pledges → Bool
is_nomination (Prepare p) = false
is_nomination (Confirm p) = false
is_nomination (Externalize p) = false
is_nomination (Nominate p) = true

-- both are true, or both are false
abbrev pub same_bool : Bool → Bool → Bool
same_bool a b = if a then b else not b

-- both are about one slot and of one kind
abbrev pub are_alike : Statement → Statement → Bool
are_alike s t = nat_eq s.slot.0 t.slot.0 && same_bool (is_nomination s.pledges) (is_nomination t.pledges)

-- the statement at this place is replaced, and so lost, if the one that comes is newer; else nothing is lost
abbrev pub Replaces : List Boxed → ℕ → Boxed → List Boxed → ℕ → Type 0
Replaces old place came new lost = (held : Boxed) × (slice_get old place ≡ Some held)
    × ((IsNewer held.value.statement came.value.statement × (new ≡ slice_set old place came) × (lost ≡ 1))
    ⊎ ((¬ (IsNewer held.value.statement came.value.statement)) × (new ≡ old) × (lost ≡ 0)))

-- the statement goes last; if there are then over 64, the first is lost
abbrev pub GoesLast : List Boxed → Boxed → List Boxed → ℕ → Type 0
GoesLast old came new lost = (new ≡ keep_last WAITING_LIMIT (old ++ came ∷ [])) × (lost ≡ length (old ++ came ∷ []) - WAITING_LIMIT)

-- A statement comes. If one of its slot and kind waits, it keeps the place; else the new one goes last, and over 64 the first
-- is lost. Also how many of those that waited are lost: one or none.
abbrev pub Takes : List Boxed → Boxed → List Boxed → ℕ → Type 0
Takes old came new lost = MatchOption (position (λ held. are_alike held.value.statement came.value.statement) old)
    (GoesLast old came new lost)
    (λ place. Replaces old place came new lost)

-- the count with this many more lost; it stays at the greatest 64-bit number
abbrev pub counted : ℕ → ℕ → ℕ
counted overwritten lost = min (overwritten + lost) (2 ^ 64 - 1)

-- another message goes last in the ring, and over 64 the first is overwritten
abbrev pub RingTakes : OutboxView → Message → OutboxView → Type 0
RingTakes old message new = new ≡ record old { ring = keep_last WAITING_LIMIT (old.ring ++ message ∷ []) }

-- a statement goes among the statements, and what is lost by that is counted
abbrev pub StatementsTake : OutboxView → Boxed → OutboxView → Type 0
StatementsTake old envelope new = (statements : List Boxed) × (lost : ℕ) × Takes old.statements envelope statements lost
    × (new ≡ record old { statements = statements; overwritten = counted old.overwritten lost })

-- a message comes
abbrev pub Puts : OutboxView → Message → OutboxView → Type 0
Puts old (Envelope envelope) new = StatementsTake old envelope new
Puts old (GetSet hash) new = RingTakes old (GetSet hash) new
Puts old (Set set) new = RingTakes old (Set set) new
Puts old (NoSet hash) new = RingTakes old (NoSet hash) new
Puts old (GetRecord slot) new = RingTakes old (GetRecord slot) new
Puts old (Record slot value) new = RingTakes old (Record slot value) new
Puts old (Records first values) new = RingTakes old (Records first values) new

-- whether messages may be given once the mark was given
abbrev pub live_after : Mark → Bool → Bool
live_after Opened live = true
live_after Closed live = false
live_after Stop live = live

-- what is given and what is left, if no mark and no request or answer waits and the link is live: the first statement is given
abbrev pub given_statements : OutboxView → List Boxed → Out × OutboxView
given_statements v [] = (out.Nothing, v)
given_statements v (envelope ∷ rest) = (out.Message (Envelope envelope), record v { statements = rest })

-- the same if no mark waits and the link is live: the oldest request or answer is given first
abbrev pub given_messages : OutboxView → List Message → Out × OutboxView
given_messages v [] = given_statements v v.statements
given_messages v (message ∷ rest) = (out.Message message, record v { ring = rest })

-- the same if no mark waits: messages are given only if the link is live
abbrev pub given_live : OutboxView → Bool → Out × OutboxView
given_live v true = given_messages v v.ring
given_live v false = (out.Nothing, v)

-- the same in any case: marks are given before all else
abbrev pub given_from : OutboxView → List Mark → Out × OutboxView
given_from v [] = given_live v v.live
given_from v (mark ∷ rest) = (out.Mark mark, record v { marks = rest; live = live_after mark v.live })

-- what is given next, and what is left
abbrev pub given : OutboxView → Out × OutboxView
given v = given_from v v.marks

-- this is given, and this is left
abbrev pub Gives : OutboxView → Out → OutboxView → Type 0
Gives old result new = (result, new) ≡ given old

-- there is at most one statement of each slot and kind
abbrev pub AreOneEach : List Boxed → Type 0
AreOneEach statements = AllPairs (λ (a b : Boxed). are_alike a.value.statement b.value.statement ≡ false) statements

-- the limits hold, there is at most one statement of each slot and kind, and each message fits a link
pub record IsOutbox (v : OutboxView) : Type 0 where
  pub marks : length v.marks ≤ MARK_LIMIT
  pub ring : length v.ring ≤ WAITING_LIMIT
  pub statements : length v.statements ≤ WAITING_LIMIT
  pub one_each : AreOneEach v.statements
  pub ring_fits : All IsFitting v.ring
  pub statements_fit : All (λ (held : Boxed). IsFitting (Envelope held)) v.statements

-- if a message is given, it has the property
abbrev pub IfMessage : Out → (Message → Type 0) → Type 0
IfMessage (out.Mark mark) P = Unit {0}
IfMessage (out.Message message) P = P message
IfMessage out.Nothing P = Unit {0}
