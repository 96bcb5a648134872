-- The rule of an outbox in its place; nothing here need be believed.
use Rattle.std.specs.Prelude.{◌≡◌, ℕ, ◌≤◌, Bool, true, false, List, [], ◌∷◌, ◌++◌}
use mathlib.Core.Option.{some}
use lib.ListN.{get_elem?}
use Rattle.scp_outbox.specs.declared.mark.Mark.{Mark}
use Rattle.scp_outbox.specs.declared.mark.Out.{Out}
use Rattle.scp_outbox.specs.declared.mark.Out.TheVariants.{Mark as mark_out, Message as message_out, Nothing}
use Rattle.scp_outbox.specs.Outbox.{OutboxView}
use Rattle.scp_shared_outbox.specs.declared.turn.Turn.{Turn}
use Rattle.scp_shared_outbox.specs.declared.turn.Turn.TheVariants.{Puts, Marks, Gives}
use Rattle.scp_shared_outbox.specs.declared.turn.Part.{Part}
use Rattle.scp_shared_outbox.specs.Turns.{Stands, put_by, marked, given}

-- a pass that may do nothing
abbrev pub nobody : Part
nobody = record { puts = false; number = 0; put = []; marks = false; marked = []; takes = false; gave = []; made = 0; holds = false; turns = [] }

-- the first pass: that of the end that is given what waits, and also of the one that leaves marks, with the new outbox in hand
abbrev pub beginner : Part
beginner = record nobody { marks = true; takes = true; holds = true }

-- the outbox is there, as the turns have left it; or some end has it in hand
abbrev pub Lies : List Turn → List OutboxView → Type 0
Lies turns [] = Unit {0}
Lies turns (o ∷ rest) = Stands turns o × (rest ≡ [])

-- which pass has which part
pub record Seats : Type 0 where
  pub holder : ℕ
  pub producer : ℕ → ℕ
  pub marker : ℕ
  pub taker : ℕ

-- each pass knows what it did
pub record Fits (seats : Seats) (turns : List Turn) (items : List OutboxView) (pass : ℕ) (v : Part) : Type 0 where
  pub holds : v.holds ≡ true → (pass ≡ seats.holder) × (v.turns ≡ turns) × (items ≡ [])
  pub puts : v.puts ≡ true → (seats.producer v.number ≡ pass) × (v.put ≡ put_by v.number turns)
  pub marks : v.marks ≡ true → (pass ≡ seats.marker) × (v.marked ≡ marked turns)
  pub takes : v.takes ≡ true → (pass ≡ seats.taker) × (v.gave ≡ given turns)
  pub unmade : v.takes ≡ true → (p : ℕ) → v.made ≤ p → (seats.producer p ≡ pass) × (put_by p turns ≡ [])

-- the turns are one order, and each pass knows those that it made
abbrev pub Kept : List OutboxView → List Part → Type 0
Kept items views = (seats : Seats) × (turns : List Turn) × Lies turns items × ((pass : ℕ) (v : Part) → get_elem? views pass ≡ some v → Fits seats turns items pass v)

-- the outbox is taken out, and the turns so far are known; the end that leaves marks knows which of them are marks
abbrev pub IsInHand : Part → OutboxView → Part → Type 0
IsInHand v o w = (turns : List Turn) × (w ≡ record v { holds = true; turns = turns }) × Stands turns o × (v.marks ≡ true → v.marked ≡ marked turns)

-- the outbox was put back
abbrev pub emptied : Part → Part
emptied v = record v { holds = false; turns = [] }

-- the pass that made this turn, once the outbox is put back
abbrev pub after : Turn → Part → Part
after (Puts p message) v = record v { put = v.put ++ message ∷ []; holds = false; turns = [] }
after (Marks mark) v = record v { marked = v.marked ++ mark ∷ []; holds = false; turns = [] }
after (Gives out) v = record v { gave = v.gave ++ out ∷ []; holds = false; turns = [] }

-- the pass of this producer
abbrev pub IsPutter : ℕ → Part → Type 0
IsPutter number v = (v.puts ≡ true) × (v.number ≡ number) × (v.takes ≡ false)

-- the turn is one that the end with this pass makes
abbrev pub IsMine : Turn → Part → Type 0
IsMine (Puts p message) v = IsPutter p v
IsMine (Marks mark) v = v.marks ≡ true
IsMine (Gives out) v = v.takes ≡ true

-- the pass knows what was given, if something was
abbrev pub Gave : Out → Part → Part → Type 0
Gave (mark_out mark) v w = w ≡ after (Gives (mark_out mark)) v
Gave (message_out message) v w = w ≡ after (Gives (message_out message)) v
Gave Nothing v w = w ≡ emptied v

-- the end that is given what waits was given this
abbrev pub HasTaken : Part → Out → Part → Type 0
HasTaken v out w = (w.takes ≡ true) × (w.made ≡ v.made) × (w.gave ≡ v.gave ++ out ∷ [])

-- the pass of a producer that has put nothing yet
abbrev pub producer : ℕ → Part
producer number = record nobody { puts = true; number = number }

-- the pass of the end that leaves marks
abbrev pub marker : List Mark → Part
marker marks = record nobody { marks = true; marked = marks }

-- what was marked and given is what the turns so far say, and producers that were not made put nothing
abbrev pub KnowsRest : Part → Type 0
KnowsRest v = (marked v.turns ≡ v.marked) × (given v.turns ≡ v.gave) × ((p : ℕ) → v.made ≤ p → put_by p v.turns ≡ [])

-- the pass of the end that is given what waits, with this many producers made, and until a marker is made also that of the marker
abbrev pub taker : Bool → ℕ → Part
taker marks made = record nobody { marks = marks; takes = true; made = made }

-- the pass of the end that is given what waits, with the outbox in hand
abbrev pub IsHeld : Part → Type 0
IsHeld v = (v.takes ≡ true) × (v.holds ≡ true)

-- it still has the outbox in hand, with the same turns, and was given the same
abbrev pub IsStill : Part → Part → Type 0
IsStill v w = IsHeld w × (w.turns ≡ v.turns) × (w.gave ≡ v.gave) × (w.made ≡ v.made)
