-- What the lines of a host ask for (this project's profile).
use Rattle.std.specs.Prelude.{◌≡◌, ◌⊎◌, ◌<◌, ◌^◌, ℕ, Bool, true, false, List, [], ◌∷◌, Some, length, get_or, codes}
use Rattle.std.specs.Fmt.{decimal}
use Rattle.scp_core.specs.scp_types.specs.declared.names.Slot.{Slot}
use Rattle.scp_core.specs.scp_wire.specs.declared.link.Command.{Command}
use Rattle.scp_core.specs.scp_wire.specs.declared.link.Command.TheVariants.{Tick, Propose, Round, Timer, Ask}
use Rattle.scp_core.specs.declared.event.Event.{Event as Happening}
use Rattle.scp_core.specs.declared.event.Event.TheVariants.{Open, Send, Close, Local, ReaderTake, ReaderPut, PendTake, PendPut, SlotTake, SlotPut, ApplyTake, Drain}
use Rattle.scp_script.specs.Words.{is_ascii, is_skipped, hex_bytes}
use Rattle.scp_script.specs.Reasons.{parts_of}
use Rattle.scp_live_lines.specs.declared.asked.Asked.{Asked}
use Rattle.scp_live_lines.specs.declared.asked.Asked.TheVariants.{Event, Again, State, Report, Stand, Applied, Nothing}

-- The name of a link is that of its peer.
abbrev pub name_of : List (List ℕ) → ℕ → List ℕ
name_of names link = get_or names link []

-- There is a link with this number, and the number is below 256.
abbrev pub HasLink : List (List ℕ) → ℕ → Type 0
HasLink names link = (link < length names) × (link < 256)

-- There is a link with this number, and this is its name.
abbrev pub IsNamed : List (List ℕ) → ℕ → List ℕ → Type 0
IsNamed names link word = HasLink names link × (word ≡ name_of names link)

-- A slot's number is below 2^64.
abbrev pub IsSlot : Slot → Type 0
IsSlot slot = slot.0 < 2 ^ 64

-- The words of a line that is a command: `tick`, `propose SLOT HEX`, `round SLOT`, `timer SLOT` or `ballot SLOT`, `ask PEER SLOT`.
abbrev pub SaysCommand : List (List ℕ) → List (List ℕ) → Command → Type 0
SaysCommand names words Tick = words ≡ codes "tick" ∷ []
SaysCommand names words (Propose slot value) =
    (digits : List ℕ) × IsSlot slot × (hex_bytes digits ≡ Some value) × (words ≡ codes "propose" ∷ decimal slot.0 ∷ digits ∷ [])
SaysCommand names words (Round slot) = IsSlot slot × (words ≡ codes "round" ∷ decimal slot.0 ∷ [])
SaysCommand names words (Timer slot) = IsSlot slot × ((words ≡ codes "timer" ∷ decimal slot.0 ∷ []) ⊎ (words ≡ codes "ballot" ∷ decimal slot.0 ∷ []))
SaysCommand names words (Ask link slot) = HasLink names link × IsSlot slot × (words ≡ codes "ask" ∷ name_of names link ∷ decimal slot.0 ∷ [])

-- The words of a line that is an event: `open PEER`, `close PEER`, `recv PEER HEX`, or a command. No line is a step of a stage.
abbrev pub SaysEvent : List (List ℕ) → List (List ℕ) → Happening → Type 0
SaysEvent names words (Open link) = HasLink names link × (words ≡ codes "open" ∷ name_of names link ∷ [])
SaysEvent names words (Send link bytes) =
    (digits : List ℕ) × HasLink names link × (hex_bytes digits ≡ Some bytes) × (words ≡ codes "recv" ∷ name_of names link ∷ digits ∷ [])
SaysEvent names words (Close link) = HasLink names link × (words ≡ codes "close" ∷ name_of names link ∷ [])
SaysEvent names words (Local command) = SaysCommand names words command
SaysEvent names words (ReaderTake link) = ⊥
SaysEvent names words (ReaderPut link) = ⊥
SaysEvent names words PendTake = ⊥
SaysEvent names words PendPut = ⊥
SaysEvent names words SlotTake = ⊥
SaysEvent names words SlotPut = ⊥
SaysEvent names words ApplyTake = ⊥
SaysEvent names words (Drain link) = ⊥

-- The words of a line that asks for something: an event, `again PEER`, `state`, `report`, `stand`, or `applied SLOT`.
abbrev pub SaysInWords : List (List ℕ) → List (List ℕ) → Asked → Type 0
SaysInWords names words (Event event) = SaysEvent names words event
SaysInWords names words (Again link) = HasLink names link × (words ≡ codes "again" ∷ name_of names link ∷ [])
SaysInWords names words State = words ≡ codes "state" ∷ []
SaysInWords names words Report = words ≡ codes "report" ∷ []
SaysInWords names words Stand = words ≡ codes "stand" ∷ []
SaysInWords names words (Applied slot) = IsSlot slot × (words ≡ codes "applied" ∷ decimal slot.0 ∷ [])
SaysInWords names words Nothing = ⊥

-- A skipped line asks for nothing. Any other line asks for what its words say.
abbrev pub SaysBy : Bool → List (List ℕ) → List ℕ → Asked → Type 0
SaysBy true names line asked = asked ≡ Nothing
SaysBy false names line asked = SaysInWords names (parts_of line) asked

-- A line asks for this, with these names of the links. The line is ASCII. It is empty or a comment, or its words are separated by single
-- spaces.
abbrev pub Says : List (List ℕ) → List ℕ → Asked → Type 0
Says names line asked = (is_ascii line ≡ true) × SaysBy (is_skipped line) names line asked

-- The command carries the bytes of a value.
abbrev pub has_value : Command → Bool
has_value Tick = false
has_value (Propose slot value) = true
has_value (Round slot) = false
has_value (Timer slot) = false
has_value (Ask link slot) = false

-- The event carries bytes: those that a peer sent, or those of a value.
abbrev pub event_has_bytes : Happening → Bool
event_has_bytes (Open link) = false
event_has_bytes (Send link bytes) = true
event_has_bytes (Close link) = false
event_has_bytes (Local command) = has_value command
event_has_bytes (ReaderTake link) = false
event_has_bytes (ReaderPut link) = false
event_has_bytes PendTake = false
event_has_bytes PendPut = false
event_has_bytes SlotTake = false
event_has_bytes SlotPut = false
event_has_bytes ApplyTake = false
event_has_bytes (Drain link) = false

-- What a line asks for carries bytes, and so takes memory.
abbrev pub has_bytes : Asked → Bool
has_bytes (Event event) = event_has_bytes event
has_bytes (Again link) = false
has_bytes State = false
has_bytes Report = false
has_bytes Stand = false
has_bytes (Applied slot) = false
has_bytes Nothing = false
