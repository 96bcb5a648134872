-- Lanes: the messages of a connection that name one slot (this project's profile).
use Rattle.std.specs.Prelude.{ℕ, ◌+◌, ◌≡◌, if◌then◌else◌, Bool, true, List, [], ◌∷◌, ◌++◌, Option, Some, None, nat_eq, filter, map, option_to_list, slice_get}
use Rattle.std.specs.List.{AllByRecursion}
use Rattle.scp_quorum.specs.scp_types.specs.declared.names.ConnId.{ConnId}
use Rattle.scp_wire.specs.declared.message.Message.{Message}
use Rattle.scp_wire.specs.declared.message.Message.TheVariants.{Envelope, GetSet, Set, NoSet, GetRecord, Record, Records}
use Rattle.scp_wire.specs.declared.link.Cause.{Cause}
use Rattle.scp_wire.specs.declared.link.Inbound.{Inbound}
use Rattle.scp_wire.specs.declared.link.Inbound.TheVariants.{Opened, Carried, Side, Closed, Local}
use Rattle.scp_wire.specs.Connections.{same_conn}
use Rattle.scp_wire.specs.Marks.{Mark, number, ended, IsWhole}
use Rattle.scp_wire.specs.Sent.{numbers}

-- the slot that a carried message names; 0 for a side message, which names none, and for a batch, which is read as its records
abbrev pub slot_of : Message → ℕ
slot_of (Envelope envelope) = envelope.value.statement.slot.0
slot_of (GetSet hash) = 0
slot_of (Set set) = 0
slot_of (NoSet hash) = 0
slot_of (GetRecord slot) = slot.0
slot_of (Record slot value) = slot.0
slot_of (Records first values) = 0

-- the slot of a message, if there is one; else 0, which is no slot
abbrev pub slot_in : Option Message → ℕ
slot_in None = 0
slot_in (Some message) = slot_of message

-- the slot that each number of a connection names, by the connection's carried messages
abbrev pub slots_of : List Message → ℕ → ℕ
slots_of messages n = slot_in (slice_get messages n)

-- whether a mark is in the lane: a number that names the slot, or an end
abbrev pub is_in_lane : (ℕ → ℕ) → ℕ → Mark → Bool
is_in_lane slots s (number n) = nat_eq (slots n) s
is_in_lane slots s (ended cause) = true

-- the lane of a slot: the numbers that name it, and each end
abbrev pub in_lane : (ℕ → ℕ) → ℕ → List Mark → List Mark
in_lane slots s marks = filter (is_in_lane slots s) marks

-- nothing comes after an end
abbrev pub EndsLast : List Mark → Type 0
EndsLast [] = Unit {0}
EndsLast (number n ∷ rest) = EndsLast rest
EndsLast (ended cause ∷ rest) = rest ≡ []

-- within a lane: the first of these numbers, in order, and then at most an end
abbrev pub FollowsIn : List ℕ → List Mark → Type 0
FollowsIn ns [] = Unit {0}
FollowsIn ns (ended cause ∷ rest) = rest ≡ []
FollowsIn [] (number n ∷ rest) = ⊥
FollowsIn (m ∷ ns) (number n ∷ rest) = (n ≡ m) × FollowsIn ns rest

-- the numbers of those messages that name the slot, if the first message has the number n
abbrev pub lane_numbers : ℕ → ℕ → List Message → List ℕ
lane_numbers s n [] = []
lane_numbers s n (m ∷ ms) = if nat_eq (slot_of m) s then n ∷ lane_numbers s (n + 1) ms else lane_numbers s (n + 1) ms

-- the lane of what was sent: its numbers, and then the end
abbrev pub LanesOfSent : Type 0
LanesOfSent = (messages : List Message) (end : Option Cause) (s : ℕ) → in_lane (slots_of messages) s (numbers 0 messages ++ map ended (option_to_list end)) ≡ map number (lane_numbers s 0 messages) ++ map ended (option_to_list end)

-- if a line is whole, by what was sent so far, and nothing comes after its end, its front follows these numbers
abbrev pub WholeFollows : Type 0
WholeFollows = (ns : List ℕ) (end : Option Cause) (sent more front back : List Mark) → map number ns ++ map ended (option_to_list end) ≡ sent ++ more → IsWhole sent (front ++ back) → EndsLast (front ++ back) → FollowsIn ns front

-- if this is a carried message of the connection, its number names its slot
abbrev pub HasSlot : ConnId → (ℕ → ℕ) → Inbound → Type 0
HasSlot c slots (Opened conn) = Unit {0}
HasSlot c slots (Carried x) = same_conn x.conn c ≡ true → slots x.seq.0 ≡ slot_of x.message
HasSlot c slots (Side conn message) = Unit {0}
HasSlot c slots (Closed conn cause) = Unit {0}
HasSlot c slots (Local command) = Unit {0}

-- each number of a message that came of the connection names its slot
abbrev pub HaveSlots : ConnId → (ℕ → ℕ) → List Inbound → Type 0
HaveSlots c slots items = AllByRecursion (HasSlot c slots) items
