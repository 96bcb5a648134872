-- What came, seen part by part: its marks, its messages, its shape; what is from one peer; and each message with its number.
use Rattle.std.specs.Prelude.{ℕ, ◌≡◌, ◌↔◌, true, List, [], ◌∷◌, ◌++◌, Some, slice_get, fold}
use Rattle.std.specs.List.{AllByRecursion}
use Rattle.scp_quorum.specs.scp_types.specs.declared.names.ConnId.{ConnId}
use Rattle.scp_quorum.specs.scp_types.specs.declared.names.NodeId.{NodeId}
use Rattle.scp_wire.specs.declared.message.Message.{Message}
use Rattle.scp_wire.specs.declared.link.LinkItem.{LinkItem}
use Rattle.scp_wire.specs.declared.link.Inbound.{Inbound}
use Rattle.scp_wire.specs.declared.link.Inbound.TheVariants.{Opened, Carried, Side, Closed, Local}
use Rattle.scp_wire.specs.Connections.{conn_at, same_conn}
use Rattle.scp_wire.specs.Lanes.{in_lane, slots_of, HaveSlots}
use Rattle.scp_wire.specs.Marks.{Mark, marks_in, messages_in}
use Rattle.scp_wire.specs.Message.{message_value, FitsMessage, HasRanges, BreaksALimit}
use Rattle.scp_wire.specs.Shape.{Tail, goes, MayGo, AreOfLink, Come, nothing_came, AreInOrder, of_peer}

-- ---- the shape

-- if the whole has the shape, each front of it has it
abbrev pub FrontsAreInOrder : Type 0
FrontsAreInOrder = (peer me : NodeId) (come : Come) (front rest : List Inbound) → AreInOrder peer me come (front ++ rest) → AreInOrder peer me come front

-- what has the shape of a peer's link is all from that peer
abbrev pub OrderIsOfThePeer : Type 0
OrderIsOfThePeer = (peer me : NodeId) (come : Come) (items : List Inbound) → AreInOrder peer me come items → of_peer peer items ≡ items

-- a link's items are of the link with one more item that may go next
abbrev pub OneMoreIsOfLink : Type 0
OneMoreIsOfLink = (peer me : NodeId) (tail : Tail) (items : List LinkItem) (item : LinkItem) → AreOfLink peer me tail items → MayGo peer me (fold goes tail items) item → AreOfLink peer me tail (items ++ item ∷ [])

-- ---- what it says of a connection

-- two parts say of the connection, one after the other, what the whole says
pub record SaysPartByPart (c : ConnId) (front rest : List Inbound) : Type 0 where
  pub marks : marks_in c (front ++ rest) ≡ marks_in c front ++ marks_in c rest
  pub messages : messages_in c (front ++ rest) ≡ messages_in c front ++ messages_in c rest

-- two parts of what came say of a connection, one after the other, what the whole says
abbrev pub PartsSayWhatTheWholeSays : Type 0
PartsSayWhatTheWholeSays = (c : ConnId) (front rest : List Inbound) → SaysPartByPart c front rest

-- so do two parts of a line in a lane
abbrev pub LanesArePartByPart : Type 0
LanesArePartByPart = (slots : ℕ → ℕ) (s : ℕ) (front rest : List Mark) → in_lane slots s (front ++ rest) ≡ in_lane slots s front ++ in_lane slots s rest

-- what came from the connection's peer says all that is said of the connection
pub record IsSaidByItsPeer (c : ConnId) (items : List Inbound) : Type 0 where
  pub marks : marks_in c (of_peer c.from items) ≡ marks_in c items
  pub messages : messages_in c (of_peer c.from items) ≡ messages_in c items

-- of each connection, what came from its peer says all that what came says of it
abbrev pub PeersSayAllOfTheirs : Type 0
PeersSayAllOfTheirs = (c : ConnId) (items : List Inbound) → IsSaidByItsPeer c items

-- ---- numbers

-- if this is a carried message of the connection, it is the one of its number
abbrev pub IsNumbered : ConnId → List Message → Inbound → Type 0
IsNumbered c messages (Opened conn) = Unit {0}
IsNumbered c messages (Carried x) = same_conn x.conn c ≡ true → slice_get messages x.seq.0 ≡ Some x.message
IsNumbered c messages (Side conn message) = Unit {0}
IsNumbered c messages (Closed conn cause) = Unit {0}
IsNumbered c messages (Local command) = Unit {0}

-- the carried messages of the connection are those of their numbers, and each number names its message's slot
pub record AreNumbered (c : ConnId) (messages : List Message) (items : List Inbound) : Type 0 where
  pub messages_are : AllByRecursion (IsNumbered c messages) items
  pub slots : HaveSlots c (slots_of messages) items

-- each carried message is the one of its number among those that came of the connection, even with more that come later
abbrev pub NumbersNameMessages : Type 0
NumbersNameMessages = (peer me : NodeId) (items : List Inbound) → AreInOrder peer me nothing_came (of_peer peer items) → (life : ℕ) (later : List Message) → AreNumbered (conn_at peer me life) (messages_in (conn_at peer me life) items ++ later) items

-- if what came from the connection's peer is numbered by these messages, so is all that came
abbrev pub OthersHaveNoNumber : Type 0
OthersHaveNoNumber = (c : ConnId) (messages : List Message) (items : List Inbound) → AllByRecursion (IsNumbered c messages) (of_peer c.from items) → AllByRecursion (IsNumbered c messages) items

-- ---- limits

-- a message breaks a limit exactly where its value doesn't fit
abbrev pub LimitsAreOfTheValue : Type 0
LimitsAreOfTheValue = (message : Message) → HasRanges message → (¬ (FitsMessage (message_value message))) ↔ BreaksALimit message
