-- What readings are, in terms of what was sent and of the shape; and how they grow.
use Rattle.std.specs.Prelude.{ℕ, ◌≡◌, List, [], ◌∷◌, ◌++◌}
use Rattle.scp_quorum.specs.scp_types.specs.declared.limits.TheConstants.{CARRIED_LIMIT}
use Rattle.scp_quorum.specs.scp_types.specs.declared.names.ConnId.{ConnId}
use Rattle.scp_quorum.specs.scp_types.specs.declared.names.NodeId.{NodeId}
use Rattle.scp_wire.specs.declared.link.LinkItem.{LinkItem}
use Rattle.scp_wire.specs.Connections.{conn_at}
use Rattle.scp_wire.specs.Shape.{AreOfLink, never_open, AreInOrder, nothing_came}
use Rattle.scp_wire.specs.Marks.{marks_in, messages_in, of_conn}
use Rattle.scp_wire.specs.Sent.{sent, is_closed, carried_of, line_of_sent, read_of_sent}
use Rattle.scp_wire.specs.LinkReading.{ReaderView, unread, reading, after, readings, after_all}

-- what is read of a connection is what was sent on it: its carried messages, numbered, and then its end; and all of it is in
-- its place, its opening and its side messages too
pub record IsSent (c : ConnId) (items : List LinkItem) : Type 0 where
  pub messages : messages_in c (readings unread items) ≡ carried_of CARRIED_LIMIT (sent c items)
  pub line : marks_in c (readings unread items) ≡ line_of_sent 0 CARRIED_LIMIT (sent c items) (is_closed c items)
  pub all : of_conn c (readings unread items) ≡ read_of_sent c items

-- for each connection, what is read of a link's items is what was sent on it
abbrev pub ReadingsAreSent : Type 0
ReadingsAreSent = (peer me : NodeId) (items : List LinkItem) → AreOfLink peer me never_open items → (life : ℕ) → IsSent (conn_at peer me life) items

-- what is read of a link's items has the shape that the next stage requires
abbrev pub ReadingsAreInOrder : Type 0
ReadingsAreInOrder = (peer me : NodeId) (items : List LinkItem) → AreOfLink peer me never_open items → AreInOrder peer me nothing_came (readings unread items)

-- further items add what they are read as where the others ended
pub record Grows (r : ReaderView) (items more : List LinkItem) : Type 0 where
  pub given : readings r (items ++ more) ≡ readings r items ++ readings (after_all r items) more
  pub stands : after_all r (items ++ more) ≡ after_all (after_all r items) more

-- with further items what is read grows by what these are read as where the reader is
abbrev pub ReadingsGrow : Type 0
ReadingsGrow = (r : ReaderView) (items more : List LinkItem) → Grows r items more

-- one item more adds what it is read as
pub record GrowsByOne (r : ReaderView) (items : List LinkItem) (item : LinkItem) : Type 0 where
  pub given : readings r (items ++ item ∷ []) ≡ readings r items ++ reading (after_all r items) item
  pub stands : after_all r (items ++ item ∷ []) ≡ after (after_all r items) item

-- so it is with one item more
abbrev pub ReadingsGrowByOne : Type 0
ReadingsGrowByOne = (r : ReaderView) (items : List LinkItem) (item : LinkItem) → GrowsByOne r items item
