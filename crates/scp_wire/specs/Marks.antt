-- What a list of things says of one connection: all that belongs to it, and of that the numbers of its messages, and its end.
use Rattle.std.specs.Prelude.{ℕ, ◌≡◌, Bool, false, List, [], ◌∷◌, ◌++◌, ◌⊎◌, filter, flat_map, if◌then◌else◌}
use Rattle.scp_quorum.specs.scp_types.specs.declared.names.ConnId.{ConnId}
use Rattle.scp_wire.specs.declared.message.Message.{Message}
use Rattle.scp_wire.specs.declared.link.Cause.{Cause}
use Rattle.scp_wire.specs.declared.link.Cause.TheVariants.{ParkedFull}
use Rattle.scp_wire.specs.declared.link.Inbound.{Inbound}
use Rattle.scp_wire.specs.declared.link.Inbound.TheVariants.{Opened, Carried, Side, Closed, Local}
use Rattle.scp_wire.specs.Connections.{same_conn}

-- whether the thing belongs to the connection
abbrev pub is_of : ConnId → Inbound → Bool
is_of c (Opened conn) = same_conn conn c
is_of c (Carried x) = same_conn x.conn c
is_of c (Side conn message) = same_conn conn c
is_of c (Closed conn cause) = same_conn conn c
is_of c (Local command) = false

-- the things that belong to the connection, in order
abbrev pub of_conn : ConnId → List Inbound → List Inbound
of_conn c items = filter (is_of c) items

-- a mark of what came: a carried message, by its number; or that the connection ended
pub data Mark : Type 0 where
  number : ℕ → Mark
  ended : Cause → Mark

-- the thing alone if the test holds, else nothing
abbrev pub one_if : {X : Type 0} → Bool → X → List X
one_if mine x = if mine then x ∷ [] else []

-- the mark of one thing that came, if the connection has one for it
abbrev pub came_mark : ConnId → Inbound → List Mark
came_mark c (Opened conn) = []
came_mark c (Carried x) = one_if (same_conn x.conn c) (number x.seq.0)
came_mark c (Side conn message) = []
came_mark c (Closed conn cause) = one_if (same_conn conn c) (ended cause)
came_mark c (Local command) = []

-- the marks of what came
abbrev pub marks_in : ConnId → List Inbound → List Mark
marks_in c items = flat_map (came_mark c) items

-- the message, if it is a carried one of the connection
abbrev pub came_message : ConnId → Inbound → List Message
came_message c (Opened conn) = []
came_message c (Carried x) = one_if (same_conn x.conn c) x.message
came_message c (Side conn message) = []
came_message c (Closed conn cause) = []
came_message c (Local command) = []

-- the connection's carried messages among what came
abbrev pub messages_in : ConnId → List Inbound → List Message
messages_in c items = flat_map (came_message c) items

-- the line is a front of what was sent, then the end ParkedFull, then anything
pub record IsCut (sent line : List Mark) : Type 0 where
  pub front : List Mark
  pub rest : List Mark
  pub later : List Mark
  pub sent_is : sent ≡ front ++ rest
  pub line_is : line ≡ front ++ ended ParkedFull ∷ later

-- the line is all that was sent, or it is cut off by ParkedFull
abbrev pub IsWhole : List Mark → List Mark → Type 0
IsWhole sent line = (line ≡ sent) ⊎ IsCut sent line
