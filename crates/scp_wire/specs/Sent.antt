-- What was sent on a connection, by the items that its link took; what of it is carried; and what is to be read of it.
use Rattle.std.specs.Prelude.{ℕ, ◌+◌, ◌-◌, Bool, true, false, ◌||◌, not, List, [], ◌∷◌, ◌++◌, Option, Some, None, nat_eq, nat_lt, if◌then◌else◌, length, filter, flat_map, take, is_some, option_to_list, map}
use Rattle.scp_quorum.specs.scp_types.specs.declared.limits.TheConstants.{CARRIED_LIMIT}
use Rattle.scp_quorum.specs.scp_types.specs.declared.names.ConnId.{ConnId}
use Rattle.scp_wire.specs.declared.message.Message.{Message}
use Rattle.scp_wire.specs.declared.link.LinkItem.{LinkItem}
use Rattle.scp_wire.specs.declared.link.LinkItem.TheVariants.{Opened, Bytes, Closed}
use Rattle.scp_wire.specs.declared.link.Inbound.{Inbound}
use Rattle.scp_wire.specs.declared.link.Inbound.TheVariants as inbound
use Rattle.scp_wire.specs.declared.link.Cause.{Cause}
use Rattle.scp_wire.specs.declared.link.Cause.TheVariants.{Malformed, Link, Spent}
use Rattle.scp_wire.specs.Carried.{is_carried}
use Rattle.scp_wire.specs.Reading.{reading_of}
use Rattle.scp_wire.specs.LinkReading.{singles, numbered, next_of}
use Rattle.scp_wire.specs.Connections.{same_conn}
use Rattle.scp_wire.specs.Marks.{Mark, number, ended, one_if}

-- the bytes that an item brings on the connection
abbrev pub sent_by : ConnId → LinkItem → List (List ℕ)
sent_by c (Opened conn) = []
sent_by c (Bytes conn bytes) = one_if (same_conn conn c) bytes
sent_by c (Closed conn) = []

-- whether the item closes the connection
abbrev pub closed_by : ConnId → LinkItem → Bool
closed_by c (Opened conn) = false
closed_by c (Bytes conn bytes) = false
closed_by c (Closed conn) = same_conn conn c

-- the bytes that were sent on the connection, in order
abbrev pub sent : ConnId → List LinkItem → List (List ℕ)
sent c items = flat_map (sent_by c) items

-- whether some item closes the connection
abbrev pub is_closed : ConnId → List LinkItem → Bool
is_closed c [] = false
is_closed c (x ∷ xs) = closed_by c x || is_closed c xs

-- a reading's messages, a batch as its records, before the rest; none if there is no reading
abbrev pub readable_from : Option Message → List Message → List Message
readable_from None rest = []
readable_from (Some message) rest = singles message ++ rest

-- the messages up to the first bytes that have no reading
abbrev pub readable : List (List ℕ) → List Message
readable [] = []
readable (bytes ∷ rest) = readable_from (reading_of bytes) (readable rest)

-- whether all bytes have a reading
abbrev pub all_readable : List (List ℕ) → Bool
all_readable [] = true
all_readable (bytes ∷ rest) = if is_some (reading_of bytes) then all_readable rest else false

-- the carried messages among those
abbrev pub all_carried : List (List ℕ) → List Message
all_carried bytes = filter is_carried (readable bytes)

-- the first carried messages, up to the limit
abbrev pub carried_of : ℕ → List (List ℕ) → List Message
carried_of limit bytes = take limit (all_carried bytes)

-- why the connection ends: one carried message too many, bytes that are no message, or the close; none while it goes on
abbrev pub end_of : ℕ → List (List ℕ) → Bool → Option Cause
end_of limit bytes closed = if nat_lt limit (length (all_carried bytes)) then Some Spent else (if not (all_readable bytes) then Some Malformed else (if closed then Some Link else None))

-- numbers from n on, one for each message
abbrev pub numbers : ℕ → List Message → List Mark
numbers n [] = []
numbers n (m ∷ ms) = number n ∷ numbers (n + 1) ms

-- the line of what was sent: the numbers of its messages, and then its end
abbrev pub line_of_sent : ℕ → ℕ → List (List ℕ) → Bool → List Mark
line_of_sent n limit bytes closed = numbers n (carried_of limit bytes) ++ map ended (option_to_list (end_of limit bytes closed))

-- ---- all that is to be read of a connection, with side messages and its opening

-- what is read of an item that opens the connection
abbrev pub opened_by : ConnId → LinkItem → List Inbound
opened_by c (Opened conn) = one_if (same_conn conn c) (inbound.Opened c)
opened_by c (Bytes conn bytes) = []
opened_by c (Closed conn) = []

-- what the openings of the connection among the items are read as
abbrev pub opened : ConnId → List LinkItem → List Inbound
opened c items = flat_map (opened_by c) items

-- these messages, up to the first that would be one carried message too many
abbrev pub up_to : ℕ → List Message → List Message
up_to limit [] = []
up_to limit (m ∷ ms) = if is_carried m then (if nat_eq limit 0 then [] else m ∷ up_to (limit - 1) ms) else m ∷ up_to limit ms

-- these messages as they are read, the carried ones under the numbers from n on
abbrev pub in_turn : ConnId → ℕ → List Message → List Inbound
in_turn c n [] = []
in_turn c n (m ∷ ms) = numbered c n m ∷ in_turn c (next_of n m) ms

-- all that is to be read of a connection: that it was opened, its messages in the order sent, and then its end
abbrev pub read_of_sent : ConnId → List LinkItem → List Inbound
read_of_sent c items = opened c items ++ (in_turn c 0 (up_to CARRIED_LIMIT (readable (sent c items))) ++ map (inbound.Closed c) (option_to_list (end_of CARRIED_LIMIT (sent c items) (is_closed c items))))
