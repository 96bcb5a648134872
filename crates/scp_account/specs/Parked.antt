-- What waits at a node for quorum sets (this project's profile).
use Rattle.std.specs.Prelude.{Option, Some, None, codes}
use Rattle.serde_json.specs.Data.{Data, null, object, member, no_members}
use Rattle.scp_line.specs.scp_types.specs.declared.names.Hash.{Hash}
use Rattle.scp_line.specs.scp_types.specs.declared.names.Seq.{Seq}
use Rattle.scp_line.specs.scp_wire.specs.declared.carried.Carried.{Carried}
use Rattle.scp_line.specs.scp_report.specs.declared.report.Parked.{Parked}
use Rattle.scp_account.specs.Pieces.{count, digits, id_json, message_json}

-- The number of the first message that waits, or null if none does.
abbrev pub number_json : Option (Seq × Hash) → Data
number_json None = null
number_json (Some first) = count first.0.0

-- The hash of the quorum set that it waits for, or null if none waits.
abbrev pub hash_json : Option (Seq × Hash) → Data
hash_json None = null
hash_json (Some first) = digits first.1.0

-- How many messages of a connection a node holds, the first one that waits for a quorum set, and the hash of that set.
abbrev pub parked_json : Parked → Data
parked_json held =
    object (member (codes "count") (count held.count)
    (member (codes "first") (number_json held.first)
    (member (codes "from") (id_json held.conn.from)
    (member (codes "hash") (hash_json held.first)
    (member (codes "life") (count held.conn.life) no_members)))))

-- A message that waits for a quorum set, or waits behind such a message.
abbrev pub waiting_json : Carried → Data
waiting_json carried =
    object (member (codes "bytes") (message_json carried.message)
    (member (codes "from") (id_json carried.conn.from)
    (member (codes "life") (count carried.conn.life)
    (member (codes "message") (count carried.seq.0) no_members))))
