-- An entry of a journal in an account (this project's profile).
use Rattle.std.specs.Prelude.{codes}
use Rattle.serde_json.specs.Data.{Data, string, object, member, no_members}
use Rattle.scp_line.specs.scp_wire.specs.Lanes.{slot_of}
use Rattle.scp_line.specs.scp_ledger.specs.declared.journal.Fate.{Fate}
use Rattle.scp_line.specs.scp_ledger.specs.declared.journal.Fate.TheVariants.{Taken, Dropped, Closed}
use Rattle.scp_line.specs.scp_words.specs.Words.{verdict_word, cause_word, drop_word}
use Rattle.scp_account.specs.Pieces.{count, id_json, beside_json, message_json, kind_word}

-- What became of a message, or the end of a connection. A message that was taken has its bytes, and the bytes of the quorum set that it
-- came with. A connection is shown by its sender and its life, and a message by its number on the connection.
abbrev pub entry_json : Fate → Data
entry_json (Taken conn seq message set verdict) =
    object (member (codes "bytes") (message_json message)
    (member (codes "fate") (string (codes "taken"))
    (member (codes "from") (id_json conn.from)
    (member (codes "kind") (string (kind_word message))
    (member (codes "life") (count conn.life)
    (member (codes "message") (count seq.0)
    (member (codes "set") (beside_json set)
    (member (codes "slot") (count (slot_of message))
    (member (codes "verdict") (string (verdict_word verdict)) no_members)))))))))
entry_json (Dropped conn seq cause) =
    object (member (codes "cause") (string (drop_word cause))
    (member (codes "fate") (string (codes "dropped"))
    (member (codes "from") (id_json conn.from)
    (member (codes "life") (count conn.life)
    (member (codes "message") (count seq.0) no_members)))))
entry_json (Closed conn cause) =
    object (member (codes "cause") (string (cause_word cause))
    (member (codes "fate") (string (codes "closed"))
    (member (codes "from") (id_json conn.from)
    (member (codes "life") (count conn.life) no_members))))
