-- The lines of what became of each message on a connection (this project's profile).
use Rattle.std.specs.Prelude.{ℕ, List, ◌++◌, codes}
use Rattle.std.specs.Fmt.{decimal}
use Rattle.scp_core.specs.scp_types.specs.declared.names.ConnId.{ConnId}
use Rattle.scp_core.specs.scp_types.specs.declared.names.NodeId.{NodeId}
use Rattle.scp_core.specs.scp_ledger.specs.declared.journal.Fate.{Fate}
use Rattle.scp_core.specs.scp_ledger.specs.declared.journal.Fate.TheVariants.{Taken, Dropped, Closed}
use Rattle.scp_words.specs.Words.{verdict_word, cause_word, drop_word}
use Rattle.scp_live_lines.specs.Names.{name_of}

-- A connection: the name of the peer that sends on it, and its life number.
abbrev pub conn_words : List (List ℕ) → List NodeId → ConnId → List ℕ
conn_words names peers conn = name_of names peers conn.from ++ codes " " ++ decimal conn.life

-- The number of a message, what became of it, and the reason, with a space before each.
abbrev pub end_words : ℕ → List ℕ → List ℕ → List ℕ
end_words seq what word = codes " " ++ decimal seq ++ codes " " ++ what ++ codes " " ++ word ++ codes "\n"

-- The line of a journal entry: its connection, and what became of one message, or that the connection ended.
abbrev pub fate_line : List (List ℕ) → List NodeId → Fate → List ℕ
fate_line names peers (Taken conn seq message set verdict) = codes "fate " ++ conn_words names peers conn ++ end_words seq.0 (codes "taken") (verdict_word verdict)
fate_line names peers (Dropped conn seq cause) = codes "fate " ++ conn_words names peers conn ++ end_words seq.0 (codes "dropped") (drop_word cause)
fate_line names peers (Closed conn cause) = codes "fate " ++ conn_words names peers conn ++ codes " closed " ++ cause_word cause ++ codes "\n"
