-- The lines of decisions and of applied slots (this project's profile).
use Rattle.std.specs.Prelude.{ℕ, List, ◌++◌, codes}
use Rattle.std.specs.Fmt.{decimal}
use Rattle.scp_core.specs.scp_types.specs.declared.names.NodeId.{NodeId}
use Rattle.scp_core.specs.scp_ledger.specs.declared.journal.Origin.{Origin}
use Rattle.scp_core.specs.scp_ledger.specs.declared.journal.Origin.TheVariants.{Machine, Named}
use Rattle.scp_core.specs.scp_ledger.specs.declared.journal.Decision.{Decision}
use Rattle.scp_words.specs.Words.{hex_word}
use Rattle.scp_live_lines.specs.Fates.{conn_words}

-- What a decision rests on: the node's own slot machine, or a record, given by its connection and its number there.
abbrev pub origin_words : List (List ℕ) → List NodeId → Origin → List ℕ
origin_words names peers (Machine n quorum own) = codes "machine"
origin_words names peers (Named conn seq) = codes "record " ++ conn_words names peers conn ++ codes " " ++ decimal seq.0

-- The line of a decision: its slot, its value, and what it rests on.
abbrev pub decided_line : List (List ℕ) → List NodeId → Decision → List ℕ
decided_line names peers d = codes "decided " ++ decimal d.slot.0 ++ codes " " ++ hex_word d.value ++ codes " " ++ origin_words names peers d.origin ++ codes "\n"

-- The line of an applied slot: the slot and its value.
abbrev pub applied_line : Decision → List ℕ
applied_line d = codes "applied " ++ decimal d.slot.0 ++ codes " " ++ hex_word d.value ++ codes "\n"
