-- What a journal says of one connection.
use Rattle.std.specs.Prelude.{List, flat_map}
use Rattle.scp_slot.specs.scp_types.specs.declared.names.ConnId.{ConnId}
use Rattle.scp_pending.specs.scp_wire.specs.Connections.{same_conn}
use Rattle.scp_pending.specs.scp_wire.specs.Marks.{Mark, number, ended, one_if}
use Rattle.scp_ledger.specs.declared.journal.Fate.{Fate}
use Rattle.scp_ledger.specs.declared.journal.Fate.TheVariants.{Taken, Dropped, Closed}

-- what one entry says of the connection
abbrev pub entry_mark : ConnId → Fate → List Mark
entry_mark c (Taken conn seq message set verdict) = one_if (same_conn conn c) (number seq.0)
entry_mark c (Dropped conn seq cause) = one_if (same_conn conn c) (number seq.0)
entry_mark c (Closed conn cause) = one_if (same_conn conn c) (ended cause)

-- the numbers of the connection's messages that have a fate, and its end
abbrev pub marks_of : ConnId → List Fate → List Mark
marks_of c journal = flat_map (entry_mark c) journal
