-- An entry of a state as the code reads it; nothing here need be believed.
use Rattle.scp_xdr.specs.Kind.{Values}
use Rattle.scp_kv.specs.declared.saved.Entry.{Entry}
use Rattle.scp_kv.specs.Saved.{entry_kind}

-- an entry of the code as a value of the kind
abbrev pub entry_value : Entry → Values entry_kind
entry_value e = (e.key, e.value)
