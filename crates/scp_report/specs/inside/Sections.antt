-- The lines of connections in a map.
-- No public clause reaches these definitions: nothing here need be believed.
use Rattle.std.specs.Prelude.{ℕ, List, [], Option, Some, None, String, string_bytes}
use Rattle.std.specs.BTreeMap.{BTreeMap, get}
use Rattle.scp_core.specs.scp_types.specs.declared.names.ConnId.{ConnId}
use Rattle.scp_core.specs.scp_types.specs.Order.{conn_cmp}

-- the text that was found, or none
abbrev pub text_of : {Z : Type 0} → Option (String Z) → List ℕ
text_of (Some text) = string_bytes text
text_of None = []

abbrev pub lines_at : {Z : Type 0} → BTreeMap ConnId (String Z) → ConnId → List ℕ
lines_at sections conn = text_of (get conn_cmp sections conn)
