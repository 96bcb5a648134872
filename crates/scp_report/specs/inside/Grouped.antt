-- The entries of a journal, grouped by connection in a map.
-- No public clause reaches these definitions: nothing here need be believed.
use Rattle.std.specs.Prelude.{List, [], Option, Some, None, map}
use Rattle.std.proofs.Common.{Bor, Vec}
use Rattle.std.specs.BTreeMap.{BTreeMap, get}
use Rattle.scp_core.specs.scp_types.specs.declared.names.ConnId.{ConnId}
use Rattle.scp_core.specs.scp_types.specs.Order.{conn_cmp}
use Rattle.scp_core.specs.scp_ledger.specs.declared.journal.Fate.{Fate}

-- the entries that were found, or none
abbrev pub fates_or_none : {Z : Type 0} → Option (Vec (Bor Fate) Z) → List Fate
fates_or_none (Some fates) = map (λ fate. fate.now) fates.items
fates_or_none None = []

-- the entries of a connection
abbrev pub fates_at : {Z : Type 0} → BTreeMap ConnId (Vec (Bor Fate) Z) → ConnId → List Fate
fates_at grouped conn = fates_or_none (get conn_cmp grouped conn)
