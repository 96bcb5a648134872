-- The hint of two quorums that were found.
-- No public clause reaches this: nothing here need be believed.
use Rattle.std.specs.Prelude.{List, [], ◌∷◌, Option, Some, None}
use Rattle.std.specs.BTreeSet.{BTreeSet}
use Rattle.scp_script.specs.scp_types.specs.declared.names.NodeId.{NodeId}
use Rattle.scp_script_hints.specs.declared.hint.Hint.{Hint}
use Rattle.scp_script_hints.specs.declared.hint.Hint.TheVariants.{Disjoint}

-- the hint with these two quorums, or no hint
abbrev pub apart_hints : Option (BTreeSet NodeId × BTreeSet NodeId) → List Hint
apart_hints None = []
apart_hints (Some two) = Disjoint two.0 two.1 ∷ []
