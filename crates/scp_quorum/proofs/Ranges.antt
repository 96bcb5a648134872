-- Thresholds that are in range, over the inner sets one at a time.
use Rattle.std.proofs.Common.{List}
use Rattle.std.specs.List.{All}
use Rattle.std.proofs.lemmas.List.Elements.{recursion_from_All, All-from_recursion}
use Rattle.scp_xdr.specs.Tree.{in_a_row}
use Rattle.scp_quorum.specs.QuorumTree.{QuorumTree}
use Rattle.scp_quorum.specs.Sane.{AreInRange, IsInRange}
use Rattle.scp_quorum.proofs.Rows.{range_of_list, list_in_range}

pub each_in_range : (qs : List QuorumTree) → AreInRange (in_a_row qs) → All IsInRange qs
each_in_range qs h = All-from_recursion IsInRange qs (list_in_range qs h)

pub all_in_range : (qs : List QuorumTree) → All IsInRange qs → AreInRange (in_a_row qs)
all_in_range qs h = range_of_list qs (recursion_from_All IsInRange qs h)
