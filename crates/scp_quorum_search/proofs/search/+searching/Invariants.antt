use Rattle.std.proofs.Common.{◌+◌, ◌*◌, length}
use Rattle.scp_quorum_search.proofs.search.+searching.Given as goal

abbrev pub decreases-search : goal.decreases-search
decreases-search l = 2 * length l.left.now + 1

abbrev pub decreases-search_left : goal.decreases-search_left
decreases-search_left l = 2 * length l.left.now
