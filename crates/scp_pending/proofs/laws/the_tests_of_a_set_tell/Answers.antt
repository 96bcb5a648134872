use Rattle.scp_pending.proofs.Sanity.{sanity_is_told, spelling_is_told}
use Rattle.scp_pending.proofs.laws.the_tests_of_a_set_tell.Goals as goal

pub returns : goal.returns
returns c = record { sane = sanity_is_told; spelt = spelling_is_told }
