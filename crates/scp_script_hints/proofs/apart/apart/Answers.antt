use Rattle.std.proofs.Common.{List, ◌∙◌, subst, option_to_list}
use Rattle.scp_quorum_search.specs.declared.member.Member.{Member}
use Rattle.scp_script_hints.specs.Hints.{AreApart}
use Rattle.scp_script_hints.proofs.apart.apart.Goals as goal

pub returns-clause-found : goal.returns-clause-found
returns-clause-found c = subst (λ (ms : List Member). AreApart ms (option_to_list c.in_ok-found.found)) (c.as_slice.ensures.value ∙ c.in_ok-members.ensures.members) c.in_ok-found.ensures
