use Rattle.std.proofs.Common.{List, ◌∙◌, subst, string_bytes}
use Rattle.scp_quorum_search.specs.declared.member.Member.{Member}
use Rattle.scp_script_hints.specs.Told.{TellsApart}
use Rattle.scp_script_hints.proofs.told.apart_text.Goals as goal

pub returns-clause-tells : goal.returns-clause-tells
returns-clause-tells c =
    let P : List Member → Type 0 = λ ms. TellsApart ms (string_bytes c.in_ok-text.text) in
    subst P (c.as_slice-members.ensures.value ∙ c.in_ok-members.ensures.members) c.in_ok-text.ensures.tells
