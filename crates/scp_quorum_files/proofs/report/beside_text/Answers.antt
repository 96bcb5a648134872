use Rattle.std.proofs.Common.{◌++◌, List, codes, string_bytes, ◌∙◌, ap, subst, map}
use Rattle.scp_quorum_search.specs.scp_quorum.specs.NodeSet.{is_in}
use Rattle.scp_quorum_search.specs.declared.member.Member.{Member}
use Rattle.scp_quorum_files.specs.declared.network.Named.{Named}
use Rattle.scp_quorum_files.specs.Report.{TellsMeeting, names_text, said_text}
use Rattle.scp_quorum_files.proofs.Lines.{five, front_three}
use Rattle.scp_quorum_files.proofs.report.beside_text.Goals as goal

pub returns : goal.returns
returns c =
    let network = c.args.network.now in
    let liars = is_in c.args.liars.now in
    let meeting = string_bytes c.in_ok-meeting.meeting in
    let said = said_text (map string_bytes network.strays.items) network in
    let names = names_text network.nodes.items liars in
    let M : List Member → Type 0 = λ ms. TellsMeeting c.deref.result.now (is_in c.args.liars.now) ms (string_bytes c.in_ok-meeting.meeting) in
    let N : List Named → Type 0 = λ ns. TellsMeeting ns (is_in c.args.liars.now) c.args.network.now.members.items (string_bytes c.in_ok-meeting.meeting) in
    record {
      meeting = meeting;
      intersects = subst N c.deref.ensures.value (subst M c.deref-2.ensures.value c.in_ok-meeting.ensures);
      is = five (string_bytes c.new-out.result) (string_bytes c.write_said.new.out) (string_bytes c.push_str.new.self) (string_bytes c.write_names.new.out) (string_bytes c.push_str-2.new.self) (string_bytes c.push_str-3.new.self)
          said (codes "lying ") names (codes "\n") meeting
          c.in_ok-write_said.ensures c.in_ok-push_str.ensures.bytes
          (c.in_ok-write_names.ensures ∙ ap (λ (ns : List Named). string_bytes c.push_str.new.self ++ names_text ns liars) c.deref-3.ensures.value)
          c.in_ok-push_str-2.ensures.bytes
          (c.in_ok-push_str-3.ensures.bytes ∙ ap (λ t. string_bytes c.push_str-2.new.self ++ t) c.as_str.ensures.value)
          ∙ ap (λ o. o ++ ((((said ++ codes "lying ") ++ names) ++ codes "\n") ++ meeting)) c.new-out.ensures.bytes
          ∙ front_three said (codes "lying ") names (codes "\n") meeting;
    }
