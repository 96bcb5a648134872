use Rattle.std.proofs.Common.{◌++◌, List, Bool, false, string_bytes, sym, ◌∙◌, ap, subst, map}
use Rattle.std.proofs.Math.Path.{fun_ext}
use Rattle.scp_quorum_search.specs.scp_types.specs.declared.names.NodeId.{NodeId}
use Rattle.scp_quorum_search.specs.declared.member.Member.{Member}
use Rattle.scp_quorum_files.specs.declared.network.Named.{Named}
use Rattle.scp_quorum_files.specs.Report.{TellsMeeting, TellAllHalting, TellsSurvival, said_text}
use Rattle.scp_quorum_files.proofs.Lines.{four, left_of_four, empty_has_none}
use Rattle.scp_quorum_files.proofs.report.network_text.Goals as goal

pub returns : goal.returns
returns c =
    let network = c.args.network.now in
    let meeting = string_bytes c.in_ok-meeting.meeting in
    let halting = string_bytes c.in_ok-halting.halting in
    let survival = string_bytes c.in_ok-survival.survival in
    let said = said_text (map string_bytes network.strays.items) network in
    let L : (NodeId → Bool) → Type 0 = λ f. TellsMeeting c.deref.result.now f c.deref-2.result.now (string_bytes c.in_ok-meeting.meeting) in
    let M : List Member → Type 0 = λ ms. TellsMeeting c.deref.result.now (λ v. false) ms (string_bytes c.in_ok-meeting.meeting) in
    let N : List Named → Type 0 = λ ns. TellsMeeting ns (λ v. false) c.args.network.now.members.items (string_bytes c.in_ok-meeting.meeting) in
    let H : List Named → Type 0 = λ ns. TellAllHalting ns c.deref-4.result.now c.deref-4.result.now (string_bytes c.in_ok-halting.halting) in
    let K : List Member → Type 0 = λ ms. TellAllHalting c.args.network.now.nodes.items ms ms (string_bytes c.in_ok-halting.halting) in
    let S : List Member → Type 0 = λ ms. TellsSurvival ms (string_bytes c.in_ok-survival.survival) in
    record {
      meeting = meeting;
      halting = halting;
      survival = survival;
      intersects = subst N c.deref.ensures.value (subst M c.deref-2.ensures.value (subst L (fun_ext (empty_has_none c.new-none.result c.new-none.ensures.empty)) c.in_ok-meeting.ensures));
      halts = subst K c.deref-4.ensures.value (subst H c.deref-3.ensures.value c.in_ok-halting.ensures);
      survives = subst S c.deref-5.ensures.value c.in_ok-survival.ensures;
      is = four (string_bytes c.new-out.result) (string_bytes c.write_said.new.out) (string_bytes c.push_str.new.self) (string_bytes c.push_str-2.new.self) (string_bytes c.push_str-3.new.self) said meeting halting survival
          c.in_ok-write_said.ensures
          (c.in_ok-push_str.ensures.bytes ∙ ap (λ t. string_bytes c.write_said.new.out ++ t) c.as_str.ensures.value)
          (c.in_ok-push_str-2.ensures.bytes ∙ ap (λ t. string_bytes c.push_str.new.self ++ t) c.as_str-2.ensures.value)
          (c.in_ok-push_str-3.ensures.bytes ∙ ap (λ t. string_bytes c.push_str-2.new.self ++ t) c.as_str-3.ensures.value)
          ∙ ap (λ o. o ++ (((said ++ meeting) ++ halting) ++ survival)) c.new-out.ensures.bytes ∙ sym (left_of_four said meeting halting survival);
    }
