use Rattle.std.proofs.Common.{◌≡◌, ◌↔◌, true, not, List, Contains, ap, subst}
use Rattle.std.specs.Prelude.{is_some}
use Rattle.std.specs.List.Sorted.{IsStrictlySortedBy}
use Rattle.scp_slot.specs.scp_types.specs.declared.names.NodeId.{NodeId}
use Rattle.scp_slot.specs.scp_quorum.specs.NodeSet.{node_cmp, is_in}
use Rattle.scp_slot.specs.scp_vote.specs.Seen.{seen}
use Rattle.scp_slot.specs.scp_vote.specs.declared.claim.StatementKind.TheVariants.{Balloting}
use Rattle.scp_slot.specs.scp_nominate.specs.Heard.{heard}
use Rattle.scp_stand_slot.specs.Machine.{AreHeard}
use Rattle.scp_stand_slot.proofs.Ways.{both_ok}
use Rattle.scp_stand_slot.proofs.Gathering.{Others, both_heard}
use Rattle.scp_stand_slot.proofs.facts.others.Goals as goal

pub returns : goal.returns
returns c =
    let n : NodeId → _ = λ v. is_some ((heard c.args.nominations.now).statement v) in
    let b : NodeId → _ = λ v. is_some ((seen Balloting c.args.ballots.now).statement v) in
    let one = is_in c.add_others.new.others in
    let two = is_in c.add_others-2.new.others in
    let first : Others c.args.me (is_in c.new-others.result) c.in_ok-nominating.nominating.items one = subst (λ (vs : List NodeId). Others c.args.me (is_in c.new-others.result) vs one) c.as_slice.ensures.value c.in_ok-add_others.ensures in
    let second : Others c.args.me one c.in_ok-balloting.balloting.items two = subst (λ (vs : List NodeId). Others c.args.me one vs two) c.as_slice-2.ensures.value c.in_ok-add_others-2.ensures in
    both_ok (λ list. (v : NodeId) → Contains list.items v ↔ (two v ≡ true)) (λ list. IsStrictlySortedBy node_cmp list.items) (λ list. AreHeard c.args.me (heard c.args.nominations.now) (seen Balloting c.args.ballots.now) list.items) c.list_of.result c.list_of.ensures.these c.list_of.ensures.ascending
    (λ list these up.
    let told = both_heard c.args.me (is_in c.new-others.result) one two c.in_ok-nominating.nominating.items c.in_ok-balloting.balloting.items n b (λ v. ap (λ (ks : List NodeId). is_in (record { keys = ks }) v) c.new-others.ensures.empty) c.in_ok-nominating.ensures c.in_ok-balloting.ensures first second in
    record {
      ascending = up;
      these = λ v. ((λ h. (told v).0 ((these v).0 h)), λ h. (these v).1 ((told v).1 h));
    })
