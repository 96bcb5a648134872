use Rattle.std.proofs.Common.{◌≡◌, ◌↔◌, true, Contains}
use Rattle.std.specs.List.Sorted.{IsStrictlySortedBy}
use Rattle.scp_slot.specs.scp_types.specs.declared.names.NodeId.{NodeId}
use Rattle.scp_slot.specs.scp_quorum.specs.NodeSet.{node_cmp, is_in}
use Rattle.scp_stand_slot.specs.Machine.{AreLeaders}
use Rattle.scp_stand_slot.proofs.Ways.{both_ok}
use Rattle.scp_stand_slot.proofs.facts.list_of_leaders.Goals as goal

pub returns : goal.returns
returns c =
    both_ok (λ list. (v : NodeId) → Contains list.items v ↔ (is_in c.in_ok-leaders.leaders v ≡ true)) (λ list. IsStrictlySortedBy node_cmp list.items) (λ list. AreLeaders c.args.slot.0 c.args.members.now c.args.rounds list.items)
    c.list_of.result c.list_of.ensures.these c.list_of.ensures.ascending
    (λ list these up. record {
      ascending = up;
      these = λ v. ((λ h. (c.in_ok-leaders.ensures v).0 ((these v).0 h)), λ h. (these v).1 ((c.in_ok-leaders.ensures v).1 h));
    })
