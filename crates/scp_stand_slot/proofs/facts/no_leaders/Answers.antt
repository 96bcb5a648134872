use Rattle.std.proofs.Common.{◌≡◌, List, [], sym, subst, Contains, arith, length}
use Rattle.std.specs.List.Sorted.{IsStrictlySortedBy}
use Rattle.scp_slot.specs.scp_types.specs.declared.names.NodeId.{NodeId}
use Rattle.scp_slot.specs.scp_quorum.specs.NodeSet.{node_cmp}
use Rattle.scp_slot.specs.scp_driver.specs.Kv.{leader_place}
use Rattle.scp_stand_slot.specs.Machine.{AreLeaders}
use Rattle.scp_stand_slot.proofs.Leading.{nobody_leads, nothing_sorted}
use Rattle.scp_stand_slot.proofs.facts.no_leaders.Goals as goal

pub returns : goal.returns
returns c =
    subst (λ (vs : List NodeId). AreLeaders c.args.slot.0 c.args.members.now c.args.rounds vs) (sym c.new.ensures.items)
    (record {
      ascending = nothing_sorted;
      these = λ v. ((λ h. absurd (omega (arith, h.1))), λ l. absurd (nobody_leads (leader_place c.args.slot.0) c.args.members.now c.args.rounds v c.requires.none l));
    })
