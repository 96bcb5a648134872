use Rattle.std.proofs.Common.{◌≡◌, take}
use Rattle.scp_quorum.proofs.Members.{IsRemoving}
use Rattle.scp_quorum.proofs.quorum.groups.remove_members.Given as goal

abbrev pub invariant-loop-member : goal.invariant-loop-member
invariant-loop-member l =
    record {
      removing : IsRemoving l.member-items l.initial.nodes l.nodes l.removed (take l.member-index l.member-items);
      all : l.member-items ≡ l.group.members.items;
    }
