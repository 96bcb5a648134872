use Rattle.std.proofs.Common.{◌≡◌, take}
use Rattle.std.specs.List.{All, Any}
use Rattle.scp_quorum_search.proofs.sides.have_one_set.Given as goal

abbrev pub invariant-loop-member : goal.invariant-loop-member
invariant-loop-member l = All (λ m. m.node ≡ l.a → Any (λ o. (o.node ≡ l.b) × (o.set ≡ m.set)) l.members) (take l.member-index l.members)
