use Rattle.std.proofs.Common.{map, subst}
use Rattle.scp_ledger.specs.scp_quorum.specs.Quorum.{set_of, HasNoQuorum}
use Rattle.scp_ledger.specs.scp_envelope.specs.declared.statement.Envelope.{Envelope}
use Rattle.scp_judged.specs.Verdicts.{heard_of, heard_by}
use Rattle.scp_judged.specs.inside.Backed.{IsLowEnd}
use Rattle.scp_judged.proofs.Backing.{backed_none, if_none}
use Rattle.scp_judged.proofs.backed.backs_at.Goals as goal

pub returns-clause-none : goal.returns-clause-none
returns-clause-none c =
    let sets = set_of c.in_ok-sets.sets in
    let low : IsLowEnd c.args.said.now.envelope.statement.pledges c.args.value.now c.in-Some.counter = subst (λ (e : Envelope). IsLowEnd e.statement.pledges c.args.value.now c.in-Some.counter) c.get.ensures c.in-Some.ensures.found in
    let none : HasNoQuorum sets c.args.node = if_none c.in_ok-greatest_quorum.field-0 (HasNoQuorum sets c.args.node) c.in-None.is c.in_ok-greatest_quorum.ensures.none in
    backed_none (heard_by (map heard_of c.args.counting.now)) c.args.value.now c.args.node (heard_of c.args.said.now) c.in-Some.counter sets low c.in_ok-sets.ensures.accepting none
