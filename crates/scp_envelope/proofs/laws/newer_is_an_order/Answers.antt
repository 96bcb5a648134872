use Rattle.scp_envelope.proofs.NewerLaws.{irreflexive, transitive, asymmetric}
use Rattle.scp_envelope.proofs.laws.newer_is_an_order.Goals as goal

pub returns-clause-irreflexive : goal.returns-clause-irreflexive
returns-clause-irreflexive c = irreflexive

pub returns-clause-transitive : goal.returns-clause-transitive
returns-clause-transitive c = transitive

pub returns-clause-asymmetric : goal.returns-clause-asymmetric
returns-clause-asymmetric c = asymmetric
