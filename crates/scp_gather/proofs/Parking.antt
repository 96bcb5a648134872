-- What is parked came.
use Rattle.std.proofs.Common.{List, [], ◌∷◌}
use Rattle.std.specs.List.{AllByRecursion}
use Rattle.scp_workers.specs.scp_types.specs.declared.names.ConnId.{ConnId}
use Rattle.scp_workers.specs.scp_types.specs.declared.names.NodeId.{NodeId}
use Rattle.scp_workers.specs.scp_wire.specs.declared.carried.Carried.{Carried}
use Rattle.scp_workers.specs.scp_wire.specs.declared.message.Message.{Message}
use Rattle.scp_workers.specs.scp_wire.specs.declared.link.Inbound.{Inbound}
use Rattle.scp_workers.specs.scp_wire.specs.declared.link.Inbound.TheVariants as inbound
use Rattle.scp_workers.specs.scp_wire.specs.Parts.{IsNumbered}
use Rattle.scp_workers.specs.scp_pending.specs.Causes.{Place}
use Rattle.scp_workers.specs.scp_pending.specs.Rules.{Settled}
use Rattle.scp_workers.specs.scp_theorem.specs.Fates.{IsOfLink}
use Rattle.scp_gather.specs.Gathered.{IsOfItsNumber}
use Rattle.scp_gather.proofs.Coming.{IsCarriedByLink}
use Rattle.scp_gather.proofs.Lists.{all_mid}

-- what holds of all that came holds of what is parked
of_came : (P : Inbound → Type 0) (start : Settled) (came : List Inbound) (parked : List Carried) → AllByRecursion P came → AllByRecursion (Place start came) parked → AllByRecursion (λ x. P (inbound.Carried x)) parked
of_came P start came [] a k = tt
of_came P start came (x ∷ xs) a k = (all_mid P came k.0.before k.0.after (inbound.Carried x) k.0.at a, of_came P start came xs a k.1)

pub parked_right : (c : ConnId) (messages : List Message) (start : Settled) (came : List Inbound) (parked : List Carried) → AllByRecursion (IsNumbered c messages) came → AllByRecursion (Place start came) parked → AllByRecursion (IsOfItsNumber c messages) parked
parked_right c messages start came parked a k = of_came (IsNumbered c messages) start came parked a k

pub parked_of_links : (me : NodeId) (peers : List NodeId) (start : Settled) (came : List Inbound) (parked : List Carried) → AllByRecursion (IsCarriedByLink me peers) came → AllByRecursion (Place start came) parked → AllByRecursion (λ x. IsOfLink me peers x.conn) parked
parked_of_links me peers start came parked a k = of_came (IsCarriedByLink me peers) start came parked a k
