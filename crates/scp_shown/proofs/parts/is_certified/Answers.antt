use Rattle.std.proofs.Common.{List, map}
use Rattle.std.specs.BTreeSet.{keys}
use Rattle.scp_history.specs.scp_types.specs.declared.names.NodeId.{NodeId}
use Rattle.scp_history.specs.scp_ledger.specs.Journal.{Heard}
use Rattle.scp_history.specs.scp_judged.specs.Verdicts.{heard_of, heard_by}
use Rattle.scp_history.specs.scp_judged.specs.Certified.{IsCertifiedFor, IsUncertified}
use Rattle.scp_history.specs.scp_judged.specs.declared.certificates.Certificate.{Certificate}
use Rattle.scp_shown.specs.ValueLines.{IsCertified}
use Rattle.scp_shown.proofs.Listing.{some_or_none}
use Rattle.scp_shown.proofs.parts.is_certified.Goals as goal

pub returns-clause-certified : goal.returns-clause-certified
returns-clause-certified c =
    let hs : List Heard = map heard_of c.args.joined.now in
    let v : NodeId = c.args.node in
    some_or_none c.in_ok-found.found (λ (k : Certificate). IsCertifiedFor (heard_by hs) v k.value k.n (keys k.nodes)) (IsUncertified (heard_by hs) v) (IsCertified (heard_by hs) v) c.is_some.result c.is_some.ensures c.in_ok-found.ensures.found (λ k p. (k.value, k.n, keys k.nodes, p)) c.in_ok-found.ensures.none (λ n q. n q.0 q.1 q.2 q.3)
