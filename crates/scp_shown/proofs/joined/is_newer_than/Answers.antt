use Rattle.std.proofs.Common.{sym, subst, Bor}
use Rattle.std.specs.Prelude.{◌↔◌, Option, IsTrue}
use Rattle.std.specs.Option.{option_map, ForSome}
use Rattle.scp_history.specs.scp_envelope.specs.Newer.{IsNewer}
use Rattle.scp_history.specs.scp_judged.specs.Verdicts.{heard_of}
use Rattle.scp_history.specs.scp_judged.specs.declared.verdict.Said.{Said}
use Rattle.scp_shown.proofs.Joining.{newer_some}
use Rattle.scp_shown.proofs.joined.is_newer_than.Goals as goal

pub returns-in-Some : goal.returns-in-Some
returns-in-Some c =
    let said = c.in-Some.said.now in
    let t = c.args.statement.now in
    subst (λ (o : Option (Bor Said)). IsTrue c.newer.result ↔ ForSome (option_map (λ (one : Bor Said). heard_of one.now) o) (λ h. IsNewer h.statement t)) (sym c.in-Some.is)
    (newer_some c.get.result.now said.envelope said.set.value t c.newer.result c.get.ensures c.newer.ensures)
