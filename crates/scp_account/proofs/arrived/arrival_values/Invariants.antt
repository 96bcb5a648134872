use Rattle.std.proofs.Common.{◌≡◌, ◌++◌, map, drop}
use Rattle.serde_json.specs.View.{view}
use Rattle.scp_account.specs.Arrived.{arrivals_json}
use Rattle.scp_account.proofs.arrived.arrival_values.Given as goal

-- with what is left it is all
abbrev pub invariant-loop-report : goal.invariant-loop-report
invariant-loop-report l = record {
  at : l.link ≡ l.report-index;
  so_far : map view l.values.items ++ arrivals_json l.came l.link (drop l.report-index l.links) ≡ arrivals_json l.came 0 l.links;
}
