use Rattle.std.proofs.Common.{◌≡◌, ◌++◌, map, drop}
use Rattle.serde_json.specs.View.{view}
use Rattle.scp_account.specs.Links.{links_json}
use Rattle.scp_account.specs.inside.Happened.{happened}
use Rattle.scp_account.proofs.links.link_values.Given as goal

-- with what is left it is all
abbrev pub invariant-loop-report : goal.invariant-loop-report
invariant-loop-report l = record {
  at : l.link ≡ l.report-index;
  so_far : map view l.values.items ++ links_json (happened l.happenings) l.link (drop l.report-index l.links) ≡ links_json (happened l.happenings) 0 l.links;
}
