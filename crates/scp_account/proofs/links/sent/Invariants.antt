use Rattle.std.proofs.Common.{◌≡◌, ◌++◌, map, drop}
use Rattle.std.specs.Prelude.{flat_map}
use Rattle.serde_json.specs.View.{view}
use Rattle.scp_account.specs.Links.{sent}
use Rattle.scp_account.specs.inside.Happened.{happened}
use Rattle.scp_account.proofs.links.sent.Given as goal

-- with what is left it is all
abbrev pub invariant-loop-happening : goal.invariant-loop-happening
invariant-loop-happening l = map view l.values.items ++ flat_map (sent l.link) (happened (drop l.happening-index l.happenings)) ≡ flat_map (sent l.link) (happened l.happenings)
