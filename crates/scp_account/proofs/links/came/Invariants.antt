use Rattle.std.proofs.Common.{◌≡◌, ◌++◌, map, drop}
use Rattle.std.specs.Prelude.{flat_map}
use Rattle.serde_json.specs.View.{view}
use Rattle.scp_account.specs.Links.{came}
use Rattle.scp_account.specs.inside.Happened.{happened}
use Rattle.scp_account.proofs.links.came.Given as goal

-- with what is left it is all
abbrev pub invariant-loop-happening : goal.invariant-loop-happening
invariant-loop-happening l = map view l.values.items ++ flat_map (came l.link) (happened (drop l.happening-index l.happenings)) ≡ flat_map (came l.link) (happened l.happenings)
