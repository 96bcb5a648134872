use Rattle.std.proofs.Common.{List, Result, Ok, Err, sym, subst}
use Rattle.std.specs.Prelude.{OnOk}
use Rattle.scp_script.specs.Script.{node_count}
use Rattle.scp_threaded_node.specs.Outlets.{GivenEnds}
use Rattle.scp_threaded_script.specs.inside.Outlets.{AreKeeping, AreSeated}
use Rattle.scp_threaded_script.proofs.running.start_and_act.Goals as goal

on_any_ok : {X E A : Type 0} (r : Result X E) → A → OnOk r A
on_any_ok (Ok x) a = a
on_any_ok (Err e) a = tt

pub returns-clause-seated : goal.returns-clause-seated
returns-clause-seated g c = on_any_ok c.act_all.result
    (subst (λ (given : List GivenEnds). AreSeated (node_count c.args.commands.now) c.args.markers.now.items given) (sym c.act_all.ensures.given) (c.in_ok-start_all.ensures.seated c.args.markers.now.items c.requires.made))

pub returns-clause-keeping : goal.returns-clause-keeping
returns-clause-keeping g c = on_any_ok c.act_all.result (subst (λ (given : List GivenEnds). AreKeeping c.args.keeps given) (sym c.act_all.ensures.given) c.in_ok-start_all.ensures.keeping)
