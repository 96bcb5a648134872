use Rattle.std.proofs.Common.{map}
use Rattle.scp_history.specs.scp_judged.specs.Verdicts.{heard_of}
use Rattle.scp_shown.specs.Sides.{side_of}
use Rattle.scp_shown.proofs.Telling.{side_is, on_side}
use Rattle.scp_shown.proofs.values.add_value.Goals as goal

pub returns-clause-lines : goal.returns-clause-lines
returns-clause-lines c = on_side c.add_side.result _ c.in_ok-certified.ensures.added

pub returns-clause-sides : goal.returns-clause-sides
returns-clause-sides c =
    side_is c.add_side.result (map heard_of c.args.joined.now) c.args.nodes.now c.args.value.now c.in_ok-certified.certified.items c.args.sides.now.items c.add_side.new.sides.items c.in_ok-certified.ensures.certified c.add_side.ensures.added
