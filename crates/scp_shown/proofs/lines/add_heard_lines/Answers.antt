use Rattle.std.proofs.Common.{◌≡◌, ◌∙◌, ◌++◌, [], List, map, ap, subst}
use Rattle.scp_history.specs.scp_judged.specs.Verdicts.{heard_of}
use Rattle.scp_shown.specs.Sides.{side_lines}
use Rattle.scp_shown.proofs.Gathering.{heard_lines}
use Rattle.scp_shown.proofs.lines.add_heard_lines.Goals as goal

pub returns-clause-added : goal.returns-clause-added
returns-clause-added c =
    heard_lines c.add_side_lines.result c.args.ledger (map heard_of c.args.joined.now) c.args.nodes.now _ c.args.lines.now.items c.add_values.new.lines.items c.add_side_lines.new.lines.items c.new-sides.result.items c.add_values.new.sides.items c.new-sides.ensures.items c.in_ok-values.ensures.values c.in_ok-add_values.ensures.lines c.in_ok-add_values.ensures.sides c.add_side_lines.ensures.added
