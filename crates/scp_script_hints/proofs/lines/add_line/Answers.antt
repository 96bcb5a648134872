use Rattle.std.proofs.Common.{◌≡◌, ◌++◌, sym, subst}
use Rattle.std.specs.Ordering.{nat_cmp}
use Rattle.std.specs.BTreeSet.{contains}
use Rattle.scp_script.specs.declared.command.Command.{Command}
use Rattle.scp_script_hints.specs.Hints.{command_hints}
use Rattle.scp_script_hints.specs.inside.Behind.{has_sent}
use Rattle.scp_script_hints.proofs.lines.add_line.Goals as goal

pub returns-in_ok-add_link-in-Send-clause-added : goal.returns-in_ok-add_link-in-Send-clause-added
returns-in_ok-add_link-in-Send-clause-added c =
    let before = c.args.before.now in
    subst (λ (x : Command). c.add_link.new.out.items ≡ c.args.out.now.items ++ command_hints c.args.commands.now (has_sent before.sent.items) (contains nat_cmp before.deciding) c.args.line x) (sym c.in-Send.is) c.in_ok-add_link-in-Send.ensures
