use Rattle.std.proofs.Common.{◌≡◌, ◌++◌, sym, subst}
use Rattle.scp_script.specs.declared.command.Command.{Command}
use Rattle.scp_script_check.specs.Warnings.{command_warnings}
use Rattle.scp_script_check.proofs.Telling.{send_added, propose_added}
use Rattle.scp_script_check.proofs.warned.add_line.Goals as goal

pub returns-in_ok-add_send-in-Send-clause-added : goal.returns-in_ok-add_send-in-Send-clause-added
returns-in_ok-add_send-in-Send-clause-added c = λ done k.
    let w = c.args.whole.now in
    let s = c.in-Send in
    subst (λ (x : Command). c.add_send.new.out.items ≡ c.args.out.now.items ++ command_warnings w.turns.now w.commands.now done c.args.line x) (sym s.is)
    (send_added w.turns.now w.commands.now done c.args.before.now c.args.line s.from s.to s.bytes c.args.out.now.items c.add_send.new.out.items c.in_ok-add_send-in-Send.ensures.added k)

pub returns-in_ok-add-in-Propose-clause-added : goal.returns-in_ok-add-in-Propose-clause-added
returns-in_ok-add-in-Propose-clause-added c = λ done k.
    let w = c.args.whole.now in
    let p = c.in-Propose in
    subst (λ (x : Command). c.add.new.out.items ≡ c.args.out.now.items ++ command_warnings w.turns.now w.commands.now done c.args.line x) (sym p.is)
    (propose_added w.turns.now w.commands.now done c.args.before.now c.args.line p.node p.slot p.value w.led.now c.in_ok-found-in-Propose.found c.args.out.now.items c.add.new.out.items c.in_ok-add-in-Propose.ensures c.in_ok-found-in-Propose.ensures.found (c.requires.whole p.slot) k)
