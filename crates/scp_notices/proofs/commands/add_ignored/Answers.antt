use Rattle.std.proofs.Common.{◌≡◌, ◌<◌, ℕ, List, length, get_or, take, sym, subst, arith}
use Rattle.scp_line.specs.scp_script.specs.declared.command.Command.{Command}
use Rattle.scp_notices.specs.inside.Queues.{AreQueues}
use Rattle.scp_notices.proofs.Queues.{next_taken, notices_more, notices_all}
use Rattle.scp_notices.proofs.commands.add_ignored.Goals as goal

pub fate_of-fate-requires-clause-count : goal.fate_of-fate-requires-clause-count
fate_of-fate-requires-clause-count c = c.loop-command.invariant.queues_are.count

pub loop-command-preserved : goal.loop-command-preserved
loop-command-preserved c =
    let commands = c.args.commands.now in
    let lines = c.args.lines.now in
    let told = c.args.told.now in
    let i = c.loop-command.index in
    let command = c.command-item.result in
    let lt : i < length commands = omega (arith, c.loop-command.invariant.at) in
    let is : command ≡ get_or commands i command = subst (λ (n : ℕ). command ≡ get_or commands n command) (sym c.loop-command.invariant.at) c.command-item.is in
    let next = c.fate_of-fate.ensures told (take i commands) c.loop-command.invariant.queues_are in
    record {
      at = omega (arith, c.loop-command.invariant.at);
      queues_are = subst (λ (l : List Command). AreQueues told l c.fate_of-fate.new.queues.items) (next_taken commands i command lt is) next.1;
      all = notices_more told lines commands i c.line_at.result command c.fate_of-fate.result c.loop-command.out.items c.add_line.new.out.items _ lt c.requires.count is c.line_at.ensures next.0 c.in_ok-add_line.ensures c.loop-command.invariant.all;
    }

pub returns : goal.returns
returns c = notices_all c.args.told.now c.args.lines.now c.args.commands.now c.loop-command.index c.loop-command.out.items _ (omega (arith, c.loop-command.invariant.at)) c.loop-command.invariant.all
