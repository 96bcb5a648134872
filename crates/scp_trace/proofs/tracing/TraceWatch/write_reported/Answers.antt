use Rattle.std.proofs.Common.{◌≡◌, take, string_bytes}
use Rattle.scp_line.specs.scp_script.specs.declared.command.Command.TheVariants.{Report}
use Rattle.scp_trace.proofs.Watching.{stand_asked}
use Rattle.scp_trace.proofs.tracing.TraceWatch.write_reported.Goals as goal

pub returns-in-Report-clause-added : goal.returns-in-Report-clause-added
returns-in-Report-clause-added c =
    let old = c.args.self.now in
    let is : c.args.command.now ≡ Report c.in-Report.number = cc c.in-Report.is in
    stand_asked old.names.now c.in-Report.number old.commands.now (take old.done old.commands.now) c.args.nodes.now c.args.command.now (string_bytes old.text) (string_bytes c.write_number.new.self.text) c.write_number.result is c.write_number.ensures.added
