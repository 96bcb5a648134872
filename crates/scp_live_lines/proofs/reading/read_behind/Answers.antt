use Rattle.std.proofs.Common.{rules, map}
use Rattle.std.specs.Prelude.{string_bytes}
use Rattle.scp_live_lines.proofs.reading.read_behind.Goals as goal

pub returns-in_err-nothing-in-Tick-clause-bad : goal.returns-in_err-nothing-in-Tick-clause-bad
returns-in_err-nothing-in-Tick-clause-bad c = let told = c.in_err-nothing-in-Tick.ensures.bad (map string_bytes c.args.names.now) in search rules

pub returns-in_err-nothing-in-State-clause-bad : goal.returns-in_err-nothing-in-State-clause-bad
returns-in_err-nothing-in-State-clause-bad c = let told = c.in_err-nothing-in-State.ensures.bad (map string_bytes c.args.names.now) in search rules

pub returns-in_err-nothing-in-Report-clause-bad : goal.returns-in_err-nothing-in-Report-clause-bad
returns-in_err-nothing-in-Report-clause-bad c = let told = c.in_err-nothing-in-Report.ensures.bad (map string_bytes c.args.names.now) in search rules

pub returns-in_err-nothing-in-Stand-clause-bad : goal.returns-in_err-nothing-in-Stand-clause-bad
returns-in_err-nothing-in-Stand-clause-bad c = let told = c.in_err-nothing-in-Stand.ensures.bad (map string_bytes c.args.names.now) in search rules
