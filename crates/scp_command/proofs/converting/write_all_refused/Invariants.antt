use Rattle.std.proofs.Common.{◌≡◌, List, ℕ, Option, drop}
use Rattle.scp_script_short.specs.scp_device.specs.Device.{Gains}
use Rattle.scp_command.specs.Converting.{AreReported}
use Rattle.scp_command.proofs.converting.write_all_refused.Given as goal

-- the lines of what is left lead to all
abbrev pub invariant-loop-bad : goal.invariant-loop-bad
invariant-loop-bad g l =
    let written = g.E.ReportOut.written in
    record {
      leads : (rest : List ℕ) (end : Option (List ℕ)) → AreReported l.conversion l.name l.input (drop l.bad-index l.refused) rest → Gains (written l.errors) rest end
          → (told : List ℕ) × AreReported l.conversion l.name l.input l.refused told × Gains (written l.initial.errors) told end;
      failures : g.E.ReportOut.failures l.errors ≡ g.E.ReportOut.failures l.initial.errors;
    }
