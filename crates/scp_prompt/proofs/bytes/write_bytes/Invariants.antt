use Rattle.std.proofs.Common.{◌≡◌, List, ℕ, Option, length}
use Rattle.scp_device.specs.Device.{Gains, GainsPart}
use Rattle.scp_prompt.proofs.bytes.write_bytes.Given as goal

-- what is left leads to all
abbrev pub invariant-loop-rest : goal.invariant-loop-rest
invariant-loop-rest g l =
    let written = g.W.ReportOut.written in
    record {
      leads : (end : Option (List ℕ)) → Gains (written l.writer) l.rest end → Gains (written l.initial.writer) l.bytes end;
      parted : (end : Option (List ℕ)) → GainsPart (written l.writer) l.rest end → GainsPart (written l.initial.writer) l.bytes end;
      failures : g.W.ReportOut.failures l.writer ≡ g.W.ReportOut.failures l.initial.writer;
    }

abbrev pub decreases-loop-rest : goal.decreases-loop-rest
decreases-loop-rest g l = length l.rest
