use Rattle.std.proofs.Common.{◌≡◌, List, ℕ, Option, drop, flat_map}
use Rattle.scp_device.specs.Device.{Gains}
use Rattle.scp_device.proofs.parts.write_parts.Given as goal

-- what is left leads to all
abbrev pub invariant-loop-part : goal.invariant-loop-part
invariant-loop-part g l =
    let written = g.W.ReportOut.written in
    record {
      leads : (end : Option (List ℕ)) → Gains (written l.writer) (flat_map (λ part. part.now) (drop l.part-index l.parts)) end → Gains (written l.initial.writer) (flat_map (λ part. part.now) l.parts) end;
      failures : g.W.ReportOut.failures l.writer ≡ g.W.ReportOut.failures l.initial.writer;
    }
