use Rattle.std.proofs.Common.{◌≡◌, ◌+◌, List, ℕ, length}
use Rattle.scp_device.specs.Device.{Loses}
use Rattle.scp_archive.proofs.entries.pass_body.Given as goal

abbrev pub invariant-loop-missing : goal.invariant-loop-missing
invariant-loop-missing g l =
    let left = g.R.ScriptIn.left in
    record {
      passed : (body : List ℕ) × (length body + l.missing ≡ l.len) × Loses (left l.initial.reader) body (left l.reader);
      failures : g.R.ScriptIn.failures l.reader ≡ g.R.ScriptIn.failures l.initial.reader;
    }

abbrev pub decreases-loop-missing : goal.decreases-loop-missing
decreases-loop-missing g l = l.missing
