use Rattle.std.proofs.Common.{◌≡◌, ◌≤◌, ◌-◌, length}
use Rattle.scp_device.specs.Device.{Loses}
use Rattle.scp_archive.proofs.entries.read_body.Given as goal

abbrev pub invariant-loop-buffer : goal.invariant-loop-buffer
invariant-loop-buffer g l =
    let left = g.R.ScriptIn.left in
    record {
      within : length l.body.items ≤ l.len;
      read : Loses (left l.initial.reader) l.body.items (left l.reader);
      failures : g.R.ScriptIn.failures l.reader ≡ g.R.ScriptIn.failures l.initial.reader;
    }

abbrev pub decreases-loop-buffer : goal.decreases-loop-buffer
decreases-loop-buffer g l = l.len - length l.body.items
