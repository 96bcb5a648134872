use Rattle.std.proofs.Common.{◌≡◌, ◌≤◌, ◌-◌, length}
use Rattle.scp_prompt.specs.declared.bytes.TheConstants.{LONG_LIMIT}
use Rattle.scp_device.specs.Device.{Loses}
use Rattle.scp_prompt.proofs.bytes.read_within.Given as goal

abbrev pub invariant-loop-text : goal.invariant-loop-text
invariant-loop-text g l =
    let left = g.R.ScriptIn.left in
    record {
      read : Loses (left l.initial.reader) l.text.items (left l.reader);
      limit : length l.text.items ≤ LONG_LIMIT;
      failures : g.R.ScriptIn.failures l.reader ≡ g.R.ScriptIn.failures l.initial.reader;
    }

abbrev pub decreases-loop-text : goal.decreases-loop-text
decreases-loop-text g l = LONG_LIMIT - length l.text.items
