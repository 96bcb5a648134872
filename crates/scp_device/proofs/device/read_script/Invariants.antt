use Rattle.std.proofs.Common.{◌≡◌, ◌≤◌, ◌-◌, length}
use Rattle.std.specs.Prelude.{vec_capacity}
use Rattle.scp_types.specs.declared.limits.TheConstants.{SCRIPT_LIMIT}
use Rattle.scp_device.specs.Device.{Loses}
use Rattle.scp_device.proofs.device.read_script.Given as goal

abbrev pub invariant-loop-text : goal.invariant-loop-text
invariant-loop-text g l =
    let left = g.R.ScriptIn.left in
    record {
      read : Loses (left l.initial.reader) l.text.items (left l.reader);
      limit : length l.text.items ≤ SCRIPT_LIMIT;
      room : SCRIPT_LIMIT ≤ vec_capacity l.text;
      failures : g.R.ScriptIn.failures l.reader ≡ g.R.ScriptIn.failures l.initial.reader;
    }

abbrev pub decreases-loop-text : goal.decreases-loop-text
decreases-loop-text g l = SCRIPT_LIMIT - length l.text.items
