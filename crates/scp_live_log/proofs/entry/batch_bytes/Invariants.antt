use Rattle.std.proofs.Common.{◌≡◌, ◌++◌, drop}
use Rattle.scp_live_log.specs.Log.{spelled, last_digest, batch_of, marked_from}
use Rattle.scp_live_log.proofs.entry.batch_bytes.Given as goal

abbrev pub invariant-loop-entry : goal.invariant-loop-entry
invariant-loop-entry l = record {
  bytes : l.bytes.items ++ spelled l.last.0 (marked_from l.begins (drop l.entry-index l.entries)) ≡ spelled l.fn.before.0 (batch_of l.entries);
  digest : last_digest l.last.0 (marked_from l.begins (drop l.entry-index l.entries)) ≡ last_digest l.fn.before.0 (batch_of l.entries);
}
