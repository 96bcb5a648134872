use Rattle.std.proofs.Common.{◌≡◌, false}
use Rattle.std.specs.List.{AllByRecursion}
use Rattle.scp_judged.specs.Named.{set_in}
use Rattle.scp_audit.specs.Audit.{IsSaneRecord}
use Rattle.scp_audit.proofs.Auditing.{IsSoFar}
use Rattle.scp_audit.proofs.archive.read_archive.Given as goal

-- what was read so far is audited, and nothing failed
abbrev pub invariant-loop : goal.invariant-loop
invariant-loop g l =
    let left = g.R.ScriptIn.left in
    record {
      fresh : l.entries ≡ false;
      so_far : IsSoFar (left l.fn.reader) l.records.items (left l.reader) (set_in l.sets);
      sane : AllByRecursion IsSaneRecord l.records.items;
      failures : g.R.ScriptIn.failures l.reader ≡ g.R.ScriptIn.failures l.fn.reader;
    }
