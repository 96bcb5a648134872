use Rattle.std.proofs.Common.{◌≡◌, ◌++◌}
use Rattle.scp_judged.specs.Named.{set_in}
use Rattle.scp_audit.specs.Judging.{NamesAll}
use Rattle.scp_audit.proofs.ledger.name_all.Given as goal

-- those so far are named, and with what is left they are all
abbrev pub invariant-loop-set : goal.invariant-loop-set
invariant-loop-set l = record {
  named : NamesAll (set_in l.initial.sets) l.yielded (set_in l.sets);
  rest : l.fn.more.items ≡ l.yielded ++ l.set-iterator.rest.items;
}
