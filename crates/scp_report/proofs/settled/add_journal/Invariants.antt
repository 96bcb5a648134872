use Rattle.std.proofs.Common.{◌≡◌, fold, drop}
use Rattle.std.specs.BTreeSet.{insert_key}
use Rattle.scp_core.specs.scp_theorem.specs.Fates.{conn_of}
use Rattle.scp_core.specs.scp_types.specs.Order.{conn_cmp}
use Rattle.scp_report.proofs.settled.add_journal.Given as goal

-- what is left leads to all
abbrev pub invariant-loop-fate : goal.invariant-loop-fate
invariant-loop-fate l = fold (λ conns fate. insert_key conn_cmp conns (conn_of fate)) l.conns.keys (drop l.fate-index l.journal) ≡ fold (λ conns fate. insert_key conn_cmp conns (conn_of fate)) l.initial.conns.keys l.journal
