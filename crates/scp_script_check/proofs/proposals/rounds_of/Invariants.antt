use Rattle.std.proofs.Common.{◌≡◌, ◌+◌, ℕ, drop, count_by}
use Rattle.std.specs.Option.{unwrap_or}
use Rattle.std.specs.Ordering.{nat_cmp}
use Rattle.std.specs.BTreeMap.{get}
use Rattle.scp_script_check.specs.Nodes.{is_round}
use Rattle.scp_script_check.proofs.proposals.rounds_of.Given as goal

-- with what is left it is all
abbrev pub invariant-loop-command : goal.invariant-loop-command
invariant-loop-command l = (q : ℕ) → unwrap_or (get nat_cmp l.rounds q) 0 + count_by (is_round l.node q) (drop l.command-index l.commands) ≡ count_by (is_round l.node q) l.commands
