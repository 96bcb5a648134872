use Rattle.std.proofs.Common.{◌≡◌, ◌≤◌, ℕ, length}
use Rattle.scp_script.specs.Nodes.{id_of, set_at}
use Rattle.scp_nominate.specs.Turns.{AreInTurn}
use Rattle.scp_script_check.specs.Warnings.{turn_of}
use Rattle.scp_script_check.proofs.turns.turns.Given as goal

-- those of the nodes so far
abbrev pub invariant-loop-index : goal.invariant-loop-index
invariant-loop-index l = record {
  each : length l.turns.items ≡ l.index;
  turn : (node : ℕ) → 1 ≤ node → node ≤ l.index → AreInTurn (id_of node) (set_at node l.commands) (turn_of l.turns.items node);
}
