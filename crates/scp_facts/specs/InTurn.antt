-- A fate that is kept is that of its own command (this project's profile).
use Rattle.std.specs.Prelude.{ℕ, List, []}
use Rattle.scp_turn.specs.scp_core.specs.History.{Exchange}
use Rattle.scp_turn.specs.scp_core.specs.Kv.{NodeView, LedgerTheorem}
use Rattle.scp_turn.specs.Commands.{given_in, AreInTurn}
use Rattle.scp_turn.specs.Kv.{Watched}
use Rattle.scp_facts.specs.declared.happening.Kept.{Kept}
use Rattle.scp_facts.specs.Kept.{Keeps}
use Rattle.scp_facts.specs.Taken.{happenings_at, obeyed_in}

-- Of a node from the moment when it was made: the commands that were kept as taken are the first of those that it was given, each once, in the
-- order given. The others wait.
abbrev pub NodeIsKeptInTurn : Type 0
NodeIsKeptInTurn = (number : ℕ) (old new : NodeView) (heard : List Exchange) (kept : List Kept) → LedgerTheorem [] old → Watched Keeps number [] old heard new kept → AreInTurn (given_in heard) (obeyed_in (happenings_at number kept)) new
