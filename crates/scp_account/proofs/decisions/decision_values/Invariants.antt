use Rattle.std.proofs.Common.{◌≡◌, ◌++◌, ℕ, List, map, drop}
use Rattle.serde_json.specs.View.{view}
use Rattle.scp_line.specs.scp_ledger.specs.declared.journal.Fate.{Fate}
use Rattle.scp_account.specs.Decisions.{decision_json}
use Rattle.scp_account.specs.inside.Spoken.{spoken, spoken_at}
use Rattle.scp_account.proofs.decisions.decision_values.Given as goal

-- with what is left it is all
abbrev pub invariant-loop-decision : goal.invariant-loop-decision
invariant-loop-decision l = (journal : List Fate) → ((slot : ℕ) → spoken_at l.spoken slot ≡ spoken journal slot) → map view l.values.items ++ map (decision_json l.me journal) (drop l.decision-index l.decisions) ≡ map (decision_json l.me journal) l.decisions
