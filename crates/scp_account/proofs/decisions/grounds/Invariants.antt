use Rattle.std.proofs.Common.{◌≡◌, ◌++◌, ℕ, List, map, drop}
use Rattle.std.specs.Prelude.{flat_map}
use Rattle.serde_json.specs.View.{view}
use Rattle.scp_line.specs.scp_ledger.specs.declared.journal.Fate.{Fate}
use Rattle.scp_account.specs.Decisions.{ground_of}
use Rattle.scp_account.specs.inside.Spoken.{AreSpoken}
use Rattle.scp_account.proofs.decisions.grounds.Given as goal

-- with what is left it is all
abbrev pub invariant-loop-member : goal.invariant-loop-member
invariant-loop-member l = (journal : List Fate) → (slot : ℕ) → AreSpoken l.entries journal slot → map view l.values.items ++ flat_map (ground_of l.me journal slot) (drop l.member-index l.members) ≡ flat_map (ground_of l.me journal slot) l.members
