-- A node that runs.
use Rattle.std.specs.Prelude.{ℕ, ◌≡◌, false, List, []}
use Rattle.scp_again.specs.scp_driver.specs.Kv.{kv_says}
use Rattle.scp_again.specs.scp_core.specs.History.{Exchange}
use Rattle.scp_again.specs.scp_core.specs.Kv.{NodeView}
use Rattle.scp_again.specs.scp_core.specs.Theorem.{LedgerTheoremFrom}
use Rattle.scp_turn.specs.Kv.{Does}

-- The node runs. By steps, one after the other, it came from a node as it begins, of some first slot and state: so the ledger theorem holds of it.
pub record IsLive (v : NodeView) : Type 0 where
  pub first : ℕ
  pub base : List ℕ
  pub start : NodeView
  pub begins : LedgerTheoremFrom kv_says first base [] start
  pub past : List Exchange
  pub does : Does start past v
  pub runs : v.failed ≡ false
