-- How far the loop over decided slots is.
use Rattle.std.proofs.Common.{◌≡◌, ℕ, ◌<◌, ◌≤◌, true}
use Rattle.scp_ledger.specs.declared.window.Window.{Window}
use Rattle.scp_ledger.specs.inside.Window.{is_ahead, IsBounded}

-- what the window began with, and what it is now
pub record IsAdvancing (start now : Window) : Type 0 where
  pub from : start.lowest ≤ now.lowest
  pub passed : (slot : ℕ) → start.lowest ≤ slot → slot < now.lowest → is_ahead start slot ≡ true
  pub ahead : (slot : ℕ) → now.lowest ≤ slot → is_ahead now slot ≡ is_ahead start slot
  pub bounded : IsBounded now
