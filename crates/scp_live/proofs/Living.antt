-- A node that heard more and runs still.
use Rattle.std.proofs.Common.{◌≡◌, ℕ, false, List, [], ◌++◌, refl}
use Rattle.scp_again.specs.scp_driver.specs.Kv.{kv_says}
use Rattle.scp_again.specs.scp_core.specs.History.{Exchange}
use Rattle.scp_again.specs.scp_core.specs.Kv.{NodeView}
use Rattle.scp_again.specs.scp_core.specs.Theorem.{LedgerTheoremFrom}
use Rattle.scp_turn.specs.Kv.{Goes}
use Rattle.scp_live.specs.Living.{IsLive}
use Rattle.scp_live.proofs.Going.{does_on}

pub live_on : (a b : NodeView) (P : NodeView → List Exchange → NodeView → Type 0) → IsLive a → Goes a b P → b.failed ≡ false → IsLive b
live_on a b P live g runs = record { first = live.first; base = live.base; start = live.start; begins = live.begins; past = live.past ++ g.heard; does = does_on live.start a b live.past g.heard live.does g.does; runs = runs }

pub live_new : (first : ℕ) (base : List ℕ) (v : NodeView) → LedgerTheoremFrom kv_says first base [] v → v.failed ≡ false → IsLive v
live_new first base v theorem runs = record { first = first; base = base; start = v; begins = theorem; past = []; does = refl; runs = runs }
