-- A node on its way through events.
-- No public clause reaches these definitions: nothing here need be believed.
use Rattle.std.specs.Prelude.{ℕ, ◌≡◌, true, List, [], Result, OnOk, IsErrOf}
use Rattle.scp_again.specs.scp_types.specs.declared.fault.Fault.{Fault}
use Rattle.scp_again.specs.scp_types.specs.declared.fault.Fault.TheVariants.{JournalFull}
use Rattle.scp_again.specs.scp_driver.specs.Driver.{Says}
use Rattle.scp_again.specs.scp_core.specs.declared.config.Config.{Config}
use Rattle.scp_again.specs.scp_core.specs.declared.event.Event.{Event}
use Rattle.scp_again.specs.scp_core.specs.History.{Exchange}
use Rattle.scp_again.specs.scp_core.specs.Node.{NodeView}
use Rattle.scp_again.specs.scp_core.specs.Theorem.{begun, LedgerTheoremFrom}
use Rattle.scp_turn.specs.Episode.{finds_full}
use Rattle.scp_turn.specs.Turn.{Does}
use Rattle.scp_epoch.specs.Played.{ArePlayed}

module _ {D : Type 0} (says : Says D) where
  -- What a node heard were steps, and episodes of these events, unless the call was refused. It is refused by `JournalFull` only if a step found
  -- the journal full.
  pub record Plays {T : Type 0} (events : List Event) (result : Result T Fault) (old new : NodeView D) : Type 0 where
    pub heard : List Exchange
    pub does : Does says old heard new
    pub played : OnOk result (ArePlayed says events old heard new)
    pub full : IsErrOf result JournalFull → finds_full heard ≡ true

module _ {D S : Type 0} (says : Says D) (said : List ℕ → S) (written : S → List ℕ) where
  -- A node as it begins with this slot, and with the bytes that are written of this state.
  pub record IsBegun (driver : D) (c : Config) (first : ℕ) (made : S) (v : NodeView D) : Type 0 where
    pub is : v ≡ begun driver c first v.applier.base
    pub base : v.applier.base ≡ written made
    pub state : said v.applier.base ≡ made
    pub theorem : LedgerTheoremFrom says first v.applier.base [] v
