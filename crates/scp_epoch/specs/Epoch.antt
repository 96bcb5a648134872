-- How a node takes up another one: a new epoch of its life (this project's profile).
use Rattle.std.specs.Prelude.{ℕ, ◌^◌, ◌<◌, ◌≤◌, ◌≡◌, ◌≢◌, true, false, List, [], All}
use Rattle.scp_again.specs.scp_driver.specs.Driver.{Says}
use Rattle.scp_again.specs.scp_outbox.specs.Handing.{waiting_at}
use Rattle.scp_again.specs.scp_apply.specs.Applied.{made_of}
use Rattle.scp_again.specs.scp_apply.specs.Applier.{next_of}
use Rattle.scp_again.specs.scp_core.specs.declared.config.Config.{Config}
use Rattle.scp_again.specs.scp_core.specs.declared.event.Event.{Event}
use Rattle.scp_again.specs.scp_core.specs.History.{Exchange}
use Rattle.scp_again.specs.scp_core.specs.Node.{NodeView}
use Rattle.scp_again.specs.scp_core.specs.Theorem.{begun, LedgerTheoremFrom}
use Rattle.scp_turn.specs.Episode.{finds_full}
use Rattle.scp_turn.specs.Turn.{Does, links_of}
use Rattle.scp_epoch.specs.Played.{ArePlayed}
use Rattle.scp_epoch.specs.Saying.{SaysTheSame}

-- A slot with which a node can begin.
abbrev pub IsBeginning : ℕ → Type 0
IsBeginning slot = (0 < slot) × (slot ≤ 2 ^ 32)

-- No bytes say this state.
abbrev pub IsUnwritten : {S : Type 0} → (List ℕ → S) → S → Type 0
IsUnwritten said state = (bytes : List ℕ) → All (λ b. b < 256) bytes → said bytes ≢ state

module _ {D : Type 0} where
  -- A new node stands like an old one: both say the same of each open slot, and nothing waits to go out of the new one.
  pub record StandsLike (old new : NodeView D) : Type 0 where
    pub same : SaysTheSame (next_of old.applier) old.ledger new.ledger
    pub quiet : (link : ℕ) → link < links_of new → waiting_at new.outboxes link ≡ 0

module _ {D S : Type 0} (says : Says D) (said : List ℕ → S) (after' : S → List ℕ → S) where
  -- A node began behind another one: with the slot that the other applies next, and with the other's state, of which `said` says what bytes make
  -- it. Then these events were played to it, and nothing else. Neither failed, and the ledger theorem holds of all that it heard.
  pub record BeginsBehind (driver : D) (c : Config) (old : NodeView D) (events : List Event) (heard : List Exchange) (new : NodeView D) : Type 0 where
    pub runs : old.failed ≡ false
    pub runs_too : new.failed ≡ false
    pub config : new.config ≡ c
    pub first : new.applier.first ≡ next_of old.applier
    pub state : said new.applier.base ≡ made_of (said old.applier.base) after' old.applier.applied
    pub played : ArePlayed says events (begun driver c new.applier.first new.applier.base) heard new
    pub theorem : LedgerTheoremFrom says new.applier.first new.applier.base heard new

  -- A node takes up another one: it began behind it, stands like it, and applied nothing yet.
  pub record TakesUp (driver : D) (c : Config) (old : NodeView D) (events : List Event) (heard : List Exchange) (new : NodeView D) : Type 0 where
    pub begins : BeginsBehind driver c old events heard new
    pub like : StandsLike old new
    pub nothing_yet : new.applier.applied ≡ []

  -- A node that began behind another one, and to which these events were played, doesn't stand like it.
  pub record Differs (driver : D) (c : Config) (old : NodeView D) (events : List Event) : Type 0 where
    pub new : NodeView D
    pub heard : List Exchange
    pub begins : BeginsBehind driver c old events heard new
    pub differs : ¬ (StandsLike old new)

  -- A node that began behind another one found its journal full while it was given what is carried.
  pub record FindsFull (driver : D) (c : Config) (old : NodeView D) : Type 0 where
    pub base : List ℕ
    pub new : NodeView D
    pub heard : List Exchange
    pub state : said base ≡ made_of (said old.applier.base) after' old.applier.applied
    pub does : Does says (begun driver c (next_of old.applier) base) heard new
    pub full : finds_full heard ≡ true
