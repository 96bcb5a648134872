-- The life of a node as a chain of epochs (this project's profile).
use Rattle.std.specs.Prelude.{ℕ, ◌≡◌, List, [], ◌∷◌, ◌++◌, flat_map}
use Rattle.scp_again.specs.scp_driver.specs.Driver.{Says}
use Rattle.scp_again.specs.scp_ledger.specs.declared.journal.Decision.{Decision}
use Rattle.scp_again.specs.scp_core.specs.declared.event.Event.{Event}
use Rattle.scp_again.specs.scp_core.specs.History.{Exchange}
use Rattle.scp_again.specs.scp_core.specs.Node.{NodeView}
use Rattle.scp_again.specs.scp_core.specs.Theorem.{LedgerTheoremFrom}
use Rattle.scp_turn.specs.Turn.{Does}
use Rattle.scp_epoch.specs.Epoch.{TakesUp}

-- An epoch of a node's life.
pub record Epoch (D : Type 0) : Type 0 where
  pub events : List Event  -- what is carried into it: events of the epochs before, played to its node first
  pub carried : List Exchange  -- what its node heard of that
  pub start : NodeView D  -- the node then
  pub later : List Exchange  -- what it heard from there on
  pub end : NodeView D  -- the node at the epoch's end

module _ {D : Type 0} where
  -- All that the node of an epoch heard.
  abbrev pub heard_in : Epoch D → List Exchange
  heard_in e = e.carried ++ e.later

  -- The decisions that the epochs applied, one behind the other.
  abbrev pub applied_in : List (Epoch D) → List Decision
  applied_in epochs = flat_map (λ (e : Epoch D). e.end.applier.applied) epochs

module _ {D : Type 0} (says : Says D) where
  -- The first epoch of a life: its node begins with this slot, and with the state that these bytes say. Nothing is carried into it.
  pub record IsFirst (first : ℕ) (base : List ℕ) (e : Epoch D) : Type 0 where
    pub nothing_carried : (e.events ≡ []) × (e.carried ≡ [])
    pub begins : LedgerTheoremFrom says first base [] e.start
    pub goes_on : Does says e.start e.later e.end

module _ {D S : Type 0} (says : Says D) (said : List ℕ → S) (after' : S → List ℕ → S) where
  -- Epochs that follow a node: the first takes it up, with its application and its configuration, and goes on from there, step by step. The
  -- others follow the node at its end.
  abbrev pub Follow : NodeView D → List (Epoch D) → Type 0
  Follow old [] = Unit {0}
  Follow old (e ∷ epochs) = TakesUp says said after' old.ledger.driver old.config old e.events e.carried e.start × Does says e.start e.later e.end × Follow e.end epochs

  -- A life that begins with this slot and this state: a first epoch, and epochs that follow it, each the one before.
  abbrev pub IsLife : ℕ → List ℕ → List (Epoch D) → Type 0
  IsLife first base [] = ⊥
  IsLife first base (e ∷ epochs) = IsFirst says first base e × Follow e.end epochs
