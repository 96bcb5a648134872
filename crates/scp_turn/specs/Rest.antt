-- How a node comes to rest.
use Rattle.std.specs.Prelude.{ℕ, ◌<◌, ◌≡◌, Bool, true, false, zero, suc, List, [], ◌++◌}
use Rattle.scp_core.specs.scp_types.specs.declared.limits.TheConstants.{ROUND_LIMIT}
use Rattle.scp_core.specs.scp_driver.specs.Driver.{Says}
use Rattle.scp_core.specs.History.{Exchange}
use Rattle.scp_core.specs.Node.{NodeView}
use Rattle.scp_turn.specs.Turn.{Does, IsStill, IsTurn}

module _ {D : Type 0} (says : Says D) where
  -- a turn in which something moved
  abbrev pub IsMovingTurn : NodeView D → List Exchange → NodeView D → Type 0
  IsMovingTurn old heard new = Does says old heard new × IsTurn old heard new × (¬ (IsStill heard))

  -- a turn in which nothing moved
  abbrev pub IsStillTurn : NodeView D → List Exchange → NodeView D → Type 0
  IsStillTurn old heard new = Does says old heard new × IsTurn old heard new × IsStill heard

module _ {D : Type 0} where
  -- first this was heard, and then that
  pub record Then (First Next : NodeView D → List Exchange → NodeView D → Type 0) (old : NodeView D) (heard : List Exchange) (new : NodeView D) : Type 0 where
    pub mid : NodeView D
    pub first : List Exchange
    pub rest : List Exchange
    pub split : heard ≡ first ++ rest
    pub one : First old first mid
    pub two : Next mid rest new

module _ {D : Type 0} (says : Says D) where
  -- this many turns, one after the other, in each of which something moved
  abbrev pub AreMovingTurns : ℕ → NodeView D → List Exchange → NodeView D → Type 0
  AreMovingTurns zero old heard new = (heard ≡ []) × (new ≡ old)
  AreMovingTurns (suc n) old heard new = Then (AreMovingTurns n) (IsMovingTurn says) old heard new

  -- if the node came to rest: fewer than 100,000 turns that moved something, and then one that moved nothing; else 100,000 that moved something
  abbrev pub Rests : Bool → NodeView D → List Exchange → NodeView D → Type 0
  Rests true old heard new = (before : ℕ) × (before < ROUND_LIMIT) × Then (AreMovingTurns before) (IsStillTurn says) old heard new
  Rests false old heard new = AreMovingTurns ROUND_LIMIT old heard new
