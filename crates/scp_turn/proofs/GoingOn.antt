-- A node that heard one thing more.
use Rattle.std.proofs.Common.{List, [], ◌∷◌, ◌++◌, refl}
use Rattle.scp_core.specs.scp_driver.specs.Driver.{Says}
use Rattle.scp_core.specs.declared.event.Event.{Event}
use Rattle.scp_core.specs.declared.event.Reply.{Reply}
use Rattle.scp_core.specs.History.{Exchange}
use Rattle.scp_core.specs.Node.{NodeView, Step}
use Rattle.scp_core.specs.Theorem.{LedgerTheorem}
use Rattle.scp_turn.specs.Watch.{Noting, Watched}
use Rattle.scp_turn.specs.Turn.{Goes}

-- what holds of what was heard
abbrev pub Saying : Type 0 → Type 1
Saying D = NodeView D → List Exchange → NodeView D → Type 0

module _ {D : Type 0} (says : Says D) where
  -- one step
  pub goes_one : (a b : NodeView D) (e : Event) (r : Reply) (Is : Saying D) → Step says a e r b → ((past : List Exchange) → LedgerTheorem says past a → LedgerTheorem says (past ++ (e, r) ∷ []) b) → Is a ((e, r) ∷ []) b → Goes says a b Is
  goes_one a b e r Is step theorem is = record { heard = (e, r) ∷ []; is = is; does = (b, step, refl); theorem = theorem }

  -- a watch was shown one step
  pub watched_one : {W : Type 0} (Note : Noting D W) (w z : W) (a b : NodeView D) (e : Event) (r : Reply) → Step says a e r b → Note w 1 e r a b z → Watched says Note 1 w a ((e, r) ∷ []) b z
  watched_one Note w z a b e r step note = (b, z, step, note, (refl, refl))
