-- A stage moves something, or its reply is a still one.
use Rattle.std.proofs.Common.{◌≡◌, ◌≢◌, ℕ, Bool, true, false, List, [], ◌∷◌, ◌++◌, refl, subst}
use Rattle.scp_core.specs.scp_driver.specs.Driver.{Says}
use Rattle.scp_core.specs.declared.event.Event.{Event}
use Rattle.scp_core.specs.declared.event.Event.TheVariants as event
use Rattle.scp_core.specs.declared.event.Reply.{Reply}
use Rattle.scp_core.specs.declared.event.Reply.TheVariants as reply
use Rattle.scp_core.specs.Node.{NodeView, Step, SendsOut}
use Rattle.scp_core.specs.History.{Exchange}
use Rattle.scp_core.specs.Theorem.{LedgerTheorem}
use Rattle.scp_turn.specs.Watch.{Noting}
use Rattle.scp_turn.specs.Turn.{IsStillReply}
use Rattle.scp_turn.specs.inside.Acting.{Acts, IsStage}
use Rattle.scp_turn.proofs.Going.{acts_one, still_else}

module _ {D : Type 0} where
  -- a stage sends nothing out
  sends_nothing : (v new : NodeView D) (e : Event) (bytes : List ℕ) → IsStage e → SendsOut v e bytes new → ⊥
  sends_nothing v new (event.Open l) bytes s p = s
  sends_nothing v new (event.Send l x) bytes s p = s
  sends_nothing v new (event.Close l) bytes s p = s
  sends_nothing v new (event.Local command) bytes s p = s
  sends_nothing v new (event.ReaderTake l) bytes s p = p
  sends_nothing v new (event.ReaderPut l) bytes s p = p
  sends_nothing v new event.PendTake bytes s p = p
  sends_nothing v new event.PendPut bytes s p = p
  sends_nothing v new event.SlotTake bytes s p = p
  sends_nothing v new event.SlotPut bytes s p = p
  sends_nothing v new event.ApplyTake bytes s p = p
  sends_nothing v new (event.Drain l) bytes s p = s

module _ {D : Type 0} (says : Says D) where
  -- a step of a stage that doesn't move
  stage_still : (v new : NodeView D) (e : Event) (r : Reply) → IsStage e → Step says v e r new → r ≢ reply.Moved → IsStillReply r
  stage_still v new e r stage step m = still_else r m (λ bytes is. sends_nothing v new e bytes stage (subst (λ (x : Reply). Step says v e x new) is step).1)

-- a reply that moves isn't still
moves_not : (r : Reply) → r ≡ reply.Moved → IsStillReply r → ⊥
moves_not r is s = subst (λ (x : Reply). IsStillReply x) is s

module _ {D : Type 0} (says : Says D) where
  -- one step of a stage, of which it is said whether it moved
  pub acts_moved : {W : Type 0} (Note : Noting D W) (number : ℕ) (w z : W) (a b : NodeView D) (e : Event) (r : Reply) (moved : Bool) → IsStage e → (moved ≡ false → r ≢ reply.Moved) → (moved ≡ true → r ≡ reply.Moved) → Step says a e r b → ((past : List Exchange) → LedgerTheorem says past a → LedgerTheorem says (past ++ (e, r) ∷ []) b) → Note w number e r a b z → Acts says Note number w a (e ∷ []) moved b z
  acts_moved Note number w z a b e r moved stage rests moves step theorem noted =
      acts_one says Note number w z a b e r moved step theorem noted (λ calm. stage_still says a b e r stage step (rests calm), λ still. calm_of moved moves still)
    where
      calm_of : (m : Bool) → (m ≡ true → r ≡ reply.Moved) → IsStillReply r → m ≡ false
      calm_of true is still = absurd (moves_not r (is refl) still)
      calm_of false is still = refl
