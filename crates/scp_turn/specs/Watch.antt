-- What a watch notes of the steps of a node.
use Rattle.std.specs.Prelude.{ℕ, ◌≡◌, List, [], ◌∷◌}
use Rattle.scp_core.specs.scp_driver.specs.Driver.{Says}
use Rattle.scp_core.specs.declared.event.Event.{Event}
use Rattle.scp_core.specs.declared.event.Reply.{Reply}
use Rattle.scp_core.specs.History.{Exchange}
use Rattle.scp_core.specs.Node.{NodeView, Step}
use Rattle.scp_turn.specs.declared.watch.NoWatch.{NoWatch}

-- what a watch of this kind notes of a step: of the node's number, the event, the reply, and the node before and after it
abbrev pub Noting : Type 0 → Type 0 → Type 1
Noting D W = W → ℕ → Event → Reply → NodeView D → NodeView D → W → Type 0

-- what it notes before a step, and then what it notes after it
abbrev pub notes : {D W : Type 0} → (W → ℕ → Event → NodeView D → W → Type 0) → (W → ℕ → Reply → NodeView D → W → Type 0) → Noting D W
notes {D} {W} Before After old number event reply node left new = (mid : W) × Before old number event node mid × After mid number reply left new

module _ {D : Type 0} (says : Says D) where
  -- these exchanges are steps of a node of this number, each from what the one before it left, and a watch noted each of them, in order
  abbrev pub Watched : {W : Type 0} → Noting D W → ℕ → W → NodeView D → List Exchange → NodeView D → W → Type 0
  Watched {W} Note number w old [] new z = (new ≡ old) × (z ≡ w)
  Watched {W} Note number w old (x ∷ heard) new z = (node : NodeView D) × (v : W) × Step says old x.0 x.1 node × Note w number x.0 x.1 old node v × Watched Note number v node heard new z

-- what nobody notes
abbrev pub unwatched : {D : Type 0} → Noting D NoWatch
unwatched = notes (λ old number event node new. new ≡ old) (λ old number reply node new. new ≡ old)
