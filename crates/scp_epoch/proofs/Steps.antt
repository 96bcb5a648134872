-- Steps of a node, one after the other.
use Rattle.std.proofs.Common.{◌≡◌, ℕ, true, false, List, [], ◌∷◌, ◌++◌, refl, sym, ◌∙◌, ap, subst, append_assoc, append-nil, inl, inr}
use Rattle.scp_again.specs.scp_driver.specs.Driver.{Says}
use Rattle.scp_again.specs.scp_core.specs.declared.event.Event.{Event}
use Rattle.scp_again.specs.scp_core.specs.declared.event.Event.TheVariants.{Open, Send, Close, Local, ReaderTake, ReaderPut, PendTake, PendPut, SlotTake, SlotPut, ApplyTake, Drain}
use Rattle.scp_again.specs.scp_core.specs.declared.event.Reply.{Reply}
use Rattle.scp_again.specs.scp_core.specs.declared.event.Reply.TheVariants.{Failed, NoLink, AlreadyOpen, LivesSpent, NotOpen, Full, Accepted, Blocked, Idle, Moved, Sent, JournalFull, NoMemory}
use Rattle.scp_again.specs.scp_core.specs.History.{Exchange}
use Rattle.scp_again.specs.scp_core.specs.Node.{NodeView, Accepts, Moves, SendsOut, Step}
use Rattle.scp_again.specs.scp_core.specs.Theorem.{LedgerTheoremFrom, StepsKeepFrom}
use Rattle.scp_turn.specs.Turn.{Does}

module _ {D : Type 0} (says : Says D) where
  -- ---- a step keeps the configuration

  abbrev SameConfig : NodeView D → NodeView D → Type 0
  SameConfig old new = new.config ≡ old.config

  as_config : (old new w : NodeView D) → w.config ≡ old.config → new ≡ w → SameConfig old new
  as_config old new w m e = ap (λ (v : NodeView D). v.config) e ∙ m

  accepts_config : (old new : NodeView D) (event : Event) → Accepts old event new → SameConfig old new
  accepts_config old new (Open l) a = as_config old new _ refl a.2.3
  accepts_config old new (Send l bytes) a = as_config old new _ refl a.2.2
  accepts_config old new (Close l) a = as_config old new _ refl a.2.2
  accepts_config old new (Local command) a = as_config old new _ refl a.2
  accepts_config old new event a = absurd a

  moves_config : (old new : NodeView D) (event : Event) → Moves says old event new → SameConfig old new
  moves_config old new (ReaderTake l) a = as_config old new _ refl a.2.4
  moves_config old new (ReaderPut l) a = as_config old new _ refl a.2.4
  moves_config old new PendTake a = elim a.1 [ inl b ↦ as_config old new _ refl b.is | inr b ↦ as_config old new _ refl b.is ]
  moves_config old new PendPut a = as_config old new _ refl a.3
  moves_config old new SlotTake a = as_config old new _ refl a.1.is
  moves_config old new SlotPut a = as_config old new _ refl a.3
  moves_config old new ApplyTake a = as_config old new _ refl a.is
  moves_config old new event a = absurd a

  sends_config : (old new : NodeView D) (event : Event) (bytes : List ℕ) → SendsOut old event bytes new → SameConfig old new
  sends_config old new (Drain l) bytes d = as_config old new _ refl d.is
  sends_config old new event bytes d = absurd d

  step_config : (old new : NodeView D) (event : Event) (reply : Reply) → Step says old event reply new → SameConfig old new
  step_config old new event Failed s = as_config old new old refl s.1
  step_config old new event Accepted s = accepts_config old new event s.1
  step_config old new event Moved s = moves_config old new event s.1
  step_config old new event (Sent bytes) s = sends_config old new event bytes s.1
  step_config old new event JournalFull s = s.0.keeps.config
  step_config old new event NoMemory s = s.0.keeps.config
  step_config old new event NoLink s = as_config old new old refl s.2
  step_config old new event AlreadyOpen s = as_config old new old refl s.2
  step_config old new event LivesSpent s = as_config old new old refl s.2
  step_config old new event NotOpen s = as_config old new old refl s.2
  step_config old new event Full s = as_config old new old refl s.2
  step_config old new event Blocked s = as_config old new old refl s.2
  step_config old new event Idle s = as_config old new old refl s.2

  -- ---- steps, one after the other

  pub does_on : (a b c : NodeView D) (x y : List Exchange) → Does says a x b → Does says b y c → Does says a (x ++ y) c
  does_on a b c [] y p q = subst (λ (v : NodeView D). Does says v y c) p q
  does_on a b c (e ∷ x) y p q = (p.0, p.1, does_on p.0 b c x y p.2 q)

  pub does_config : (heard : List Exchange) (a b : NodeView D) → Does says a heard b → b.config ≡ a.config
  does_config [] a b d = ap (λ (v : NodeView D). v.config) d
  does_config (x ∷ heard) a b d = does_config heard d.0 b d.2 ∙ step_config a d.0 x.0 x.1 d.1

  -- the ledger theorem goes on holding
  pub keeps_on : (first : ℕ) (base : List ℕ) → StepsKeepFrom says first base → (heard past : List Exchange) (a b : NodeView D) → LedgerTheoremFrom says first base past a → Does says a heard b → LedgerTheoremFrom says first base (past ++ heard) b
  keeps_on first base keep [] past a b h d = subst (λ (p : List Exchange). LedgerTheoremFrom says first base p b) (sym (append-nil past)) (subst (λ (v : NodeView D). LedgerTheoremFrom says first base past v) (sym d) h)
  keeps_on first base keep (x ∷ heard) past a b h d =
      subst (λ (p : List Exchange). LedgerTheoremFrom says first base p b) (append_assoc past (x ∷ []) heard) (keeps_on first base keep heard (past ++ x ∷ []) d.0 b (keep past a d.0 x.0 x.1 d.1 h) d.2)
