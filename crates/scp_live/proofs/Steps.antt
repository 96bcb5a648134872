-- Two nodes with one past: steps of the same events are the same.
use Rattle.std.proofs.Common.{◌≡◌, ◌≢◌, ℕ, true, false, List, [], ◌∷◌, ◌++◌, refl, sym, ◌∙◌, ap, subst, inl, inr, append_assoc, append-nil}
use Rattle.std.specs.Prelude.{map}
use Rattle.std.specs.List.{AllByRecursion}
use Rattle.std.proofs.lemmas.List.{map-append, append_cancel_left}
use Rattle.std.proofs.lemmas.List.Sums.{fold-append}
use Rattle.scp_again.specs.scp_driver.specs.Kv.{kv_says}
use Rattle.scp_again.specs.scp_core.specs.declared.event.Event.{Event}
use Rattle.scp_again.specs.scp_core.specs.declared.event.Event.TheVariants.{Open, Send, Close, Local, ReaderTake, ReaderPut, PendTake, PendPut, SlotTake, SlotPut, ApplyTake, Drain}
use Rattle.scp_again.specs.scp_core.specs.declared.event.Reply.{Reply}
use Rattle.scp_again.specs.scp_core.specs.declared.event.Reply.TheVariants.{Failed, NoLink, AlreadyOpen, LivesSpent, NotOpen, Full, Accepted, Blocked, Idle, Moved, Sent, JournalFull, NoMemory}
use Rattle.scp_again.specs.scp_core.specs.declared.config.Config.{Config}
use Rattle.scp_again.specs.scp_core.specs.History.{Exchange, Past, hears, past_of, nothing_heard}
use Rattle.scp_again.specs.scp_core.specs.Theorem.{AreSteps}
use Rattle.scp_again.specs.scp_core.specs.Node.{Accepts, SendsOut}
use Rattle.scp_again.specs.scp_core.specs.Kv.{NodeView, Moves, Step, Flows, SameEventsSameReplies, LedgerTheorem, StepsKeep}
use Rattle.scp_again.specs.scp_core.specs.Same.{ShowSameNode, NoneLackedMemory, event_of}
use Rattle.scp_turn.specs.Turn.{events_of}
use Rattle.scp_turn.specs.Kv.{Does}

-- ---- a step keeps the configuration

abbrev SameConfig : NodeView → NodeView → Type 0
SameConfig old new = new.config ≡ old.config

as_config : (old new w : NodeView) → w.config ≡ old.config → new ≡ w → SameConfig old new
as_config old new w m e = ap (λ (v : NodeView). v.config) e ∙ m

accepts_config : (old new : NodeView) (event : Event) → Accepts old event new → SameConfig old new
accepts_config old new (Open l) a = as_config old new _ refl a.2.3
accepts_config old new (Send l bytes) a = as_config old new _ refl a.2.2
accepts_config old new (Close l) a = as_config old new _ refl a.2.2
accepts_config old new (Local command) a = as_config old new _ refl a.2
accepts_config old new event a = absurd a

moves_config : (old new : NodeView) (event : Event) → Moves old event new → SameConfig old new
moves_config old new (ReaderTake l) a = as_config old new _ refl a.2.4
moves_config old new (ReaderPut l) a = as_config old new _ refl a.2.4
moves_config old new PendTake a = elim a.1 [ inl b ↦ as_config old new _ refl b.is | inr b ↦ as_config old new _ refl b.is ]
moves_config old new PendPut a = as_config old new _ refl a.3
moves_config old new SlotTake a = as_config old new _ refl a.1.is
moves_config old new SlotPut a = as_config old new _ refl a.3
moves_config old new ApplyTake a = as_config old new _ refl a.is
moves_config old new event a = absurd a

sends_config : (old new : NodeView) (event : Event) (bytes : List ℕ) → SendsOut old event bytes new → SameConfig old new
sends_config old new (Drain l) bytes d = as_config old new _ refl d.is
sends_config old new event bytes d = absurd d

step_config : (old new : NodeView) (event : Event) (reply : Reply) → Step old event reply new → SameConfig old new
step_config old new event Failed s = as_config old new old refl s.1
step_config old new event Accepted s = accepts_config old new event s.1
step_config old new event Moved s = moves_config old new event s.1
step_config old new event (Sent bytes) s = sends_config old new event bytes s.1
step_config old new event JournalFull s = s.0.keeps.config
step_config old new event NoMemory s = s.0.keeps.config
step_config old new event NoLink s = as_config old new old refl s.2
step_config old new event AlreadyOpen s = as_config old new old refl s.2
step_config old new event LivesSpent s = as_config old new old refl s.2
step_config old new event NotOpen s = as_config old new old refl s.2
step_config old new event Full s = as_config old new old refl s.2
step_config old new event Blocked s = as_config old new old refl s.2
step_config old new event Idle s = as_config old new old refl s.2

-- ---- a step that left a node that runs found one, and lacked no memory

fell : (v : NodeView) → v.failed ≡ true → v.failed ≡ false → ⊥
fell v f t = cc

ran : (old new : NodeView) (event : Event) (reply : Reply) → Step old event reply new → new.failed ≡ false → (old.failed ≡ false) × (reply ≢ NoMemory)
ran old new event Failed s run = absurd (fell new (ap (λ (v : NodeView). v.failed) s.1 ∙ s.0) run)
ran old new event Accepted s run = (s.0, λ e. cc)
ran old new event Moved s run = (s.0, λ e. cc)
ran old new event (Sent bytes) s run = (s.0, λ e. cc)
ran old new event JournalFull s run = absurd (fell new s.0.failed run)
ran old new event NoMemory s run = absurd (fell new s.0.failed run)
ran old new event NoLink s run = (s.0, λ e. cc)
ran old new event AlreadyOpen s run = (s.0, λ e. cc)
ran old new event LivesSpent s run = (s.0, λ e. cc)
ran old new event NotOpen s run = (s.0, λ e. cc)
ran old new event Full s run = (s.0, λ e. cc)
ran old new event Blocked s run = (s.0, λ e. cc)
ran old new event Idle s run = (s.0, λ e. cc)

-- ---- steps, one after the other

pub does_on : (a b c : NodeView) (x y : List Exchange) → Does a x b → Does b y c → Does a (x ++ y) c
does_on a b c [] y p q = subst (λ (v : NodeView). Does v y c) p q
does_on a b c (e ∷ x) y p q = (p.0, p.1, does_on p.0 b c x y p.2 q)

pub does_config : (heard : List Exchange) (a b : NodeView) → Does a heard b → b.config ≡ a.config
does_config [] a b d = ap (λ (v : NodeView). v.config) d
does_config (x ∷ heard) a b d = does_config heard d.0 b d.2 ∙ step_config a d.0 x.0 x.1 d.1

-- where they left a node that runs they found one, and lacked no memory
pub does_run : (heard : List Exchange) (a b : NodeView) → Does a heard b → b.failed ≡ false → (a.failed ≡ false) × NoneLackedMemory heard
does_run [] a b d run = (subst (λ (v : NodeView). v.failed ≡ false) d run, tt)
does_run (x ∷ heard) a b d run =
    let more = does_run heard d.0 b d.2 run in
    let step = ran a d.0 x.0 x.1 d.1 more.0 in
    (step.0, (step.1, more.1))

pub keeps_on : StepsKeep → (heard past : List Exchange) (a b : NodeView) → LedgerTheorem past a → Does a heard b → LedgerTheorem (past ++ heard) b
keeps_on keep [] past a b h d = subst (λ (p : List Exchange). LedgerTheorem p b) (sym (append-nil past)) (subst (λ (v : NodeView). LedgerTheorem past v) (sym d) h)
keeps_on keep (x ∷ heard) past a b h d =
    subst (λ (p : List Exchange). LedgerTheorem p b) (append_assoc past (x ∷ []) heard) (keeps_on keep heard (past ++ x ∷ []) d.0 b (keep past a d.0 x.0 x.1 d.1 h) d.2)

-- steps from a node of which the theorem holds, to one that runs
pub are_steps : StepsKeep → (c : Config) (heard past : List Exchange) (a b : NodeView) → a.config ≡ c → LedgerTheorem past a → Does a heard b → b.failed ≡ false → AreSteps kv_says c (past_of c past) a heard b
are_steps keep c [] past a b is h d run = d
are_steps keep c (x ∷ heard) past a b is h d run =
    let runs : a.failed ≡ false = (does_run (x ∷ heard) a b d run).0 in
    let still : (past_of c past).failed ≡ false = subst (λ (config : Config). (past_of config past).failed ≡ false) is (sym h.failed ∙ runs) in
    let flows : Flows (past_of c past) a = subst (λ (config : Config). Flows (past_of config past) a) is (subst (λ (v : NodeView). Flows (past_of a.config past) v) (sym (h.now runs)) h.flows) in
    let more : past_of c (past ++ x ∷ []) ≡ hears c (past_of c past) x.0 x.1 = fold-append (λ p (y : Exchange). hears c p y.0 y.1) nothing_heard past (x ∷ []) in
    let rest = are_steps keep c heard (past ++ x ∷ []) d.0 b (step_config a d.0 x.0 x.1 d.1 ∙ is) (keep past a d.0 x.0 x.1 d.1 h) d.2 run in
    (d.0, inr (still, record { config = is; flows = flows; step = d.1 }), subst (λ (p : Past). AreSteps kv_says c p d.0 heard b) more rest)

all_on : {X : Type 0} (P : X → Type 0) (xs ys : List X) → AllByRecursion P xs → AllByRecursion P ys → AllByRecursion P (xs ++ ys)
all_on P [] ys p q = q
all_on P (x ∷ xs) ys p q = (p.0, all_on P xs ys p.1 q)

-- ---- two nodes

-- what is proved of nodes below
pub record Laws : Type 0 where
  pub keep : StepsKeep
  pub same : SameEventsSameReplies

-- two nodes of one configuration with one past, in which no step lacked memory
pub record Both (p : List Exchange) (v w : NodeView) : Type 0 where
  pub one : LedgerTheorem p v
  pub other : LedgerTheorem p w
  pub config : v.config ≡ w.config
  pub enough : NoneLackedMemory p

pub both_turned : (p : List Exchange) (v w : NodeView) → Both p v w → Both p w v
both_turned p v w b = record { one = b.other; other = b.one; config = sym b.config; enough = b.enough }

-- what they heard more is one list, and they show the same
pub record Same (p x y : List Exchange) (v w : NodeView) : Type 0 where
  pub same : x ≡ y
  pub both : Both (p ++ x) v w
  pub shown : ShowSameNode v w

-- steps of the same events
pub same_steps : Laws → (p x y : List Exchange) (a b v w : NodeView) → Both p a b → events_of x ≡ events_of y → Does a x v → Does b y w → v.failed ≡ false → w.failed ≡ false → Same p x y v w
same_steps law p x y a b v w both events d e run runs =
    let one : LedgerTheorem (p ++ x) v = keeps_on law.keep x p a v both.one d in
    let other : LedgerTheorem (p ++ y) w = keeps_on law.keep y p b w both.other e in
    let config : v.config ≡ w.config = does_config x a v d ∙ both.config ∙ sym (does_config y b w e) in
    let enough : NoneLackedMemory (p ++ x) = all_on (λ (h : Exchange). h.1 ≢ NoMemory) p x both.enough (does_run x a v d run).1 in
    let ample : NoneLackedMemory (p ++ y) = all_on (λ (h : Exchange). h.1 ≢ NoMemory) p y both.enough (does_run y b w e runs).1 in
    let came : map event_of (p ++ x) ≡ map event_of (p ++ y) = map-append event_of p x ∙ ap (λ (es : List Event). map event_of p ++ es) events ∙ sym (map-append event_of p y) in
    let told = law.same (p ++ x) (p ++ y) v w one other refl config came enough ample in
    record {
      same = append_cancel_left p x y told.0;
      both = record { one = one; other = subst (λ (q : List Exchange). LedgerTheorem q w) (sym told.0) other; config = config; enough = enough };
      shown = told.1;
    }

-- the same, and then the same again
pub then_same : (p x y f s g t : List Exchange) (v w : NodeView) → x ≡ f ++ s → y ≡ g ++ t → f ≡ g → Same (p ++ f) s t v w → Same p x y v w
then_same p x y f s g t v w xs ys e more = record {
  same = xs ∙ (λ i. e i ++ more.same i) ∙ sym ys;
  both = subst (λ (q : List Exchange). Both q v w) (append_assoc p f s ∙ ap (λ (h : List Exchange). p ++ h) (sym xs)) more.both;
  shown = more.shown;
}
