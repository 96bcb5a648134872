-- No link of a node that runs is opened or closed while the nodes come to rest, nor by an event that is refused.
use Rattle.std.proofs.Common.{◌≡◌, ◌-◌, ℕ, zero, suc, Bool, true, false, List, [], ◌∷◌, ◌++◌, Some, length, refl, sym, ◌∙◌, ap, subst, ⊎_elim, inl, inr}
use Rattle.std.specs.Prelude.{slice_get, slice_set}
use Rattle.std.specs.List.{AllByRecursion}
use Rattle.std.proofs.lemmas.List.{length-set, map-set}
use Rattle.scp_turn.specs.scp_types.specs.declared.limits.TheConstants.{ROUND_LIMIT}
use Rattle.scp_turn.specs.scp_core.specs.declared.event.Event.{Event}
use Rattle.scp_turn.specs.scp_core.specs.declared.event.Event.TheVariants as event
use Rattle.scp_turn.specs.scp_core.specs.declared.event.Reply.{Reply}
use Rattle.scp_turn.specs.scp_core.specs.declared.event.Reply.TheVariants.{Failed, NoLink, AlreadyOpen, LivesSpent, NotOpen, Full, Accepted, Blocked, Idle, Moved, Sent, JournalFull, NoMemory}
use Rattle.scp_turn.specs.scp_core.specs.Node.{LinkView, Accepts, SendsOut}
use Rattle.scp_turn.specs.scp_core.specs.Kv.{NodeView, Step, Moves}
use Rattle.scp_turn.specs.Heard.{Nodes, Heard, IsHeard, IsOne, InOrder}
use Rattle.scp_turn.specs.Turn.{reader_events, stage_events}
use Rattle.scp_turn.specs.Rounds.{HearsAll, Carries, IsTurn, IsRound, AreRounds, IsMovingRound, Rests}
use Rattle.scp_line.proofs.Places.{set_same, get_set, map_at}
use Rattle.scp_line.specs.Links.{tail_at, tails}
use Rattle.scp_line.proofs.Tails.{linked}

-- ---- one node

-- the event opens no link and closes none
abbrev pub IsInner : Event → Type 0
IsInner (event.Open l) = ⊥
IsInner (event.Send l bytes) = Unit {0}
IsInner (event.Close l) = ⊥
IsInner (event.Local command) = Unit {0}
IsInner (event.ReaderTake l) = Unit {0}
IsInner (event.ReaderPut l) = Unit {0}
IsInner event.PendTake = Unit {0}
IsInner event.PendPut = Unit {0}
IsInner event.SlotTake = Unit {0}
IsInner event.SlotPut = Unit {0}
IsInner event.ApplyTake = Unit {0}
IsInner (event.Drain l) = Unit {0}

-- a link is put back, opened as often as before, and open or not as before
put_back : (v : NodeView) (l : ℕ) (k : LinkView) → slice_get v.links l ≡ Some k → slice_set (tails v) l (tail_at k) ≡ tails v
put_back v l k there = set_same (tails v) l (tail_at k) (map_at tail_at v.links l k there)

inner_tails : (v w : NodeView) (e : Event) → IsInner e → Accepts v e w → tails w ≡ tails v
inner_tails v w (event.Open m) i a = absurd i
inner_tails v w (event.Send m bytes) i a = linked v w m _ a.2.2 ∙ put_back v m a.0 a.1
inner_tails v w (event.Close m) i a = absurd i
inner_tails v w (event.Local command) i a = ap (λ (u : NodeView). tails u) a.2
inner_tails v w (event.ReaderTake m) i a = absurd a
inner_tails v w (event.ReaderPut m) i a = absurd a
inner_tails v w event.PendTake i a = absurd a
inner_tails v w event.PendPut i a = absurd a
inner_tails v w event.SlotTake i a = absurd a
inner_tails v w event.SlotPut i a = absurd a
inner_tails v w event.ApplyTake i a = absurd a
inner_tails v w (event.Drain m) i a = absurd a

moved_tails : (v w : NodeView) (e : Event) → Moves v e w → tails w ≡ tails v
moved_tails v w (event.Open m) a = absurd a
moved_tails v w (event.Send m bytes) a = absurd a
moved_tails v w (event.Close m) a = absurd a
moved_tails v w (event.Local command) a = absurd a
moved_tails v w (event.ReaderTake m) a = linked v w m _ a.2.4 ∙ put_back v m a.0 a.1
moved_tails v w (event.ReaderPut m) a = ap (λ (u : NodeView). tails u) a.2.4 ∙ map-set tail_at v.links m (record a.0 { hand = a.2.2 }) ∙ put_back v m a.0 a.1
moved_tails v w event.PendTake a = ⊎_elim (λ b. ap (λ (u : NodeView). tails u) b.is) (λ t. ap (λ (u : NodeView). tails u) t.is) a.1
moved_tails v w event.PendPut a = ap (λ (u : NodeView). tails u) a.3
moved_tails v w event.SlotTake a = ap (λ (u : NodeView). tails u) a.1.is
moved_tails v w event.SlotPut a = ap (λ (u : NodeView). tails u) a.3
moved_tails v w event.ApplyTake a = ap (λ (u : NodeView). tails u) a.is
moved_tails v w (event.Drain m) a = absurd a

sent_tails : (v w : NodeView) (e : Event) (bytes : List ℕ) → SendsOut v e bytes w → tails w ≡ tails v
sent_tails v w (event.Open m) bytes a = absurd a
sent_tails v w (event.Send m sent) bytes a = absurd a
sent_tails v w (event.Close m) bytes a = absurd a
sent_tails v w (event.Local command) bytes a = absurd a
sent_tails v w (event.ReaderTake m) bytes a = absurd a
sent_tails v w (event.ReaderPut m) bytes a = absurd a
sent_tails v w event.PendTake bytes a = absurd a
sent_tails v w event.PendPut bytes a = absurd a
sent_tails v w event.SlotTake bytes a = absurd a
sent_tails v w event.SlotPut bytes a = absurd a
sent_tails v w event.ApplyTake bytes a = absurd a
sent_tails v w (event.Drain m) bytes a = ap (λ (u : NodeView). tails u) a.is

runs_not : (b : Bool) (P : Type 0) → b ≡ true → b ≡ false → P
runs_not true P t f = absurd cc
runs_not false P t f = absurd cc

pub accepted_config : (v w : NodeView) (e : Event) → Accepts v e w → w.config ≡ v.config
accepted_config v w (event.Open m) a = ap (λ (u : NodeView). u.config) a.2.3
accepted_config v w (event.Send m bytes) a = ap (λ (u : NodeView). u.config) a.2.2
accepted_config v w (event.Close m) a = ap (λ (u : NodeView). u.config) a.2.2
accepted_config v w (event.Local command) a = ap (λ (u : NodeView). u.config) a.2
accepted_config v w (event.ReaderTake m) a = absurd a
accepted_config v w (event.ReaderPut m) a = absurd a
accepted_config v w event.PendTake a = absurd a
accepted_config v w event.PendPut a = absurd a
accepted_config v w event.SlotTake a = absurd a
accepted_config v w event.SlotPut a = absurd a
accepted_config v w event.ApplyTake a = absurd a
accepted_config v w (event.Drain m) a = absurd a

moved_config : (v w : NodeView) (e : Event) → Moves v e w → w.config ≡ v.config
moved_config v w (event.Open m) a = absurd a
moved_config v w (event.Send m bytes) a = absurd a
moved_config v w (event.Close m) a = absurd a
moved_config v w (event.Local command) a = absurd a
moved_config v w (event.ReaderTake m) a = ap (λ (u : NodeView). u.config) a.2.4
moved_config v w (event.ReaderPut m) a = ap (λ (u : NodeView). u.config) a.2.4
moved_config v w event.PendTake a = ⊎_elim (λ b. ap (λ (u : NodeView). u.config) b.is) (λ t. ap (λ (u : NodeView). u.config) t.is) a.1
moved_config v w event.PendPut a = ap (λ (u : NodeView). u.config) a.3
moved_config v w event.SlotTake a = ap (λ (u : NodeView). u.config) a.1.is
moved_config v w event.SlotPut a = ap (λ (u : NodeView). u.config) a.3
moved_config v w event.ApplyTake a = ap (λ (u : NodeView). u.config) a.is
moved_config v w (event.Drain m) a = absurd a

sent_config : (v w : NodeView) (e : Event) (bytes : List ℕ) → SendsOut v e bytes w → w.config ≡ v.config
sent_config v w (event.Open m) bytes a = absurd a
sent_config v w (event.Send m sent) bytes a = absurd a
sent_config v w (event.Close m) bytes a = absurd a
sent_config v w (event.Local command) bytes a = absurd a
sent_config v w (event.ReaderTake m) bytes a = absurd a
sent_config v w (event.ReaderPut m) bytes a = absurd a
sent_config v w event.PendTake bytes a = absurd a
sent_config v w event.PendPut bytes a = absurd a
sent_config v w event.SlotTake bytes a = absurd a
sent_config v w event.SlotPut bytes a = absurd a
sent_config v w event.ApplyTake bytes a = absurd a
sent_config v w (event.Drain m) bytes a = ap (λ (u : NodeView). u.config) a.is

-- the node ran, its links were as they are, and it was who it is
abbrev pub Ran : NodeView → NodeView → Type 0
Ran v w = (v.failed ≡ false) × (tails w ≡ tails v) × (w.config ≡ v.config)

step_stays : (v w : NodeView) (e : Event) (r : Reply) → (r ≡ Accepted → IsInner e) → Step v e r w → w.failed ≡ false → Ran v w
step_stays v w e Failed i s run = runs_not w.failed (Ran v w) (ap (λ (u : NodeView). u.failed) s.1 ∙ s.0) run
step_stays v w e NoLink i s run = (s.0, ap (λ (u : NodeView). tails u) s.2, ap (λ (u : NodeView). u.config) s.2)
step_stays v w e AlreadyOpen i s run = (s.0, ap (λ (u : NodeView). tails u) s.2, ap (λ (u : NodeView). u.config) s.2)
step_stays v w e LivesSpent i s run = (s.0, ap (λ (u : NodeView). tails u) s.2, ap (λ (u : NodeView). u.config) s.2)
step_stays v w e NotOpen i s run = (s.0, ap (λ (u : NodeView). tails u) s.2, ap (λ (u : NodeView). u.config) s.2)
step_stays v w e Full i s run = (s.0, ap (λ (u : NodeView). tails u) s.2, ap (λ (u : NodeView). u.config) s.2)
step_stays v w e Accepted i s run = (s.0, inner_tails v w e (i refl) s.1, accepted_config v w e s.1)
step_stays v w e Blocked i s run = (s.0, ap (λ (u : NodeView). tails u) s.2, ap (λ (u : NodeView). u.config) s.2)
step_stays v w e Idle i s run = (s.0, ap (λ (u : NodeView). tails u) s.2, ap (λ (u : NodeView). u.config) s.2)
step_stays v w e Moved i s run = (s.0, moved_tails v w e s.1, moved_config v w e s.1)
step_stays v w e (Sent bytes) i s run = (s.0, sent_tails v w e bytes s.1, sent_config v w e bytes s.1)
step_stays v w e JournalFull i s run = runs_not w.failed (Ran v w) s.0.failed run
step_stays v w e NoMemory i s run = runs_not w.failed (Ran v w) s.0.failed run

-- ---- all nodes

-- each node that runs ran, its links were as they are, and it was who it is
pub record AllStay (old new : Nodes) : Type 0 where
  pub count : length new ≡ length old
  pub each : (i : ℕ) → (w : NodeView) → slice_get new i ≡ Some w → w.failed ≡ false → (v : NodeView) × (slice_get old i ≡ Some v) × Ran v w

stay_none : (old new : Nodes) → new ≡ old → AllStay old new
stay_none old new e = subst (λ (n : Nodes). AllStay old n) (sym e) (record { count = refl; each = λ i w at run. (w, at, (run, refl, refl)) })

stay_then : (a b c : Nodes) → AllStay a b → AllStay b c → AllStay a c
stay_then a b c f s = record {
  count = s.count ∙ f.count;
  each = λ i w at run.
      let two = s.each i w at run in
      let one = f.each i two.0 two.1 two.2.0 in
      (one.0, one.1, (one.2.0, two.2.1 ∙ one.2.1, two.2.2 ∙ one.2.2));
}

pub heard_stays : (old new : Nodes) (h : Heard) → (h.reply ≡ Accepted → IsInner h.event) → IsHeard old h new → AllStay old new
heard_stays old new h i s = record {
  count = ap (λ (n : Nodes). length n) s.is ∙ length-set old s.place s.after';
  each = λ j w at run.
      ⊎_elim
      (λ e.
      let there : slice_get old j ≡ Some s.before = subst (λ (k : ℕ). slice_get old k ≡ Some s.before) (sym e.0) s.was in
      (s.before, there, step_stays s.before w h.event h.reply i (subst (λ (u : NodeView). Step s.before h.event h.reply u) e.1 s.step) run))
      (λ e. (w, e.1, (run, refl, refl)))
      (get_set old s.place s.after' j w (subst (λ (n : Nodes). slice_get n j ≡ Some w) s.is at));
}

one_stays : (a b : Nodes) (x : List Heard) (h : Heard) → (h.reply ≡ Accepted → IsInner h.event) → IsOne h a x b → AllStay a b
one_stays a b x h i one = heard_stays a b h i one.1

all_hear_stays : (number : ℕ) (events : List Event) → AllByRecursion IsInner events → (a : Nodes) (x : List Heard) (b : Nodes) → HearsAll number events a x b → AllStay a b
all_hear_stays number [] i a x b p = stay_none a b p.1
all_hear_stays number (e ∷ events) i a x b p =
    stay_then a p.mid b
    (one_stays a p.mid p.first (record { node = number; event = e; reply = p.one.0 }) (λ r. i.0) p.one.1)
    (all_hear_stays number events i.1 p.mid p.rest b p.two)

in_order_stays : (Is : ℕ → Nodes → List Heard → Nodes → Type 0) → ((n : ℕ) (a : Nodes) (x : List Heard) (b : Nodes) → Is n a x b → AllStay a b) → (n : ℕ) (a : Nodes) (x : List Heard) (b : Nodes) → InOrder Is n a x b → AllStay a b
in_order_stays Is f zero a x b p = stay_none a b p.1
in_order_stays Is f (suc n) a x b p = stay_then a p.mid b (in_order_stays Is f n a p.first p.mid p.one) (f (suc n) p.mid p.rest b p.two)

-- ---- rounds

all_on : {X : Type 0} (P : X → Type 0) (xs ys : List X) → AllByRecursion P xs → AllByRecursion P ys → AllByRecursion P (xs ++ ys)
all_on P [] ys p q = q
all_on P (x ∷ xs) ys p q = (p.0, all_on P xs ys p.1 q)

readers_are_inner : (links : ℕ) → AllByRecursion IsInner (reader_events links)
readers_are_inner zero = tt
readers_are_inner (suc link) = all_on IsInner (reader_events link) (event.ReaderTake link ∷ event.ReaderPut link ∷ []) (readers_are_inner link) (tt, (tt, tt))

stages_are_inner : (links : ℕ) → AllByRecursion IsInner (stage_events links)
stages_are_inner links = all_on IsInner (reader_events links) (event.PendTake ∷ event.PendPut ∷ event.SlotTake ∷ event.SlotPut ∷ event.ApplyTake ∷ []) (readers_are_inner links) (tt, (tt, (tt, (tt, (tt, tt)))))

carries_stay : (driven : List Bool) (from to : ℕ) (a : Nodes) (x : List Heard) (b : Nodes) → Carries driven from to a x b → AllStay a b
carries_stay driven from to a x b (inl p) = stay_none a b p.1.1
carries_stay driven from to a x b (inr p) = ⊎_elim
    (λ dry. one_stays a b x _ (λ r. tt) dry.2)
    (λ sent. stay_then a sent.1.mid b (one_stays a sent.1.mid sent.1.first _ (λ r. tt) sent.1.one) (one_stays sent.1.mid b sent.1.rest _ (λ r. tt) sent.1.two))
    p.2

turn_stays : (driven : List Bool) (count number : ℕ) (a : Nodes) (x : List Heard) (b : Nodes) → IsTurn driven count number a x b → AllStay a b
turn_stays driven count number a x b p =
    stay_then a p.mid b
    (all_hear_stays number (stage_events (count - 1)) (stages_are_inner (count - 1)) a p.first p.mid p.one)
    (in_order_stays (Carries driven number) (λ to. carries_stay driven number to) count p.mid p.rest b p.two)

round_stays : (driven : List Bool) (count : ℕ) (a : Nodes) (x : List Heard) (b : Nodes) → IsRound driven count a x b → AllStay a b
round_stays driven count a x b p = in_order_stays (IsTurn driven count) (turn_stays driven count) count a x b p

rounds_stay : (driven : List Bool) (count rounds : ℕ) (a : Nodes) (x : List Heard) (b : Nodes) → AreRounds driven count rounds a x b → AllStay a b
rounds_stay driven count rounds a x b p = in_order_stays (λ round. IsMovingRound driven count) (λ round o heard n q. round_stays driven count o heard n q.0) rounds a x b p

-- while the nodes came to rest
pub rests_stay : (driven : List Bool) (count : ℕ) (a : Nodes) (x : List Heard) (b : Nodes) → Rests driven count a x b → AllStay a b
rests_stay driven count a x b (true, p) = stay_then a p.2.mid b (rounds_stay driven count p.0 a p.2.first p.2.mid p.2.one) (round_stays driven count p.2.mid p.2.rest b p.2.two.0)
rests_stay driven count a x b (false, p) = rounds_stay driven count ROUND_LIMIT a x b p
