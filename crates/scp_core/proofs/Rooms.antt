-- Lengths of queues, and lives.
use Rattle.std.proofs.Common.{◌≡◌, ℕ, ◌+◌, List, [], ◌∷◌, refl, sym, ◌∙◌, ap, subst, arith, length, length-append, length-drop, zero, suc}
use Rattle.std.specs.Prelude.{Some, map, slice_get, fold, ◌-◌}
use Rattle.scp_theorem.specs.scp_driver.specs.Driver.{Says}
use Rattle.scp_theorem.specs.scp_types.specs.declared.names.NodeId.{NodeId}
use Rattle.scp_theorem.specs.scp_wire.specs.declared.link.LinkItem.{LinkItem}
use Rattle.scp_theorem.specs.scp_wire.specs.declared.link.LinkItem.TheVariants.{Opened, Bytes, Closed}
use Rattle.scp_theorem.specs.scp_wire.specs.Shape.{Tail, goes, never_open}
use Rattle.scp_core.specs.History.{Exchange, Past, past_of, tail_of}
use Rattle.scp_core.specs.Node.{NodeView, LinkView, life_of, lives_of, room_of}
use Rattle.scp_core.specs.Flow.{Flows, LinkFlows}
use Rattle.scp_core.specs.Theorem.{LedgerTheoremFrom}
use Rattle.scp_core.specs.Room.{opens_in, LinkHasRoom, RunningHasRoom, FailedHasRoom, HasRoom, TheoremGivesRoom}
use Rattle.scp_core.proofs.Failing.{Failure, failure_of}
use Rattle.scp_theorem.proofs.Basics.{there_is}
use Rattle.scp_core.proofs.Queues.{within}

lives_from : (t : Tail) (items : List LinkItem) → (fold goes t items).life ≡ t.life + opens_in items
lives_from t [] = omega arith
lives_from t (Opened conn ∷ xs) = let rest = lives_from (goes t (Opened conn)) xs in omega (arith, rest)
lives_from t (Bytes conn bytes ∷ xs) = let rest = lives_from t xs in omega (arith, rest)
lives_from t (Closed conn ∷ xs) = let rest = lives_from (goes t (Closed conn)) xs in omega (arith, rest)

module _ {D : Type 0} (says : Says D) where
  -- the link of a node that runs
  at_link : (p : Past) (v : NodeView D) (f : Flows says p v) (l : ℕ) (k : LinkView) → slice_get v.links l ≡ Some k → (peer : NodeId) × LinkFlows v.config.me peer v.config.capacities.link (p.links l) k
  at_link p v f l k there =
      let peer = there_is v.config.peers l (rw (← f.count) (within v.links l k there)) in
      (peer.0, f.links l k there peer.0 peer.1)

  lives_of_link : (p : Past) (v : NodeView D) (f : Flows says p v) (l : ℕ) (k : LinkView) → slice_get v.links l ≡ Some k → k.life ≡ opens_in (p.links l).items
  lives_of_link p v f l k there =
      let flows = (at_link p v f l k there).1 in
      let tail : (tail_of (p.links l)).life ≡ k.life = ap (λ (t : Tail). t.life) flows.tail in
      let opens = lives_from never_open (p.links l).items in
      omega (arith, tail, opens)

-- a link of the same life is there
same_place : (xs ys : List LinkView) (l : ℕ) (k : LinkView) → map life_of xs ≡ map life_of ys → slice_get xs l ≡ Some k → (k2 : LinkView) × (slice_get ys l ≡ Some k2) × (k.life ≡ k2.life)
same_place [] ys l k e there = absurd cc
same_place (x ∷ xs) [] l k e there = absurd cc
same_place (x ∷ xs) (y ∷ ys) zero k e there = (y, refl, sym (ap life_of (some_is x k there)) ∙ first x.life y.life (map life_of xs) (map life_of ys) e)
  where
    some_is : (a b : LinkView) → Some a ≡ Some b → a ≡ b
    some_is a b e = cc

    first : (a b : ℕ) (ms ns : List ℕ) → a ∷ ms ≡ b ∷ ns → a ≡ b
    first a b ms ns e = cc
same_place (x ∷ xs) (y ∷ ys) (suc l) k e there = same_place xs ys l k (rest x.life y.life (map life_of xs) (map life_of ys) e) there
  where
    rest : (a b : ℕ) (ms ns : List ℕ) → a ∷ ms ≡ b ∷ ns → ms ≡ ns
    rest a b ms ns e = cc

module _ {D : Type 0} (says : Says D) where
  link_room : (p : Past) (v : NodeView D) (f : Flows says p v) (l : ℕ) (k : LinkView) → slice_get v.links l ≡ Some k → LinkHasRoom v p l k
  link_room p v f l k there =
      let flows = (at_link says p v f l k there).1 in
      let held : length k.queue ≡ length (p.links l).items - (p.links l).taken = ap length flows.queue ∙ length-drop (p.links l).taken (p.links l).items in
      let some_fit = flows.within in
      record {
        room = flows.room_is;
        held = omega (arith, held, some_fit);
        left = ap room_of there ∙ ap (λ n. n - length k.queue) flows.room_is;
      }

  running : (p : Past) (v : NodeView D) → Flows says p v → RunningHasRoom v p
  running p v f = record {
    links = λ l k there. link_room p v f l k there;
    rooms = f.rooms;
    ready = f.ready_count;
    decided = f.decided_count;
    inbox = omega (arith, ap length f.inbox, length-append f.arrived v.inbox);
  }

module _ {D : Type 0} (says : Says D) (first : ℕ) (base : List ℕ) where
  failed_room : (past : List Exchange) (v : NodeView D) → Failure says first base past v → FailedHasRoom past v
  failed_room past v f =
      let h = f.theorem in
      record {
        earlier = f.earlier;
        event = f.event;
        reply = f.reply;
        fails = f.reply_fails;
        later = f.later;
        past_is = f.is;
        moment = f.moment;
        was = running says (past_of f.moment.config f.earlier) f.moment (subst (λ (w : NodeView D). Flows says (past_of f.moment.config f.earlier) w) (sym (h.now f.fails.was)) h.flows);
        left = f.fails.room;
      }

  rooms : (past : List Exchange) (v : NodeView D) → LedgerTheoremFrom says first base past v → HasRoom past v
  rooms past v h =
      let p = past_of v.config past in
      record {
        lives = λ l k there. let other = same_place v.links h.moment.links l k h.keeps.lives there in ap lives_of there ∙ other.2 ∙ lives_of_link says p h.moment h.flows l other.0 other.1;
        running = λ runs. running says p v (subst (λ (w : NodeView D). Flows says p w) (sym (h.now runs)) h.flows);
        failed = λ failed. failed_room past v (failure_of says first base past v h failed);
      }

module _ {D : Type 0} (says : Says D) where
  pub theorem_gives_room : TheoremGivesRoom says
  theorem_gives_room = λ first base past v h. rooms says first base past v h
