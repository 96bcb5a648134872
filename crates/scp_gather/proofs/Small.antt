-- Each queue of the pending stage holds at most 64 messages between two takes.
use Rattle.std.proofs.Common.{◌≡◌, ◌*◌, ◌≤◌, Bool, true, false, cond, sym, refl, subst, List, [], ◌∷◌, ◌++◌, length, Option, arith}
use Rattle.std.specs.Prelude.{not, ◌&&◌, map, filter}
use Rattle.std.specs.List.{AllByRecursion}
use Rattle.std.proofs.lemmas.Bool.Decides.{nat_tests}
use Rattle.std.proofs.lemmas.List.{length-append}
use Rattle.scp_workers.specs.scp_types.specs.declared.names.ConnId.{ConnId}
use Rattle.scp_workers.specs.scp_types.specs.declared.names.Hash.{Hash}
use Rattle.scp_workers.specs.scp_types.specs.declared.names.NodeId.{NodeId}
use Rattle.scp_workers.specs.scp_wire.specs.declared.carried.Carried.{Carried}
use Rattle.scp_workers.specs.scp_wire.specs.declared.link.Inbound.{Inbound}
use Rattle.scp_workers.specs.scp_wire.specs.declared.link.Inbound.TheVariants as inbound
use Rattle.scp_workers.specs.scp_wire.specs.declared.link.Command.TheVariants.{Tick, Propose, Round, Timer, Ask}
use Rattle.scp_workers.specs.scp_wire.specs.declared.side.SideMessage.{SideMessage}
use Rattle.scp_workers.specs.scp_wire.specs.declared.side.SideMessage.TheVariants.{GetSet, Set, NoSet}
use Rattle.scp_workers.specs.scp_fetch.specs.Wants.{gives_up, last_missed, missed_by}
use Rattle.scp_workers.specs.scp_fetch.specs.declared.want.Miss.TheVariants.{One}
use Rattle.scp_workers.specs.scp_pending.specs.declared.parked.Parked.{Parked}
use Rattle.scp_workers.specs.scp_pending.specs.declared.ready.DropCause.TheVariants.{GaveUp}
use Rattle.scp_workers.specs.scp_pending.specs.declared.ready.Ready.{Ready}
use Rattle.scp_workers.specs.scp_pending.specs.Pends.{Pends, start_of}
use Rattle.scp_workers.specs.scp_pending.specs.Queues.{QueueView, is_of, is_open, is_head_waiting, is_hash, hash_of, parked_of, others, changed, is_empty, served, stays_in, in_order_of, resolved_one, resolved_in, resolved, lost_by, with_parked, parked_in}
use Rattle.scp_workers.specs.scp_pending.specs.Rules.{PendingView, Settled, opens, opened, closed_off, is_full, goes_through, entering, parks, brings, is_answer, answered, by_answer, is_given_up, gives_up_one, hears, rules, settled_by}
use Rattle.scp_gather.specs.Count.{parked_in_all}
use Rattle.scp_gather.proofs.Taking.{cons_parked, leave_or_stay}

abbrev AreSmall : List QueueView → Type 0
AreSmall qs = AllByRecursion (λ q. length q.parked ≤ 64) qs

-- ---- queues that change

both : (qs ps : List QueueView) → AreSmall qs → AreSmall ps → AreSmall (qs ++ ps)
both [] ps a b = b
both (q ∷ qs) ps a b = (a.0, both qs ps a.1 b)

without : (c : ConnId) (qs : List QueueView) → AreSmall qs → AreSmall (others c qs)
without c [] a = tt
without c (q ∷ qs) a = by_test (is_of c q) (without c qs a.1)
  where
    by_test : (b : Bool) → AreSmall (others c qs) → AreSmall (cond b qs (q ∷ others c qs))
    by_test true rest = a.1
    by_test false rest = (a.0, rest)

with_more : (c : ConnId) (p : Parked) (qs : List QueueView) → length (parked_of c qs) ≤ 63 → AreSmall qs → AreSmall (changed c (with_parked p) qs)
with_more c p [] few a = tt
with_more c p (q ∷ qs) few a = by_test (is_of c q) few (λ k. with_more c p qs k a.1)
  where
    by_test : (b : Bool) → length (cond b q.parked (parked_of c qs)) ≤ 63 → (length (parked_of c qs) ≤ 63 → AreSmall (changed c (with_parked p) qs)) → AreSmall (cond b (with_parked p q ∷ qs) (q ∷ changed c (with_parked p) qs))
    by_test true k rest = (omega (arith, k, length-append q.parked (p ∷ [])), a.1)
    by_test false k rest = (a.0, rest k)

park : (c : ConnId) (p : Parked) (qs : List QueueView) → length (parked_of c qs) ≤ 63 → AreSmall qs → AreSmall (parked_in c p qs)
park c p qs few a = by_test (is_empty (parked_of c qs))
  where
    by_test : (b : Bool) → AreSmall (cond b (others c qs ++ record { conn = c; parked = p ∷ [] } ∷ []) (changed c (with_parked p) qs))
    by_test true = both (others c qs) (record { conn = c; parked = p ∷ [] } ∷ []) (without c qs a) (omega arith, tt)
    by_test false = with_more c p qs few a

shrink : (f : QueueView → QueueView) → ((q : QueueView) → length (f q).parked ≤ length q.parked) → (qs : List QueueView) → AreSmall qs → AreSmall (map f qs)
shrink f less [] a = tt
shrink f less (q ∷ qs) a = (omega (arith, less q, a.0), shrink f less qs a.1)

some : (test : QueueView → Bool) (qs : List QueueView) → AreSmall qs → AreSmall (filter test qs)
some test [] a = tt
some test (q ∷ qs) a = by_test (test q) (some test qs a.1)
  where
    by_test : (b : Bool) → AreSmall (filter test qs) → AreSmall (cond b (q ∷ filter test qs) (filter test qs))
    by_test true rest = (a.0, rest)
    by_test false rest = rest

ordered : (hashes : List Hash) (qs : List QueueView) → AreSmall qs → AreSmall (in_order_of hashes qs)
ordered [] qs a = a
ordered (hash ∷ hashes) qs a =
    let rest = in_order_of hashes qs in
    both (filter (λ q. is_head_waiting hash q.parked) rest) (filter (λ q. not (is_head_waiting hash q.parked)) rest)
    (some (λ q. is_head_waiting hash q.parked) rest (ordered hashes qs a)) (some (λ q. not (is_head_waiting hash q.parked)) rest (ordered hashes qs a))

module _ (test : Option Hash → Bool) (f : Carried → Parked) where
  same_length : (ps : List Parked) → length (map (resolved_one test f) ps) ≡ length ps
  same_length [] = refl
  same_length (p ∷ ps) = omega (arith, same_length ps)

  serve : (qs : List QueueView) → AreSmall qs → AreSmall (served (resolved test f qs))
  serve qs a = shrink stays_in (λ q. omega (arith, leave_or_stay q.conn [] q.parked)) (resolved test f qs) (shrink (resolved_in test f) (λ q. omega (arith, same_length q.parked)) qs a)

-- ---- one take

module _ (s : Settled) (a : AreSmall s.queues) where
  bring : (x : Carried) → AreSmall (brings x s).queues
  bring x = by_tests (is_full x.conn s.queues) (goes_through x.conn (entering s.store x) s.queues) refl
    where
      by_tests : (full through : Bool) → is_full x.conn s.queues ≡ full → AreSmall (cond (full && not through) (closed_off x.conn s) (cond through s (parks x (entering s.store x) s))).queues
      by_tests true true e = a
      by_tests true false e = without x.conn s.queues a
      by_tests false true e = a
      by_tests false false e =
          let few : length (parked_of x.conn s.queues) ≤ 63 = grind (arith, nat_tests, e) in
          park x.conn (entering s.store x) s.queues few a

  hear : (m : SideMessage) → AreSmall (hears m s).queues
  hear (GetSet hash) = a
  hear (Set set) = by_test (is_answer set s)
    where
      by_test : (b : Bool) → AreSmall (cond b (answered set s) s).queues
      by_test true = serve (is_hash (hash_of set)) (by_answer set) s.queues a
      by_test false = a
  hear (NoSet hash) = by_test (gives_up (One hash) s.wanted hash)
    where
      missed : Settled
      missed = record s { wanted = missed_by (One hash) s.wanted }

      by_test : (b : Bool) → AreSmall (cond b (gives_up_one hash missed) missed).queues
      by_test true = serve (is_hash hash) (lost_by GaveUp) s.queues a
      by_test false = a

  take_one : (x : Inbound) → AreSmall (rules s x).queues
  take_one (inbound.Opened c) = by_test (opens c s)
    where
      by_test : (b : Bool) → AreSmall (cond b (opened c s) s).queues
      by_test true = both s.queues (record { conn = c; parked = [] } ∷ []) a (omega arith, tt)
      by_test false = a
  take_one (inbound.Carried x) = by_test (is_open x.conn s.queues)
    where
      by_test : (b : Bool) → AreSmall (cond b (brings x s) s).queues
      by_test true = bring x
      by_test false = a
  take_one (inbound.Side c m) = by_test (is_open c s.queues)
    where
      by_test : (b : Bool) → AreSmall (cond b (hears m s) s).queues
      by_test true = hear m
      by_test false = a
  take_one (inbound.Closed c cause) = by_test (is_open c s.queues)
    where
      by_test : (b : Bool) → AreSmall (cond b (closed_off c s) s).queues
      by_test true = without c s.queues a
      by_test false = a
  take_one (inbound.Local Tick) = serve (is_given_up s.wanted) (lost_by GaveUp) (in_order_of (last_missed s.wanted) s.queues) (ordered (last_missed s.wanted) s.queues a)
  take_one (inbound.Local (Propose slot value)) = a
  take_one (inbound.Local (Round slot)) = a
  take_one (inbound.Local (Timer slot)) = a
  take_one (inbound.Local (Ask link slot)) = a

take_all : (s : Settled) (items : List Inbound) → AreSmall s.queues → AreSmall (settled_by s items).queues
take_all s [] a = a
take_all s (x ∷ items) a = take_all (rules s x) items (take_one s a x)

added_up : (qs : List QueueView) → AreSmall qs → parked_in_all qs ≤ 64 * length qs
added_up [] a = omega arith
added_up (q ∷ qs) a = omega (arith, cons_parked q qs, a.0, added_up qs a.1)

-- so all of them together hold at most 64 for each
pub few_held : (me : NodeId) (peers : List NodeId) (taken : List Inbound) (given : List Ready) (v : PendingView) → Pends me peers taken given v → parked_in_all v.settled.queues ≤ 64 * length v.settled.queues
few_held me peers taken given v p = added_up v.settled.queues (subst (λ (s : Settled). AreSmall s.queues) (sym p.settled) (take_all (start_of me peers v) taken tt))
