-- What one take of the pending stage does to how many messages it holds.
use Rattle.std.proofs.Common.{◌≡◌, ◌∙◌, ℕ, ◌+◌, ◌≤◌, Bool, true, false, cond, refl, List, [], ◌∷◌, ◌++◌, length, Option, arith}
use Rattle.std.specs.Prelude.{not, map, filter, count_by}
use Rattle.std.proofs.lemmas.List.Sums.{sum_by-cons, sum_by-append}
use Rattle.std.proofs.lemmas.List.{length-append}
use Rattle.scp_workers.specs.scp_types.specs.declared.names.ConnId.{ConnId}
use Rattle.scp_workers.specs.scp_types.specs.declared.names.Hash.{Hash}
use Rattle.scp_workers.specs.scp_wire.specs.declared.carried.Carried.{Carried}
use Rattle.scp_workers.specs.scp_wire.specs.declared.link.Inbound.{Inbound}
use Rattle.scp_workers.specs.scp_wire.specs.declared.link.Inbound.TheVariants as inbound
use Rattle.scp_workers.specs.scp_wire.specs.declared.link.Command.TheVariants.{Tick, Propose, Round, Timer, Ask}
use Rattle.scp_workers.specs.scp_wire.specs.declared.link.Cause.{Cause}
use Rattle.scp_workers.specs.scp_wire.specs.declared.link.Cause.TheVariants.{ParkedFull}
use Rattle.scp_workers.specs.scp_wire.specs.declared.side.SideMessage.{SideMessage}
use Rattle.scp_workers.specs.scp_wire.specs.declared.side.SideMessage.TheVariants.{GetSet, Set, NoSet}
use Rattle.scp_workers.specs.scp_fetch.specs.Wants.{gives_up, last_missed, missed_by}
use Rattle.scp_workers.specs.scp_fetch.specs.declared.want.Miss.TheVariants.{One}
use Rattle.scp_workers.specs.scp_pending.specs.declared.parked.Parked.{Parked}
use Rattle.scp_workers.specs.scp_pending.specs.declared.parked.Parked.TheVariants.{Waits, Free, Lost}
use Rattle.scp_workers.specs.scp_pending.specs.declared.ready.DropCause.{DropCause}
use Rattle.scp_workers.specs.scp_pending.specs.declared.ready.DropCause.TheVariants.{GaveUp, Closed as ByClose, ParkedFull as ByFull}
use Rattle.scp_workers.specs.scp_pending.specs.declared.ready.Ready.{Ready}
use Rattle.scp_workers.specs.scp_pending.specs.declared.ready.Ready.TheVariants.{Dropped, Closed}
use Rattle.scp_workers.specs.scp_pending.specs.Queues.{QueueView, is_of, is_open, is_head_waiting, is_hash, hash_of, parked_of, others, changed, is_empty, is_held, fate, leaves_behind, stays_behind, served, stays_in, leaves_in, leaving_of, with_first, in_order_of, resolved_one, resolved_in, resolved, lost_by, with_parked, parked_in, dropped}
use Rattle.scp_workers.specs.scp_pending.specs.Rules.{Settled, opens, goes_through, overflows, entering, parks, closed_off, brings, brought, is_answer, by_answer, answered, gives_up_one, missed_all, is_given_up, hears, heard_out, opened, rules, releases}
use Rattle.scp_gather.specs.Count.{is_message, parked_in_all}

abbrev size : QueueView → ℕ
size q = length q.parked

abbrev one : Ready → ℕ
one r = cond (is_message r) 1 0

abbrev messages : List Ready → ℕ
messages rs = count_by is_message rs

cons_messages : (r : Ready) (rs : List Ready) → messages (r ∷ rs) ≡ one r + messages rs
cons_messages r rs = sum_by-cons one r rs

pub append_messages : (rs qs : List Ready) → messages (rs ++ qs) ≡ messages rs + messages qs
append_messages rs qs = sum_by-append one rs qs

pub cons_parked : (q : QueueView) (qs : List QueueView) → parked_in_all (q ∷ qs) ≡ size q + parked_in_all qs
cons_parked q qs = sum_by-cons size q qs

append_parked : (qs ps : List QueueView) → parked_in_all (qs ++ ps) ≡ parked_in_all qs + parked_in_all ps
append_parked qs ps = sum_by-append size qs ps

-- ---- what leaves a queue, and what stays

fate_one : (c : ConnId) (p : Parked) → messages (fate c p) ≤ 1
fate_one c (Waits x) = omega arith
fate_one c (Free delivery) = omega arith
fate_one c (Lost x cause) = omega arith

pub leave_or_stay : (c : ConnId) (kept ps : List Parked) → messages (leaves_behind c kept ps) + length (stays_behind kept ps) ≤ length ps
leave_or_stay c kept [] = omega arith
leave_or_stay c kept (p ∷ ps) = by_test (is_held kept p) (leave_or_stay c (kept ++ p ∷ []) ps) (leave_or_stay c kept ps)
  where
    by_test : (b : Bool) → messages (leaves_behind c (kept ++ p ∷ []) ps) + length (stays_behind (kept ++ p ∷ []) ps) ≤ length ps → messages (leaves_behind c kept ps) + length (stays_behind kept ps) ≤ length ps
        → messages (cond b (leaves_behind c (kept ++ p ∷ []) ps) (fate c p ++ leaves_behind c kept ps)) + length (cond b (p ∷ stays_behind (kept ++ p ∷ []) ps) (stays_behind kept ps)) ≤ length (p ∷ ps)
    by_test true stay go = omega (arith, stay)
    by_test false stay go = omega (arith, go, append_messages (fate c p) (leaves_behind c kept ps), fate_one c p)

serve_all : (qs : List QueueView) → messages (leaving_of qs) + parked_in_all (served qs) ≤ parked_in_all qs
serve_all [] = omega arith
serve_all (q ∷ qs) = omega (arith, append_messages (leaves_in q) (leaving_of qs), cons_parked (stays_in q) (served qs), cons_parked q qs, leave_or_stay q.conn [] q.parked, serve_all qs)

-- ---- queues that change

module _ (test : Option Hash → Bool) (f : Carried → Parked) where
  same_length : (ps : List Parked) → length (map (resolved_one test f) ps) ≡ length ps
  same_length [] = refl
  same_length (p ∷ ps) = omega (arith, same_length ps)

  resolve_all : (qs : List QueueView) → parked_in_all (resolved test f qs) ≡ parked_in_all qs
  resolve_all [] = refl
  resolve_all (q ∷ qs) = omega (arith, cons_parked (resolved_in test f q) (resolved test f qs), cons_parked q qs, same_length q.parked, resolve_all qs)

  serve_resolved : (qs : List QueueView) → messages (leaving_of (resolved test f qs)) + parked_in_all (served (resolved test f qs)) ≤ parked_in_all qs
  serve_resolved qs = omega (arith, serve_all (resolved test f qs), resolve_all qs)

without_one : (c : ConnId) (qs : List QueueView) → length (parked_of c qs) + parked_in_all (others c qs) ≡ parked_in_all qs
without_one c [] = refl
without_one c (q ∷ qs) = by_test (is_of c q) (without_one c qs)
  where
    by_test : (b : Bool) → length (parked_of c qs) + parked_in_all (others c qs) ≡ parked_in_all qs → length (cond b q.parked (parked_of c qs)) + parked_in_all (cond b qs (q ∷ others c qs)) ≡ parked_in_all (q ∷ qs)
    by_test true rest = omega (arith, cons_parked q qs)
    by_test false rest = omega (arith, cons_parked q qs, cons_parked q (others c qs), rest)

with_one : (c : ConnId) (p : Parked) (qs : List QueueView) → parked_in_all (changed c (with_parked p) qs) ≤ parked_in_all qs + 1
with_one c p [] = omega arith
with_one c p (q ∷ qs) = by_test (is_of c q) (with_one c p qs)
  where
    by_test : (b : Bool) → parked_in_all (changed c (with_parked p) qs) ≤ parked_in_all qs + 1 → parked_in_all (cond b (with_parked p q ∷ qs) (q ∷ changed c (with_parked p) qs)) ≤ parked_in_all (q ∷ qs) + 1
    by_test true rest = omega (arith, cons_parked q qs, cons_parked (with_parked p q) qs, length-append q.parked (p ∷ []))
    by_test false rest = omega (arith, cons_parked q qs, cons_parked q (changed c (with_parked p) qs), rest)

park_one : (c : ConnId) (p : Parked) (qs : List QueueView) → parked_in_all (parked_in c p qs) ≤ parked_in_all qs + 1
park_one c p qs = by_test (is_empty (parked_of c qs))
  where
    by_test : (b : Bool) → parked_in_all (cond b (others c qs ++ record { conn = c; parked = p ∷ [] } ∷ []) (changed c (with_parked p) qs)) ≤ parked_in_all qs + 1
    by_test true = omega (arith, append_parked (others c qs) (record { conn = c; parked = p ∷ [] } ∷ []), without_one c qs)
    by_test false = with_one c p qs

-- in another order
part : (test : QueueView → Bool) (qs : List QueueView) → parked_in_all (filter test qs) + parked_in_all (filter (λ q. not (test q)) qs) ≡ parked_in_all qs
part test [] = refl
part test (q ∷ qs) = by_test (test q) (part test qs)
  where
    by_test : (b : Bool) → parked_in_all (filter test qs) + parked_in_all (filter (λ x. not (test x)) qs) ≡ parked_in_all qs
        → parked_in_all (cond b (q ∷ filter test qs) (filter test qs)) + parked_in_all (cond (not b) (q ∷ filter (λ x. not (test x)) qs) (filter (λ x. not (test x)) qs)) ≡ parked_in_all (q ∷ qs)
    by_test true rest = omega (arith, cons_parked q (filter test qs), cons_parked q qs, rest)
    by_test false rest = omega (arith, cons_parked q (filter (λ x. not (test x)) qs), cons_parked q qs, rest)

first_of_all : (hash : Hash) (qs : List QueueView) → parked_in_all (with_first hash qs) ≡ parked_in_all qs
first_of_all hash qs =
    append_parked (filter (λ q. is_head_waiting hash q.parked) qs) (filter (λ q. not (is_head_waiting hash q.parked)) qs)
    ∙ part (λ q. is_head_waiting hash q.parked) qs

order_all : (hashes : List Hash) (qs : List QueueView) → parked_in_all (in_order_of hashes qs) ≡ parked_in_all qs
order_all [] qs = refl
order_all (hash ∷ hashes) qs = first_of_all hash (in_order_of hashes qs) ∙ order_all hashes qs

drop_all : (c : ConnId) (cause : DropCause) (ps : List Parked) → messages (map (dropped c cause) ps) ≡ length ps
drop_all c cause [] = refl
drop_all c cause (p ∷ ps) = omega (arith, cons_messages (dropped c cause p) (map (dropped c cause) ps), drop_all c cause ps)

-- ---- one take

module _ (s : Settled) where
  brings_one : (x : Carried) → messages (brought x s) + parked_in_all (brings x s).queues ≤ parked_in_all s.queues + 1
  brings_one x = by_tests (overflows x.conn p s.queues) (goes_through x.conn p s.queues)
    where
      p : Parked
      p = entering s.store x

      full : List Ready
      full = map (dropped x.conn ByFull) (parked_of x.conn s.queues) ++ Dropped x.conn x.seq ByFull ∷ Closed x.conn ParkedFull ∷ []

      by_tests : (a b : Bool) → messages (cond a full (cond b (fate x.conn p) [])) + parked_in_all (cond a (closed_off x.conn s) (cond b s (parks x p s))).queues ≤ parked_in_all s.queues + 1
      by_tests true b = omega (arith, append_messages (map (dropped x.conn ByFull) (parked_of x.conn s.queues)) (Dropped x.conn x.seq ByFull ∷ Closed x.conn ParkedFull ∷ []), drop_all x.conn ByFull (parked_of x.conn s.queues), without_one x.conn s.queues)
      by_tests false true = omega (arith, fate_one x.conn p)
      by_tests false false = omega (arith, park_one x.conn p s.queues)

  hears_few : (m : SideMessage) → messages (heard_out m s) + parked_in_all (hears m s).queues ≤ parked_in_all s.queues
  hears_few (GetSet hash) = omega arith
  hears_few (Set set) = by_test (is_answer set s)
    where
      test : Option Hash → Bool
      test = is_hash (hash_of set)

      by_test : (b : Bool) → messages (cond b (leaving_of (resolved test (by_answer set) s.queues)) []) + parked_in_all (cond b (answered set s) s).queues ≤ parked_in_all s.queues
      by_test true = serve_resolved test (by_answer set) s.queues
      by_test false = omega arith
  hears_few (NoSet hash) = by_test (gives_up (One hash) s.wanted hash)
    where
      after' : Settled
      after' = record s { wanted = missed_by (One hash) s.wanted }

      by_test : (b : Bool) → messages (cond b (leaving_of (resolved (is_hash hash) (lost_by GaveUp) s.queues)) []) + parked_in_all (cond b (gives_up_one hash after') after').queues ≤ parked_in_all s.queues
      by_test true = serve_resolved (is_hash hash) (lost_by GaveUp) s.queues
      by_test false = omega arith

  ticks_few : messages (releases s (inbound.Local Tick)) + parked_in_all (missed_all s).queues ≤ parked_in_all s.queues
  ticks_few =
      let qs = in_order_of (last_missed s.wanted) s.queues in
      omega (arith, serve_resolved (is_given_up s.wanted) (lost_by GaveUp) qs, order_all (last_missed s.wanted) s.queues)

  opens_none : (c : ConnId) → parked_in_all (rules s (inbound.Opened c)).queues ≤ parked_in_all s.queues
  opens_none c = by_test (opens c s)
    where
      by_test : (b : Bool) → parked_in_all (cond b (opened c s) s).queues ≤ parked_in_all s.queues
      by_test true = omega (arith, append_parked s.queues (record { conn = c; parked = [] } ∷ []))
      by_test false = omega arith

  carries_one : (x : Carried) → messages (releases s (inbound.Carried x)) + parked_in_all (rules s (inbound.Carried x)).queues ≤ parked_in_all s.queues + 1
  carries_one x = by_test (is_open x.conn s.queues)
    where
      by_test : (b : Bool) → messages (cond b (brought x s) []) + parked_in_all (cond b (brings x s) s).queues ≤ parked_in_all s.queues + 1
      by_test true = brings_one x
      by_test false = omega arith

  says_few : (c : ConnId) (m : SideMessage) → messages (releases s (inbound.Side c m)) + parked_in_all (rules s (inbound.Side c m)).queues ≤ parked_in_all s.queues
  says_few c m = by_test (is_open c s.queues)
    where
      by_test : (b : Bool) → messages (cond b (heard_out m s) []) + parked_in_all (cond b (hears m s) s).queues ≤ parked_in_all s.queues
      by_test true = hears_few m
      by_test false = omega arith

  closes_few : (c : ConnId) (cause : Cause) → messages (releases s (inbound.Closed c cause)) + parked_in_all (rules s (inbound.Closed c cause)).queues ≤ parked_in_all s.queues
  closes_few c cause = by_test (is_open c s.queues)
    where
      by_test : (b : Bool) → messages (cond b (map (dropped c ByClose) (parked_of c s.queues) ++ Closed c cause ∷ []) []) + parked_in_all (cond b (closed_off c s) s).queues ≤ parked_in_all s.queues
      by_test true = omega (arith, append_messages (map (dropped c ByClose) (parked_of c s.queues)) (Closed c cause ∷ []), drop_all c ByClose (parked_of c s.queues), without_one c s.queues)
      by_test false = omega arith

pub one_take : (s : Settled) (x : Inbound) → messages (releases s x) + parked_in_all (rules s x).queues ≤ parked_in_all s.queues + 1
one_take s (inbound.Opened c) = omega (arith, opens_none s c)
one_take s (inbound.Carried x) = carries_one s x
one_take s (inbound.Side c m) = omega (arith, says_few s c m)
one_take s (inbound.Closed c cause) = omega (arith, closes_few s c cause)
one_take s (inbound.Local Tick) = omega (arith, ticks_few s)
one_take s (inbound.Local (Propose slot value)) = omega arith
one_take s (inbound.Local (Round slot)) = omega arith
one_take s (inbound.Local (Timer slot)) = omega arith
one_take s (inbound.Local (Ask link slot)) = omega arith
