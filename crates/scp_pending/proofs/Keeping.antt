-- What holds in the stage between two takes holds after one more; and if nothing waits, nothing needs to be looked at.
use Rattle.std.proofs.Common.{◌≡◌, ℕ, ◌+◌, ◌<◌, ◌≤◌, Bool, true, false, cond, List, [], ◌∷◌, ◌++◌, length, refl, sym, ◌∙◌, ap, subst, arith, append_assoc, map, take, get_or, set, zero, suc}
use Rattle.std.specs.Prelude.{◌&&◌, ◌||◌, nat_lt, filter, flat_map, Option, Some, None}
use Rattle.std.specs.List.{list_any, AllByRecursion}
use Rattle.scp_wire.specs.scp_types.specs.declared.names.ConnId.{ConnId}
use Rattle.scp_wire.specs.scp_types.specs.declared.names.Hash.{Hash}
use Rattle.scp_wire.specs.scp_quorum.specs.QuorumTree.{QuorumTree}
use Rattle.scp_wire.specs.declared.carried.Carried.{Carried}
use Rattle.scp_wire.specs.declared.side.SideMessage.{SideMessage}
use Rattle.scp_wire.specs.declared.side.SideMessage.TheVariants.{GetSet, Set, NoSet}
use Rattle.scp_wire.specs.declared.link.Command.TheVariants.{Tick, Propose, Round, Timer, Ask}
use Rattle.scp_wire.specs.declared.link.Inbound.{Inbound}
use Rattle.scp_wire.specs.declared.link.Inbound.TheVariants as inbound
use Rattle.scp_wire.specs.Connections.{same_conn}
use Rattle.scp_fetch.specs.declared.want.Want.{Want}
use Rattle.scp_fetch.specs.declared.want.Miss.{Miss}
use Rattle.scp_fetch.specs.declared.want.Miss.TheVariants.{One, All}
use Rattle.scp_fetch.specs.Hashes.{same_hash}
use Rattle.scp_fetch.specs.Wants.{is_for, is_wanted, has_conn, waiting_for, left_by, unask, is_last, missed_by, last_missed, without, gives_up}
use Rattle.scp_pending.specs.declared.parked.Parked.{Parked}
use Rattle.scp_pending.specs.declared.parked.Parked.TheVariants.{Waits, Free, Lost}
use Rattle.scp_pending.specs.declared.ready.DropCause.TheVariants.{GaveUp}
use Rattle.scp_pending.specs.declared.ready.Ready.{Ready}
use Rattle.scp_pending.specs.Queues.{QueueView, is_of, is_open, parked_of, others, changed, with_parked, parked_in, is_empty, is_held, fate, leaves_behind, stays_behind, stays_in, served, leaves_in, leaving_of, in_order_of, named, is_hash, hash_of, waits_for, waited_by, is_waiting, resolved_one, resolved_in, resolved, lost_by}
use Rattle.scp_pending.specs.Rules.{Settled, rules, opens, opened, closed_off, link_number, entering, overflows, goes_through, wanted_named, parks, by_answer, answered, is_answer, is_given_up, gives_up_one, hears}
use Rattle.scp_pending.specs.inside.Kept.{AreSingle, AreHeld, AreListed, IsKept, IsQuiet}
use Rattle.scp_pending.proofs.Basics.{append_nil, clash, or_none, or_left, or_right, flat-append, all_weaker, all_append, all_both, same_hash-true, same_hash-refl, same_conn-true}
use Rattle.scp_pending.proofs.Wanting.{wanted-map, wanted_by-own, wanted-without, wanted-missed, is_for-true}
use Rattle.scp_pending.proofs.Laning.{stays_held, held-push}
use Rattle.scp_pending.proofs.Serving.{parked-opened, parked-others_mine, parked-others_other, parked-resolved, parked-served, parked-in_order, single-in_order, all_in_order}
use Rattle.scp_pending.proofs.Listing.{and_none, waits_as, still_left, parked_waiting, served_same, answer_waits, own_from, waiting_is, listed_step, stays_any}
use Rattle.scp_pending.proofs.Standing.{gives_up_other}
use Rattle.scp_pending.proofs.Sound.{single_step, all_any, held_of, wants_named, all_others}
use Rattle.scp_pending.proofs.Walk.{walked, walked-at, walked-read, walked-all}

-- ---- each is held back

abbrev AllHeld : List QueueView → Type 0
AllHeld qs = AllByRecursion (λ q. AreHeld [] q.parked) qs

held_changed : (c : ConnId) (p : Parked) (qs : List QueueView) → is_held (parked_of c qs) p ≡ true → AllHeld qs → AllHeld (changed c (with_parked p) qs)
held_changed c p [] h a = tt
held_changed c p (q ∷ qs) h a = by_test (is_of c q) h (λ k. held_changed c p qs k a.1)
  where
    by_test : (b : Bool) → is_held (cond b q.parked (parked_of c qs)) p ≡ true → (is_held (parked_of c qs) p ≡ true → AllHeld (changed c (with_parked p) qs)) → AllHeld (cond b (with_parked p q ∷ qs) (q ∷ changed c (with_parked p) qs))
    by_test true h rest = (held-push [] q.parked p a.0 h, a.1)
    by_test false h rest = (a.0, rest h)

held_parked : (c : ConnId) (p : Parked) (qs : List QueueView) → goes_through c p qs ≡ false → AllHeld qs → AllHeld (parked_in c p qs)
held_parked c p qs through a = by_test (is_empty (parked_of c qs)) refl (held_of (is_held (parked_of c qs) p) through)
  where
    nil_of : (ps : List Parked) → is_empty ps ≡ true → ps ≡ []
    nil_of [] e = refl
    nil_of (q ∷ qs) e = absurd cc

    by_test : (b : Bool) → is_empty (parked_of c qs) ≡ b → is_held (parked_of c qs) p ≡ true → AllHeld (cond b (others c qs ++ record { conn = c; parked = p ∷ [] } ∷ []) (changed c (with_parked p) qs))
    by_test true e h = all_append (λ (q : QueueView). AreHeld [] q.parked) (others c qs) (record { conn = c; parked = p ∷ [] } ∷ []) (all_others (λ (q : QueueView). AreHeld [] q.parked) c qs a) ((subst (λ (ps : List Parked). is_held ps p ≡ true) (nil_of (parked_of c qs) e) h, tt), tt)
    by_test false e h = held_changed c p qs h a

held_served : (qs : List QueueView) → AllHeld (served qs)
held_served [] = tt
held_served (q ∷ qs) = (stays_held [] q.parked, held_served qs)

held_step : (s : Settled) (item : Inbound) → AllHeld s.queues → AllHeld (rules s item).queues
held_step s (inbound.Opened d) a = by_test (opens d s)
  where
    by_test : (b : Bool) → AllHeld (cond b (opened d s) s).queues
    by_test true = all_append (λ (q : QueueView). AreHeld [] q.parked) s.queues (record { conn = d; parked = [] } ∷ []) a (tt, tt)
    by_test false = a
held_step s (inbound.Carried x) a = by_tests (is_open x.conn s.queues) (overflows x.conn (entering s.store x) s.queues) (goes_through x.conn (entering s.store x) s.queues) refl
  where
    by_tests : (o f g : Bool) → goes_through x.conn (entering s.store x) s.queues ≡ g → AllHeld (cond o (cond f (closed_off x.conn s) (cond g s (parks x (entering s.store x) s))) s).queues
    by_tests true true g e = all_others (λ (q : QueueView). AreHeld [] q.parked) x.conn s.queues a
    by_tests true false true e = a
    by_tests true false false e = held_parked x.conn (entering s.store x) s.queues e a
    by_tests false f g e = a
held_step s (inbound.Side d m) a = by_open (is_open d s.queues) m
  where
    by_set : (set : QuorumTree) (b : Bool) → AllHeld (cond b (answered set s) s).queues
    by_set set true = held_served (resolved (is_hash (hash_of set)) (by_answer set) s.queues)
    by_set set false = a

    by_miss : (hash : Hash) (b : Bool) → AllHeld (cond b (gives_up_one hash (record s { wanted = missed_by (One hash) s.wanted })) (record s { wanted = missed_by (One hash) s.wanted })).queues
    by_miss hash true = held_served (resolved (is_hash hash) (lost_by GaveUp) s.queues)
    by_miss hash false = a

    by_message : (m : SideMessage) → AllHeld (hears m s).queues
    by_message (GetSet hash) = a
    by_message (Set set) = by_set set (is_answer set s)
    by_message (NoSet hash) = by_miss hash (gives_up (One hash) s.wanted hash)

    by_open : (b : Bool) (m : SideMessage) → AllHeld (cond b (hears m s) s).queues
    by_open true m = by_message m
    by_open false m = a
held_step s (inbound.Closed d cause) a = by_open (is_open d s.queues)
  where
    by_open : (b : Bool) → AllHeld (cond b (closed_off d s) s).queues
    by_open true = all_others (λ (q : QueueView). AreHeld [] q.parked) d s.queues a
    by_open false = a
held_step s (inbound.Local Tick) a = held_served (resolved (is_given_up s.wanted) (lost_by GaveUp) (in_order_of (last_missed s.wanted) s.queues))
held_step s (inbound.Local (Propose slot value)) a = a
held_step s (inbound.Local (Round slot)) a = a
held_step s (inbound.Local (Timer slot)) a = a
held_step s (inbound.Local (Ask link slot)) a = a

-- ---- nothing waits for a hash that isn't wanted

-- if one flag implies another that is false, it is false
unless : (a b : Bool) → (a ≡ true → b ≡ true) → b ≡ false → a ≡ false
unless true b f e = clash b (f refl) e
unless false b f e = refl

abbrev NoneWaits : List QueueView → List Want → Type 0
NoneWaits qs ws = (hash : Hash) (c : ConnId) → is_wanted hash ws ≡ false → is_waiting c hash qs ≡ false

-- what waits for a hash is wanted
wanted_of : (qs : List QueueView) (ws : List Want) → NoneWaits qs ws → (hash : Hash) (c : ConnId) → is_waiting c hash qs ≡ true → is_wanted hash ws ≡ true
wanted_of qs ws none hash c e = by_test (is_wanted hash ws) refl
  where
    by_test : (b : Bool) → is_wanted hash ws ≡ b → b ≡ true
    by_test true k = refl
    by_test false k = clash (is_waiting c hash qs) e (none hash c k)

closed_none : (d : ConnId) (s : Settled) → AreSingle s.queues → AreListed s.queues s.wanted → NoneWaits s.queues s.wanted → NoneWaits (closed_off d s).queues (closed_off d s).wanted
closed_none d s single listed none hash c un = by_test (same_conn d c) refl
  where
    by_test : (b : Bool) → same_conn d c ≡ b → is_waiting c hash (others d s.queues) ≡ false
    by_test true e = ap (list_any (waits_for hash)) (subst (λ (k : ConnId). parked_of k (others d s.queues) ≡ []) (same_conn-true d c e) (parked-others_mine d s.queues (single d)))
    by_test false e = ap (list_any (waits_for hash)) (parked-others_other d c s.queues e) ∙ unless (is_waiting c hash s.queues) (is_wanted hash (left_by d s.wanted)) (λ waits. still_left d c hash s.queues s.wanted e waits listed.each (wanted_of s.queues s.wanted none hash c waits)) un

parks_none : (x : Carried) (p : Parked) (s : Settled) → is_open x.conn s.queues ≡ true → AreSingle s.queues → NoneWaits s.queues s.wanted → NoneWaits (parks x p s).queues (parks x p s).wanted
parks_none x p s live single none hash c un = parked_waiting c x.conn hash p s.queues live single ∙ ap (λ b. b || (same_conn x.conn c && is_hash hash (waited_by p))) (none hash c (unless (is_wanted hash s.wanted) (is_wanted hash (parks x p s).wanted) (λ is. wants_named hash link x.conn (waited_by p) s.wanted is) un)) ∙ ap (λ b. same_conn x.conn c && b) (by_waited (waited_by p) un) ∙ and_none (same_conn x.conn c)
  where
    link : ℕ
    link = link_number x.conn.from s

    by_waited : (o : Option Hash) → is_wanted hash (wanted_named link x.conn o s.wanted) ≡ false → is_hash hash o ≡ false
    by_waited None e = refl
    by_waited (Some h) e = by_same (same_hash hash h) refl
      where
        by_same : (b : Bool) → same_hash hash h ≡ b → b ≡ false
        by_same true k = clash (is_wanted hash (wanted_named link x.conn (Some h) s.wanted)) (subst (λ (g : Hash). is_wanted hash (wanted_named link x.conn (Some g) s.wanted) ≡ true) (same_hash-true hash h k) (wanted_by-own hash link x.conn s.wanted)) e
        by_same false k = refl

-- what the test picks doesn't wait any more
module _ (test : Option Hash → Bool) (f : Carried → Parked) (hash : Hash) (none : (x : Carried) → waits_for hash (f x) ≡ false) where
  gone_one : test (Some hash) ≡ true → (p : Parked) → waits_for hash (resolved_one test f p) ≡ false
  gone_one g (Free d) = refl
  gone_one g (Lost x cause) = refl
  gone_one g (Waits x) = by_test (test (named x.message)) refl
    where
      other : (o : Option Hash) → test o ≡ false → is_hash hash o ≡ false
      other None t = refl
      other (Some h) t = by_same (same_hash hash h) refl
        where
          by_same : (b : Bool) → same_hash hash h ≡ b → b ≡ false
          by_same true k = clash (test (Some hash)) g (subst (λ (h' : Hash). test (Some h') ≡ false) (sym (same_hash-true hash h k)) t)
          by_same false k = refl

      by_test : (t : Bool) → test (named x.message) ≡ t → waits_for hash (cond t (f x) (Waits x)) ≡ false
      by_test true t = none x
      by_test false t = other (named x.message) t

  gone_all : test (Some hash) ≡ true → (ps : List Parked) → list_any (waits_for hash) (map (resolved_one test f) ps) ≡ false
  gone_all g [] = refl
  gone_all g (p ∷ ps) = rw (gone_one g p) (gone_all g ps)

  gone_served : test (Some hash) ≡ true → (c : ConnId) (qs : List QueueView) → is_waiting c hash (served (resolved test f qs)) ≡ false
  gone_served g c qs = ap (list_any (waits_for hash)) (parked-served c (resolved test f qs)) ∙ stays_any hash [] (parked_of c (resolved test f qs)) ∙ ap (list_any (waits_for hash)) (parked-resolved c test f qs) ∙ gone_all g (parked_of c qs)

  -- and where it picks all that isn't wanted any more
  served_none : (c : ConnId) (qs : List QueueView) → AreSingle qs → (test (Some hash) ≡ false → is_waiting c hash qs ≡ false) → is_waiting c hash (served (resolved test f qs)) ≡ false
  served_none c qs single k = by_test (test (Some hash)) refl
    where
      by_test : (b : Bool) → test (Some hash) ≡ b → is_waiting c hash (served (resolved test f qs)) ≡ false
      by_test true g = gone_served g c qs
      by_test false g = served_same test f hash qs none g single c ∙ k g

missed_none : (miss : Miss) (s : Settled) → NoneWaits s.queues s.wanted → (hash : Hash) (c : ConnId) → gives_up miss s.wanted hash ≡ false → is_wanted hash (missed_by miss s.wanted) ≡ false → is_waiting c hash s.queues ≡ false
missed_none miss s none hash c g un = none hash c (unless (is_wanted hash s.wanted) (is_wanted hash (missed_by miss s.wanted)) (λ is. wanted-missed miss hash s.wanted g is) un)

none_step : (s : Settled) (item : Inbound) → AreSingle s.queues → AreListed s.queues s.wanted → NoneWaits s.queues s.wanted → NoneWaits (rules s item).queues (rules s item).wanted
none_step s (inbound.Opened d) single listed none = by_test (opens d s)
  where
    by_test : (b : Bool) → NoneWaits (cond b (opened d s) s).queues (cond b (opened d s) s).wanted
    by_test true = λ hash c un. ap (list_any (waits_for hash)) (parked-opened c d s.queues) ∙ none hash c (sym (wanted-map (unask (link_number d.from s)) (λ w. refl) hash s.wanted) ∙ un)
    by_test false = none
none_step s (inbound.Carried x) single listed none = by_tests (is_open x.conn s.queues) (overflows x.conn (entering s.store x) s.queues) (goes_through x.conn (entering s.store x) s.queues) refl
  where
    at : Settled → Type 0
    at t = NoneWaits t.queues t.wanted

    by_tests : (o f g : Bool) → is_open x.conn s.queues ≡ o → at (cond o (cond f (closed_off x.conn s) (cond g s (parks x (entering s.store x) s))) s)
    by_tests true true g o = closed_none x.conn s single listed none
    by_tests true false true o = none
    by_tests true false false o = parks_none x (entering s.store x) s o single none
    by_tests false f g o = none
none_step s (inbound.Side d m) single listed none = by_open (is_open d s.queues) m
  where
    at : Settled → Type 0
    at t = NoneWaits t.queues t.wanted

    by_set : (set : QuorumTree) (b : Bool) → at (cond b (answered set s) s)
    by_set set true = λ hash c un. served_none (is_hash (hash_of set)) (by_answer set) hash (answer_waits set hash) c s.queues single (λ g. none hash c (unless (is_wanted hash s.wanted) (is_wanted hash (without (hash_of set) s.wanted)) (λ is. wanted-without hash (hash_of set) s.wanted g is) un))
    by_set set false = none

    gives_other : (gone hash : Hash) (b : Bool) → same_hash gone hash ≡ b → b ≡ false → gives_up (One gone) s.wanted hash ≡ false
    gives_other gone hash b k e = gives_up_other gone hash s.wanted (k ∙ e)

    gives_none : (missed hash : Hash) (b : Bool) → same_hash missed hash ≡ b → gives_up (One missed) s.wanted missed ≡ false → gives_up (One missed) s.wanted hash ≡ false
    gives_none missed hash true k g = subst (λ (h : Hash). gives_up (One missed) s.wanted h ≡ false) (same_hash-true missed hash k) g
    gives_none missed hash false k g = gives_up_other missed hash s.wanted k

    by_miss : (gone : Hash) (b : Bool) → gives_up (One gone) s.wanted gone ≡ b → at (cond b (gives_up_one gone (record s { wanted = missed_by (One gone) s.wanted })) (record s { wanted = missed_by (One gone) s.wanted }))
    by_miss gone true g = λ hash c un. served_none (is_hash gone) (lost_by GaveUp) hash (λ x. refl) c s.queues single (λ t. missed_none (One gone) s none hash c (gives_other gone hash (same_hash gone hash) refl t) un)
    by_miss gone false g = λ hash c un. missed_none (One gone) s none hash c (gives_none gone hash (same_hash gone hash) refl g) un

    by_message : (m : SideMessage) → at (hears m s)
    by_message (GetSet hash) = none
    by_message (Set set) = by_set set (is_answer set s)
    by_message (NoSet hash) = by_miss hash (gives_up (One hash) s.wanted hash) refl

    by_open : (b : Bool) (m : SideMessage) → at (cond b (hears m s) s)
    by_open true m = by_message m
    by_open false m = none
none_step s (inbound.Closed d cause) single listed none = by_open (is_open d s.queues)
  where
    by_open : (b : Bool) → NoneWaits (cond b (closed_off d s) s).queues (cond b (closed_off d s) s).wanted
    by_open true = closed_none d s single listed none
    by_open false = none
none_step s (inbound.Local Tick) single listed none = λ hash c un. served_none (is_given_up s.wanted) (lost_by GaveUp) hash (λ x. refl) c (in_order_of (last_missed s.wanted) s.queues) (single-in_order (last_missed s.wanted) s.queues single) (λ g. ap (list_any (waits_for hash)) (parked-in_order c (last_missed s.wanted) s.queues (single c)) ∙ missed_none All s none hash c g un)
none_step s (inbound.Local (Propose slot value)) single listed none = none
none_step s (inbound.Local (Round slot)) single listed none = none
none_step s (inbound.Local (Timer slot)) single listed none = none
none_step s (inbound.Local (Ask link slot)) single listed none = none

pub kept_step : (s : Settled) (item : Inbound) → IsKept s.queues s.wanted → IsKept (rules s item).queues (rules s item).wanted
kept_step s item k = record {
  single = single_step s item k.single;
  held = held_step s item k.held;
  listed = listed_step s item k.single k.waits k.listed;
  waits = none_step s item k.single k.listed k.waits;
}

pub kept_fresh : IsKept [] []
kept_fresh = record { single = λ c. omega arith; held = tt; listed = record { each = tt; apart = tt }; waits = λ hash c un. refl }

-- ---- a queue in which nothing waits for the hash

resolved_none : (test : Option Hash → Bool) (f : Carried → Parked) (ps : List Parked) → list_any (λ p. test (waited_by p)) ps ≡ false → map (resolved_one test f) ps ≡ ps
resolved_none test f [] e = refl
resolved_none test f (Waits x ∷ ps) e = (let both = or_none (test (named x.message)) (list_any (λ p. test (waited_by p)) ps) e in ap (λ b. cond b (f x) (Waits x) ∷ map (resolved_one test f) ps) both.0 ∙ ap (λ zs. Waits x ∷ zs) (resolved_none test f ps both.1))
resolved_none test f (Free d ∷ ps) e = ap (λ zs. Free d ∷ zs) (resolved_none test f ps (or_none (test None) (list_any (λ p. test (waited_by p)) ps) e).1)
resolved_none test f (Lost x cause ∷ ps) e = ap (λ zs. Lost x cause ∷ zs) (resolved_none test f ps (or_none (test None) (list_any (λ p. test (waited_by p)) ps) e).1)

held_stays : (kept ps : List Parked) → AreHeld kept ps → stays_behind kept ps ≡ ps
held_stays kept [] a = refl
held_stays kept (p ∷ ps) a = ap (λ b. cond b (p ∷ stays_behind (kept ++ p ∷ []) ps) (stays_behind kept ps)) a.0 ∙ ap (λ zs. p ∷ zs) (held_stays (kept ++ p ∷ []) ps a.1)

held_leaves : (c : ConnId) (kept ps : List Parked) → AreHeld kept ps → leaves_behind c kept ps ≡ []
held_leaves c kept [] a = refl
held_leaves c kept (p ∷ ps) a = ap (λ b. cond b (leaves_behind c (kept ++ p ∷ []) ps) (fate c p ++ leaves_behind c kept ps)) a.0 ∙ held_leaves c (kept ++ p ∷ []) ps a.1

pub quiet_stays : (test : Option Hash → Bool) (f : Carried → Parked) (q : QueueView) → IsQuiet test q → q ≡ stays_in (resolved_in test f q)
quiet_stays test f q k = ap (λ ps. record q { parked = ps }) (sym (ap (stays_behind []) (resolved_none test f q.parked k.none) ∙ held_stays [] q.parked k.held))

pub quiet_leaves : (test : Option Hash → Bool) (f : Carried → Parked) (q : QueueView) → IsQuiet test q → leaves_in (resolved_in test f q) ≡ []
quiet_leaves test f q k = ap (leaves_behind q.conn []) (resolved_none test f q.parked k.none) ∙ held_leaves q.conn [] q.parked k.held

none_any : {X : Type 0} (test : X → Bool) (xs : List X) → AllByRecursion (λ x. test x ≡ false) xs → list_any test xs ≡ false
none_any test [] a = refl
none_any test (x ∷ xs) a = rw a.0 (none_any test xs a.1)

as_waited : (hash : Hash) (ps : List Parked) → list_any (λ p. is_hash hash (waited_by p)) ps ≡ list_any (waits_for hash) ps
as_waited hash [] = refl
as_waited hash (p ∷ ps) = rw (waits_as hash p, as_waited hash ps) refl

-- the connections that aren't in the hash's list
pub quiet_but : (hash : Hash) (qs : List QueueView) (ws : List Want) → IsKept qs ws → AllByRecursion (λ q. has_conn q.conn (waiting_for hash ws) ≡ false → IsQuiet (is_hash hash) q) qs
quiet_but hash qs ws k = all_both (λ (q : QueueView). AreHeld [] q.parked) (λ (q : QueueView). parked_of q.conn qs ≡ q.parked) (λ (q : QueueView). has_conn q.conn (waiting_for hash ws) ≡ false → IsQuiet (is_hash hash) q) qs one k.held (own_from [] qs k.single)
  where
    one : (q : QueueView) → AreHeld [] q.parked → parked_of q.conn qs ≡ q.parked → has_conn q.conn (waiting_for hash ws) ≡ false → IsQuiet (is_hash hash) q
    one q h own e = record { held = h; none = as_waited hash q.parked ∙ sym (ap (list_any (waits_for hash)) own) ∙ sym (waiting_is hash qs ws k.listed.each (λ un c. k.waits hash c un) q.conn) ∙ e }

-- the connection is in the list of a hash that one more miss gives up
abbrev pub stands_in_last : List Want → ConnId → Bool
stands_in_last ws c = list_any (λ hash. has_conn c (waiting_for hash ws)) (last_missed ws)

in_last : (t : Hash → Bool) (hash : Hash) (ws : List Want) → gives_up All ws hash ≡ true → t hash ≡ true → list_any t (last_missed ws) ≡ true
in_last t hash [] g e = absurd cc
in_last t hash (w ∷ ws) g e = by_tests (is_for hash w) (is_last All w) refl g (λ g'. in_last t hash ws g' e)
  where
    by_tests : (a b : Bool) → is_for hash w ≡ a → ((a && b) || gives_up All ws hash) ≡ true → (gives_up All ws hash ≡ true → list_any t (last_missed ws) ≡ true) → list_any t (map (λ w. w.hash) (cond b (w ∷ filter (is_last All) ws) (filter (is_last All) ws))) ≡ true
    by_tests true true k g rest = or_left (t w.hash) (list_any t (last_missed ws)) (subst (λ (h : Hash). t h ≡ true) (is_for-true hash w k) e)
    by_tests true false k g rest = rest g
    by_tests false true k g rest = or_right (t w.hash) (list_any t (last_missed ws)) (rest g)
    by_tests false false k g rest = rest g

pub quiet_but_last : (qs : List QueueView) (ws : List Want) → IsKept qs ws → AllByRecursion (λ q. stands_in_last ws q.conn ≡ false → IsQuiet (is_given_up ws) q) qs
quiet_but_last qs ws k = all_both (λ (q : QueueView). AreHeld [] q.parked) (λ (q : QueueView). parked_of q.conn qs ≡ q.parked) (λ (q : QueueView). stands_in_last ws q.conn ≡ false → IsQuiet (is_given_up ws) q) qs one k.held (own_from [] qs k.single)
  where
    one : (q : QueueView) → AreHeld [] q.parked → parked_of q.conn qs ≡ q.parked → stands_in_last ws q.conn ≡ false → IsQuiet (is_given_up ws) q
    one q h own e = record { held = h; none = none_any (λ p. is_given_up ws (waited_by p)) q.parked (all_weaker (λ (p : Parked). (test : Parked → Bool) → test p ≡ true → list_any test q.parked ≡ true) (λ (p : Parked). is_given_up ws (waited_by p) ≡ false) q.parked (λ p any. by_waited p any (waited_by p) refl) (all_any [] q.parked)) }
      where
        stands_there : (p : Parked) → ((test : Parked → Bool) → test p ≡ true → list_any test q.parked ≡ true) → (hash : Hash) → waited_by p ≡ Some hash → has_conn q.conn (waiting_for hash ws) ≡ true
        stands_there p any hash w = waiting_is hash qs ws k.listed.each (λ un c. k.waits hash c un) q.conn ∙ ap (list_any (waits_for hash)) own ∙ any (waits_for hash) (waits_as hash p ∙ ap (is_hash hash) w ∙ same_hash-refl hash)

        by_up : (p : Parked) → ((test : Parked → Bool) → test p ≡ true → list_any test q.parked ≡ true) → (hash : Hash) → waited_by p ≡ Some hash → (b : Bool) → gives_up All ws hash ≡ b → b ≡ false
        by_up p any hash w true g = clash (stands_in_last ws q.conn) (in_last (λ h. has_conn q.conn (waiting_for h ws)) hash ws g (stands_there p any hash w)) e
        by_up p any hash w false g = refl

        by_waited : (p : Parked) → ((test : Parked → Bool) → test p ≡ true → list_any test q.parked ≡ true) → (o : Option Hash) → waited_by p ≡ o → is_given_up ws o ≡ false
        by_waited p any None w = refl
        by_waited p any (Some hash) w = by_up p any hash w (gives_up All ws hash) refl

pub quiet_in_order : (qs : List QueueView) (ws : List Want) → IsKept qs ws → AllByRecursion (λ q. stands_in_last ws q.conn ≡ false → IsQuiet (is_given_up ws) q) (in_order_of (last_missed ws) qs)
quiet_in_order qs ws k = all_in_order (λ q. stands_in_last ws q.conn ≡ false → IsQuiet (is_given_up ws) q) (last_missed ws) qs (quiet_but_last qs ws k)

pub quiet_given : (qs ordered : List QueueView) (ws : List Want) (first hashes slice : List Hash) → IsKept qs ws → first ≡ last_missed ws → ordered ≡ in_order_of first qs → hashes ≡ last_missed ws → slice ≡ hashes → AllByRecursion (λ (q : QueueView). list_any (λ (hash : Hash). has_conn q.conn (waiting_for hash ws)) slice ≡ false → IsQuiet (is_given_up ws) q) ordered
quiet_given qs ordered ws first hashes slice k a b d e = rw (e, d, b, a) (quiet_in_order qs ws k)

-- ---- queue after queue

map_twice : (r : QueueView → QueueView) (qs : List QueueView) → map (λ q. stays_in (r q)) qs ≡ served (map r qs)
map_twice r [] = refl
map_twice r (q ∷ qs) = ap (λ zs. stays_in (r q) ∷ zs) (map_twice r qs)

leaves_twice : (r : QueueView → QueueView) (qs : List QueueView) → flat_map (λ q. leaves_in (r q)) qs ≡ leaving_of (map r qs)
leaves_twice r [] = refl
leaves_twice r (q ∷ qs) = ap (λ zs. leaves_in (r q) ++ zs) (leaves_twice r qs)

pub all_at : {X : Type 0} (P : X → Type 0) (xs : List X) (i : ℕ) (d : X) → AllByRecursion P xs → i < length xs → P (get_or xs i d)
all_at P [] i d a h = absurd (omega (arith, h))
all_at P (x ∷ xs) zero d a h = a.0
all_at P (x ∷ xs) (suc i) d a h = all_at P xs i d a.1 (omega (arith, h))

take_more : {X : Type 0} (xs : List X) (i : ℕ) (d : X) → i < length xs → take (suc i) xs ≡ take i xs ++ get_or xs i d ∷ []
take_more [] i d h = absurd (omega (arith, h))
take_more (x ∷ xs) zero d h = refl
take_more (x ∷ xs) (suc i) d h = ap (λ ys. x ∷ ys) (take_more xs i d (omega (arith, h)))

-- the first i are resolved and served, and what left of them is given
pub record Went (r : QueueView → QueueView) (i : ℕ) (old new : List QueueView) (given leaving : List Ready) : Type 0 where
  pub stay : new ≡ walked (λ q. stays_in (r q)) i old
  pub left : leaving ≡ given ++ flat_map (λ q. leaves_in (r q)) (take i old)

pub went_on : (r : QueueView → QueueView) (i : ℕ) (old now : List QueueView) (given leaving more : List Ready) (q new : QueueView) → Went r i old now given leaving → i < length old → q ≡ get_or now i q → new ≡ stays_in (r q) → more ≡ leaving ++ leaves_in (r q) → Went r (i + 1) old (set now i new) given more
went_on r i old now given leaving more q new w h read stays left =
    let at : q ≡ get_or old i q = read ∙ ap (λ (zs : List QueueView). get_or zs i q) w.stay ∙ walked-at (λ q. stays_in (r q)) old i q h in
    record {
      stay = walked-read (λ q. stays_in (r q)) old now i q new w.stay h read stays;
      left = left ∙ ap (λ zs. zs ++ leaves_in (r q)) w.left ∙ append_assoc given (flat_map (λ q. leaves_in (r q)) (take i old)) (leaves_in (r q)) ∙ ap (λ zs. given ++ zs) (one at);
    }
  where
    one : q ≡ get_or old i q → flat_map (λ q. leaves_in (r q)) (take i old) ++ leaves_in (r q) ≡ flat_map (λ q. leaves_in (r q)) (take (i + 1) old)
    one at = ap (λ (zs : List Ready). flat_map (λ q. leaves_in (r q)) (take i old) ++ zs) (sym (append_nil (leaves_in (r q)))) ∙ sym (flat-append (λ q. leaves_in (r q)) (take i old) (q ∷ [])) ∙ ap (λ (p : QueueView). flat_map (λ q. leaves_in (r q)) (take i old ++ p ∷ [])) at ∙ ap (flat_map (λ q. leaves_in (r q))) (sym (take_more old i q h)) ∙ ap (λ (n : ℕ). flat_map (λ q. leaves_in (r q)) (take n old)) next
      where
        next : suc i ≡ i + 1
        next = omega arith

-- the queue at the next place is as it was
pub went_at : (P : QueueView → Type 0) (r : QueueView → QueueView) (i : ℕ) (old now : List QueueView) (given leaving : List Ready) (q : QueueView) → Went r i old now given leaving → i < length old → q ≡ get_or now i q → AllByRecursion P old → P q
went_at P r i old now given leaving q w h read a = subst P (sym (read ∙ ap (λ (zs : List QueueView). get_or zs i q) w.stay ∙ walked-at (λ q. stays_in (r q)) old i q h)) (all_at P old i q a h)

pub went_begins : (r : QueueView → QueueView) (old : List QueueView) (given : List Ready) → Went r 0 old old given given
went_begins r old given = record { stay = refl; left = sym (append_nil given) }

take_all : {X : Type 0} (xs : List X) (i : ℕ) → length xs ≤ i → take i xs ≡ xs
take_all [] zero h = refl
take_all [] (suc i) h = refl
take_all (x ∷ xs) zero h = absurd (omega (arith, h))
take_all (x ∷ xs) (suc i) h = ap (λ ys. x ∷ ys) (take_all xs i (omega (arith, h)))

pub went_stays : (r : QueueView → QueueView) (i : ℕ) (old new : List QueueView) (given leaving : List Ready) → Went r i old new given leaving → length old ≤ i → new ≡ served (map r old)
went_stays r i old new given leaving w h = w.stay ∙ walked-all (λ q. stays_in (r q)) old i h ∙ map_twice r old

pub went_leaves : (r : QueueView → QueueView) (i : ℕ) (old new : List QueueView) (given leaving : List Ready) → Went r i old new given leaving → length old ≤ i → leaving ≡ given ++ leaving_of (map r old)
went_leaves r i old new given leaving w h = w.left ∙ ap (λ (qs : List QueueView). given ++ flat_map (λ q. leaves_in (r q)) qs) (take_all old i h) ∙ ap (λ zs. given ++ zs) (leaves_twice r old)

-- the twelfth miss of one hash is the twelfth of all
pub last_alike : (hash : Hash) (ws : List Want) → gives_up All ws hash ≡ gives_up (One hash) ws hash
last_alike hash [] = refl
last_alike hash (w ∷ ws) = ap (λ b. b || gives_up All ws hash) (alike (is_for hash w) (nat_lt 10 w.misses)) ∙ ap (λ b. (is_for hash w && (is_for hash w && nat_lt 10 w.misses)) || b) (last_alike hash ws)
  where
    alike : (a b : Bool) → (a && (true && b)) ≡ (a && (a && b))
    alike true b = refl
    alike false b = refl
