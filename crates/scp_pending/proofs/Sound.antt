-- One more item: what is stored is sane, each connection has one queue, what is parked is as what was taken says, and what leaves has its cause.
use Rattle.std.proofs.Common.{◌≡◌, ℕ, ◌≤◌, Bool, true, false, cond, not, List, [], ◌∷◌, ◌++◌, length, refl, sym, ◌∙◌, ap, subst, arith, append_assoc, map, drop}
use Rattle.std.specs.Prelude.{◌&&◌, nat_lt, nat_le, filter, Option, Some, None, is_some}
use Rattle.std.specs.List.{list_any, AllByRecursion}
use Rattle.std.proofs.lemmas.Bool.{leb-false}
use Rattle.std.proofs.lemmas.List.{length-append}
use Rattle.scp_wire.specs.scp_types.specs.declared.names.ConnId.{ConnId}
use Rattle.scp_wire.specs.scp_types.specs.declared.names.Hash.{Hash}
use Rattle.scp_wire.specs.scp_types.specs.declared.names.NodeId.{NodeId}
use Rattle.scp_wire.specs.scp_quorum.specs.QuorumTree.{QuorumTree}
use Rattle.scp_wire.specs.scp_quorum.specs.Sane.{IsSane}
use Rattle.scp_wire.specs.declared.carried.Carried.{Carried}
use Rattle.scp_wire.specs.declared.side.SideMessage.{SideMessage}
use Rattle.scp_wire.specs.declared.side.SideMessage.TheVariants.{GetSet, Set, NoSet}
use Rattle.scp_wire.specs.declared.link.Cause.TheVariants.{ParkedFull}
use Rattle.scp_wire.specs.declared.link.Command.TheVariants.{Tick, Propose, Round, Timer, Ask}
use Rattle.scp_wire.specs.declared.link.Inbound.{Inbound}
use Rattle.scp_wire.specs.declared.link.Inbound.TheVariants as inbound
use Rattle.scp_wire.specs.Connections.{same_node, same_conn}
use Rattle.scp_fetch.specs.declared.want.Want.{Want}
use Rattle.scp_fetch.specs.declared.want.Miss.{Miss}
use Rattle.scp_fetch.specs.declared.want.Miss.TheVariants.{One, All}
use Rattle.scp_pending.specs.declared.parked.Parked.{Parked}
use Rattle.scp_pending.specs.declared.parked.Parked.TheVariants.{Waits, Free, Lost}
use Rattle.scp_pending.specs.declared.ready.DropCause.{DropCause}
use Rattle.scp_pending.specs.declared.ready.DropCause.TheVariants.{GaveUp, Closed as ByClose, ParkedFull as ByFull}
use Rattle.scp_pending.specs.declared.pending.TheConstants.{PARKED_LIMIT}
use Rattle.scp_pending.specs.declared.ready.Ready.{Ready}
use Rattle.scp_pending.specs.declared.ready.Ready.TheVariants.{Dropped, Closed}
use Rattle.scp_pending.specs.Sanity.{has_spelling}
use Rattle.scp_pending.proofs.Sanity.{sane_of_test}
use Rattle.scp_fetch.specs.Hashes.{same_hash}
use Rattle.scp_fetch.specs.Wants.{is_for, is_wanted, waits_besides, leave, left_by, ask, new_want, unask, unasked, is_missed, is_last, count_miss, missed_by, last_missed, without, gives_up}
use Rattle.scp_fetch.specs.Store.{StoreView, lookup, pushed, stored}
use Rattle.scp_pending.specs.Queues.{QueueView, is_of, is_open, is_link_open, parked_of, others, changed, with_parked, parked_in, is_empty, is_held, fate, served, leaving_of, in_order_of, named, is_hash, hash_of, waits_for, is_waiting, resolved, lost_by, dropped}
use Rattle.scp_pending.specs.Rules.{Settled, settled_by, released_by, rules, releases, opens, opened, closed_off, entering_by, entering, found, is_full, overflows, goes_through, wanted_named, wanted_with, parks, enters, by_answer, answered, is_answer, is_given_up, gives_up_one, hears, link_number, link_of, fresh}
use Rattle.scp_pending.specs.Causes.{is_set, is_miss, plus, IsMissed, HasCause}
use Rattle.scp_pending.proofs.Basics.{append_nil, clash, or_none, or_left, or_right, not_false, same_hash-true, same_hash-sym, same_conn-true, all_step, all_weaker, all_append, all_both, all_kept, all_filter}
use Rattle.scp_pending.proofs.Later.{settled-push, IsMissed-later, HasCause-later}
use Rattle.scp_pending.proofs.Stored.{store_step}
use Rattle.scp_pending.proofs.Wanting.{AtLeast, wanted-map, ask-hash, ask-misses, count-hash, count-misses, wanted_by-other, least-map, least-wanted_by, none_wanted, few_missed}
use Rattle.scp_pending.proofs.Serving.{how_many, AreSingle, how_many-append, how_many-map, how_many-served, how_many-parked_in, none_shut, others_few, all_in_order, single-in_order}
use Rattle.scp_pending.proofs.Listing.{AreListed, StandsElse, others_else, still_left, listed_step}
use Rattle.scp_pending.proofs.Standing.{Stands, Fits, Keeps, IsWant, stays, quiet, new_stands, answer_stands, miss_stands, keeps_missed, gives_up_other, served_fit, resolved_fit, fate_caused}
use Rattle.scp_pending.proofs.Laning.{held-push}

-- ---- each connection has at most one queue

link_shut : (d : ConnId) (qs : List QueueView) → is_link_open d.from qs ≡ false → is_open d qs ≡ false
link_shut d [] e = refl
link_shut d (q ∷ qs) e = (let both = or_none (same_node q.conn.from d.from) (is_link_open d.from qs) e in rw both.0 (link_shut d qs both.1))

opens-last : (a b c : Bool) → (a && b && not c) ≡ true → c ≡ false
opens-last true true c e = not_false c e
opens-last true false c e = absurd cc
opens-last false b c e = absurd cc

pub single_open : (d : ConnId) (s : Settled) → opens d s ≡ true → is_open d s.queues ≡ false
single_open d s e = link_shut d s.queues (opens-last (is_some (link_of d.from s)) (same_node d.to s.me) (is_link_open d.from s.queues) e)

opened_single : (d : ConnId) (qs : List QueueView) → is_open d qs ≡ false → AreSingle qs → AreSingle (qs ++ record { conn = d; parked = [] } ∷ [])
opened_single d qs shut a c = by_test (same_conn d c) refl
  where
    by_test : (b : Bool) → same_conn d c ≡ b → how_many c (qs ++ record { conn = d; parked = [] } ∷ []) ≤ 1
    by_test true k =
        let none : how_many c qs ≡ 0 = subst (λ (e : ConnId). how_many e qs ≡ 0) (same_conn-true d c k) (none_shut d qs shut) in
        let one : how_many c (record { conn = d; parked = [] } ∷ []) ≡ 1 = rw k refl in
        omega (arith, how_many-append c qs (record { conn = d; parked = [] } ∷ []), none, one)
    by_test false k =
        let none : how_many c (record { conn = d; parked = [] } ∷ []) ≡ 0 = rw k refl in
        omega (arith, how_many-append c qs (record { conn = d; parked = [] } ∷ []), none, a c)

served_single : (test : Option Hash → Bool) (f : Carried → Parked) (qs : List QueueView) → AreSingle qs → AreSingle (served (resolved test f qs))
served_single test f qs a c = subst (λ (n : ℕ). n ≤ 1) (sym (how_many-served c (resolved test f qs) ∙ how_many-map c _ (λ q. refl) qs)) (a c)

parks_single : (x : Carried) (p : Parked) (s : Settled) → is_open x.conn s.queues ≡ true → AreSingle s.queues → AreSingle (enters x p s).queues
parks_single x p s live a c = by_test (goes_through x.conn p s.queues)
  where
    by_test : (b : Bool) → how_many c (cond b s (parks x p s)).queues ≤ 1
    by_test true = a c
    by_test false = subst (λ (n : ℕ). n ≤ 1) (sym (how_many-parked_in x.conn c p s.queues live)) (a c)

closed_single : (d : ConnId) (s : Settled) → AreSingle s.queues → AreSingle (closed_off d s).queues
closed_single d s a c = omega (arith, others_few d c s.queues, a c)

pub single_step : (s : Settled) (item : Inbound) → AreSingle s.queues → AreSingle (rules s item).queues
single_step s (inbound.Opened d) a = by_test (opens d s) refl
  where
    by_test : (b : Bool) → opens d s ≡ b → AreSingle (cond b (opened d s) s).queues
    by_test true e = opened_single d s.queues (single_open d s e) a
    by_test false e = a
single_step s (inbound.Carried x) a = by_tests (is_open x.conn s.queues) (overflows x.conn (entering s.store x) s.queues) refl
  where
    by_tests : (o f : Bool) → is_open x.conn s.queues ≡ o → AreSingle (cond o (cond f (closed_off x.conn s) (enters x (entering s.store x) s)) s).queues
    by_tests true true e = closed_single x.conn s a
    by_tests true false e = parks_single x (entering s.store x) s e a
    by_tests false f e = a
single_step s (inbound.Side d m) a = by_test (is_open d s.queues) m
  where
    by_answer' : (set : QuorumTree) (b : Bool) → AreSingle (cond b (answered set s) s).queues
    by_answer' set true = served_single (is_hash (hash_of set)) (by_answer set) s.queues a
    by_answer' set false = a

    by_miss : (hash : Hash) (b : Bool) → AreSingle (cond b (gives_up_one hash (record s { wanted = missed_by (One hash) s.wanted })) (record s { wanted = missed_by (One hash) s.wanted })).queues
    by_miss hash true = served_single (is_hash hash) (lost_by GaveUp) s.queues a
    by_miss hash false = a

    by_message : (m : SideMessage) → AreSingle (hears m s).queues
    by_message (GetSet hash) = a
    by_message (Set set) = by_answer' set (is_answer set s)
    by_message (NoSet hash) = by_miss hash (gives_up (One hash) s.wanted hash)

    by_test : (o : Bool) (m : SideMessage) → AreSingle (cond o (hears m s) s).queues
    by_test true m = by_message m
    by_test false m = a
single_step s (inbound.Closed d cause) a = by_test (is_open d s.queues)
  where
    by_test : (o : Bool) → AreSingle (cond o (closed_off d s) s).queues
    by_test true = closed_single d s a
    by_test false = a
single_step s (inbound.Local Tick) a = served_single (is_given_up s.wanted) (lost_by GaveUp) (in_order_of (last_missed s.wanted) s.queues) (single-in_order (last_missed s.wanted) s.queues a)
single_step s (inbound.Local (Propose slot value)) a = a
single_step s (inbound.Local (Round slot)) a = a
single_step s (inbound.Local (Timer slot)) a = a
single_step s (inbound.Local (Ask link slot)) a = a

-- ---- what is stored is sane

abbrev pub IsSaneStore : StoreView → Type 0
IsSaneStore store = IsSane store.local × AllByRecursion IsSane store.others

stored_sane : (set : QuorumTree) (store : StoreView) → IsSane set → IsSaneStore store → IsSaneStore (stored set store)
stored_sane set store sane k = by_there (is_some (lookup (hash_of set) store))
  where
    rest : (xs : List QuorumTree) → AllByRecursion IsSane xs → AllByRecursion IsSane (drop 1 xs)
    rest [] a = tt
    rest (x ∷ xs) a = a.1

    by_room : (b : Bool) → AllByRecursion IsSane (cond b (store.others ++ set ∷ []) (drop 1 store.others ++ set ∷ []))
    by_room true = all_append IsSane store.others (set ∷ []) k.1 (sane, tt)
    by_room false = all_append IsSane (drop 1 store.others) (set ∷ []) (rest store.others k.1) (sane, tt)

    by_there : (b : Bool) → IsSaneStore (cond b store (record store { others = pushed set store.others }))
    by_there true = k
    by_there false = (k.0, by_room (nat_lt (length store.others) 256))

-- the local set stays
pub local_step : (s : Settled) (item : Inbound) → (rules s item).store.local ≡ s.store.local
local_step s item = store_step (λ (store : StoreView). store.local ≡ s.store.local) s item (λ d set at live spelt sane. by_there set (is_some (lookup (hash_of set) s.store))) refl
  where
    by_there : (set : QuorumTree) (b : Bool) → (cond b s.store (record s.store { others = pushed set s.store.others })).local ≡ s.store.local
    by_there set true = refl
    by_there set false = refl

-- ---- what is parked stands, and what leaves has its cause

all_dropped : (start : Settled) (taken : List Inbound) (c : ConnId) (cause : DropCause) (ps : List Parked) (end : List Ready) → ((seq : _) → HasCause start taken (Dropped c seq cause)) → AllByRecursion (HasCause start taken) end → AllByRecursion (HasCause start taken) (map (dropped c cause) ps ++ end)
all_dropped start taken c cause [] end f h = h
all_dropped start taken c cause (p ∷ ps) end f h = (f _, all_dropped start taken c cause ps end f h)

pub all_others : (P : QueueView → Type 0) (c : ConnId) (qs : List QueueView) → AllByRecursion P qs → AllByRecursion P (others c qs)
all_others P c [] a = tt
all_others P c (q ∷ qs) a = elim (is_of c q) as (λ b. AllByRecursion P (cond b qs (q ∷ others c qs))) [ true ↦ a.1 | false ↦ (a.0, all_others P c qs a.1) ]

-- what waits is waited for
pub all_any : {X : Type 0} (front xs : List X) → AllByRecursion (λ (x : X). (test : X → Bool) → test x ≡ true → list_any test (front ++ xs) ≡ true) xs
all_any front [] = tt
all_any front (x ∷ xs) = (λ test e. at test front e, subst (λ l. AllByRecursion (λ y. (test : _ → Bool) → test y ≡ true → list_any test l ≡ true) xs) (append_assoc front (x ∷ []) xs) (all_any (front ++ x ∷ []) xs))
  where
    at : (test : _ → Bool) (zs : List _) → test x ≡ true → list_any test (zs ++ x ∷ xs) ≡ true
    at test [] e = or_left (test x) (list_any test xs) e
    at test (z ∷ zs) e = or_right (test z) (list_any test (zs ++ x ∷ xs)) (at test zs e)

closed_fit : (start : Settled) (taken : List Inbound) (s : Settled) (c : ConnId) (item : Inbound) → s ≡ settled_by start taken → AreSingle s.queues → AreListed s.queues s.wanted → ((hash : Hash) → (is_set hash s item ≡ false) × (is_miss hash s item ≡ false)) → AllByRecursion (Fits start taken s.wanted) s.queues → AllByRecursion (Fits start (taken ++ item ∷ []) (closed_off c s).wanted) (others c s.queues)
closed_fit start taken s c item e single listed k a = all_both (Fits start taken s.wanted) (StandsElse c s.queues) (Fits start (taken ++ item ∷ []) wanted') (others c s.queues) one (all_others (Fits start taken s.wanted) c s.queues a) (others_else c s.queues single)
  where
    wanted' : List Want
    wanted' = left_by c s.wanted

    kept : (q : QueueView) → StandsElse c s.queues q → (hash : Hash) → list_any (waits_for hash) q.parked ≡ true → is_wanted hash s.wanted ≡ true → Keeps s s.wanted wanted' item hash
    kept q else' hash waits is = ((k hash).0, still_left c q.conn hash s.queues s.wanted else'.other (ap (list_any (waits_for hash)) else'.own ∙ waits) listed.each is, λ n l. rw (k hash).1 (least-map (leave c) (λ w. refl) (λ w. refl) n hash (filter (waits_besides c) s.wanted) (all_filter (λ (want : Want). want.hash ≡ hash → n ≤ want.misses) (waits_besides c) s.wanted l)))

    one : (q : QueueView) → Fits start taken s.wanted q → StandsElse c s.queues q → Fits start (taken ++ item ∷ []) wanted' q
    one q f else' = record {
      waits = f.waits;
      few = f.few;
      stands = all_both (Stands start taken s.wanted q.conn) (λ (p : Parked). (test : Parked → Bool) → test p ≡ true → list_any test q.parked ≡ true) (Stands start (taken ++ item ∷ []) wanted' q.conn) q.parked (λ p w h. stays start taken s s.wanted wanted' item q.conn p e (λ hash waits is. kept q else' hash (h (waits_for hash) waits) is) w) f.stands (all_any [] q.parked);
    }

-- a message is parked after others
changed_fit : (start : Settled) (taken : List Inbound) (wanted : List Want) (c : ConnId) (p : Parked) (qs : List QueueView) → is_held (parked_of c qs) p ≡ true → nat_le PARKED_LIMIT (length (parked_of c qs)) ≡ false → Stands start taken wanted c p → AllByRecursion (Fits start taken wanted) qs → AllByRecursion (Fits start taken wanted) (changed c (with_parked p) qs)
changed_fit start taken wanted c p [] held few w a = tt
changed_fit start taken wanted c p (q ∷ qs) held few w a = by_test (is_of c q) refl held few (λ e f. changed_fit start taken wanted c p qs e f w a.1)
  where
    by_test : (b : Bool) → is_of c q ≡ b → is_held (cond b q.parked (parked_of c qs)) p ≡ true → nat_le PARKED_LIMIT (length (cond b q.parked (parked_of c qs))) ≡ false → (is_held (parked_of c qs) p ≡ true → nat_le PARKED_LIMIT (length (parked_of c qs)) ≡ false → AllByRecursion (Fits start taken wanted) (changed c (with_parked p) qs)) → AllByRecursion (Fits start taken wanted) (cond b (with_parked p q ∷ qs) (q ∷ changed c (with_parked p) qs))
    by_test true k held few rest = (
      record {
        waits = held-push [] q.parked p a.0.waits held;
        few = omega (arith, length-append q.parked (p ∷ []), leb-false PARKED_LIMIT (length q.parked) few);
        stands = all_append (Stands start taken wanted q.conn) q.parked (p ∷ []) a.0.stands (subst (λ (d : ConnId). Stands start taken wanted d p) (sym (same_conn-true q.conn c k)) w, tt);
      },
      a.1,
    )
    by_test false k held few rest = (a.0, rest held few)

pub held_of : (b : Bool) → not b ≡ false → b ≡ true
held_of true e = refl
held_of false e = absurd cc

-- where it doesn't go through, and not too many are parked
few_of_flow : (f g : Bool) → (f && not g) ≡ false → g ≡ false → f ≡ false
few_of_flow false g e h = refl
few_of_flow true false e h = absurd cc
few_of_flow true true e h = absurd cc

entered_fit : (start : Settled) (taken : List Inbound) (wanted : List Want) (c : ConnId) (p : Parked) (qs : List QueueView) → goes_through c p qs ≡ false → nat_le PARKED_LIMIT (length (parked_of c qs)) ≡ false → Stands start taken wanted c p → AllByRecursion (Fits start taken wanted) qs → AllByRecursion (Fits start taken wanted) (parked_in c p qs)
entered_fit start taken wanted c p qs through few w a = by_test (is_empty (parked_of c qs)) refl (held_of (is_held (parked_of c qs) p) through)
  where
    nil_of : (ps : List Parked) → is_empty ps ≡ true → ps ≡ []
    nil_of [] e = refl
    nil_of (q ∷ qs) e = absurd cc

    by_test : (b : Bool) → is_empty (parked_of c qs) ≡ b → is_held (parked_of c qs) p ≡ true → AllByRecursion (Fits start taken wanted) (cond b (others c qs ++ record { conn = c; parked = p ∷ [] } ∷ []) (changed c (with_parked p) qs))
    by_test true e h = all_append (Fits start taken wanted) (others c qs) (record { conn = c; parked = p ∷ [] } ∷ []) (all_others (Fits start taken wanted) c qs a) (record { waits = (subst (λ (ps : List Parked). is_held ps p ≡ true) (nil_of (parked_of c qs) e) h, tt); few = omega arith; stands = (w, tt) }, tt)
    by_test false e h = changed_fit start taken wanted c p qs h few w a

-- nothing waits for a hash that isn't wanted
pub nothing_waits : (start : Settled) (taken : List Inbound) (wanted : List Want) (hash : Hash) (c : ConnId) (qs : List QueueView) → is_wanted hash wanted ≡ false → AllByRecursion (Fits start taken wanted) qs → is_waiting c hash qs ≡ false
nothing_waits start taken wanted hash c [] un a = refl
nothing_waits start taken wanted hash c (q ∷ qs) un a = by_test (is_of c q) (nothing_waits start taken wanted hash c qs un a.1)
  where
    one : (p : Parked) → Stands start taken wanted q.conn p → waits_for hash p ≡ false
    one (Waits x) w = by_same (same_hash hash w.1.hash) refl
      where
        by_same : (b : Bool) → same_hash hash w.1.hash ≡ b → is_hash hash (named x.message) ≡ false
        by_same true k = clash (is_wanted hash wanted) (subst (λ (h : Hash). is_wanted h wanted ≡ true) (sym (same_hash-true hash w.1.hash k)) w.1.wanted_still) un
        by_same false k = ap (is_hash hash) w.1.waiting.names ∙ k
    one (Free d) w = refl
    one (Lost x cause) w = refl

    none : (ps : List Parked) → AllByRecursion (Stands start taken wanted q.conn) ps → list_any (waits_for hash) ps ≡ false
    none [] b = refl
    none (p ∷ ps) b = rw (one p b.0) (none ps b.1)

    by_test : (b : Bool) → is_waiting c hash qs ≡ false → list_any (waits_for hash) (cond b q.parked (parked_of c qs)) ≡ false
    by_test true rest = none q.parked a.0.stands
    by_test false rest = rest

pub wants_named : (hash : Hash) (link : ℕ) (c : ConnId) (p : Option Hash) (wanted : List Want) → is_wanted hash wanted ≡ true → is_wanted hash (wanted_named link c p wanted) ≡ true
wants_named hash link c None wanted is = is
wants_named hash link c (Some other) wanted is = wanted_by-other hash other link c wanted is

least_named : (hash : Hash) (link : ℕ) (c : ConnId) (n : ℕ) (p : Option Hash) (wanted : List Want) → is_wanted hash wanted ≡ true → AtLeast n hash wanted → AtLeast n hash (wanted_named link c p wanted)
least_named hash link c n None wanted is l = l
least_named hash link c n (Some other) wanted is l = least-wanted_by other link c n hash wanted is l

abbrev StepFits : Settled → List Inbound → Settled → Inbound → List Ready → Type 0
StepFits start taken s item out = AllByRecursion (Fits start (taken ++ item ∷ []) s.wanted) s.queues × AllByRecursion (HasCause start (taken ++ item ∷ [])) out

pub fits_step : (start : Settled) (taken : List Inbound) (s : Settled) (item : Inbound) → s ≡ settled_by start taken → IsSaneStore s.store → AreSingle s.queues → AllByRecursion (IsWant start taken) s.wanted → AreListed s.queues s.wanted → AllByRecursion (Fits start taken s.wanted) s.queues → StepFits start taken (rules s item) item (releases s item)
fits_step start taken s (inbound.Opened d) e sane single ws listed a = by_test (opens d s)
  where
    by_test : (b : Bool) → StepFits start taken (cond b (opened d s) s) (inbound.Opened d) []
    by_test true = (all_append (Fits start (taken ++ inbound.Opened d ∷ []) (unasked (link_number d.from s) s.wanted)) s.queues (record { conn = d; parked = [] } ∷ []) (quiet start taken s (unasked (link_number d.from s) s.wanted) (inbound.Opened d) s.queues e (λ hash is. (refl, wanted-map (unask (link_number d.from s)) (λ w. refl) hash s.wanted ∙ is, λ n l. least-map (unask (link_number d.from s)) (λ w. refl) (λ w. refl) n hash s.wanted l)) a) (record { waits = tt; few = omega arith; stands = tt }, tt), tt)
    by_test false = (quiet start taken s s.wanted (inbound.Opened d) s.queues e (λ hash is. (refl, is, λ n l. l)) a, tt)
fits_step start taken s (inbound.Carried x) e sane single ws listed a = by_tests (is_open x.conn s.queues) (overflows x.conn (entering s.store x) s.queues) (goes_through x.conn p s.queues) refl refl refl
  where
    item : Inbound
    item = inbound.Carried x

    link : ℕ
    link = link_number x.conn.from s

    p : Parked
    p = entering s.store x

    still : AllByRecursion (Fits start (taken ++ item ∷ []) s.wanted) s.queues
    still = quiet start taken s s.wanted item s.queues e (λ hash is. (refl, is, λ n l. l)) a

    by_tests : (o f g : Bool) → is_open x.conn s.queues ≡ o → overflows x.conn p s.queues ≡ f → goes_through x.conn p s.queues ≡ g → StepFits start taken (cond o (cond f (closed_off x.conn s) (cond g s (parks x p s))) s) item (cond o (cond f (map (dropped x.conn ByFull) (parked_of x.conn s.queues) ++ Dropped x.conn x.seq ByFull ∷ Closed x.conn ParkedFull ∷ []) (cond g (fate x.conn p) [])) [])
    by_tests true true g o f t = (closed_fit start taken s x.conn item e single listed (λ hash. (refl, refl)) a, all_dropped start (taken ++ item ∷ []) x.conn ByFull (parked_of x.conn s.queues) (Dropped x.conn x.seq ByFull ∷ Closed x.conn ParkedFull ∷ []) (λ seq. tt) (tt, (tt, tt)))
    by_tests true false true o f t = (still, fate_caused start (taken ++ item ∷ []) (wanted_with link x.conn p s.wanted) x.conn p (new_stands start taken s link x e sane.0 sane.1 o))
    by_tests true false false o f t = (entered_fit start (taken ++ item ∷ []) (wanted_with link x.conn p s.wanted) x.conn p s.queues t (few_of_flow (is_full x.conn s.queues) (goes_through x.conn p s.queues) f t) (new_stands start taken s link x e sane.0 sane.1 o) (quiet start taken s (wanted_with link x.conn p s.wanted) item s.queues e (λ hash is. (refl, wants_named hash link x.conn _ s.wanted is, λ n l. least_named hash link x.conn n _ s.wanted is l)) a), tt)
    by_tests false f g o h t = (still, tt)
fits_step start taken s (inbound.Side d (GetSet h)) e sane single ws listed a = elim (is_open d s.queues) as (λ b. StepFits start taken (cond b s s) (inbound.Side d (GetSet h)) (cond b [] [])) [ true ↦ (quiet start taken s s.wanted (inbound.Side d (GetSet h)) s.queues e (λ hash is. (refl, is, λ n l. l)) a, tt) | false ↦ (quiet start taken s s.wanted (inbound.Side d (GetSet h)) s.queues e (λ hash is. (refl, is, λ n l. l)) a, tt) ]
fits_step start taken s (inbound.Side d (Set set)) e sane single ws listed a = by_tests (is_open d s.queues) (has_spelling set) (is_wanted (hash_of set) s.wanted) refl refl refl
  where
    item : Inbound
    item = inbound.Side d (Set set)

    not_mine : (hash : Hash) → is_wanted (hash_of set) s.wanted ≡ false → is_wanted hash s.wanted ≡ true → same_hash hash (hash_of set) ≡ false
    not_mine hash n is = by_test (same_hash hash (hash_of set)) refl
      where
        by_test : (b : Bool) → same_hash hash (hash_of set) ≡ b → b ≡ false
        by_test false k = refl
        by_test true k = clash (is_wanted hash s.wanted) is (ap (λ (h : Hash). is_wanted h s.wanted) (same_hash-true hash (hash_of set) k) ∙ n)

    by_tests : (o h w : Bool) → is_open d s.queues ≡ o → has_spelling set ≡ h → is_wanted (hash_of set) s.wanted ≡ w → StepFits start taken (cond o (cond (h && w) (answered set s) s) s) item (cond o (cond (h && w) (leaving_of (resolved (is_hash (hash_of set)) (by_answer set) s.queues)) []) [])
    by_tests true true true o h w = served_fit start (taken ++ item ∷ []) (without (hash_of set) s.wanted) (resolved (is_hash (hash_of set)) (by_answer set) s.queues) (resolved_fit start taken (taken ++ item ∷ []) s.wanted (without (hash_of set) s.wanted) (is_hash (hash_of set)) (by_answer set) s.queues (answer_stands start taken s d set e o h w ws) a)
    by_tests true true false o h w = (quiet start taken s s.wanted item s.queues e (λ hash is. (rw (o, h, not_mine hash w is) refl, is, λ n l. l)) a, tt)
    by_tests true false w o h k = (quiet start taken s s.wanted item s.queues e (λ hash is. (rw (o, h) refl, is, λ n l. l)) a, tt)
    by_tests false h w o i k = (quiet start taken s s.wanted item s.queues e (λ hash is. (rw o refl, is, λ n l. l)) a, tt)
fits_step start taken s (inbound.Side d (NoSet hash)) e sane single ws listed a = by_tests (is_open d s.queues) (gives_up (One hash) s.wanted hash) refl refl
  where
    item : Inbound
    item = inbound.Side d (NoSet hash)

    wanted' : List Want
    wanted' = missed_by (One hash) s.wanted

    test_is : (other : Hash) (b : Bool) → same_hash hash other ≡ b → gives_up (One hash) s.wanted hash ≡ true → b ≡ gives_up (One hash) s.wanted other
    test_is other true k g = sym (subst (λ (h : Hash). gives_up (One hash) s.wanted h ≡ true) (same_hash-true hash other k) g)
    test_is other false k g = sym (gives_up_other hash other s.wanted k)

    none_up : (other : Hash) (b : Bool) → same_hash hash other ≡ b → gives_up (One hash) s.wanted hash ≡ false → gives_up (One hash) s.wanted other ≡ false
    none_up other true k g = subst (λ (h : Hash). gives_up (One hash) s.wanted h ≡ false) (same_hash-true hash other k) g
    none_up other false k g = gives_up_other hash other s.wanted k

    by_tests : (o g : Bool) → is_open d s.queues ≡ o → gives_up (One hash) s.wanted hash ≡ g → StepFits start taken (cond o (cond g (gives_up_one hash (record s { wanted = wanted' })) (record s { wanted = wanted' })) s) item (cond o (cond g (leaving_of (resolved (is_hash hash) (lost_by GaveUp) s.queues)) []) [])
    by_tests true true o g = served_fit start (taken ++ item ∷ []) wanted' (resolved (is_hash hash) (lost_by GaveUp) s.queues) (resolved_fit start taken (taken ++ item ∷ []) s.wanted wanted' (is_hash hash) (lost_by GaveUp) s.queues (miss_stands start taken s (One hash) item (is_hash hash) e (λ other. (refl, rw o refl)) (λ other is. test_is other (same_hash hash other) refl g) ws) a)
    by_tests true false o g = (quiet start taken s wanted' item s.queues e (λ other is. keeps_missed s (One hash) item other refl (rw o refl) (none_up other (same_hash hash other) refl g) is) a, tt)
    by_tests false g o k = (quiet start taken s s.wanted item s.queues e (λ other is. (refl, is, λ n l. rw o l)) a, tt)
fits_step start taken s (inbound.Closed d cause) e sane single ws listed a = by_test (is_open d s.queues)
  where
    item : Inbound
    item = inbound.Closed d cause

    by_test : (o : Bool) → StepFits start taken (cond o (closed_off d s) s) item (cond o (map (dropped d ByClose) (parked_of d s.queues) ++ Closed d cause ∷ []) [])
    by_test true = (closed_fit start taken s d item e single listed (λ hash. (refl, refl)) a, all_dropped start (taken ++ item ∷ []) d ByClose (parked_of d s.queues) (Closed d cause ∷ []) (λ seq. tt) (tt, tt))
    by_test false = (quiet start taken s s.wanted item s.queues e (λ hash is. (refl, is, λ n l. l)) a, tt)
fits_step start taken s (inbound.Local Tick) e sane single ws listed a = served_fit start (taken ++ inbound.Local Tick ∷ []) (missed_by All s.wanted) (resolved (is_given_up s.wanted) (lost_by GaveUp) (in_order_of (last_missed s.wanted) s.queues)) (resolved_fit start taken (taken ++ inbound.Local Tick ∷ []) s.wanted (missed_by All s.wanted) (is_given_up s.wanted) (lost_by GaveUp) (in_order_of (last_missed s.wanted) s.queues) (miss_stands start taken s All (inbound.Local Tick) (is_given_up s.wanted) e (λ hash. (refl, refl)) (λ hash is. refl) ws) (all_in_order (Fits start taken s.wanted) (last_missed s.wanted) s.queues a))
fits_step start taken s (inbound.Local (Propose slot value)) e sane single ws listed a = (quiet start taken s s.wanted (inbound.Local (Propose slot value)) s.queues e (λ hash is. (refl, is, λ m l. l)) a, (tt, tt))
fits_step start taken s (inbound.Local (Round slot)) e sane single ws listed a = (quiet start taken s s.wanted (inbound.Local (Round slot)) s.queues e (λ hash is. (refl, is, λ m l. l)) a, (tt, tt))
fits_step start taken s (inbound.Local (Timer slot)) e sane single ws listed a = (quiet start taken s s.wanted (inbound.Local (Timer slot)) s.queues e (λ hash is. (refl, is, λ m l. l)) a, (tt, tt))
fits_step start taken s (inbound.Local (Ask link slot)) e sane single ws listed a = (quiet start taken s s.wanted (inbound.Local (Ask link slot)) s.queues e (λ hash is. (refl, is, λ m l. l)) a, (tt, tt))

-- ---- the wants

want_later : (start : Settled) (taken : List Inbound) (s : Settled) (item : Inbound) → s ≡ settled_by start taken → (w : Want) → is_set w.hash s item ≡ false → is_miss w.hash s item ≡ false → IsWant start taken w → IsWant start (taken ++ item ∷ []) w
want_later start taken s item e w none still k = (subst (λ (b : Bool). IsMissed start (taken ++ item ∷ []) w.hash (plus w.misses b)) still (IsMissed-later start taken s w.hash w.misses item e none k.0), k.1)

wants_later : (start : Settled) (taken : List Inbound) (s : Settled) (item : Inbound) → s ≡ settled_by start taken → ((hash : Hash) → (is_set hash s item ≡ false) × (is_miss hash s item ≡ false)) → AllByRecursion (IsWant start taken) s.wanted → AllByRecursion (IsWant start (taken ++ item ∷ [])) s.wanted
wants_later start taken s item e k a = all_weaker (IsWant start taken) (IsWant start (taken ++ item ∷ [])) s.wanted (λ w h. want_later start taken s item e w (k w.hash).0 (k w.hash).1 h) a

wants_map : (start : Settled) (taken : List Inbound) (f : Want → Want) → ((w : Want) → (f w).hash ≡ w.hash) → ((w : Want) → (f w).misses ≡ w.misses) → (ws : List Want) → AllByRecursion (IsWant start taken) ws → AllByRecursion (IsWant start taken) (map f ws)
wants_map start taken f same count ws a = all_step (IsWant start taken) (IsWant start taken) f ws (λ w h. (rw (same w, count w) h.0, rw (count w) h.1)) a

wants_left : (start : Settled) (taken : List Inbound) (c : ConnId) (ws : List Want) → AllByRecursion (IsWant start taken) ws → AllByRecursion (IsWant start taken) (left_by c ws)
wants_left start taken c ws a = wants_map start taken (leave c) (λ w. refl) (λ w. refl) (filter (waits_besides c) ws) (all_filter (IsWant start taken) (waits_besides c) ws a)

wants_missed : (start : Settled) (taken : List Inbound) (s : Settled) (miss : Miss) (item : Inbound) → s ≡ settled_by start taken → ((hash : Hash) → (is_set hash s item ≡ false) × (is_miss hash s item ≡ is_missed miss hash)) → AllByRecursion (IsWant start taken) s.wanted → AllByRecursion (IsWant start (taken ++ item ∷ [])) (missed_by miss s.wanted)
wants_missed start taken s miss item e k a = all_step (λ (w : Want). IsWant start taken w × (is_last miss w ≡ false)) (IsWant start (taken ++ item ∷ [])) (count_miss miss) (filter (λ w. not (is_last miss w)) s.wanted) one (all_kept (IsWant start taken) (λ (w : Want). IsWant start taken w × (is_last miss w ≡ false)) (λ w. not (is_last miss w)) s.wanted (λ w h q. (h, not_false (is_last miss w) q)) a)
  where
    one : (w : Want) → IsWant start taken w × (is_last miss w ≡ false) → IsWant start (taken ++ item ∷ []) (count_miss miss w)
    one w h = (rw (count-hash miss w, count-misses miss w) (subst (λ (b : Bool). IsMissed start (taken ++ item ∷ []) w.hash (plus w.misses b)) (k w.hash).1 (IsMissed-later start taken s w.hash w.misses item e (k w.hash).0 h.0.0)), rw (count-misses miss w) (few_missed w.misses (is_missed miss w.hash) (nat_lt 10 w.misses) refl h.1 h.0.1))

pub wants_step : (start : Settled) (taken : List Inbound) (s : Settled) (item : Inbound) → s ≡ settled_by start taken → AllByRecursion (IsWant start taken) s.wanted → AllByRecursion (IsWant start (taken ++ item ∷ [])) (rules s item).wanted
wants_step start taken s (inbound.Opened d) e a = by_test (opens d s)
  where
    by_test : (b : Bool) → AllByRecursion (IsWant start (taken ++ inbound.Opened d ∷ [])) (cond b (opened d s) s).wanted
    by_test true = wants_map start (taken ++ inbound.Opened d ∷ []) (unask (link_number d.from s)) (λ w. refl) (λ w. refl) s.wanted (wants_later start taken s (inbound.Opened d) e (λ h. (refl, refl)) a)
    by_test false = wants_later start taken s (inbound.Opened d) e (λ h. (refl, refl)) a
wants_step start taken s (inbound.Carried x) e a = by_tests (is_open x.conn s.queues) (overflows x.conn (entering s.store x) s.queues) (goes_through x.conn (entering s.store x) s.queues) refl
  where
    item : Inbound
    item = inbound.Carried x

    link : ℕ
    link = link_number x.conn.from s

    more : AllByRecursion (IsWant start (taken ++ item ∷ [])) s.wanted
    more = wants_later start taken s item e (λ h. (refl, refl)) a

    by_want : (hash : Hash) (b : Bool) → is_open x.conn s.queues ≡ true → named x.message ≡ Some hash → AllByRecursion (IsWant start (taken ++ item ∷ [])) (cond b (map (ask hash link x.conn) s.wanted) (s.wanted ++ new_want hash link x.conn ∷ []))
    by_want hash true live names = wants_map start (taken ++ item ∷ []) (ask hash link x.conn) (ask-hash hash link x.conn) (ask-misses hash link x.conn) s.wanted more
    by_want hash false live names = all_append (IsWant start (taken ++ item ∷ [])) s.wanted (new_want hash link x.conn ∷ []) more (
      (
        record {
          first = x;
          place = record { before = taken; after = []; at = refl; live = subst (λ (t : Settled). is_open x.conn t.queues ≡ true) e live };
          names = names;
          no_set = refl;
          count = refl;
        },
        omega arith,
      ),
      tt,
    )

    by_name : (o : Option Hash) → is_open x.conn s.queues ≡ true → named x.message ≡ o → AllByRecursion (IsWant start (taken ++ item ∷ [])) (wanted_named link x.conn o s.wanted)
    by_name None live names = more
    by_name (Some hash) live names = by_want hash (is_wanted hash s.wanted) live names

    by_lookup : (o : Option QuorumTree) → is_open x.conn s.queues ≡ true → AllByRecursion (IsWant start (taken ++ item ∷ [])) (wanted_with link x.conn (found x o) s.wanted)
    by_lookup None live = by_name (named x.message) live refl
    by_lookup (Some set) live = more

    by_entering : (o : Option Hash) → is_open x.conn s.queues ≡ true → AllByRecursion (IsWant start (taken ++ item ∷ [])) (wanted_with link x.conn (entering_by o s.store x) s.wanted)
    by_entering None live = more
    by_entering (Some hash) live = by_lookup (lookup hash s.store) live

    by_tests : (o f g : Bool) → is_open x.conn s.queues ≡ o → AllByRecursion (IsWant start (taken ++ item ∷ [])) (cond o (cond f (closed_off x.conn s) (cond g s (parks x (entering s.store x) s))) s).wanted
    by_tests true true g live = wants_left start (taken ++ item ∷ []) x.conn s.wanted more
    by_tests true false true live = more
    by_tests true false false live = by_entering (named x.message) live
    by_tests false f g live = more
wants_step start taken s (inbound.Side d (GetSet h)) e a = elim (is_open d s.queues) as (λ b. AllByRecursion (IsWant start (taken ++ inbound.Side d (GetSet h) ∷ [])) (cond b s s).wanted) [ true ↦ wants_later start taken s (inbound.Side d (GetSet h)) e (λ k. (refl, refl)) a | false ↦ wants_later start taken s (inbound.Side d (GetSet h)) e (λ k. (refl, refl)) a ]
wants_step start taken s (inbound.Side d (Set set)) e a = by_tests (is_open d s.queues) (has_spelling set) (is_wanted (hash_of set) s.wanted) refl refl refl
  where
    item : Inbound
    item = inbound.Side d (Set set)

    by_tests : (o h w : Bool) → is_open d s.queues ≡ o → has_spelling set ≡ h → is_wanted (hash_of set) s.wanted ≡ w → AllByRecursion (IsWant start (taken ++ item ∷ [])) (cond o (cond (h && w) (answered set s) s) s).wanted
    by_tests true true true o h w = all_kept (IsWant start taken) (IsWant start (taken ++ item ∷ [])) (λ w. not (is_for (hash_of set) w)) s.wanted (λ w k q. want_later start taken s item e w (rw (o, h, same_hash-sym w.hash (hash_of set), not_false (is_for (hash_of set) w) q) refl) refl k) a
    by_tests true true false o h w = all_both (IsWant start taken) (λ (w : Want). is_for (hash_of set) w ≡ false) (IsWant start (taken ++ item ∷ [])) s.wanted (λ w k q. want_later start taken s item e w (rw (o, h, same_hash-sym w.hash (hash_of set), q) refl) refl k) a (none_wanted (hash_of set) s.wanted w)
    by_tests true false w o h k = wants_later start taken s item e (λ hash. (rw (o, h) refl, refl)) a
    by_tests false h w o i k = wants_later start taken s item e (λ hash. (rw o refl, refl)) a
wants_step start taken s (inbound.Side d (NoSet hash)) e a = by_tests (is_open d s.queues) (gives_up (One hash) s.wanted hash) refl
  where
    item : Inbound
    item = inbound.Side d (NoSet hash)

    by_tests : (o g : Bool) → is_open d s.queues ≡ o → AllByRecursion (IsWant start (taken ++ item ∷ [])) (cond o (cond g (gives_up_one hash (record s { wanted = missed_by (One hash) s.wanted })) (record s { wanted = missed_by (One hash) s.wanted })) s).wanted
    by_tests true true o = wants_missed start taken s (One hash) item e (λ k. (refl, rw o refl)) a
    by_tests true false o = wants_missed start taken s (One hash) item e (λ k. (refl, rw o refl)) a
    by_tests false g o = wants_later start taken s item e (λ k. (refl, rw o refl)) a
wants_step start taken s (inbound.Closed d cause) e a = by_test (is_open d s.queues)
  where
    by_test : (o : Bool) → AllByRecursion (IsWant start (taken ++ inbound.Closed d cause ∷ [])) (cond o (closed_off d s) s).wanted
    by_test true = wants_left start (taken ++ inbound.Closed d cause ∷ []) d s.wanted (wants_later start taken s (inbound.Closed d cause) e (λ h. (refl, refl)) a)
    by_test false = wants_later start taken s (inbound.Closed d cause) e (λ h. (refl, refl)) a
wants_step start taken s (inbound.Local Tick) e a = wants_missed start taken s All (inbound.Local Tick) e (λ h. (refl, refl)) a
wants_step start taken s (inbound.Local (Propose slot value)) e a = wants_later start taken s (inbound.Local (Propose slot value)) e (λ h. (refl, refl)) a
wants_step start taken s (inbound.Local (Round slot)) e a = wants_later start taken s (inbound.Local (Round slot)) e (λ h. (refl, refl)) a
wants_step start taken s (inbound.Local (Timer slot)) e a = wants_later start taken s (inbound.Local (Timer slot)) e (λ h. (refl, refl)) a
wants_step start taken s (inbound.Local (Ask link slot)) e a = wants_later start taken s (inbound.Local (Ask link slot)) e (λ h. (refl, refl)) a

-- ---- along a list of takes

pub record Sound (start : Settled) (taken : List Inbound) (s : Settled) (out : List Ready) : Type 0 where
  pub now : s ≡ settled_by start taken
  pub sane : IsSaneStore s.store
  pub single : AreSingle s.queues
  pub fits : AllByRecursion (Fits start taken s.wanted) s.queues
  pub wanted : AllByRecursion (IsWant start taken) s.wanted
  pub listed : AreListed s.queues s.wanted
  pub causes : AllByRecursion (HasCause start taken) out

pub sound_step : (start : Settled) (taken : List Inbound) (s : Settled) (out : List Ready) (item : Inbound) → Sound start taken s out → Sound start (taken ++ item ∷ []) (rules s item) (out ++ releases s item)
sound_step start taken s out item k =
    let step = fits_step start taken s item k.now k.sane k.single k.wanted k.listed k.fits in
    record {
      now = ap (λ (t : Settled). rules t item) k.now ∙ sym (settled-push start taken item);
      sane = store_step IsSaneStore s item (λ d set at live spelt sane. stored_sane set s.store (sane_of_test set sane) k.sane) k.sane;
      single = single_step s item k.single;
      fits = step.0;
      wanted = wants_step start taken s item k.now k.wanted;
      listed = listed_step s item k.single (λ hash c un. nothing_waits start taken s.wanted hash c s.queues un k.fits) k.listed;
      causes = all_append (HasCause start (taken ++ item ∷ [])) out (releases s item) (all_weaker (HasCause start taken) (HasCause start (taken ++ item ∷ [])) out (λ r h. HasCause-later start taken s item k.now r h) k.causes) step.1;
    }

pub sound_start : (me : NodeId) (peers : List NodeId) (local : QuorumTree) → IsSane local → Sound (fresh me peers local) [] (fresh me peers local) []
sound_start me peers local sane = record {
  now = refl;
  sane = (sane, tt);
  single = λ c. omega arith;
  fits = tt;
  wanted = tt;
  listed = record { each = tt; apart = tt };
  causes = tt;
}

pub sound_along : (start : Settled) (taken items : List Inbound) (s : Settled) (out : List Ready) → Sound start taken s out → Sound start (taken ++ items) (settled_by s items) (out ++ released_by s items)
sound_along start taken [] s out k = rw (append_nil taken, append_nil out) k
sound_along start taken (item ∷ items) s out k = rw (← append_assoc taken (item ∷ []) items, ← append_assoc out (releases s item) (released_by (rules s item) items)) (sound_along start (taken ++ item ∷ []) items (rules s item) (out ++ releases s item) (sound_step start taken s out item k))
