-- What is stored: a set that came is in the store, and the set of an envelope that waits isn't.
use Rattle.std.proofs.Common.{◌≡◌, Bool, true, false, cond, List, [], ◌∷◌, ◌++◌, length, refl, ◌∙◌, ap, subst, drop}
use Rattle.std.specs.Prelude.{◌&&◌, nat_lt, find, Some, None, is_some}
use Rattle.scp_wire.specs.scp_types.specs.declared.names.Hash.{Hash}
use Rattle.scp_wire.specs.scp_types.specs.declared.names.ConnId.{ConnId}
use Rattle.scp_wire.specs.scp_quorum.specs.QuorumTree.{QuorumTree}
use Rattle.scp_wire.specs.declared.carried.Carried.{Carried}
use Rattle.scp_wire.specs.declared.side.SideMessage.TheVariants.{GetSet, Set, NoSet}
use Rattle.scp_wire.specs.declared.link.Command.TheVariants.{Tick, Propose, Round, Timer, Ask}
use Rattle.scp_wire.specs.declared.link.Inbound.{Inbound}
use Rattle.scp_wire.specs.declared.link.Inbound.TheVariants as inbound
use Rattle.scp_fetch.specs.declared.want.Miss.TheVariants.{One}
use Rattle.scp_fetch.specs.Hashes.{same_hash}
use Rattle.scp_fetch.specs.Wants.{is_wanted, missed_by, gives_up}
use Rattle.scp_fetch.specs.Store.{StoreView, has_hash, lookup, pushed, stored}
use Rattle.scp_pending.specs.Sanity.{is_sane, has_spelling}
use Rattle.scp_pending.specs.Queues.{is_open, hash_of}
use Rattle.scp_pending.specs.Rules.{Settled, settled_by, rules, opens, opened, closed_off, entering, overflows, goes_through, parks, answered, gives_up_one}
use Rattle.scp_pending.specs.Causes.{is_set, has, behind, Waiting}
use Rattle.scp_pending.proofs.Basics.{clash, or_none, same_hash-refl}
use Rattle.scp_pending.proofs.Later.{now_from}

-- a fact of the store that a live sane Set keeps
pub store_step : (P : StoreView → Type 0) (s : Settled) (item : Inbound) → ((d : ConnId) (set : QuorumTree) → item ≡ inbound.Side d (Set set) → is_open d s.queues ≡ true → has_spelling set ≡ true → is_sane set ≡ true → P (stored set s.store)) → P s.store → P (rules s item).store
store_step P s (inbound.Opened d) more k = elim (opens d s) as (λ b. P (cond b (opened d s) s).store) [ true ↦ k | false ↦ k ]
store_step P s (inbound.Carried x) more k = by_tests (is_open x.conn s.queues) (overflows x.conn (entering s.store x) s.queues) (goes_through x.conn (entering s.store x) s.queues)
  where
    by_tests : (o f g : Bool) → P (cond o (cond f (closed_off x.conn s) (cond g s (parks x (entering s.store x) s))) s).store
    by_tests true true g = k
    by_tests true false true = k
    by_tests true false false = k
    by_tests false f g = k
store_step P s (inbound.Side d (GetSet hash)) more k = elim (is_open d s.queues) as (λ b. P (cond b s s).store) [ true ↦ k | false ↦ k ]
store_step P s (inbound.Side d (Set set)) more k = by_tests (is_open d s.queues) (has_spelling set) (is_wanted (hash_of set) s.wanted) refl refl
  where
    by_sane : (b : Bool) → is_open d s.queues ≡ true → has_spelling set ≡ true → is_sane set ≡ b → P (cond b (stored set s.store) s.store)
    by_sane true live spelt sane = more d set refl live spelt sane
    by_sane false live spelt sane = k

    by_tests : (o h w : Bool) → is_open d s.queues ≡ o → has_spelling set ≡ h → P (cond o (cond (h && w) (answered set s) s) s).store
    by_tests true true true live spelt = by_sane (is_sane set) live spelt refl
    by_tests true true false live spelt = k
    by_tests true false w live spelt = k
    by_tests false h w live spelt = k
store_step P s (inbound.Side d (NoSet hash)) more k = by_tests (is_open d s.queues) (gives_up (One hash) s.wanted hash)
  where
    by_tests : (o g : Bool) → P (cond o (cond g (gives_up_one hash (record s { wanted = missed_by (One hash) s.wanted })) (record s { wanted = missed_by (One hash) s.wanted })) s).store
    by_tests true true = k
    by_tests true false = k
    by_tests false g = k
store_step P s (inbound.Closed d cause) more k = elim (is_open d s.queues) as (λ b. P (cond b (closed_off d s) s).store) [ true ↦ k | false ↦ k ]
store_step P s (inbound.Local Tick) more k = k
store_step P s (inbound.Local (Propose slot value)) more k = k
store_step P s (inbound.Local (Round slot)) more k = k
store_step P s (inbound.Local (Timer slot)) more k = k
store_step P s (inbound.Local (Ask link slot)) more k = k

-- ---- one set more

find_last : (test : QuorumTree → Bool) (xs : List QuorumTree) (set : QuorumTree) → find test xs ≡ None → find test (xs ++ set ∷ []) ≡ cond (test set) (Some set) None
find_last test [] set none = refl
find_last test (x ∷ xs) set none = by_test (test x) none (find_last test xs set)
  where
    by_test : (b : Bool) → cond b (Some x) (find test xs) ≡ None → (find test xs ≡ None → find test (xs ++ set ∷ []) ≡ cond (test set) (Some set) None) → cond b (Some x) (find test (xs ++ set ∷ [])) ≡ cond (test set) (Some set) None
    by_test true e rest = absurd cc
    by_test false e rest = rest e

find_rest : (test : QuorumTree → Bool) (xs : List QuorumTree) → find test xs ≡ None → find test (drop 1 xs) ≡ None
find_rest test [] none = none
find_rest test (x ∷ xs) none = by_test (test x) none
  where
    by_test : (b : Bool) → cond b (Some x) (find test xs) ≡ None → find test xs ≡ None
    by_test true e = absurd cc
    by_test false e = e

find_pushed : (test : QuorumTree → Bool) (set : QuorumTree) (xs : List QuorumTree) → find test xs ≡ None → find test (pushed set xs) ≡ cond (test set) (Some set) None
find_pushed test set xs none = by_room (nat_lt (length xs) 256)
  where
    by_room : (b : Bool) → find test (cond b (xs ++ set ∷ []) (drop 1 xs ++ set ∷ [])) ≡ cond (test set) (Some set) None
    by_room true = find_last test xs set none
    by_room false = find_last test (drop 1 xs) set (find_rest test xs none)

lookup_pushed : (hash : Hash) (set : QuorumTree) (store : StoreView) → lookup hash store ≡ None → lookup hash (record store { others = pushed set store.others }) ≡ cond (has_hash hash set) (Some set) None
lookup_pushed hash set store none = by_local (has_hash hash store.local) none
  where
    by_local : (b : Bool) → cond b (Some store.local) (find (has_hash hash) store.others) ≡ None → cond b (Some store.local) (find (has_hash hash) (pushed set store.others)) ≡ cond (has_hash hash set) (Some set) None
    by_local true e = absurd cc
    by_local false e = find_pushed (has_hash hash) set store.others e

-- a set that wasn't there is
pub known_stored : (set : QuorumTree) (store : StoreView) → lookup (hash_of set) store ≡ None → lookup (hash_of set) (stored set store) ≡ Some set
known_stored set store none = rw none (lookup_pushed (hash_of set) set store none ∙ ap (λ b. cond b (Some set) None) (same_hash-refl (hash_of set)))

-- and no other
unknown_stored : (hash : Hash) (set : QuorumTree) (store : StoreView) → same_hash hash (hash_of set) ≡ false → lookup hash store ≡ None → lookup hash (stored set store) ≡ None
unknown_stored hash set store other none = by_there (is_some (lookup (hash_of set) store))
  where
    by_there : (b : Bool) → lookup hash (cond b store (record store { others = pushed set store.others })) ≡ None
    by_there true = none
    by_there false = lookup_pushed hash set store none ∙ ap (λ b. cond b (Some set) None) other

-- ---- until a live Set with its hash comes

unknown_step : (hash : Hash) (s : Settled) (item : Inbound) → is_set hash s item ≡ false → lookup hash s.store ≡ None → lookup hash (rules s item).store ≡ None
unknown_step hash s item no_set none = store_step (λ store. lookup hash store ≡ None) s item (λ d set at live spelt sane. unknown_stored hash set s.store (other d set live spelt (same_hash hash (hash_of set)) refl (subst (λ i. is_set hash s i ≡ false) at no_set)) none) none
  where
    other : (d : ConnId) (set : QuorumTree) → is_open d s.queues ≡ true → has_spelling set ≡ true → (b : Bool) → same_hash hash (hash_of set) ≡ b → is_set hash s (inbound.Side d (Set set)) ≡ false → b ≡ false
    other d set live spelt true same e = clash (is_set hash s (inbound.Side d (Set set))) (rw (live, spelt, same) refl) e
    other d set live spelt false same e = refl

unknown_along : (hash : Hash) (s : Settled) (items : List Inbound) → has (is_set hash) s items ≡ false → lookup hash s.store ≡ None → lookup hash (settled_by s items).store ≡ None
unknown_along hash s [] no_set none = none
unknown_along hash s (item ∷ items) no_set none = (let both = or_none (is_set hash s item) (has (is_set hash) (rules s item) items) no_set in unknown_along hash (rules s item) items both.1 (unknown_step hash s item both.0 none))

-- the set of what waits isn't stored
pub unknown_still : (start : Settled) (taken : List Inbound) (x : Carried) (hash : Hash) → (w : Waiting start taken x hash) → lookup hash (settled_by start taken).store ≡ None
unknown_still start taken x hash w = ap (λ (s : Settled). lookup hash s.store) (now_from start taken x w.place) ∙ unknown_along hash (behind w.place) w.place.after w.no_set (unknown_step hash (settled_by start w.place.before) (inbound.Carried x) refl w.unknown)

-- a sane Set that is wanted is stored
pub answer_stores : (d : ConnId) (set : QuorumTree) (s : Settled) → is_open d s.queues ≡ true → has_spelling set ≡ true → is_wanted (hash_of set) s.wanted ≡ true → is_sane set ≡ true → (rules s (inbound.Side d (Set set))).store ≡ stored set s.store
answer_stores d set s live spelt wanted sane = rw (live, spelt, wanted, sane) refl
