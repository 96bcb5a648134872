-- What is stored, and what is replied.
use Rattle.std.proofs.Common.{◌≡◌, ℕ, ◌+◌, ◌-◌, ◌<◌, Bool, true, false, cond, not, List, [], ◌∷◌, ◌++◌, length, length-append, refl, sym, ◌∙◌, ap, subst, arith, append_assoc, drop, suc, inl, inr}
use Rattle.std.specs.Prelude.{◌&&◌, ◌||◌, nat_lt, find, Option, Some, None, is_some, slice_get, unwrap_or}
use Rattle.std.specs.List.{position_or_len, AllByRecursion}
use Rattle.std.proofs.lemmas.Bool.{cases_lt, lt-ltb}
use Rattle.std.proofs.lemmas.List.{append-nil, drop-append-le, drop-drop, length-drop}
use Rattle.scp_wire.specs.scp_types.specs.declared.names.ConnId.{ConnId}
use Rattle.scp_wire.specs.scp_types.specs.declared.names.Hash.{Hash}
use Rattle.scp_wire.specs.scp_types.specs.declared.names.NodeId.{NodeId}
use Rattle.scp_wire.specs.scp_quorum.specs.QuorumTree.{QuorumTree}
use Rattle.scp_wire.specs.scp_quorum.specs.Sane.{IsSane}
use Rattle.scp_wire.specs.declared.carried.Carried.{Carried}
use Rattle.scp_wire.specs.declared.message.Message.{Message}
use Rattle.scp_wire.specs.declared.message.Message.TheVariants as message
use Rattle.scp_wire.specs.declared.side.SideMessage.{SideMessage}
use Rattle.scp_wire.specs.declared.side.SideMessage.TheVariants.{GetSet, Set, NoSet}
use Rattle.scp_wire.specs.declared.link.Command.TheVariants.{Propose, Round, Timer, Tick, Ask}
use Rattle.scp_wire.specs.declared.link.Inbound.{Inbound}
use Rattle.scp_wire.specs.declared.link.Inbound.TheVariants as inbound
use Rattle.scp_wire.specs.Connections.{same_node}
use Rattle.scp_fetch.specs.declared.want.Miss.TheVariants.{One}
use Rattle.scp_fetch.specs.Wants.{is_asked, gives_up, missed_by}
use Rattle.scp_fetch.specs.Store.{StoreView, has_hash, lookup, pushed}
use Rattle.scp_pending.specs.Sanity.{is_sane}
use Rattle.scp_pending.specs.Queues.{is_open, named, hash_of, waited_by}
use Rattle.scp_pending.specs.Rules.{Settled, fresh, rules, settled_by, opens, opened, closed_off, entering, entering_by, found, overflows, goes_through, is_full, parks, is_answer, answered, gives_up_one, link_number, asks_named, asks, answer, replies, reply}
use Rattle.scp_pending.specs.Linked.{is_among}
use Rattle.scp_pending.specs.Fetching.{set_brought, sets_brought, last_of, TheLastAreStored, IsAskedFor, IsReplied, IfReplied, RepliesAreAskedFor}
use Rattle.scp_pending.proofs.Basics.{same_hash-true, same_node-true}
use Rattle.scp_pending.proofs.Sound.{Sound, IsSaneStore, sound_start, sound_along}
use Rattle.scp_pending.proofs.Strangers.{who_it_is, no_stranger}

-- ---- one item more, by what it brings

-- what holds if nothing is brought, and if a set is brought and stored after the others, holds after each item
set_step : (P : List QuorumTree → StoreView → Type 0) (s : Settled) (item : Inbound) → P [] s.store → ((set : QuorumTree) → P (set ∷ []) (record s.store { others = pushed set s.store.others })) → P (set_brought s item) (rules s item).store
set_step P s (inbound.Opened d) k more = elim (opens d s) as (λ b. P [] (cond b (opened d s) s).store) [ true ↦ k | false ↦ k ]
set_step P s (inbound.Carried x) k more = by_tests (is_open x.conn s.queues) (overflows x.conn (entering s.store x) s.queues) (goes_through x.conn (entering s.store x) s.queues)
  where
    by_tests : (o f g : Bool) → P [] (cond o (cond f (closed_off x.conn s) (cond g s (parks x (entering s.store x) s))) s).store
    by_tests true true g = k
    by_tests true false true = k
    by_tests true false false = k
    by_tests false f g = k
set_step P s (inbound.Side d (GetSet hash)) k more = elim (is_open d s.queues) as (λ b. P [] (cond b s s).store) [ true ↦ k | false ↦ k ]
set_step P s (inbound.Side d (Set set)) k more = by_tests (is_open d s.queues) (is_answer set s) (is_sane set) (is_some (lookup (hash_of set) s.store))
  where
    by_tests : (o a n l : Bool) → P (cond (o && a && n && not l) (set ∷ []) []) (cond o (cond a (record s { store = cond n (cond l s.store (record s.store { others = pushed set s.store.others })) s.store; wanted = (answered set s).wanted; queues = (answered set s).queues }) s) s).store
    by_tests true true true true = k
    by_tests true true true false = more set
    by_tests true true false l = k
    by_tests true false n l = k
    by_tests false a n l = k
set_step P s (inbound.Side d (NoSet hash)) k more = by_tests (is_open d s.queues) (gives_up (One hash) s.wanted hash)
  where
    by_tests : (o g : Bool) → P [] (cond o (cond g (gives_up_one hash (record s { wanted = missed_by (One hash) s.wanted })) (record s { wanted = missed_by (One hash) s.wanted })) s).store
    by_tests true true = k
    by_tests true false = k
    by_tests false g = k
set_step P s (inbound.Closed d cause) k more = elim (is_open d s.queues) as (λ b. P [] (cond b (closed_off d s) s).store) [ true ↦ k | false ↦ k ]
set_step P s (inbound.Local Tick) k more = k
set_step P s (inbound.Local (Propose slot value)) k more = k
set_step P s (inbound.Local (Round slot)) k more = k
set_step P s (inbound.Local (Timer slot)) k more = k
set_step P s (inbound.Local (Ask link slot)) k more = k

-- ---- the last 256

-- while there is room, and once there is none
pushed_few : (all : List QuorumTree) (set : QuorumTree) → length all < 256 → pushed set (drop 0 all) ≡ drop 0 (all ++ set ∷ [])
pushed_few all set lt = ap (λ (b : Bool). cond b (all ++ set ∷ []) (drop 1 all ++ set ∷ [])) (lt-ltb (length all) 256 lt)

pushed_full : (all : List QuorumTree) (set : QuorumTree) (n : ℕ) → length all ≡ n + 256 → pushed set (drop n all) ≡ drop (n + 1) (all ++ set ∷ [])
pushed_full all set n e =
    let full : length (drop n all) ≡ 256 = omega (arith, e, length-drop n all) in
    ap (λ k. cond (nat_lt k 256) (drop n all ++ set ∷ []) (drop 1 (drop n all) ++ set ∷ [])) full
    ∙ ap (λ (xs : List QuorumTree). xs ++ set ∷ []) (drop-drop 1 n all)
    ∙ sym (drop-append-le (n + 1) all (set ∷ []) (omega (arith, e)))

pushed_last : (all : List QuorumTree) (set : QuorumTree) → pushed set (last_of 256 all) ≡ last_of 256 (all ++ set ∷ [])
pushed_last all set = elim (cases_lt (length all) 256) [
  | inl lt ↦ (
      let none : length all - 256 ≡ 0 = omega (arith, lt) in
      let none' : 0 ≡ length (all ++ set ∷ []) - 256 = omega (arith, lt, length-append all (set ∷ [])) in
      ap (λ k. pushed set (drop k all)) none ∙ pushed_few all set lt ∙ ap (λ k. drop k (all ++ set ∷ [])) none')
  | inr le ↦ (
      let n = length all - 256 in
      let full : length all ≡ (length all - 256) + 256 = omega (arith, le) in
      let more : (length all - 256) + 1 ≡ length (all ++ set ∷ []) - 256 = omega (arith, le, length-append all (set ∷ [])) in
      pushed_full all set n full ∙ ap (λ k. drop k (all ++ set ∷ [])) more)
]

-- so many were brought before
abbrev IsLast : List QuorumTree → List QuorumTree → StoreView → Type 0
IsLast before brought store = store.others ≡ last_of 256 (before ++ brought)

last_step : (before : List QuorumTree) (s : Settled) (item : Inbound) → s.store.others ≡ last_of 256 before → (rules s item).store.others ≡ last_of 256 (before ++ set_brought s item)
last_step before s item e = set_step (IsLast before) s item
    (e ∙ ap (last_of 256) (sym (append-nil before)))
    (λ set. ap (pushed set) e ∙ pushed_last before set)

last_along : (before : List QuorumTree) (s : Settled) (items : List Inbound) → s.store.others ≡ last_of 256 before → (settled_by s items).store.others ≡ last_of 256 (before ++ sets_brought s items)
last_along before s [] e = e ∙ ap (last_of 256) (sym (append-nil before))
last_along before s (item ∷ items) e =
    last_along (before ++ set_brought s item) (rules s item) items (last_step before s item e)
    ∙ ap (last_of 256) (append_assoc before (set_brought s item) (sets_brought (rules s item) items))

-- ---- what is found

some_is : {X : Type 0} (x y : X) → Some x ≡ Some y → x ≡ y
some_is x y e = cc

none_isnt : {X : Type 0} (x : X) → None ≡ Some x → ⊥
none_isnt x e = cc

-- a sane set of this hash
abbrev IsSound : Hash → QuorumTree → Type 0
IsSound hash set = IsSane set × (hash_of set ≡ hash)

found_in : (hash : Hash) (sets : List QuorumTree) (set : QuorumTree) → AllByRecursion IsSane sets → find (has_hash hash) sets ≡ Some set → IsSound hash set
found_in hash [] set sane e = absurd (none_isnt set e)
found_in hash (q ∷ qs) set sane e = by_test (has_hash hash q) refl (λ f. found_in hash qs set sane.1 f) e
  where
    by_test : (b : Bool) → has_hash hash q ≡ b → (find (has_hash hash) qs ≡ Some set → IsSound hash set) → cond b (Some q) (find (has_hash hash) qs) ≡ Some set → IsSound hash set
    by_test true k rest f = subst (IsSound hash) (some_is q set f) (sane.0, sym (same_hash-true hash (hash_of q) k))
    by_test false k rest f = rest f

looked_up : (hash : Hash) (store : StoreView) (set : QuorumTree) → IsSaneStore store → lookup hash store ≡ Some set → IsSound hash set
looked_up hash store set sane e = by_test (has_hash hash store.local) refl e
  where
    by_test : (b : Bool) → has_hash hash store.local ≡ b → cond b (Some store.local) (find (has_hash hash) store.others) ≡ Some set → IsSound hash set
    by_test true k f = subst (IsSound hash) (some_is store.local set f) (sane.0, sym (same_hash-true hash (hash_of store.local) k))
    by_test false k f = found_in hash store.others set sane.1 f

pub the_last_are_stored : TheLastAreStored
the_last_are_stored me peers local taken sane =
    let start = fresh me peers local in
    let now : Settled = settled_by start taken in
    let k : Sound start taken now _ = sound_along start [] taken start [] (sound_start me peers local sane) in
    let last : now.store.others ≡ last_of 256 (sets_brought start taken) = last_along [] start taken refl in
    record {
      last = last;
      few = omega (arith, ap length last, length-drop (length (sets_brought start taken) - 256) (sets_brought start taken));
      local_is_sane = k.sane.0;
      others_are_sane = k.sane.1;
      found = λ hash set e. looked_up hash now.store set k.sane e;
    }

-- ---- over which link

-- the place of the first of which the test holds
place_found : (node : NodeId) (peers : List NodeId) → is_among node peers ≡ true → slice_get peers (position_or_len (λ peer. same_node peer node) peers) ≡ Some node
place_found node [] e = absurd cc
place_found node (p ∷ ps) e = by_test (same_node p node) refl (λ h. place_found node ps h) e
  where
    by_test : (b : Bool) → same_node p node ≡ b → (is_among node ps ≡ true → slice_get ps (position_or_len (λ peer. same_node peer node) ps) ≡ Some node) → (b || is_among node ps) ≡ true → slice_get (p ∷ ps) (cond (not b) (1 + position_or_len (λ peer. same_node peer node) ps) 0) ≡ Some node
    by_test true k rest h = ap (λ (n : NodeId). Some n) (same_node-true p node k)
    by_test false k rest h = (let next : suc (position_or_len (λ peer. same_node peer node) ps) ≡ 1 + position_or_len (λ peer. same_node peer node) ps = omega arith in subst (λ n. slice_get (p ∷ ps) n ≡ Some node) next (rest h))

place_within : (node : NodeId) (peers : List NodeId) → is_among node peers ≡ true → position_or_len (λ peer. same_node peer node) peers < length peers
place_within node [] e = absurd cc
place_within node (p ∷ ps) e = by_test (same_node p node) (λ h. place_within node ps h) e
  where
    by_test : (b : Bool) → (is_among node ps ≡ true → position_or_len (λ peer. same_node peer node) ps < length ps) → (b || is_among node ps) ≡ true → cond (not b) (1 + position_or_len (λ peer. same_node peer node) ps) 0 < suc (length ps)
    by_test true rest h = omega arith
    by_test false rest h = (let k = rest h in omega (arith, k))

number_there : (node : NodeId) (s : Settled) → is_among node s.peers ≡ true → slice_get s.peers (link_number node s) ≡ Some node
number_there node s e =
    let place = position_or_len (λ peer. same_node peer node) s.peers in
    subst (λ (b : Bool). slice_get s.peers (unwrap_or (cond b (Some place) None) 0) ≡ Some node) (sym (lt-ltb place (length s.peers) (place_within node s.peers e))) (place_found node s.peers e)

module _ (me : NodeId) (peers : List NodeId) (local : QuorumTree) (taken : List Inbound) where
  abbrev s : Settled
  s = settled_by (fresh me peers local) taken

  over_link : (c : ConnId) → is_open c s.queues ≡ true → slice_get s.peers (link_number c.from s) ≡ Some c.from
  over_link c live = number_there c.from s (ap (is_among c.from) (who_it_is (fresh me peers local) taken).peers ∙ ((no_stranger me peers local taken).opened c live).from)

  -- ---- what is asked for

  abbrev wants : Carried → Option (ℕ × Message) → Type 0
  wants x o = IfReplied s (inbound.Carried x) o

  asked_by_name : (x : Carried) → is_open x.conn s.queues ≡ true → (o : Option Hash) → named x.message ≡ o → wants x (asks_named (link_number x.conn.from s) (waited_by (entering_by o s.store x)) s.wanted)
  asked_by_name x live None e = tt
  asked_by_name x live (Some hash) e = by_lookup (lookup hash s.store) refl
    where
      by_asked : lookup hash s.store ≡ None → (b : Bool) → is_asked hash (link_number x.conn.from s) s.wanted ≡ b → wants x (cond b None (Some (link_number x.conn.from s, message.GetSet hash)))
      by_asked none true a = tt
      by_asked none false a = record { x = x; came = refl; live = live; over = over_link x.conn live; names = e; unknown = none; unasked = a }

      by_lookup : (o : Option QuorumTree) → lookup hash s.store ≡ o → wants x (asks_named (link_number x.conn.from s) (waited_by (found x o)) s.wanted)
      by_lookup None none = subst (λ (n : Option Hash). wants x (asks_named (link_number x.conn.from s) n s.wanted)) (sym e) (by_asked none (is_asked hash (link_number x.conn.from s) s.wanted) refl)
      by_lookup (Some set) there = tt

  carried_asks : (x : Carried) → wants x (reply s (inbound.Carried x))
  carried_asks x = by_tests (is_open x.conn s.queues) (is_full x.conn s.queues) refl
    where
      by_tests : (o f : Bool) → is_open x.conn s.queues ≡ o → wants x (cond (o && not f) (asks (link_number x.conn.from s) (entering s.store x) s.wanted) None)
      by_tests true true live = tt
      by_tests true false live = asked_by_name x live (named x.message) refl
      by_tests false f live = tt

  -- ---- what is answered

  hash_found : (hash : Hash) (sets : List QuorumTree) (set : QuorumTree) → find (has_hash hash) sets ≡ Some set → hash_of set ≡ hash
  hash_found hash [] set e = absurd (none_isnt set e)
  hash_found hash (q ∷ qs) set e = by_test (has_hash hash q) refl (λ f. hash_found hash qs set f) e
    where
      by_test : (b : Bool) → has_hash hash q ≡ b → (find (has_hash hash) qs ≡ Some set → hash_of set ≡ hash) → cond b (Some q) (find (has_hash hash) qs) ≡ Some set → hash_of set ≡ hash
      by_test true k rest f = ap hash_of (sym (some_is q set f)) ∙ sym (same_hash-true hash (hash_of q) k)
      by_test false k rest f = rest f

  its_hash : (hash : Hash) (store : StoreView) (set : QuorumTree) → lookup hash store ≡ Some set → hash_of set ≡ hash
  its_hash hash store set e = by_test (has_hash hash store.local) refl e
    where
      by_test : (b : Bool) → has_hash hash store.local ≡ b → cond b (Some store.local) (find (has_hash hash) store.others) ≡ Some set → hash_of set ≡ hash
      by_test true k f = ap hash_of (sym (some_is store.local set f)) ∙ sym (same_hash-true hash (hash_of store.local) k)
      by_test false k f = hash_found hash store.others set f

  answers : (c : ConnId) (hash : Hash) → is_open c s.queues ≡ true → (o : Option QuorumTree) → lookup hash s.store ≡ o → IsReplied s (inbound.Side c (GetSet hash)) (link_number c.from s) (answer hash o)
  answers c hash live None e = (record { conn = c; came = refl; live = live; over = over_link c live }, e)
  answers c hash live (Some set) e =
      let is : hash_of set ≡ hash = its_hash hash s.store set e in
      let asked : IsAskedFor s (inbound.Side c (GetSet hash)) (link_number c.from s) hash = record { conn = c; came = refl; live = live; over = over_link c live } in
      (subst (IsAskedFor s (inbound.Side c (GetSet hash)) (link_number c.from s)) (sym is) asked, subst (λ (h : Hash). lookup h s.store ≡ Some set) (sym is) e)

  side_answers : (c : ConnId) (m : SideMessage) → IfReplied s (inbound.Side c m) (reply s (inbound.Side c m))
  side_answers c m = by_open (is_open c s.queues) refl m
    where
      by_open : (b : Bool) → is_open c s.queues ≡ b → (m : SideMessage) → IfReplied s (inbound.Side c m) (cond b (replies c m s) None)
      by_open true live (GetSet hash) = answers c hash live (lookup hash s.store) refl
      by_open true live (Set set) = tt
      by_open true live (NoSet hash) = tt
      by_open false live m = tt

pub replies_are_asked_for : RepliesAreAskedFor
replies_are_asked_for me peers local taken (inbound.Opened c) = tt
replies_are_asked_for me peers local taken (inbound.Carried x) = carried_asks me peers local taken x
replies_are_asked_for me peers local taken (inbound.Side c m) = side_answers me peers local taken c m
replies_are_asked_for me peers local taken (inbound.Closed c cause) = tt
replies_are_asked_for me peers local taken (inbound.Local command) = tt
