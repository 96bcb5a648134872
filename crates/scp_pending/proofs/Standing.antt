-- What is parked is as what was taken says.
use Rattle.std.proofs.Common.{◌≡◌, ℕ, ◌<◌, ◌≤◌, Bool, true, false, cond, not, List, [], ◌∷◌, ◌++◌, length, refl, sym, ◌∙◌, ap, subst, arith, map, inl, inr}
use Rattle.std.specs.Prelude.{◌&&◌, ◌||◌, nat_lt, find, Option, Some, None}
use Rattle.std.specs.List.{AllByRecursion}
use Rattle.std.proofs.lemmas.Bool.{ltb-true}
use Rattle.scp_wire.specs.scp_types.specs.declared.names.ConnId.{ConnId}
use Rattle.scp_wire.specs.scp_types.specs.declared.names.Hash.{Hash}
use Rattle.scp_wire.specs.scp_types.specs.declared.names.Seq.{Seq}
use Rattle.scp_wire.specs.scp_quorum.specs.QuorumTree.{QuorumTree}
use Rattle.scp_wire.specs.scp_quorum.specs.Sane.{IsSane}
use Rattle.scp_wire.specs.Sets.{IsSetOf}
use Rattle.scp_wire.specs.declared.carried.Carried.{Carried}
use Rattle.scp_wire.specs.declared.message.Message.{Message}
use Rattle.scp_wire.specs.declared.message.Message.TheVariants as message
use Rattle.scp_wire.specs.declared.side.SideMessage.TheVariants.{Set}
use Rattle.scp_wire.specs.declared.link.Inbound.{Inbound}
use Rattle.scp_wire.specs.declared.link.Inbound.TheVariants as inbound
use Rattle.scp_fetch.specs.declared.want.Want.{Want}
use Rattle.scp_fetch.specs.declared.want.Miss.{Miss}
use Rattle.scp_fetch.specs.declared.want.Miss.TheVariants.{One}
use Rattle.scp_pending.specs.declared.parked.Parked.{Parked}
use Rattle.scp_pending.specs.declared.parked.Parked.TheVariants.{Waits, Free, Lost}
use Rattle.scp_pending.specs.declared.pending.TheConstants.{PARKED_LIMIT}
use Rattle.scp_pending.specs.declared.ready.DropCause.{DropCause}
use Rattle.scp_pending.specs.declared.ready.DropCause.TheVariants.{BadSet, GaveUp, Closed as ByClose, ParkedFull as ByFull}
use Rattle.scp_pending.specs.declared.ready.Ready.TheVariants.{Dropped}
use Rattle.scp_pending.specs.Sanity.{is_sane, has_spelling}
use Rattle.scp_pending.proofs.Sanity.{sane_of_test}
use Rattle.scp_fetch.specs.Hashes.{same_hash}
use Rattle.scp_fetch.specs.Wants.{is_for, is_wanted, is_missed, is_last, missed_by, without, gives_up}
use Rattle.scp_fetch.specs.Store.{StoreView, has_hash, lookup, stored}
use Rattle.scp_pending.specs.Queues.{QueueView, is_open, is_of, parked_of, waits, at_slot, fate, leaves_of, stays_in, served, leaves_in, leaving_of, named, is_hash, hash_of, waits_for, resolved_one, resolved_in, resolved, with_set, lost_by}
use Rattle.scp_pending.specs.Rules.{Settled, settled_by, rules, entering_by, entering, found, wanted_named, wanted_with, by_answer}
use Rattle.scp_pending.specs.Causes.{is_set, is_bad, is_miss, has, plus, Place, behind, Waiting, misses_since, CameAfter, StoodThen, IsTaken, IsBadSet, IsMissed, IsGivenUp, HasCause, HeadWaits}
use Rattle.scp_pending.proofs.Basics.{append_nil, or_right, and_both, same_hash-refl, same_hash-true, same_hash-sym, same_conn-refl, same_conn-true, all_step, all_weaker, all_left, all_filter, all_flat}
use Rattle.scp_pending.proofs.Later.{later, settled-push, now_from, has-later, times-later, Waiting-later, IsTaken-later, IsBadSet-later, IsMissed-later, IsGivenUp-later}
use Rattle.scp_pending.proofs.Stored.{known_stored, unknown_still, answer_stores}
use Rattle.scp_pending.proofs.Wanting.{AtLeast, zero_least, wanted_by-own, is_for-true, wanted-without, wanted-missed, least-missed, few_of, one_of}
use Rattle.scp_wire.specs.Connections.{same_conn}
use Rattle.scp_wire.specs.Lanes.{slot_of, HasSlot, HaveSlots}
use Rattle.scp_pending.proofs.Laning.{HasLane, AreHeld, stays_held, stays_few, stays_all, leaves_all, FirstIs, first_waits}
use Rattle.scp_pending.proofs.Serving.{IsParkedOf}

pub record WaitsWell (start : Settled) (taken : List Inbound) (wanted : List Want) (x : Carried) : Type 0 where
  pub hash : Hash
  pub waiting : Waiting start taken x hash
  pub wanted_still : is_wanted hash wanted ≡ true
  pub least : AtLeast (misses_since waiting) hash wanted

abbrev pub IsWant : Settled → List Inbound → Want → Type 0
IsWant start taken want = IsMissed start taken want.hash want.misses × (want.misses < 12)

-- what waits has been missed fewer than twelve times
patient : (start : Settled) (taken : List Inbound) (wanted : List Want) (x : Carried) → AllByRecursion (IsWant start taken) wanted → (w : WaitsWell start taken wanted x) → misses_since w.waiting < 12
patient start taken wanted x ws w = few_of (misses_since w.waiting) w.hash wanted w.wanted_still (all_weaker (IsWant start taken) (λ (want : Want). want.misses < 12) wanted (λ want h. h.1) ws) w.least

abbrev pub StandsLost : Settled → List Inbound → ConnId → Seq → DropCause → Type 0
StandsLost start taken c seq BadSet = IsBadSet start taken c seq
StandsLost start taken c seq GaveUp = IsGivenUp start taken c seq
StandsLost start taken c seq ByClose = ⊥
StandsLost start taken c seq ByFull = ⊥

abbrev pub Stands : Settled → List Inbound → List Want → ConnId → Parked → Type 0
Stands start taken wanted c (Waits x) = (x.conn ≡ c) × WaitsWell start taken wanted x
Stands start taken wanted c (Free d) = (d.conn ≡ c) × IsTaken start taken d
Stands start taken wanted c (Lost x cause) = (x.conn ≡ c) × Place start taken x × StandsLost start taken c x.seq cause

abbrev pub AllStand : Settled → List Inbound → List Want → QueueView → Type 0
AllStand start taken wanted q = AllByRecursion (Stands start taken wanted q.conn) q.parked

-- no Set with this hash comes; it is wanted as before, and its misses are counted
abbrev pub Keeps : Settled → List Want → List Want → Inbound → Hash → Type 0
Keeps s wanted wanted' item hash = (is_set hash s item ≡ false) × (is_wanted hash wanted' ≡ true) × ((n : ℕ) → AtLeast n hash wanted → AtLeast (plus n (is_miss hash s item)) hash wanted')

pub waits_on : (start : Settled) (taken : List Inbound) (s : Settled) (wanted wanted' : List Want) (x : Carried) (item : Inbound) → s ≡ settled_by start taken → (w : WaitsWell start taken wanted x) → Keeps s wanted wanted' item w.hash → WaitsWell start (taken ++ item ∷ []) wanted' x
waits_on start taken s wanted wanted' x item e w k = record {
  hash = w.hash;
  waiting = Waiting-later start taken s x w.hash item e k.0 w.waiting;
  wanted_still = k.1;
  least = subst (λ (n : ℕ). AtLeast n w.hash wanted') (sym (times-later (is_miss w.hash) start taken s x item w.waiting.place e)) (k.2 (misses_since w.waiting) w.least);
}

lost_later : (start : Settled) (taken : List Inbound) (s : Settled) (item : Inbound) (c : ConnId) (seq : Seq) (cause : DropCause) → s ≡ settled_by start taken → StandsLost start taken c seq cause → StandsLost start (taken ++ item ∷ []) c seq cause
lost_later start taken s item c seq BadSet e h = IsBadSet-later start taken s item c seq e h
lost_later start taken s item c seq GaveUp e h = IsGivenUp-later start taken item c seq h
lost_later start taken s item c seq ByClose e h = h
lost_later start taken s item c seq ByFull e h = h

waits_named : (start : Settled) (taken : List Inbound) (wanted : List Want) (x : Carried) (w : WaitsWell start taken wanted x) → is_hash w.hash (named x.message) ≡ true
waits_named start taken wanted x w = ap (is_hash w.hash) w.waiting.names ∙ same_hash-refl w.hash

-- what is parked stands as before
pub stays : (start : Settled) (taken : List Inbound) (s : Settled) (wanted wanted' : List Want) (item : Inbound) (c : ConnId) (p : Parked) → s ≡ settled_by start taken → ((hash : Hash) → waits_for hash p ≡ true → is_wanted hash wanted ≡ true → Keeps s wanted wanted' item hash) → Stands start taken wanted c p → Stands start (taken ++ item ∷ []) wanted' c p
stays start taken s wanted wanted' item c (Waits x) e k w = (w.0, waits_on start taken s wanted wanted' x item e w.1 (k w.1.hash (waits_named start taken wanted x w.1) w.1.wanted_still))
stays start taken s wanted wanted' item c (Free d) e k w = (w.0, IsTaken-later start taken item d w.1)
stays start taken s wanted wanted' item c (Lost x cause) e k w = (w.0, later start taken x item w.1, lost_later start taken s item c x.seq cause e w.2)

-- ---- what leaves has its cause, and what stays stands

pub mine_of : (start : Settled) (taken : List Inbound) (wanted : List Want) (c : ConnId) (p : Parked) → Stands start taken wanted c p → IsParkedOf c p
mine_of start taken wanted c (Waits x) w = w.0
mine_of start taken wanted c (Free d) w = w.0
mine_of start taken wanted c (Lost x cause) w = w.0

lost_cause : (start : Settled) (taken : List Inbound) (c : ConnId) (seq : Seq) (cause : DropCause) → StandsLost start taken c seq cause → HasCause start taken (Dropped c seq cause)
lost_cause start taken c seq BadSet h = h
lost_cause start taken c seq GaveUp h = h
lost_cause start taken c seq ByClose h = absurd h
lost_cause start taken c seq ByFull h = absurd h

pub fate_caused : (start : Settled) (taken : List Inbound) (wanted : List Want) (c : ConnId) (p : Parked) → Stands start taken wanted c p → AllByRecursion (HasCause start taken) (fate c p)
fate_caused start taken wanted c (Waits x) w = tt
fate_caused start taken wanted c (Free d) w = (w.1, tt)
fate_caused start taken wanted c (Lost x cause) w = (lost_cause start taken c x.seq cause w.2, tt)

pub leaves_caused : (start : Settled) (taken : List Inbound) (wanted : List Want) (c : ConnId) (ps : List Parked) → AllByRecursion (Stands start taken wanted c) ps → AllByRecursion (HasCause start taken) (leaves_of c ps)
leaves_caused start taken wanted c ps a = leaves_all (Stands start taken wanted c) (HasCause start taken) c [] ps (λ p w. fate_caused start taken wanted c p w) a

-- each number is of its lane, by the slots of what was taken
slot_at : (c : ConnId) (slots : ℕ → ℕ) (before after : List Inbound) (x : Carried) → HaveSlots c slots (before ++ inbound.Carried x ∷ after) → HasSlot c slots (inbound.Carried x)
slot_at c slots before after x a = (all_left (HasSlot c slots) before (inbound.Carried x ∷ after) a).1.0

slot_of_place : (start : Settled) (taken : List Inbound) (c : ConnId) (slots : ℕ → ℕ) (x : Carried) → Place start taken x → x.conn ≡ c → HaveSlots c slots taken → slots x.seq.0 ≡ slot_of x.message
slot_of_place start taken c slots x place mine a = slot_at c slots place.before place.after x (subst (HaveSlots c slots) place.at a) (ap (λ (d : ConnId). same_conn d c) mine ∙ same_conn-refl c)

lane_one : (start : Settled) (taken : List Inbound) (wanted : List Want) (c : ConnId) (slots : ℕ → ℕ) → HaveSlots c slots taken → (p : Parked) → Stands start taken wanted c p → HasLane slots p
lane_one start taken wanted c slots a (Waits x) w = slot_of_place start taken c slots x w.1.waiting.place w.0 a
lane_one start taken wanted c slots a (Free d) w = ap (λ (q : Seq). slots q.0) (sym w.1.seq) ∙ slot_of_place start taken c slots w.1.x w.1.place (w.1.conn ∙ w.0) a ∙ ap slot_of w.1.message
lane_one start taken wanted c slots a (Lost x cause) w = slot_of_place start taken c slots x w.1 w.0 a

pub lanes_of_queues : (start : Settled) (taken : List Inbound) (wanted : List Want) (c : ConnId) (slots : ℕ → ℕ) (qs : List QueueView) → HaveSlots c slots taken → AllByRecursion (AllStand start taken wanted) qs → AllByRecursion (HasLane slots) (parked_of c qs)
lanes_of_queues start taken wanted c slots [] h a = tt
lanes_of_queues start taken wanted c slots (q ∷ qs) h a = by_test (is_of c q) refl (lanes_of_queues start taken wanted c slots qs h a.1)
  where
    by_test : (b : Bool) → is_of c q ≡ b → AllByRecursion (HasLane slots) (parked_of c qs) → AllByRecursion (HasLane slots) (cond b q.parked (parked_of c qs))
    by_test true k rest = all_weaker (Stands start taken wanted c) (HasLane slots) q.parked (λ p w. lane_one start taken wanted c slots h p w) (subst (λ (d : ConnId). AllByRecursion (Stands start taken wanted d) q.parked) (same_conn-true q.conn c k) a.0)
    by_test false k rest = rest

-- a queue between two takes: each in it is held back, at most 64 are in it, and all in it stand
pub record Fits (start : Settled) (taken : List Inbound) (wanted : List Want) (q : QueueView) : Type 0 where
  pub waits : AreHeld [] q.parked
  pub few : length q.parked ≤ PARKED_LIMIT
  pub stands : AllStand start taken wanted q

-- and before its head leaves
pub record FitsButHead (start : Settled) (taken : List Inbound) (wanted : List Want) (q : QueueView) : Type 0 where
  pub few : length q.parked ≤ PARKED_LIMIT
  pub stands : AllStand start taken wanted q

pub served_fit : (start : Settled) (taken : List Inbound) (wanted : List Want) (qs : List QueueView) → AllByRecursion (FitsButHead start taken wanted) qs → AllByRecursion (Fits start taken wanted) (served qs) × AllByRecursion (HasCause start taken) (leaving_of qs)
served_fit start taken wanted qs a = (
  all_step (FitsButHead start taken wanted) (Fits start taken wanted) stays_in qs (λ q h. record { waits = stays_held [] q.parked; few = omega (arith, h.few, stays_few [] q.parked); stands = stays_all (Stands start taken wanted q.conn) [] q.parked h.stands }) a,
  all_flat (FitsButHead start taken wanted) (HasCause start taken) leaves_in qs (λ q h. leaves_caused start taken wanted q.conn q.parked h.stands) a,
)

pub resolved_fit : (start : Settled) (taken taken' : List Inbound) (wanted wanted' : List Want) (test : Option Hash → Bool) (f : Carried → Parked) (qs : List QueueView) → ((c : ConnId) (p : Parked) → Stands start taken wanted c p → Stands start taken' wanted' c (resolved_one test f p)) → AllByRecursion (Fits start taken wanted) qs → AllByRecursion (FitsButHead start taken' wanted') (resolved test f qs)
resolved_fit start taken taken' wanted wanted' test f qs h a = all_step (Fits start taken wanted) (FitsButHead start taken' wanted') (resolved_in test f) qs (λ q k. record { few = subst (λ (n : ℕ). n ≤ PARKED_LIMIT) (sym (same_length q.parked)) k.few; stands = all_step (Stands start taken wanted q.conn) (Stands start taken' wanted' q.conn) (resolved_one test f) q.parked (h q.conn) k.stands }) a
  where
    same_length : (ps : List Parked) → length (map (resolved_one test f) ps) ≡ length ps
    same_length [] = refl
    same_length (p ∷ ps) = omega (arith, same_length ps)

-- all stays as it is
pub quiet : (start : Settled) (taken : List Inbound) (s : Settled) (wanted' : List Want) (item : Inbound) (qs : List QueueView) → s ≡ settled_by start taken → ((hash : Hash) → is_wanted hash s.wanted ≡ true → Keeps s s.wanted wanted' item hash) → AllByRecursion (Fits start taken s.wanted) qs → AllByRecursion (Fits start (taken ++ item ∷ []) wanted') qs
quiet start taken s wanted' item qs e k a = all_weaker (Fits start taken s.wanted) (Fits start (taken ++ item ∷ []) wanted') qs (λ q h. record { waits = h.waits; few = h.few; stands = all_weaker (Stands start taken s.wanted q.conn) (Stands start (taken ++ item ∷ []) wanted' q.conn) q.parked (λ p w. stays start taken s s.wanted wanted' item q.conn p e (λ hash f is. k hash is) w) h.stands }) a

-- ---- stored sets

some_eq : {X : Type 0} (a b : X) → Some a ≡ Some b → a ≡ b
some_eq a b e = cc

find_ok : (hash : Hash) (xs : List QuorumTree) (set : QuorumTree) → AllByRecursion IsSane xs → find (has_hash hash) xs ≡ Some set → IsSane set × (hash_of set ≡ hash)
find_ok hash [] set a e = absurd cc
find_ok hash (x ∷ xs) set a e = by_test (has_hash hash x) refl e (find_ok hash xs set a.1)
  where
    by_test : (b : Bool) → has_hash hash x ≡ b → cond b (Some x) (find (has_hash hash) xs) ≡ Some set → (find (has_hash hash) xs ≡ Some set → IsSane set × (hash_of set ≡ hash)) → IsSane set × (hash_of set ≡ hash)
    by_test true h e rest = let same : x ≡ set = some_eq x set e in (subst IsSane same a.0, sym (ap hash_of same) ∙ sym (same_hash-true hash (hash_of x) h))
    by_test false h e rest = rest e

pub lookup_ok : (hash : Hash) (store : StoreView) (set : QuorumTree) → IsSane store.local → AllByRecursion IsSane store.others → lookup hash store ≡ Some set → IsSane set × (hash_of set ≡ hash)
lookup_ok hash store set local a e = by_test (has_hash hash store.local) refl e
  where
    by_test : (b : Bool) → has_hash hash store.local ≡ b → cond b (Some store.local) (find (has_hash hash) store.others) ≡ Some set → IsSane set × (hash_of set ≡ hash)
    by_test true h e = let same : store.local ≡ set = some_eq store.local set e in (subst IsSane same local, sym (ap hash_of same) ∙ sym (same_hash-true hash (hash_of store.local) h))
    by_test false h e = find_ok hash store.others set a e

pub set_none : (m : Message) → named m ≡ None → IsSetOf m None
set_none (message.Envelope envelope) e = absurd cc
set_none (message.GetSet hash) e = refl
set_none (message.Set set) e = refl
set_none (message.NoSet hash) e = refl
set_none (message.GetRecord slot) e = refl
set_none (message.Record slot value) e = refl
set_none (message.Records first values) e = refl

pub set_some : (m : Message) (set : QuorumTree) → named m ≡ Some (hash_of set) → IsSane set → IsSetOf m (Some set)
set_some (message.Envelope envelope) set e sane = (sane, ap (λ (h : Hash). h.0) (some_eq _ _ e))
set_some (message.GetSet hash) set e sane = absurd cc
set_some (message.Set inside) set e sane = absurd cc
set_some (message.NoSet hash) set e sane = absurd cc
set_some (message.GetRecord slot) set e sane = absurd cc
set_some (message.Record slot value) set e sane = absurd cc
set_some (message.Records first values) set e sane = absurd cc

-- a message that comes right now
pub new_stands : (start : Settled) (taken : List Inbound) (s : Settled) (link : ℕ) (y : Carried) → s ≡ settled_by start taken → IsSane s.store.local → AllByRecursion IsSane s.store.others → is_open y.conn s.queues ≡ true → Stands start (taken ++ inbound.Carried y ∷ []) (wanted_with link y.conn (entering s.store y) s.wanted) y.conn (entering s.store y)
new_stands start taken s link y e local sets live = by_named (named y.message) refl
  where
    place : Place start (taken ++ inbound.Carried y ∷ []) y
    place = record { before = taken; after = []; at = refl; live = subst (λ (t : Settled). is_open y.conn t.queues ≡ true) e live }

    by_lookup : (hash : Hash) (o : Option QuorumTree) → named y.message ≡ Some hash → lookup hash s.store ≡ o → Stands start (taken ++ inbound.Carried y ∷ []) (wanted_with link y.conn (found y o) s.wanted) y.conn (found y o)
    by_lookup hash None names none = (
      refl,
      record {
        hash = hash;
        waiting = record { place = place; names = names; unknown = subst (λ (t : Settled). lookup hash t.store ≡ None) e none; no_set = refl };
        wanted_still = ap (λ (o : Option Hash). is_wanted hash (wanted_named link y.conn o s.wanted)) names ∙ wanted_by-own hash link y.conn s.wanted;
        least = zero_least hash (wanted_named link y.conn (named y.message) s.wanted);
      },
    )
    by_lookup hash (Some set) names there = let ok = lookup_ok hash s.store set local sets there in (refl, record { x = y; place = place; conn = refl; seq = refl; message = refl; set = set_some y.message set (names ∙ ap (λ (h : Hash). Some h) (sym ok.1)) ok.0; stood = subst (λ (o : Option Hash). StoodThen start (taken ++ inbound.Carried y ∷ []) y place o (Some set)) (sym names) (inl (subst (λ (t : Settled). lookup hash t.store ≡ Some set) e there)) })

    by_named : (o : Option Hash) → named y.message ≡ o → Stands start (taken ++ inbound.Carried y ∷ []) (wanted_with link y.conn (entering_by o s.store y) s.wanted) y.conn (entering_by o s.store y)
    by_named None names = (refl, record { x = y; place = place; conn = refl; seq = refl; message = refl; set = set_none y.message names; stood = subst (λ (o : Option Hash). StoodThen start (taken ++ inbound.Carried y ∷ []) y place o None) (sym names) tt })
    by_named (Some hash) names = by_lookup hash (lookup hash s.store) names refl

-- ---- a Set that is wanted

pub answer_stands : (start : Settled) (taken : List Inbound) (s : Settled) (d : ConnId) (set : QuorumTree) → s ≡ settled_by start taken → is_open d s.queues ≡ true → has_spelling set ≡ true → is_wanted (hash_of set) s.wanted ≡ true → AllByRecursion (IsWant start taken) s.wanted → (c : ConnId) (p : Parked) → Stands start taken s.wanted c p → Stands start (taken ++ inbound.Side d (Set set) ∷ []) (without (hash_of set) s.wanted) c (resolved_one (is_hash (hash_of set)) (by_answer set) p)
answer_stands start taken s d set e live spelt is ws c (Free delivery) w = (w.0, IsTaken-later start taken (inbound.Side d (Set set)) delivery w.1)
answer_stands start taken s d set e live spelt is ws c (Lost x cause) w = (w.0, later start taken x (inbound.Side d (Set set)) w.1, lost_later start taken s (inbound.Side d (Set set)) c x.seq cause e w.2)
answer_stands start taken s d set e live spelt is ws c (Waits x) w = by_test (is_hash (hash_of set) (named x.message)) refl
  where
    item : Inbound
    item = inbound.Side d (Set set)

    as_named : (b : Bool) → is_hash (hash_of set) (named x.message) ≡ b → same_hash (hash_of set) w.1.hash ≡ b
    as_named b k = sym (ap (is_hash (hash_of set)) w.1.waiting.names) ∙ k

    here : Place start taken x
    here = w.1.waiting.place

    now : s ≡ settled_by (behind here) here.after
    now = e ∙ now_from start taken x here

    -- it is stored, since it wasn't yet
    in_store : is_sane set ≡ true → hash_of set ≡ w.1.hash → lookup w.1.hash (rules s item).store ≡ Some set
    in_store sane same =
        let none : lookup (hash_of set) s.store ≡ None = subst (λ (h : Hash). lookup h s.store ≡ None) (sym same) (subst (λ (t : Settled). lookup w.1.hash t.store ≡ None) (sym e) (unknown_still start taken x w.1.hash w.1.waiting)) in
        ap (lookup w.1.hash) (answer_stores d set s live spelt is sane) ∙ subst (λ (h : Hash). lookup h (stored set s.store) ≡ Some set) same (known_stored set s.store none)

    came : is_sane set ≡ true → hash_of set ≡ w.1.hash → CameAfter start (taken ++ item ∷ []) x (later start taken x item here) w.1.hash set
    came sane same =
        let mine : is_set w.1.hash s item ≡ true = rw (live, spelt, ← same, same_hash-refl (hash_of set)) refl in
        record {
          unknown = w.1.waiting.unknown;
          between = here.after;
          conn = d;
          rest = [];
          at = refl;
          no_set = w.1.waiting.no_set;
          patient = patient start taken s.wanted x ws w.1;
          first = subst (λ (t : Settled). is_set w.1.hash t item ≡ true) now mine;
          stood = ap (λ (t : Settled). lookup w.1.hash t.store) (settled-push (behind here) here.after item ∙ ap (λ (t : Settled). rules t item) (sym now)) ∙ in_store sane same;
        }

    has_it : (b : Bool) → is_sane set ≡ b → hash_of set ≡ w.1.hash → Stands start (taken ++ item ∷ []) (without (hash_of set) s.wanted) c ((cond b (with_set (Some set)) (lost_by BadSet)) x)
    has_it true sane same = (
      w.0,
      record {
        x = x;
        place = later start taken x item w.1.waiting.place;
        conn = refl;
        seq = refl;
        message = refl;
        set = set_some x.message set (w.1.waiting.names ∙ ap (λ (h : Hash). Some h) (sym same)) (sane_of_test set sane);
        stood = subst (λ (o : Option Hash). StoodThen start (taken ++ item ∷ []) x (later start taken x item w.1.waiting.place) o (Some set)) (sym w.1.waiting.names) (inr (came sane same));
      },
    )
    has_it false sane same =
        let mine : is_bad w.1.hash s item ≡ true = rw (live, spelt, ← same, same_hash-refl (hash_of set), sane) refl in
        let place : Place start (taken ++ item ∷ []) x = later start taken x item w.1.waiting.place in (
          w.0,
          place,
          record {
            x = x;
            conn = w.0;
            seq_is = refl;
            hash = w.1.hash;
            names = w.1.waiting.names;
            place = place;
            bad = has-later (is_bad w.1.hash) start taken s x item w.1.waiting.place e ∙ or_right (has (is_bad w.1.hash) (behind w.1.waiting.place) w.1.waiting.place.after) (is_bad w.1.hash s item) mine;
          },
        )

    by_test : (b : Bool) → is_hash (hash_of set) (named x.message) ≡ b → Stands start (taken ++ item ∷ []) (without (hash_of set) s.wanted) c (cond b (by_answer set x) (Waits x))
    by_test true k = has_it (is_sane set) refl (same_hash-true (hash_of set) w.1.hash (as_named true k))
    by_test false k = (w.0, waits_on start taken s s.wanted (without (hash_of set) s.wanted) x item e w.1 (rw (live, spelt, same_hash-sym w.1.hash (hash_of set), as_named false k) refl, wanted-without w.1.hash (hash_of set) s.wanted (as_named false k) w.1.wanted_still, λ n l. all_filter (λ (want : Want). want.hash ≡ w.1.hash → n ≤ want.misses) (λ want. not (is_for (hash_of set) want)) s.wanted l))

-- ---- misses

given_up_now : (start : Settled) (taken : List Inbound) (s : Settled) (miss : Miss) (x : Carried) (item : Inbound) (c : ConnId) (w : WaitsWell start taken s.wanted x) → x.conn ≡ c → s ≡ settled_by start taken → is_set w.hash s item ≡ false → is_miss w.hash s item ≡ is_missed miss w.hash → gives_up miss s.wanted w.hash ≡ true → AllByRecursion (IsWant start taken) s.wanted → IsGivenUp start (taken ++ item ∷ []) c x.seq
given_up_now start taken s miss x item c w conn e none hit g ws =
    let one = one_of (IsWant start taken) (λ want. is_for w.hash want && is_last miss want) s.wanted ws g in
    let both = and_both (is_for w.hash one.0) (is_last miss one.0) one.2 in
    let own : one.0.hash ≡ w.hash = sym (is_for-true w.hash one.0 both.0) in
    let last = and_both (is_missed miss one.0.hash) (nat_lt 10 one.0.misses) both.1 in
    let eleven : one.0.misses ≡ 11 = omega (arith, ltb-true 10 one.0.misses last.1, one.1.1) in
    let mine : is_miss w.hash s item ≡ true = hit ∙ ap (λ h. is_missed miss h) (sym own) ∙ last.0 in
    let before : IsMissed start taken w.hash 11 = subst (λ (n : ℕ). IsMissed start taken w.hash n) eleven (subst (λ (h : Hash). IsMissed start taken h one.0.misses) own one.1.0) in
    record {
      x = x;
      conn = conn;
      seq_is = refl;
      hash = w.hash;
      names = w.waiting.names;
      until = taken;
      last = item;
      rest = [];
      at = sym (append_nil (taken ++ item ∷ []));
      place = w.waiting.place;
      last_miss = subst (λ (t : Settled). is_miss w.hash t item ≡ true) e mine;
      twelve = subst (λ (b : Bool). IsMissed start (taken ++ item ∷ []) w.hash (plus 11 b)) mine (IsMissed-later start taken s w.hash 11 item e none before);
    }

-- what a miss keeps
pub keeps_missed : (s : Settled) (miss : Miss) (item : Inbound) (hash : Hash) → is_set hash s item ≡ false → is_miss hash s item ≡ is_missed miss hash → gives_up miss s.wanted hash ≡ false → is_wanted hash s.wanted ≡ true → Keeps s s.wanted (missed_by miss s.wanted) item hash
keeps_missed s miss item hash none hit g is = (none, wanted-missed miss hash s.wanted g is, λ n l. rw hit (least-missed miss n hash (is_missed miss hash) s.wanted refl l))

pub miss_stands : (start : Settled) (taken : List Inbound) (s : Settled) (miss : Miss) (item : Inbound) (test : Option Hash → Bool) → s ≡ settled_by start taken → ((hash : Hash) → (is_set hash s item ≡ false) × (is_miss hash s item ≡ is_missed miss hash)) → ((hash : Hash) → is_wanted hash s.wanted ≡ true → test (Some hash) ≡ gives_up miss s.wanted hash) → AllByRecursion (IsWant start taken) s.wanted → (c : ConnId) (p : Parked) → Stands start taken s.wanted c p → Stands start (taken ++ item ∷ []) (missed_by miss s.wanted) c (resolved_one test (lost_by GaveUp) p)
miss_stands start taken s miss item test e k t ws c (Free delivery) w = (w.0, IsTaken-later start taken item delivery w.1)
miss_stands start taken s miss item test e k t ws c (Lost x cause) w = (w.0, later start taken x item w.1, lost_later start taken s item c x.seq cause e w.2)
miss_stands start taken s miss item test e k t ws c (Waits x) w = by_test (test (named x.message)) refl
  where
    as_named : (b : Bool) → test (named x.message) ≡ b → gives_up miss s.wanted w.1.hash ≡ b
    as_named b h = sym (t w.1.hash w.1.wanted_still) ∙ sym (ap test w.1.waiting.names) ∙ h

    by_test : (b : Bool) → test (named x.message) ≡ b → Stands start (taken ++ item ∷ []) (missed_by miss s.wanted) c (cond b (Lost x GaveUp) (Waits x))
    by_test true h = (w.0, later start taken x item w.1.waiting.place, given_up_now start taken s miss x item c w.1 w.0 e (k w.1.hash).0 (k w.1.hash).1 (as_named true h) ws)
    by_test false h = (w.0, waits_on start taken s s.wanted (missed_by miss s.wanted) x item e w.1 (keeps_missed s miss item w.1.hash (k w.1.hash).0 (k w.1.hash).1 (as_named false h) w.1.wanted_still))

-- a miss of one hash gives up no other
pub gives_up_other : (hash other : Hash) (ws : List Want) → same_hash hash other ≡ false → gives_up (One hash) ws other ≡ false
gives_up_other hash other [] ne = refl
gives_up_other hash other (v ∷ vs) ne = rw (gives_up_other hash other vs ne) (by_test (is_for other v) refl)
  where
    by_test : (b : Bool) → is_for other v ≡ b → ((b && (same_hash hash v.hash && nat_lt 10 v.misses)) || false) ≡ false
    by_test true f = (let no : same_hash hash v.hash ≡ false = subst (λ (h : Hash). same_hash hash h ≡ false) (is_for-true other v f) ne in rw no refl)
    by_test false f = refl

-- ---- heads

-- the head of a lane of a queue that fits waits rightly
pub head_waits : (start : Settled) (taken : List Inbound) (wanted : List Want) → AllByRecursion (IsWant start taken) wanted → (q : QueueView) → Fits start taken wanted q → (s : ℕ) → HeadWaits start taken q.conn (at_slot s q.parked)
head_waits start taken wanted ws q f s = by_head (at_slot s q.parked) (first_waits (Stands start taken wanted q.conn) s [] q.parked f.waits refl f.stands)
  where
    by_head : (ps : List Parked) → FirstIs (λ p. Stands start taken wanted q.conn p × (waits p ≡ true)) ps → HeadWaits start taken q.conn ps
    by_head [] a = tt
    by_head (Waits x ∷ ps) a = (a.0.0, record { hash = a.0.1.hash; waiting = a.0.1.waiting; patient = patient start taken wanted x ws a.0.1 })
    by_head (Free d ∷ ps) a = absurd (let bad : false ≡ true = a.1 in cc)
    by_head (Lost x cause ∷ ps) a = absurd (let bad : false ≡ true = a.1 in cc)
