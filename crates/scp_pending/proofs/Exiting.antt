-- How each message of a connection left, one item after another.
use Rattle.std.proofs.Common.{◌≡◌, ◌≢◌, ℕ, ◌+◌, ◌<◌, ◌≤◌, Bool, true, false, cond, not, List, [], ◌∷◌, ◌++◌, length, refl, sym, ◌∙◌, ap, subst, arith, append_assoc, nat_eq, map, inl, inr, ◌⊎◌}
use Rattle.std.specs.Prelude.{◌&&◌, ◌||◌, Option, Some, None}
use Rattle.std.specs.List.{list_any, AllByRecursion}
use Rattle.std.proofs.lemmas.Bool.{leb-true, eqb-true}
use Rattle.std.specs.List.{range_with_len}
use Rattle.std.specs.List.Sorted.{IsPermutation}
use Rattle.std.proofs.lemmas.List.{length-append, length-map}
use Rattle.std.proofs.lemmas.List.Sorted.{IsPermutation-append_left}
use Rattle.scp_wire.specs.scp_types.specs.declared.names.ConnId.{ConnId}
use Rattle.scp_wire.specs.scp_types.specs.declared.names.Hash.{Hash}
use Rattle.scp_wire.specs.scp_types.specs.declared.names.Seq.{Seq}
use Rattle.scp_wire.specs.scp_quorum.specs.QuorumTree.{QuorumTree}
use Rattle.scp_wire.specs.declared.carried.Carried.{Carried}
use Rattle.scp_wire.specs.declared.side.SideMessage.{SideMessage}
use Rattle.scp_wire.specs.declared.side.SideMessage.TheVariants.{GetSet, Set, NoSet}
use Rattle.scp_wire.specs.declared.link.Cause.{Cause}
use Rattle.scp_wire.specs.declared.link.Cause.TheVariants.{ParkedFull}
use Rattle.scp_wire.specs.declared.link.Command.TheVariants.{Tick, Propose, Round, Timer, Ask}
use Rattle.scp_wire.specs.declared.link.Inbound.{Inbound}
use Rattle.scp_wire.specs.declared.link.Inbound.TheVariants as inbound
use Rattle.scp_wire.specs.Connections.{same_conn}
use Rattle.scp_wire.specs.Marks.{Mark, number, ended, one_if}
use Rattle.scp_wire.specs.Lanes.{slot_of, in_lane, HasSlot}
use Rattle.scp_fetch.specs.declared.want.Want.{Want}
use Rattle.scp_fetch.specs.declared.want.Miss.TheVariants.{One}
use Rattle.scp_fetch.specs.Wants.{gives_up, last_missed}
use Rattle.scp_fetch.specs.Store.{lookup}
use Rattle.scp_pending.specs.declared.parked.Parked.{Parked}
use Rattle.scp_pending.specs.declared.parked.Parked.TheVariants.{Waits, Free, Lost}
use Rattle.scp_pending.specs.declared.pending.TheConstants.{PARKED_LIMIT}
use Rattle.scp_pending.specs.declared.ready.DropCause.{DropCause}
use Rattle.scp_pending.specs.declared.ready.DropCause.TheVariants.{BadSet, GaveUp, Closed as ByClose, ParkedFull as ByFull}
use Rattle.scp_pending.specs.declared.ready.Ready.{Ready}
use Rattle.scp_pending.specs.declared.ready.Ready.TheVariants.{Deliver, Dropped, Closed, Local}
use Rattle.scp_pending.specs.Sanity.{is_sane}
use Rattle.scp_pending.specs.Queues.{QueueView, is_of, is_open, parked_of, lane_of, is_at, at_slot, waits, is_held, fate, leaves_of, leaves_in, leaving_of, in_order_of, seq_of, named, is_hash, hash_of, resolved_one, resolved_in, resolved, with_set, lost_by, dropped}
use Rattle.scp_pending.specs.Rules.{Settled, settled_by, rules, releases, entering_by, entering, found, is_full, overflows, goes_through, by_answer, is_answer, is_given_up, heard_out}
use Rattle.scp_pending.specs.Line.{ready_mark, marks_of, parked_mark, marks_parked}
use Rattle.scp_pending.specs.Causes.{is_miss, IsWaiting, HeadWaits}
use Rattle.scp_pending.specs.Endings.{Way, went, by_close, by_full, over, way_by, way, ways, number_of, numbers_of, HasWent, AllWent, seqs_at, Ascend, FirstWaits, IsClosedOff, IsCutOff, Exits}
use Rattle.scp_pending.proofs.Basics.{append_nil, clash, and_both, if_any, same_number, map-append, flat-append, same_conn-true, same_conn-refl, all_step, all_weaker, all_append}
use Rattle.scp_pending.proofs.Later.{settled-push, times-later, Waiting-later}
use Rattle.scp_pending.proofs.Laning.{HasLane, filter-append, leaves_all}
use Rattle.scp_pending.proofs.Serving.{AreSingle, AreMine, parked_shut, all_in_order}
use Rattle.scp_pending.proofs.Standing.{Stands, StandsLost, Fits, IsWant, head_waits}
use Rattle.scp_pending.proofs.Permuting.{parked_numbers, range_more}
use Rattle.scp_pending.proofs.Lines.{added, line_step, open_after, open_step, entering_seq, entering_lane}

pub ways-append : (c : ConnId) (xs ys : List Ready) → ways c (xs ++ ys) ≡ ways c xs ++ ways c ys
ways-append c xs ys = flat-append (way c) xs ys

-- ---- where nothing is marked, nothing left

nil_both : {X : Type 0} (xs ys : List X) → xs ++ ys ≡ [] → (xs ≡ []) × (ys ≡ [])
nil_both [] ys e = (refl, e)
nil_both (x ∷ xs) ys e = absurd cc

no_way : (b : Bool) (m : Mark) (w : Way) → one_if b m ≡ [] → one_if b w ≡ []
no_way true m w e = absurd cc
no_way false m w e = refl

none_way : (c : ConnId) (r : Ready) → ready_mark c r ≡ [] → way c r ≡ []
none_way c (Deliver d) e = no_way (same_conn d.conn c) (number d.seq.0) (went d.seq) e
none_way c (Dropped d seq cause) e = no_way (same_conn d c) (number seq.0) (way_by cause seq) e
none_way c (Closed d cause) e = no_way (same_conn d c) (ended cause) (over cause) e
none_way c (Local command) e = refl

pub none_ways : (c : ConnId) (rs : List Ready) → marks_of c rs ≡ [] → ways c rs ≡ []
none_ways c [] e = refl
none_ways c (r ∷ rs) e = (let both = nil_both (ready_mark c r) (marks_of c rs) e in rw (none_way c r both.0) (none_ways c rs both.1))

pub none_front : (c : ConnId) (rs : List Ready) (rest : List Mark) → marks_of c rs ++ rest ≡ [] → ways c rs ≡ []
none_front c rs rest e = none_ways c rs (nil_both (marks_of c rs) rest e).0

-- ---- what leaves goes by its own fate

abbrev pub HasOwnFate : Parked → Type 0
HasOwnFate (Waits x) = Unit {0}
HasOwnFate (Free d) = Unit {0}
HasOwnFate (Lost x cause) = HasWent (way_by cause x.seq)

abbrev pub HaveOwnFates : QueueView → Type 0
HaveOwnFates q = AllByRecursion HasOwnFate q.parked

own_lost : (start : Settled) (taken : List Inbound) (c : ConnId) (seq : Seq) (cause : DropCause) → StandsLost start taken c seq cause → HasWent (way_by cause seq)
own_lost start taken c seq BadSet h = tt
own_lost start taken c seq GaveUp h = tt
own_lost start taken c seq ByClose h = absurd h
own_lost start taken c seq ByFull h = absurd h

own_of : (start : Settled) (taken : List Inbound) (wanted : List Want) (c : ConnId) (p : Parked) → Stands start taken wanted c p → HasOwnFate p
own_of start taken wanted c (Waits x) w = tt
own_of start taken wanted c (Free d) w = tt
own_of start taken wanted c (Lost x cause) w = own_lost start taken c x.seq cause w.2

own_queues : (start : Settled) (taken : List Inbound) (wanted : List Want) (qs : List QueueView) → AllByRecursion (Fits start taken wanted) qs → AllByRecursion HaveOwnFates qs
own_queues start taken wanted qs a = all_weaker (Fits start taken wanted) HaveOwnFates qs (λ q f. all_weaker (Stands start taken wanted q.conn) HasOwnFate q.parked (λ p w. own_of start taken wanted q.conn p w) f.stands) a

resolved_own : (test : Option Hash → Bool) (f : Carried → Parked) → ((x : Carried) → HasOwnFate (f x)) → (qs : List QueueView) → AllByRecursion HaveOwnFates qs → AllByRecursion HaveOwnFates (resolved test f qs)
resolved_own test f h qs a = all_step HaveOwnFates HaveOwnFates (resolved_in test f) qs (λ q k. all_step HasOwnFate HasOwnFate (resolved_one test f) q.parked one k) a
  where
    one : (p : Parked) → HasOwnFate p → HasOwnFate (resolved_one test f p)
    one (Waits x) k = by_test (test (named x.message))
      where
        by_test : (b : Bool) → HasOwnFate (cond b (f x) (Waits x))
        by_test true = h x
        by_test false = tt
    one (Free d) k = k
    one (Lost x cause) k = k

went_if : (b : Bool) (w : Way) → HasWent w → AllWent (one_if b w)
went_if true w h = (h, tt)
went_if false w h = tt

fate_went : (c d : ConnId) (p : Parked) → HasOwnFate p → AllByRecursion (λ r. AllWent (way c r)) (fate d p)
fate_went c d (Waits x) h = tt
fate_went c d (Free y) h = (went_if (same_conn y.conn c) (went y.seq) tt, tt)
fate_went c d (Lost x cause) h = (went_if (same_conn d c) (way_by cause x.seq) h, tt)

ways_went : (c : ConnId) (rs : List Ready) → AllByRecursion (λ r. AllWent (way c r)) rs → AllWent (ways c rs)
ways_went c [] a = tt
ways_went c (r ∷ rs) a = all_append HasWent (way c r) (ways c rs) a.0 (ways_went c rs a.1)

leaves_went : (c d : ConnId) (ps : List Parked) → AllByRecursion HasOwnFate ps → AllWent (ways c (leaves_of d ps))
leaves_went c d ps a = ways_went c (leaves_of d ps) (leaves_all HasOwnFate (λ r. AllWent (way c r)) d [] ps (λ p h. fate_went c d p h) a)

leaving_went : (c : ConnId) (qs : List QueueView) → AllByRecursion HaveOwnFates qs → AllWent (ways c (leaving_of qs))
leaving_went c [] a = tt
leaving_went c (q ∷ qs) a = subst AllWent (sym (ways-append c (leaves_in q) (leaving_of qs))) (all_append HasWent (ways c (leaves_in q)) (ways c (leaving_of qs)) (leaves_went c q.conn q.parked a.0) (leaving_went c qs a.1))

entering_own : (s : Settled) (x : Carried) → HasOwnFate (entering s.store x)
entering_own s x = by_name (named x.message)
  where
    by_lookup : (o : Option QuorumTree) → HasOwnFate (found x o)
    by_lookup None = tt
    by_lookup (Some set) = tt

    by_name : (o : Option Hash) → HasOwnFate (entering_by o s.store x)
    by_name None = tt
    by_name (Some hash) = by_lookup (lookup hash s.store)

answer_own : (set : QuorumTree) (b : Bool) (x : Carried) → HasOwnFate ((cond b (with_set (Some set)) (lost_by BadSet)) x)
answer_own set true x = tt
answer_own set false x = tt

-- ---- what the end of a connection drops

abbrev pub numbers : ConnId → List QueueView → List Seq
numbers c qs = map seq_of (parked_of c qs)

dropped_ways : (c : ConnId) (cause : DropCause) (w : Seq → Way) → ((seq : Seq) → way_by cause seq ≡ w seq) → (ps : List Parked) (end : List Ready) → ways c (map (dropped c cause) ps ++ end) ≡ map w (map seq_of ps) ++ ways c end
dropped_ways c cause w same [] end = refl
dropped_ways c cause w same (p ∷ ps) end = rw (same_conn-refl c, same (seq_of p)) (ap (λ zs. w (seq_of p) ∷ zs) (dropped_ways c cause w same ps end))

dropped_other : (c d : ConnId) (cause : DropCause) (ps : List Parked) (end : List Ready) → same_conn d c ≡ false → ways c (map (dropped d cause) ps ++ end) ≡ ways c end
dropped_other c d cause [] end o = refl
dropped_other c d cause (p ∷ ps) end o = rw o (dropped_other c d cause ps end o)

close_ways : (c : ConnId) (cause : Cause) (ps : List Parked) → ways c (map (dropped c ByClose) ps ++ Closed c cause ∷ []) ≡ map by_close (map seq_of ps) ++ over cause ∷ []
close_ways c cause ps = dropped_ways c ByClose by_close (λ seq. refl) ps (Closed c cause ∷ []) ∙ ap (λ b. map by_close (map seq_of ps) ++ (one_if b (over cause) ++ [])) (same_conn-refl c)

full_ways : (c : ConnId) (seq : Seq) (ps : List Parked) → ways c (map (dropped c ByFull) ps ++ Dropped c seq ByFull ∷ Closed c ParkedFull ∷ []) ≡ map by_full (map seq_of ps ++ seq ∷ []) ++ over ParkedFull ∷ []
full_ways c seq ps =
    dropped_ways c ByFull by_full (λ s. refl) ps (Dropped c seq ByFull ∷ Closed c ParkedFull ∷ [])
    ∙ ap (λ b. map by_full (map seq_of ps) ++ (one_if b (by_full seq) ++ (one_if b (over ParkedFull) ++ []))) (same_conn-refl c)
    ∙ sym (append_assoc (map by_full (map seq_of ps)) (by_full seq ∷ []) (over ParkedFull ∷ []))
    ∙ ap (λ zs. zs ++ over ParkedFull ∷ []) (sym (map-append by_full (map seq_of ps) (seq ∷ [])))

-- ---- the first of what is dropped waits

seqs_in : (slots : ℕ → ℕ) (n : ℕ) (ps : List Parked) → AllByRecursion (HasLane slots) ps → seqs_at slots n (map seq_of ps) ≡ map seq_of (at_slot n ps)
seqs_in slots n [] l = refl
seqs_in slots n (p ∷ ps) l = rw l.0 (by_test (nat_eq (lane_of p) n) (seqs_in slots n ps l.1))
  where
    by_test : (b : Bool) → seqs_at slots n (map seq_of ps) ≡ map seq_of (at_slot n ps) → cond b (seq_of p ∷ seqs_at slots n (map seq_of ps)) (seqs_at slots n (map seq_of ps)) ≡ map seq_of (cond b (p ∷ at_slot n ps) (at_slot n ps))
    by_test true e = ap (λ zs. seq_of p ∷ zs) e
    by_test false e = e

-- what waits at the head of each lane
abbrev pub AllHeads : Settled → List Inbound → QueueView → Type 0
AllHeads start taken q = (n : ℕ) → HeadWaits start taken q.conn (at_slot n q.parked)

heads_of : (start : Settled) (taken : List Inbound) (c : ConnId) (n : ℕ) (qs : List QueueView) → AllByRecursion (AllHeads start taken) qs → FirstWaits start taken c (map seq_of (at_slot n (parked_of c qs)))
heads_of start taken c n [] a = tt
heads_of start taken c n (q ∷ qs) a = by_test (is_of c q) refl (heads_of start taken c n qs a.1)
  where
    of_head : (ps : List Parked) → q.conn ≡ c → HeadWaits start taken q.conn ps → FirstWaits start taken c (map seq_of ps)
    of_head [] e h = tt
    of_head (Waits x ∷ ps) e h = (x, h.0 ∙ e, refl, h.1)
    of_head (Free d ∷ ps) e h = absurd h
    of_head (Lost x cause ∷ ps) e h = absurd h

    by_test : (b : Bool) → is_of c q ≡ b → FirstWaits start taken c (map seq_of (at_slot n (parked_of c qs))) → FirstWaits start taken c (map seq_of (at_slot n (cond b q.parked (parked_of c qs))))
    by_test true k rest = of_head (at_slot n q.parked) (same_conn-true q.conn c k) (a.0 n)
    by_test false k rest = rest

firsts : (start : Settled) (slots : ℕ → ℕ) (taken : List Inbound) (c : ConnId) (qs : List QueueView) → AllByRecursion (HasLane slots) (parked_of c qs) → AllByRecursion (AllHeads start taken) qs → (n : ℕ) → FirstWaits start taken c (seqs_at slots n (numbers c qs))
firsts start slots taken c qs l a n = subst (FirstWaits start taken c) (sym (seqs_in slots n (parked_of c qs) l)) (heads_of start taken c n qs a)

waits_push : (start : Settled) (taken : List Inbound) (x y : Carried) → IsWaiting start taken x → IsWaiting start (taken ++ inbound.Carried y ∷ []) x
waits_push start taken x y w = record {
  hash = w.hash;
  waiting = Waiting-later start taken (settled_by start taken) x w.hash (inbound.Carried y) refl refl w.waiting;
  patient = subst (λ (n : ℕ). n < 12) (sym (times-later (is_miss w.hash) start taken (settled_by start taken) x (inbound.Carried y) w.waiting.place refl)) w.patient;
}

-- one more: the first is as before, or it is this one, which waits
first_push : (start : Settled) (taken : List Inbound) (c : ConnId) (y : Carried) (seqs more : List Seq) → (more ≡ [] ⊎ (more ≡ y.seq ∷ [])) → (seqs ≡ [] → more ≡ y.seq ∷ [] → (y.conn ≡ c) × IsWaiting start (taken ++ inbound.Carried y ∷ []) y) → FirstWaits start taken c seqs → FirstWaits start (taken ++ inbound.Carried y ∷ []) c (seqs ++ more)
first_push start taken c y [] more (inl e) own f = rw e tt
first_push start taken c y [] more (inr e) own f = (let k = own refl e in rw e (y, k.0, refl, k.1))
first_push start taken c y (seq ∷ seqs) more o own f = (f.0, f.1, f.2, waits_push start taken f.0 y f.3)

-- a message that waits right now
waits_now : (start : Settled) (taken : List Inbound) (s : Settled) (y : Carried) → s ≡ settled_by start taken → is_open y.conn s.queues ≡ true → waits (entering s.store y) ≡ true → IsWaiting start (taken ++ inbound.Carried y ∷ []) y
waits_now start taken s y e live w = by_named (named y.message) refl w
  where
    by_lookup : (hash : Hash) (o : Option QuorumTree) → named y.message ≡ Some hash → lookup hash s.store ≡ o → waits (found y o) ≡ true → IsWaiting start (taken ++ inbound.Carried y ∷ []) y
    by_lookup hash None names none w = record {
      hash = hash;
      waiting = record { place = record { before = taken; after = []; at = refl; live = subst (λ (t : Settled). is_open y.conn t.queues ≡ true) e live }; names = names; unknown = subst (λ (t : Settled). lookup hash t.store ≡ None) e none; no_set = refl };
      patient = omega arith;
    }
    by_lookup hash (Some set) names there w = absurd cc

    by_named : (o : Option Hash) → named y.message ≡ o → waits (entering_by o s.store y) ≡ true → IsWaiting start (taken ++ inbound.Carried y ∷ []) y
    by_named None names w = absurd cc
    by_named (Some hash) names w = by_lookup hash (lookup hash s.store) names refl w

pub few_of_conn : (start : Settled) (taken : List Inbound) (wanted : List Want) (c : ConnId) (qs : List QueueView) → AllByRecursion (Fits start taken wanted) qs → length (parked_of c qs) ≤ PARKED_LIMIT
few_of_conn start taken wanted c [] a = omega arith
few_of_conn start taken wanted c (q ∷ qs) a = by_test (is_of c q) (few_of_conn start taken wanted c qs a.1)
  where
    by_test : (b : Bool) → length (parked_of c qs) ≤ PARKED_LIMIT → length (cond b q.parked (parked_of c qs)) ≤ PARKED_LIMIT
    by_test true h = a.0.few
    by_test false h = h

-- ---- of a connection that is shut nothing leaves

added_shut : (c : ConnId) (s : Settled) (item : Inbound) → is_open c s.queues ≡ false → added c s item ≡ []
added_shut c s (inbound.Opened d) e = refl
added_shut c s (inbound.Carried x) e = by_tests (is_open x.conn s.queues) (overflows x.conn (entering s.store x) s.queues) (same_conn x.conn c) refl refl
  where
    by_tests : (o f k : Bool) → is_open x.conn s.queues ≡ o → same_conn x.conn c ≡ k → cond o (one_if k (number x.seq.0) ++ cond f (one_if k (ended ParkedFull)) []) [] ≡ []
    by_tests true f true p q = clash (is_open c s.queues) (subst (λ (d : ConnId). is_open d s.queues ≡ true) (same_conn-true x.conn c q) p) e
    by_tests true true false p q = refl
    by_tests true false false p q = refl
    by_tests false f k p q = refl
added_shut c s (inbound.Side d message) e = refl
added_shut c s (inbound.Closed d cause) e = by_tests (is_open d s.queues) (same_conn d c) refl refl
  where
    by_tests : (o k : Bool) → is_open d s.queues ≡ o → same_conn d c ≡ k → cond o (one_if k (ended cause)) [] ≡ []
    by_tests true true p q = clash (is_open c s.queues) (subst (λ (b : ConnId). is_open b s.queues ≡ true) (same_conn-true d c q) p) e
    by_tests true false p q = refl
    by_tests false k p q = refl
added_shut c s (inbound.Local command) e = refl

-- what is nothing in each lane is nothing
pub no_lane : (slots : ℕ → ℕ) (xs : List Mark) → ((n : ℕ) → in_lane slots n xs ≡ []) → xs ≡ []
no_lane slots [] h = refl
no_lane slots (number k ∷ xs) h = absurd (let bad : cond true (number k ∷ in_lane slots (slots k) xs) (in_lane slots (slots k) xs) ≡ [] = ap (λ b. cond b (number k ∷ in_lane slots (slots k) xs) (in_lane slots (slots k) xs)) (sym (same_number (slots k))) ∙ h (slots k) in cc)
no_lane slots (ended cause ∷ xs) h = absurd (let bad : ended cause ∷ in_lane slots 0 xs ≡ [] = h 0 in cc)

-- slots that an item has
abbrev slots_for : Inbound → ℕ → ℕ
slots_for (inbound.Opened d) k = 0
slots_for (inbound.Carried x) k = slot_of x.message
slots_for (inbound.Side d message) k = 0
slots_for (inbound.Closed d cause) k = 0
slots_for (inbound.Local command) k = 0

slots_fit : (c : ConnId) (item : Inbound) → HasSlot c (slots_for item) item
slots_fit c (inbound.Opened d) = tt
slots_fit c (inbound.Carried x) = λ e. refl
slots_fit c (inbound.Side d message) = tt
slots_fit c (inbound.Closed d cause) = tt
slots_fit c (inbound.Local command) = tt

pub shut_nothing : (c : ConnId) (s : Settled) (item : Inbound) → AreSingle s.queues → AllByRecursion AreMine s.queues → is_open c s.queues ≡ false → ways c (releases s item) ≡ []
shut_nothing c s item single mine e =
    let nil : parked_of c s.queues ≡ [] = parked_shut c s.queues e in
    let slots = slots_for item in
    let line : marks_parked c s.queues ++ added c s item ≡ [] = ap (λ ms. ms ++ added c s item) (ap (map parked_mark) nil) ∙ added_shut c s item e in
    none_front c (releases s item) (marks_parked c (rules s item).queues) (no_lane slots _ (λ n. line_step slots n c s item single mine (subst (AllByRecursion (HasLane slots)) (sym nil) tt) (slots_fit c item) ∙ ap (in_lane slots n) line))

-- ---- one item more

ended_later : (start : Settled) (slots : ℕ → ℕ) (taken : List Inbound) (c : ConnId) (item : Inbound) (ws : List Way) → AllWent ws ⊎ (IsClosedOff start slots taken c ws ⊎ IsCutOff start slots taken c ws) → AllWent ws ⊎ (IsClosedOff start slots (taken ++ item ∷ []) c ws ⊎ IsCutOff start slots (taken ++ item ∷ []) c ws)
ended_later start slots taken c item ws (inl a) = inl a
ended_later start slots taken c item ws (inr (inl k)) = inr (inl (record {
  front = k.front;
  seqs = k.seqs;
  cause = k.cause;
  before = k.before;
  rest = k.rest ++ item ∷ [];
  at = ap (λ xs. xs ++ item ∷ []) k.at ∙ append_assoc k.before (inbound.Closed c k.cause ∷ k.rest) (item ∷ []);
  outside = k.outside;
  ways_are = k.ways_are;
  fates = k.fates;
  ascend = k.ascend;
  first = k.first;
}))
ended_later start slots taken c item ws (inr (inr k)) = inr (inr (record {
  front = k.front;
  seqs = k.seqs;
  last = k.last;
  before = k.before;
  rest = k.rest ++ item ∷ [];
  at = ap (λ xs. xs ++ item ∷ []) k.at ∙ append_assoc (k.before ++ inbound.Carried k.last ∷ []) k.rest (item ∷ []);
  mine = k.mine;
  ways_are = k.ways_are;
  fates = k.fates;
  count = k.count;
  ascend = k.ascend;
  shuts = k.shuts;
  all = k.all;
  first = k.first;
}))

-- what leaves by its own fates
exits_on : (start : Settled) (slots : ℕ → ℕ) (taken : List Inbound) (c : ConnId) (item : Inbound) (o new : Bool) (ws more : List Way) → AllWent more → (new ≡ false → more ≡ []) → (new ≡ true → (o ≡ true) ⊎ (ws ≡ [])) → Exits start slots taken c o ws → Exits start slots (taken ++ item ∷ []) c new (ws ++ more)
exits_on start slots taken c item o true ws more w none opens x = (let all : AllWent (ws ++ more) = all_append HasWent ws more (old (opens refl)) w in record { running = λ e. all; ended = inl all })
  where
    old : (o ≡ true) ⊎ (ws ≡ []) → AllWent ws
    old (inl e) = x.running e
    old (inr e) = rw e tt
exits_on start slots taken c item o false ws more w none opens x = rw (none refl, append_nil ws) (record { running = λ e. absurd cc; ended = ended_later start slots taken c item ws x.ended })

-- what the shape says of an item: the connection begins with nothing said of it, and no reader ends it because too much waits
abbrev pub Begins : ConnId → Inbound → List Way → Type 0
Begins c (inbound.Opened d) ws = same_conn d c ≡ true → ws ≡ []
Begins c (inbound.Carried x) ws = Unit {0}
Begins c (inbound.Side d message) ws = Unit {0}
Begins c (inbound.Closed d cause) ws = Unit {0}
Begins c (inbound.Local command) ws = Unit {0}

abbrev pub EndsOutside : ConnId → Inbound → Type 0
EndsOutside c (inbound.Opened d) = Unit {0}
EndsOutside c (inbound.Carried x) = Unit {0}
EndsOutside c (inbound.Side d message) = Unit {0}
EndsOutside c (inbound.Closed d cause) = same_conn d c ≡ true → cause ≢ ParkedFull
EndsOutside c (inbound.Local command) = Unit {0}

-- a connection that is open was so before, or begins
opened_by : (c : ConnId) (s : Settled) (item : Inbound) (ws : List Way) → Begins c item ws → open_after c s item ≡ true → (is_open c s.queues ≡ true) ⊎ (ws ≡ [])
opened_by c s (inbound.Opened d) ws b e = by_tests _ (is_open c s.queues) (same_conn d c) refl b e
  where
    by_tests : (p o k : Bool) → is_open c s.queues ≡ o → (k ≡ true → ws ≡ []) → cond p (o || k) o ≡ true → (is_open c s.queues ≡ true) ⊎ (ws ≡ [])
    by_tests p true k q b e = inl q
    by_tests true false true q b e = inr (b refl)
    by_tests true false false q b e = absurd cc
    by_tests false false k q b e = absurd cc
opened_by c s (inbound.Carried x) ws b e = by_tests (is_open x.conn s.queues && overflows x.conn (entering s.store x) s.queues) (is_open c s.queues) (same_conn x.conn c) refl e
  where
    by_tests : (p o k : Bool) → is_open c s.queues ≡ o → cond p (o && not k) o ≡ true → (is_open c s.queues ≡ true) ⊎ (ws ≡ [])
    by_tests p true k q e = inl q
    by_tests true false k q e = absurd cc
    by_tests false false k q e = absurd cc
opened_by c s (inbound.Side d message) ws b e = inl e
opened_by c s (inbound.Closed d cause) ws b e = by_tests (is_open d s.queues) (is_open c s.queues) (same_conn d c) refl e
  where
    by_tests : (p o k : Bool) → is_open c s.queues ≡ o → cond p (o && not k) o ≡ true → (is_open c s.queues ≡ true) ⊎ (ws ≡ [])
    by_tests p true k q e = inl q
    by_tests true false k q e = absurd cc
    by_tests false false k q e = absurd cc
opened_by c s (inbound.Local command) ws b e = inl e

brought_went : (c : ConnId) (s : Settled) (x : Carried) → (is_open x.conn s.queues && (overflows x.conn (entering s.store x) s.queues && same_conn x.conn c)) ≡ false → AllWent (ways c (releases s (inbound.Carried x)))
brought_went c s x none = by_tests (is_open x.conn s.queues) (overflows x.conn (entering s.store x) s.queues) (goes_through x.conn (entering s.store x) s.queues) none
  where
    other : (k : Bool) → (true && (true && k)) ≡ false → k ≡ false
    other k e = e

    at_end : (k : Bool) → k ≡ false → AllWent (one_if k (by_full x.seq) ++ (one_if k (over ParkedFull) ++ []))
    at_end true e = absurd cc
    at_end false e = tt

    by_tests : (o f g : Bool) → (o && (f && same_conn x.conn c)) ≡ false → AllWent (ways c (cond o (cond f (map (dropped x.conn ByFull) (parked_of x.conn s.queues) ++ Dropped x.conn x.seq ByFull ∷ Closed x.conn ParkedFull ∷ []) (cond g (fate x.conn (entering s.store x)) [])) []))
    by_tests true true g e = rw (dropped_other c x.conn ByFull (parked_of x.conn s.queues) (Dropped x.conn x.seq ByFull ∷ Closed x.conn ParkedFull ∷ []) (other (same_conn x.conn c) e)) (at_end (same_conn x.conn c) (other (same_conn x.conn c) e))
    by_tests true false true e = ways_went c (fate x.conn (entering s.store x)) (fate_went c x.conn (entering s.store x) (entering_own s x))
    by_tests true false false e = tt
    by_tests false f g e = tt

heard_went : (c : ConnId) (s : Settled) (d : ConnId) (m : SideMessage) → AllByRecursion HaveOwnFates s.queues → AllWent (ways c (releases s (inbound.Side d m)))
heard_went c s d m a = by_open (is_open d s.queues) m
  where
    by_set : (set : QuorumTree) (b : Bool) → AllWent (ways c (cond b (leaving_of (resolved (is_hash (hash_of set)) (by_answer set) s.queues)) []))
    by_set set true = leaving_went c (resolved (is_hash (hash_of set)) (by_answer set) s.queues) (resolved_own (is_hash (hash_of set)) (by_answer set) (answer_own set (is_sane set)) s.queues a)
    by_set set false = tt

    by_miss : (hash : Hash) (b : Bool) → AllWent (ways c (cond b (leaving_of (resolved (is_hash hash) (lost_by GaveUp) s.queues)) []))
    by_miss hash true = leaving_went c (resolved (is_hash hash) (lost_by GaveUp) s.queues) (resolved_own (is_hash hash) (lost_by GaveUp) (λ x. tt) s.queues a)
    by_miss hash false = tt

    by_message : (m : SideMessage) → AllWent (ways c (heard_out m s))
    by_message (GetSet hash) = tt
    by_message (Set set) = by_set set (is_answer set s)
    by_message (NoSet hash) = by_miss hash (gives_up (One hash) s.wanted hash)

    by_open : (b : Bool) (m : SideMessage) → AllWent (ways c (cond b (heard_out m s) []))
    by_open true m = by_message m
    by_open false m = tt

closed_went : (c : ConnId) (s : Settled) (d : ConnId) (cause : Cause) → (is_open d s.queues && same_conn d c) ≡ false → AllWent (ways c (releases s (inbound.Closed d cause)))
closed_went c s d cause none = by_tests (is_open d s.queues) none
  where
    at_end : (k : Bool) → k ≡ false → AllWent (one_if k (over cause) ++ [])
    at_end true e = absurd cc
    at_end false e = tt

    by_tests : (o : Bool) → (o && same_conn d c) ≡ false → AllWent (ways c (cond o (map (dropped d ByClose) (parked_of d s.queues) ++ Closed d cause ∷ []) []))
    by_tests true e = rw (dropped_other c d ByClose (parked_of d s.queues) (Closed d cause ∷ []) e) (at_end (same_conn d c) e)
    by_tests false e = tt

-- what is known of a connection before the item
pub record Before (start : Settled) (taken : List Inbound) (s : Settled) : Type 0 where
  pub now : s ≡ settled_by start taken
  pub single : AreSingle s.queues
  pub mine : AllByRecursion AreMine s.queues
  pub fits : AllByRecursion (Fits start taken s.wanted) s.queues
  pub wanted : AllByRecursion (IsWant start taken) s.wanted

heads : (start : Settled) (taken : List Inbound) (s : Settled) → Before start taken s → AllByRecursion (AllHeads start taken) s.queues
heads start taken s k = all_weaker (Fits start taken s.wanted) (AllHeads start taken) s.queues (λ q f. head_waits start taken s.wanted k.wanted q f) k.fits

and_false : (b : Bool) → (b && false) ≡ false
and_false true = refl
and_false false = refl

-- what left and what is parked are, by their numbers, all that came before a message that comes while it is open
abbrev pub IsAll : ConnId → Settled → Inbound → List Way → Type 0
IsAll c s item ws = (x : Carried) → item ≡ inbound.Carried x → x.conn ≡ c → is_open c s.queues ≡ true → IsPermutation (range_with_len 0 x.seq.0) (numbers_of ws ++ parked_numbers c s.queues)

full_numbers : (cause : Cause) (seqs : List Seq) → numbers_of (map by_full seqs ++ over cause ∷ []) ≡ map (λ (seq : Seq). seq.0) seqs
full_numbers cause [] = refl
full_numbers cause (seq ∷ seqs) = ap (λ ks. seq.0 ∷ ks) (full_numbers cause seqs)

-- the numbers of what is parked ascend, and so do they with that of a message that comes
pub record Ascending (c : ConnId) (s : Settled) (item : Inbound) : Type 0 where
  pub parked : Ascend 0 (numbers c s.queues)
  pub with_one : (x : Carried) → item ≡ inbound.Carried x → x.conn ≡ c → Ascend 0 (numbers c s.queues ++ x.seq ∷ [])

cut_off : (start : Settled) (slots : ℕ → ℕ) (taken : List Inbound) (c : ConnId) (s : Settled) (x : Carried) (ws : List Way) → Before start taken s → AllByRecursion (HasLane slots) (parked_of c s.queues) → HasSlot c slots (inbound.Carried x) → Ascending c s (inbound.Carried x) → IsAll c s (inbound.Carried x) ws → x.conn ≡ c → is_open c s.queues ≡ true → overflows c (entering s.store x) s.queues ≡ true → Exits start slots taken c (is_open c s.queues) ws → Exits start slots (taken ++ inbound.Carried x ∷ []) c (is_open c (rules s (inbound.Carried x)).queues) (ws ++ ways c (releases s (inbound.Carried x)))
cut_off start slots taken c s x ws k lanes slot up whole mine live over' known =
    let more : PARKED_LIMIT ≤ length (parked_of c s.queues) = leb-true PARKED_LIMIT (length (parked_of c s.queues)) both.0 in
    let within : length (parked_of c s.queues) ≤ PARKED_LIMIT = few_of_conn start taken s.wanted c s.queues k.fits in
    let same_count : length (numbers c s.queues) ≡ length (parked_of c s.queues) = length-map (parked_of c s.queues) seq_of in
    record {
      running = λ t. clash (is_open c (rules s item).queues) t shut;
      ended = inr (inr (record {
        front = ws;
        seqs = numbers c s.queues;
        last = x;
        before = taken;
        rest = [];
        at = sym (append_nil (taken ++ item ∷ []));
        mine = mine;
        ways_are = dropped_now;
        fates = known.running live;
        count = length-append (numbers c s.queues) (x.seq ∷ []) ∙ omega (arith, same_count, more, within);
        ascend = up.with_one x refl mine;
        shuts = ap (λ (t : Settled). is_open c t.queues) (settled-push start taken item ∙ ap (λ (t : Settled). rules t item) (sym k.now)) ∙ shut;
        all = subst (IsPermutation (range_with_len 0 (x.seq.0 + 1))) (sym numbers_now) (subst (λ (ks : List ℕ). IsPermutation ks ((numbers_of ws ++ parked_numbers c s.queues) ++ x.seq.0 ∷ [])) (sym (range_more x.seq.0)) (IsPermutation-append_left (x.seq.0 ∷ []) (range_with_len 0 x.seq.0) (numbers_of ws ++ parked_numbers c s.queues) (whole x refl mine live)));
        first = λ n. subst (FirstWaits start (taken ++ item ∷ []) c) (sym (filter-append (λ (seq : Seq). nat_eq (slots seq.0) n) (numbers c s.queues) (x.seq ∷ []))) (first_push start taken c x (seqs_at slots n (numbers c s.queues)) (seqs_at slots n (x.seq ∷ [])) (one n) (own n) (firsts start slots taken c s.queues lanes (heads start taken s k) n));
      }));
    }
  where
    item : Inbound
    item = inbound.Carried x

    p : Parked
    p = entering s.store x

    both : (is_full c s.queues ≡ true) × (not (goes_through c p s.queues) ≡ true)
    both = and_both (is_full c s.queues) (not (goes_through c p s.queues)) over'

    held : (b : Bool) → not (not b) ≡ true → b ≡ true
    held true e = refl
    held false e = absurd cc

    one : (n : ℕ) → (seqs_at slots n (x.seq ∷ []) ≡ []) ⊎ (seqs_at slots n (x.seq ∷ []) ≡ x.seq ∷ [])
    one n = by_test (nat_eq (slots x.seq.0) n)
      where
        by_test : (b : Bool) → (cond b (x.seq ∷ []) [] ≡ []) ⊎ (cond b (x.seq ∷ []) [] ≡ x.seq ∷ [])
        by_test true = inr refl
        by_test false = inl refl

    mine' : same_conn x.conn c ≡ true
    mine' = ap (λ (d : ConnId). same_conn d c) mine ∙ same_conn-refl c

    -- where nothing of its lane is parked, it waits
    own : (n : ℕ) → seqs_at slots n (numbers c s.queues) ≡ [] → seqs_at slots n (x.seq ∷ []) ≡ x.seq ∷ [] → (x.conn ≡ c) × IsWaiting start (taken ++ item ∷ []) x
    own n none there = (mine, waits_now start taken s x k.now (subst (λ (d : ConnId). is_open d s.queues ≡ true) (sym mine) live) (by_held (if_any (waits p) (list_any (is_at (lane_of p)) (parked_of c s.queues)) (held (is_held (parked_of c s.queues) p) both.1))))
      where
        at_n : (b : Bool) → nat_eq (slots x.seq.0) n ≡ b → cond b (x.seq ∷ []) [] ≡ x.seq ∷ [] → b ≡ true
        at_n true e t = refl
        at_n false e t = absurd cc

        lane : lane_of p ≡ n
        lane = sym (entering_lane slots s x (slot mine')) ∙ ap (λ (q : ℕ). slots q) (entering_seq s x) ∙ eqb-true (slots x.seq.0) n (at_n (nat_eq (slots x.seq.0) n) refl there)

        no_mate : (ps : List Parked) → AllByRecursion (HasLane slots) ps → seqs_at slots n (map seq_of ps) ≡ [] → list_any (is_at n) ps ≡ false
        no_mate [] l e = refl
        no_mate (q ∷ qs) l e = by_test (nat_eq (lane_of q) n) (ap (λ (m : ℕ). cond (nat_eq m n) (seq_of q ∷ seqs_at slots n (map seq_of qs)) (seqs_at slots n (map seq_of qs))) (sym l.0) ∙ e) (no_mate qs l.1)
          where
            by_test : (b : Bool) → cond b (seq_of q ∷ seqs_at slots n (map seq_of qs)) (seqs_at slots n (map seq_of qs)) ≡ [] → (seqs_at slots n (map seq_of qs) ≡ [] → list_any (is_at n) qs ≡ false) → (b || list_any (is_at n) qs) ≡ false
            by_test true e rest = absurd cc
            by_test false e rest = rest e

        by_held : (waits p ≡ true) ⊎ (list_any (is_at (lane_of p)) (parked_of c s.queues) ≡ true) → waits p ≡ true
        by_held (inl w) = w
        by_held (inr h) = clash (list_any (is_at n) (parked_of c s.queues)) (subst (λ (m : ℕ). list_any (is_at m) (parked_of c s.queues) ≡ true) lane h) (no_mate (parked_of c s.queues) lanes none)

    shut : is_open c (rules s item).queues ≡ false
    shut = open_step c s item k.single ∙ ap (λ (d : ConnId). cond (is_open d s.queues && overflows d p s.queues) (is_open c s.queues && not (same_conn d c)) (is_open c s.queues)) mine ∙ rw (live, over', same_conn-refl c) refl

    given : releases s item ≡ map (dropped c ByFull) (parked_of c s.queues) ++ Dropped c x.seq ByFull ∷ Closed c ParkedFull ∷ []
    given = ap (λ (d : ConnId). cond (is_open d s.queues) (cond (overflows d p s.queues) (map (dropped d ByFull) (parked_of d s.queues) ++ Dropped d x.seq ByFull ∷ Closed d ParkedFull ∷ []) (cond (goes_through d p s.queues) (fate d p) [])) []) mine ∙ rw (live, over') refl

    dropped_now : ws ++ ways c (releases s item) ≡ ws ++ (map by_full (numbers c s.queues ++ x.seq ∷ []) ++ over ParkedFull ∷ [])
    dropped_now = ap (λ rs. ws ++ ways c rs) given ∙ ap (λ zs. ws ++ zs) (full_ways c x.seq (parked_of c s.queues))

    numbers_now : numbers_of (ws ++ ways c (releases s item)) ≡ (numbers_of ws ++ parked_numbers c s.queues) ++ x.seq.0 ∷ []
    numbers_now =
        ap numbers_of dropped_now
        ∙ flat-append number_of ws (map by_full (numbers c s.queues ++ x.seq ∷ []) ++ over ParkedFull ∷ [])
        ∙ ap (λ ks. numbers_of ws ++ ks) (full_numbers ParkedFull (numbers c s.queues ++ x.seq ∷ []) ∙ map-append (λ (seq : Seq). seq.0) (numbers c s.queues) (x.seq ∷ []))
        ∙ sym (append_assoc (numbers_of ws) (parked_numbers c s.queues) (x.seq.0 ∷ []))

closed_off : (start : Settled) (slots : ℕ → ℕ) (taken : List Inbound) (c : ConnId) (s : Settled) (d : ConnId) (cause : Cause) (ws : List Way) → Before start taken s → AllByRecursion (HasLane slots) (parked_of c s.queues) → Ascending c s (inbound.Closed d cause) → d ≡ c → cause ≢ ParkedFull → is_open c s.queues ≡ true → Exits start slots taken c (is_open c s.queues) ws → Exits start slots (taken ++ inbound.Closed d cause ∷ []) c (is_open c (rules s (inbound.Closed d cause)).queues) (ws ++ ways c (releases s (inbound.Closed d cause)))
closed_off start slots taken c s d cause ws k lanes up mine outside live known = record {
  running = λ t. clash (is_open c (rules s item).queues) t shut;
  ended = inr (inl (record {
    front = ws;
    seqs = numbers c s.queues;
    cause = cause;
    before = taken;
    rest = [];
    at = ap (λ (b : ConnId). taken ++ inbound.Closed b cause ∷ []) mine;
    outside = outside;
    ways_are = ap (λ rs. ws ++ ways c rs) given ∙ ap (λ zs. ws ++ zs) (close_ways c cause (parked_of c s.queues));
    fates = known.running live;
    ascend = up.parked;
    first = firsts start slots taken c s.queues lanes (heads start taken s k);
  }));
}
  where
    item : Inbound
    item = inbound.Closed d cause

    shut : is_open c (rules s item).queues ≡ false
    shut = open_step c s item k.single ∙ ap (λ (b : ConnId). cond (is_open b s.queues) (is_open c s.queues && not (same_conn b c)) (is_open c s.queues)) mine ∙ rw (live, same_conn-refl c) refl

    given : releases s item ≡ map (dropped c ByClose) (parked_of c s.queues) ++ Closed c cause ∷ []
    given = ap (λ (b : ConnId). cond (is_open b s.queues) (map (dropped b ByClose) (parked_of b s.queues) ++ Closed b cause ∷ []) []) mine ∙ rw live refl

pub exits_item : (start : Settled) (slots : ℕ → ℕ) (taken : List Inbound) (c : ConnId) (s : Settled) (item : Inbound) (ws : List Way) → Before start taken s → AllByRecursion (HasLane slots) (parked_of c s.queues) → HasSlot c slots item → Ascending c s item → IsAll c s item ws → Begins c item ws → EndsOutside c item → Exits start slots taken c (is_open c s.queues) ws → Exits start slots (taken ++ item ∷ []) c (is_open c (rules s item).queues) (ws ++ ways c (releases s item))
exits_item start slots taken c s (inbound.Opened d) ws k lanes fits up whole begins outside known = exits_on start slots taken c (inbound.Opened d) _ _ ws [] tt (λ e. refl) (λ e. opened_by c s (inbound.Opened d) ws begins (sym (open_step c s (inbound.Opened d) k.single) ∙ e)) known
exits_item start slots taken c s (inbound.Side d m) ws k lanes fits up whole begins outside known = exits_on start slots taken c (inbound.Side d m) _ _ ws _ (heard_went c s d m (own_queues start taken s.wanted s.queues k.fits)) (λ e. shut_nothing c s (inbound.Side d m) k.single k.mine (sym (open_step c s (inbound.Side d m) k.single) ∙ e)) (λ e. inl (sym (open_step c s (inbound.Side d m) k.single) ∙ e)) known
exits_item start slots taken c s (inbound.Local Tick) ws k lanes fits up whole begins outside known = exits_on start slots taken c (inbound.Local Tick) _ _ ws _ (leaving_went c (resolved (is_given_up s.wanted) (lost_by GaveUp) (in_order_of (last_missed s.wanted) s.queues)) (resolved_own (is_given_up s.wanted) (lost_by GaveUp) (λ x. tt) (in_order_of (last_missed s.wanted) s.queues) (all_in_order HaveOwnFates (last_missed s.wanted) s.queues (own_queues start taken s.wanted s.queues k.fits)))) (λ e. shut_nothing c s (inbound.Local Tick) k.single k.mine (sym (open_step c s (inbound.Local Tick) k.single) ∙ e)) (λ e. inl (sym (open_step c s (inbound.Local Tick) k.single) ∙ e)) known
exits_item start slots taken c s (inbound.Local (Propose slot value)) ws k lanes fits up whole begins outside known = exits_on start slots taken c (inbound.Local (Propose slot value)) _ _ ws [] tt (λ e. refl) (λ e. inl (sym (open_step c s (inbound.Local (Propose slot value)) k.single) ∙ e)) known
exits_item start slots taken c s (inbound.Local (Round slot)) ws k lanes fits up whole begins outside known = exits_on start slots taken c (inbound.Local (Round slot)) _ _ ws [] tt (λ e. refl) (λ e. inl (sym (open_step c s (inbound.Local (Round slot)) k.single) ∙ e)) known
exits_item start slots taken c s (inbound.Local (Timer slot)) ws k lanes fits up whole begins outside known = exits_on start slots taken c (inbound.Local (Timer slot)) _ _ ws [] tt (λ e. refl) (λ e. inl (sym (open_step c s (inbound.Local (Timer slot)) k.single) ∙ e)) known
exits_item start slots taken c s (inbound.Local (Ask link slot)) ws k lanes fits up whole begins outside known = exits_on start slots taken c (inbound.Local (Ask link slot)) _ _ ws [] tt (λ e. refl) (λ e. inl (sym (open_step c s (inbound.Local (Ask link slot)) k.single) ∙ e)) known
exits_item start slots taken c s (inbound.Carried x) ws k lanes fits up whole begins outside known = by_cut (is_open x.conn s.queues && (overflows x.conn (entering s.store x) s.queues && same_conn x.conn c)) refl
  where
    kept : (o f k oc : Bool) → (o && (f && k)) ≡ false → cond (o && f) (oc && not k) oc ≡ false → oc ≡ false
    kept true true true oc n e = absurd cc
    kept true true false true n e = absurd cc
    kept true true false false n e = refl
    kept true false k oc n e = e
    kept false f k oc n e = e

    by_cut : (b : Bool) → (is_open x.conn s.queues && (overflows x.conn (entering s.store x) s.queues && same_conn x.conn c)) ≡ b → Exits start slots (taken ++ inbound.Carried x ∷ []) c (is_open c (rules s (inbound.Carried x)).queues) (ws ++ ways c (releases s (inbound.Carried x)))
    by_cut true e =
        let one = and_both (is_open x.conn s.queues) (overflows x.conn (entering s.store x) s.queues && same_conn x.conn c) e in
        let two = and_both (overflows x.conn (entering s.store x) s.queues) (same_conn x.conn c) one.1 in
        let mine : x.conn ≡ c = same_conn-true x.conn c two.1 in
        cut_off start slots taken c s x ws k lanes fits up whole mine (subst (λ (d : ConnId). is_open d s.queues ≡ true) mine one.0) (subst (λ (d : ConnId). overflows d (entering s.store x) s.queues ≡ true) mine two.0) known
    by_cut false e = exits_on start slots taken c (inbound.Carried x) _ _ ws _ (brought_went c s x e) (λ n. shut_nothing c s (inbound.Carried x) k.single k.mine (kept (is_open x.conn s.queues) (overflows x.conn (entering s.store x) s.queues) (same_conn x.conn c) (is_open c s.queues) e (sym (open_step c s (inbound.Carried x) k.single) ∙ n))) (λ n. opened_by c s (inbound.Carried x) ws tt (sym (open_step c s (inbound.Carried x) k.single) ∙ n)) known
exits_item start slots taken c s (inbound.Closed d cause) ws k lanes fits up whole begins outside known = by_close' (is_open d s.queues && same_conn d c) refl
  where
    kept : (o k oc : Bool) → (o && k) ≡ false → cond o (oc && not k) oc ≡ false → oc ≡ false
    kept true true oc n e = absurd cc
    kept true false true n e = absurd cc
    kept true false false n e = refl
    kept false k oc n e = e

    by_close' : (b : Bool) → (is_open d s.queues && same_conn d c) ≡ b → Exits start slots (taken ++ inbound.Closed d cause ∷ []) c (is_open c (rules s (inbound.Closed d cause)).queues) (ws ++ ways c (releases s (inbound.Closed d cause)))
    by_close' true e =
        let both = and_both (is_open d s.queues) (same_conn d c) e in
        let mine : d ≡ c = same_conn-true d c both.1 in
        closed_off start slots taken c s d cause ws k lanes up mine (outside both.1) (subst (λ (b : ConnId). is_open b s.queues ≡ true) mine both.0) known
    by_close' false e = exits_on start slots taken c (inbound.Closed d cause) _ _ ws _ (closed_went c s d cause e) (λ n. shut_nothing c s (inbound.Closed d cause) k.single k.mine (kept (is_open d s.queues) (same_conn d c) (is_open c s.queues) e (sym (open_step c s (inbound.Closed d cause) k.single) ∙ n))) (λ n. opened_by c s (inbound.Closed d cause) ws tt (sym (open_step c s (inbound.Closed d cause) k.single) ∙ n)) known
