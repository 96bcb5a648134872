-- Which connections wait for a hash, and in which order, by what was taken; and that a hash is wanted exactly while something waits for it.
use Rattle.std.proofs.Common.{◌≡◌, ℕ, Bool, true, false, cond, not, List, [], ◌∷◌, ◌++◌, refl, sym, ◌∙◌, ap, subst, append_assoc, nat_eq, map}
use Rattle.std.specs.Prelude.{◌&&◌, ◌||◌, slice_set, filter, Option, Some, None, is_some, position}
use Rattle.std.specs.List.{list_any, AllByRecursion}
use Rattle.std.proofs.lemmas.Bool.{eqb-true}
use Rattle.scp_wire.specs.scp_types.specs.declared.names.ConnId.{ConnId}
use Rattle.scp_wire.specs.scp_types.specs.declared.names.Hash.{Hash}
use Rattle.scp_wire.specs.scp_types.specs.declared.names.NodeId.{NodeId}
use Rattle.scp_wire.specs.scp_types.specs.declared.names.Seq.{Seq}
use Rattle.scp_wire.specs.scp_quorum.specs.QuorumTree.{QuorumTree}
use Rattle.scp_wire.specs.declared.carried.Carried.{Carried}
use Rattle.scp_wire.specs.declared.side.SideMessage.{SideMessage}
use Rattle.scp_wire.specs.declared.side.SideMessage.TheVariants.{GetSet, Set, NoSet}
use Rattle.scp_wire.specs.declared.link.Command.TheVariants.{Tick, Propose, Round, Timer, Ask}
use Rattle.scp_wire.specs.declared.link.Inbound.{Inbound}
use Rattle.scp_wire.specs.declared.link.Inbound.TheVariants as inbound
use Rattle.scp_wire.specs.Connections.{same_node, same_conn}
use Rattle.scp_wire.specs.Shape.{HasShape}
use Rattle.scp_fetch.specs.declared.want.Want.{Want}
use Rattle.scp_fetch.specs.declared.want.Miss.{Miss}
use Rattle.scp_fetch.specs.declared.want.Miss.TheVariants.{One, All}
use Rattle.scp_fetch.specs.Hashes.{same_hash}
use Rattle.scp_fetch.specs.Wants.{is_for, is_wanted, has_conn, joined, waiting_for, waits_besides, leave, left_by, ask, new_want, unask, is_last, count_miss, missed_by, last_missed, gives_up}
use Rattle.scp_pending.specs.declared.parked.Parked.{Parked}
use Rattle.scp_pending.specs.declared.parked.Parked.TheVariants.{Waits, Free, Lost}
use Rattle.scp_pending.specs.declared.ready.DropCause.TheVariants.{GaveUp}
use Rattle.scp_pending.specs.declared.ready.Ready.{Ready}
use Rattle.scp_pending.specs.Queues.{QueueView, is_of, is_open, is_link_open, parked_of, others, parked_in, waits, is_held, stays_behind, served, in_order_of, seq_of, named, is_hash, hash_of, waits_for, waited_by, is_waiting, resolved_one, resolved, lost_by}
use Rattle.scp_pending.specs.Rules.{Settled, settled_by, released_by, rules, releases, opens, opened, closed_off, link_of, link_number, entering, overflows, goes_through, wanted_named, parks, by_answer, answered, is_answer, is_given_up, gives_up_one, hears}
use Rattle.scp_pending.specs.Pends.{start_of}
use Rattle.scp_pending.specs.Waiters.{carried_one, carried_in, waits_under, waits_here, once, is_waited}
use Rattle.scp_pending.specs.Laws.{WaitersInOrder, WantedWhileWaited}
use Rattle.scp_pending.proofs.Basics.{append_nil, clash, or_none, or_left, or_right, flat-append, all_step, all_weaker, all_append, all_left, all_both, all_kept, all_filter, all_flat, same_hash-true, same_conn-true, same_conn-refl, same_number}
use Rattle.scp_pending.proofs.Wanting.{is_for-true, one_of}
use Rattle.scp_pending.proofs.Serving.{AreSingle, parked-opened, parked-others_mine, parked-others_other, parked_in-mine, parked_in-other, parked-resolved, parked-served, parked-in_order}
use Rattle.scp_pending.proofs.Standing.{Stands, Fits, gives_up_other}
use Rattle.scp_pending.proofs.Listing.{AreListed, IsListed, and_none, and_all, or_none_of, any_push, conn_sym, has-joined, count-waiting, not_named, answer_waits, waits_as, own_from}
use Rattle.scp_pending.proofs.Rising.{entering_as}
use Rattle.scp_pending.proofs.Following.{frame_step, AllConns, open_conn, conns_step}
use Rattle.scp_pending.proofs.Accounting.{shape_front}
use Rattle.scp_pending.proofs.Sound.{Sound, nothing_waits, sound_start, sound_step}
use Rattle.scp_pending.proofs.Firsts.{filter_as, filter_append, kept_by, filter_all, once_kept, once_push, conns_of, conns-two, conns-push, waiting-unasked, waiting-left, waiting-asked, waiting-asked_other, waiting-without, waiting-missed}
use Rattle.scp_pending.proofs.Numbers.{HasOther, IsOther, OfPeer, others_came}

-- ---- what waits under a number

under-not : (hash : Hash) (seq : Seq) (p : Parked) → waits p ≡ false → waits_under hash seq p ≡ false
under-not hash seq (Waits x) e = absurd cc
under-not hash seq (Free d) e = refl
under-not hash seq (Lost x cause) e = refl

under-stays : (hash : Hash) (seq : Seq) (kept ps : List Parked) → list_any (waits_under hash seq) (stays_behind kept ps) ≡ list_any (waits_under hash seq) ps
under-stays hash seq kept [] = refl
under-stays hash seq kept (p ∷ ps) = by_test (is_held kept p) refl (under-stays hash seq (kept ++ p ∷ []) ps) (under-stays hash seq kept ps)
  where
    by_test : (b : Bool) → is_held kept p ≡ b → list_any (waits_under hash seq) (stays_behind (kept ++ p ∷ []) ps) ≡ list_any (waits_under hash seq) ps → list_any (waits_under hash seq) (stays_behind kept ps) ≡ list_any (waits_under hash seq) ps → list_any (waits_under hash seq) (cond b (p ∷ stays_behind (kept ++ p ∷ []) ps) (stays_behind kept ps)) ≡ (waits_under hash seq p || list_any (waits_under hash seq) ps)
    by_test true e stay go = ap (λ b. waits_under hash seq p || b) stay
    by_test false e stay go = go ∙ ap (λ b. b || list_any (waits_under hash seq) ps) (sym (under-not hash seq p (or_none (waits p) _ e).0))

-- what the test picks doesn't wait any more, and all else as before
module _ (test : Option Hash → Bool) (f : Carried → Parked) (hash : Hash) (none : (x : Carried) → waits_for hash (f x) ≡ false) where
  under-one : (seq : Seq) (p : Parked) → waits_under hash seq (resolved_one test f p) ≡ (waits_under hash seq p && not (test (Some hash)))
  under-one seq (Free d) = refl
  under-one seq (Lost x cause) = refl
  under-one seq (Waits x) = by_tests (test (named x.message)) (test (Some hash)) refl refl
    where
      number : Bool
      number = nat_eq x.seq.0 seq.0

      other : test (Some hash) ≡ true → test (named x.message) ≡ false → (o : Option Hash) → o ≡ named x.message → is_hash hash o ≡ false
      other g t None e = refl
      other g t (Some h) e = by_same (same_hash hash h) refl
        where
          by_same : (b : Bool) → same_hash hash h ≡ b → b ≡ false
          by_same true k = clash (test (Some hash)) g (subst (λ (h' : Hash). test (Some h') ≡ false) (sym (same_hash-true hash h k)) (ap test e ∙ t))
          by_same false k = refl

      by_tests : (t g : Bool) → test (named x.message) ≡ t → test (Some hash) ≡ g → waits_under hash seq (cond t (f x) (Waits x)) ≡ ((is_hash hash (named x.message) && number) && not g)
      by_tests true true t g = ap (λ b. b && nat_eq (seq_of (f x)).0 seq.0) (none x) ∙ sym (and_none (is_hash hash (named x.message) && number))
      by_tests true false t g = ap (λ b. b && nat_eq (seq_of (f x)).0 seq.0) (none x) ∙ sym (ap (λ b. (b && number) && true) (not_named test hash (named x.message) g t))
      by_tests false true t g = ap (λ b. b && number) (other g t (named x.message) refl) ∙ sym (and_none (is_hash hash (named x.message) && number))
      by_tests false false t g = sym (and_all (is_hash hash (named x.message) && number))

  under-resolved : (seq : Seq) (ps : List Parked) → list_any (waits_under hash seq) (map (resolved_one test f) ps) ≡ (list_any (waits_under hash seq) ps && not (test (Some hash)))
  under-resolved seq [] = refl
  under-resolved seq (p ∷ ps) = ap (λ b. b || list_any (waits_under hash seq) (map (resolved_one test f) ps)) (under-one seq p) ∙ ap (λ b. (waits_under hash seq p && not (test (Some hash))) || b) (under-resolved seq ps) ∙ either (waits_under hash seq p) (list_any (waits_under hash seq) ps) (not (test (Some hash)))
    where
      either : (a b n : Bool) → ((a && n) || (b && n)) ≡ ((a || b) && n)
      either true true true = refl
      either true true false = refl
      either true false true = refl
      either true false false = refl
      either false b n = refl

  here-served : (qs : List QueueView) (y : Carried) → waits_here hash (served (resolved test f qs)) y ≡ (waits_here hash qs y && not (test (Some hash)))
  here-served qs y = ap (list_any (waits_under hash y.seq)) (parked-served y.conn (resolved test f qs)) ∙ under-stays hash y.seq [] (parked_of y.conn (resolved test f qs)) ∙ ap (list_any (waits_under hash y.seq)) (parked-resolved y.conn test f qs) ∙ under-resolved y.seq (parked_of y.conn qs)

here-others : (hash : Hash) (d : ConnId) (qs : List QueueView) → AreSingle qs → (y : Carried) → waits_here hash (others d qs) y ≡ (waits_here hash qs y && not (same_conn d y.conn))
here-others hash d qs single y = by_test (same_conn d y.conn) refl
  where
    by_test : (b : Bool) → same_conn d y.conn ≡ b → waits_here hash (others d qs) y ≡ (waits_here hash qs y && not b)
    by_test true e = ap (list_any (waits_under hash y.seq)) (subst (λ (k : ConnId). parked_of k (others d qs) ≡ []) (same_conn-true d y.conn e) (parked-others_mine d qs (single d))) ∙ sym (and_none (waits_here hash qs y))
    by_test false e = ap (list_any (waits_under hash y.seq)) (parked-others_other d y.conn qs e) ∙ sym (and_all (waits_here hash qs y))

here-parked : (hash : Hash) (d : ConnId) (p : Parked) (qs : List QueueView) → is_open d qs ≡ true → AreSingle qs → (y : Carried) → waits_here hash (parked_in d p qs) y ≡ (waits_here hash qs y || (same_conn d y.conn && waits_under hash y.seq p))
here-parked hash d p qs live single y = by_test (same_conn d y.conn) refl
  where
    by_test : (b : Bool) → same_conn d y.conn ≡ b → waits_here hash (parked_in d p qs) y ≡ (waits_here hash qs y || (b && waits_under hash y.seq p))
    by_test true e = subst (λ (k : ConnId). list_any (waits_under hash y.seq) (parked_of k (parked_in d p qs)) ≡ (list_any (waits_under hash y.seq) (parked_of k qs) || waits_under hash y.seq p)) (same_conn-true d y.conn e) (ap (list_any (waits_under hash y.seq)) (parked_in-mine d p qs live (single d)) ∙ any_push (waits_under hash y.seq) (parked_of d qs) p)
    by_test false e = ap (list_any (waits_under hash y.seq)) (parked_in-other d y.conn p qs e) ∙ sym (or_none_of (waits_here hash qs y))

-- ---- nothing is parked under the number of what comes next

unparked : (start : Settled) (taken : List Inbound) (wanted : List Want) (hash : Hash) (x : Carried) (qs : List QueueView) → AllByRecursion (IsOther x) taken → AllByRecursion (Fits start taken wanted) qs → waits_here hash qs x ≡ false
unparked start taken wanted hash x [] o a = refl
unparked start taken wanted hash x (q ∷ qs) o a = by_test (is_of x.conn q) refl (unparked start taken wanted hash x qs o a.1)
  where
    one : same_conn q.conn x.conn ≡ true → (p : Parked) → Stands start taken wanted q.conn p → waits_under hash x.seq p ≡ false
    one mine (Waits y) w =
        let place = w.1.waiting.place in
        let came : HasOther x y = (all_left (IsOther x) place.before (inbound.Carried y ∷ place.after) (subst (AllByRecursion (IsOther x)) place.at o)).1.0 in
        let number : nat_eq y.seq.0 x.seq.0 ≡ false = came (ap (λ (c : ConnId). same_conn c x.conn) w.0 ∙ mine) in
        ap (λ b. is_hash hash (named y.message) && b) number ∙ and_none (is_hash hash (named y.message))
    one mine (Free d) w = refl
    one mine (Lost x cause) w = refl

    none : same_conn q.conn x.conn ≡ true → (ps : List Parked) → AllByRecursion (Stands start taken wanted q.conn) ps → list_any (waits_under hash x.seq) ps ≡ false
    none mine [] b = refl
    none mine (p ∷ ps) b = rw (one mine p b.0) (none mine ps b.1)

    by_test : (b : Bool) → is_of x.conn q ≡ b → waits_here hash qs x ≡ false → list_any (waits_under hash x.seq) (cond b q.parked (parked_of x.conn qs)) ≡ false
    by_test true mine rest = none mine q.parked a.0.stands
    by_test false mine rest = rest

shut_absent : (hash : Hash) (x : Carried) (qs : List QueueView) → is_open x.conn qs ≡ false → waits_here hash qs x ≡ false
shut_absent hash x [] e = refl
shut_absent hash x (q ∷ qs) e = (let both = or_none (is_of x.conn q) (is_open x.conn qs) e in rw both.0 (shut_absent hash x qs both.1))

-- ---- how the list of a hash moves

-- the connections that wait for the hash, by what was taken
abbrev waiters_in : Hash → List QueueView → List Carried → List ConnId
waiters_in hash qs xs = once (conns_of (filter (waits_here hash qs) xs))

abbrev IsOrdered : Hash → List Carried → Settled → Type 0
IsOrdered hash xs s = waiting_for hash s.wanted ≡ waiters_in hash s.queues xs

-- some connections don't wait any more
record Moves (hash : Hash) (s t : Settled) : Type 0 where
  keep : ConnId → Bool
  list : waiting_for hash t.wanted ≡ filter keep (waiting_for hash s.wanted)
  here : (y : Carried) → waits_here hash t.queues y ≡ (waits_here hash s.queues y && keep y.conn)

-- one more message waits
record Joins (hash : Hash) (x : Carried) (s t : Settled) : Type 0 where
  list : waiting_for hash t.wanted ≡ joined x.conn (waiting_for hash s.wanted)
  here : (y : Carried) → waits_here hash t.queues y ≡ (waits_here hash s.queues y || (same_conn x.conn y.conn && nat_eq x.seq.0 y.seq.0))

stays_so : (hash : Hash) (s t : Settled) → waiting_for hash t.wanted ≡ waiting_for hash s.wanted → ((y : Carried) → waits_here hash t.queues y ≡ waits_here hash s.queues y) → Moves hash s t
stays_so hash s t list here = record { keep = λ c. true; list = list ∙ sym (filter_all (waiting_for hash s.wanted)); here = λ y. here y ∙ sym (and_all (waits_here hash s.queues y)) }

moved : (hash : Hash) (xs : List Carried) (s t : Settled) → Moves hash s t → IsOrdered hash xs s → IsOrdered hash xs t
moved hash xs s t m e =
    m.list
    ∙ ap (filter m.keep) e
    ∙ sym (once_kept m.keep (conns_of (filter (waits_here hash s.queues) xs)))
    ∙ ap once (sym (conns-two m.keep (waits_here hash s.queues) xs))
    ∙ ap (λ ys. once (conns_of ys)) (sym (filter_as (waits_here hash t.queues) (λ y. waits_here hash s.queues y && m.keep y.conn) m.here xs))

-- and what came last doesn't wait
moved_by : (hash : Hash) (xs : List Carried) (x : Carried) (s t : Settled) → Moves hash s t → waits_here hash s.queues x ≡ false → IsOrdered hash xs s → IsOrdered hash (xs ++ x ∷ []) t
moved_by hash xs x s t m none e =
    let absent : waits_here hash t.queues x ≡ false = m.here x ∙ ap (λ b. b && m.keep x.conn) none in
    moved hash xs s t m e ∙ ap (λ ys. once (conns_of ys)) (sym (filter_append (waits_here hash t.queues) xs (x ∷ []) ∙ ap (λ b. filter (waits_here hash t.queues) xs ++ cond b (x ∷ []) []) absent ∙ append_nil (filter (waits_here hash t.queues) xs)))

filter_where : (f g : Carried → Bool) (x : Carried) (xs : List Carried) → ((y : Carried) → HasOther x y → f y ≡ g y) → AllByRecursion (HasOther x) xs → filter f xs ≡ filter g xs
filter_where f g x [] e a = refl
filter_where f g x (y ∷ ys) e a = rw (e y a.0, filter_where f g x ys e a.1) refl

number_sym : (a b : ℕ) → nat_eq a b ≡ nat_eq b a
number_sym a b = by_tests (nat_eq a b) (nat_eq b a) refl refl
  where
    by_tests : (p q : Bool) → nat_eq a b ≡ p → nat_eq b a ≡ q → p ≡ q
    by_tests true true e f = refl
    by_tests false false e f = refl
    by_tests true false e f = sym (subst (λ (n : ℕ). nat_eq n a ≡ true) (eqb-true a b e) (same_number a)) ∙ f
    by_tests false true e f = sym e ∙ subst (λ (n : ℕ). nat_eq n b ≡ true) (eqb-true b a f) (same_number b)

joined_by : (hash : Hash) (xs : List Carried) (x : Carried) (s t : Settled) → Joins hash x s t → AllByRecursion (HasOther x) xs → IsOrdered hash xs s → IsOrdered hash (xs ++ x ∷ []) t
joined_by hash xs x s t j o e =
    j.list
    ∙ ap (joined x.conn) e
    ∙ sym (once_push (conns_of (filter (waits_here hash s.queues) xs)) x.conn)
    ∙ ap once (sym (conns-push (filter (waits_here hash s.queues) xs) x))
    ∙ ap (λ ys. once (conns_of ys)) (sym (filter_append (waits_here hash t.queues) xs (x ∷ []) ∙ ap (λ b. filter (waits_here hash t.queues) xs ++ cond b (x ∷ []) []) own ∙ ap (λ ys. ys ++ x ∷ []) (filter_where (waits_here hash t.queues) (waits_here hash s.queues) x xs same o)))
  where
    own : waits_here hash t.queues x ≡ true
    own = j.here x ∙ or_right (waits_here hash s.queues x) (same_conn x.conn x.conn && nat_eq x.seq.0 x.seq.0) (rw (same_conn-refl x.conn, same_number x.seq.0) refl)

    same : (y : Carried) → HasOther x y → waits_here hash t.queues y ≡ waits_here hash s.queues y
    same y h = j.here y ∙ ap (λ b. waits_here hash s.queues y || b) (by_test (same_conn x.conn y.conn) refl) ∙ or_none_of (waits_here hash s.queues y)
      where
        by_test : (b : Bool) → same_conn x.conn y.conn ≡ b → (b && nat_eq x.seq.0 y.seq.0) ≡ false
        by_test true k = number_sym x.seq.0 y.seq.0 ∙ h (conn_sym y.conn x.conn ∙ k)
        by_test false k = refl

-- ---- what an item moves

closed_moves : (hash : Hash) (d : ConnId) (s : Settled) → AreSingle s.queues → AreListed s.queues s.wanted → Moves hash s (closed_off d s)
closed_moves hash d s single listed = record { keep = λ c. not (same_conn d c); list = waiting-left hash d s.wanted listed.apart; here = here-others hash d s.queues single }

opened_moves : (hash : Hash) (d : ConnId) (s : Settled) → Moves hash s (opened d s)
opened_moves hash d s = stays_so hash s (opened d s) (waiting-unasked hash (link_number d.from s) s.wanted) (λ y. ap (list_any (waits_under hash y.seq)) (parked-opened y.conn d s.queues))

answered_moves : (hash : Hash) (set : QuorumTree) (s : Settled) → Moves hash s (answered set s)
answered_moves hash set s = record {
  keep = λ c. not (same_hash (hash_of set) hash);
  list = waiting-without hash (hash_of set) s.wanted ∙ kept_by (same_hash (hash_of set) hash) (waiting_for hash s.wanted);
  here = here-served (is_hash (hash_of set)) (by_answer set) hash (answer_waits set hash) s.queues;
}

given_up_moves : (hash gone : Hash) (s : Settled) → gives_up (One gone) s.wanted gone ≡ true → AreListed s.queues s.wanted → Moves hash s (gives_up_one gone (record s { wanted = missed_by (One gone) s.wanted }))
given_up_moves hash gone s g listed = record {
  keep = λ c. not (same_hash gone hash);
  list = waiting-missed (One gone) hash s.wanted listed.apart ∙ ap (λ b. cond b [] (waiting_for hash s.wanted)) (as_same (same_hash gone hash) refl) ∙ kept_by (same_hash gone hash) (waiting_for hash s.wanted);
  here = here-served (is_hash gone) (lost_by GaveUp) hash (λ x. refl) s.queues;
}
  where
    as_same : (b : Bool) → same_hash gone hash ≡ b → gives_up (One gone) s.wanted hash ≡ b
    as_same true k = subst (λ (h : Hash). gives_up (One gone) s.wanted h ≡ true) (same_hash-true gone hash k) g
    as_same false k = gives_up_other gone hash s.wanted k

missed_moves : (hash missed : Hash) (s : Settled) → gives_up (One missed) s.wanted missed ≡ false → AreListed s.queues s.wanted → Moves hash s (record s { wanted = missed_by (One missed) s.wanted })
missed_moves hash missed s g listed = stays_so hash s (record s { wanted = missed_by (One missed) s.wanted }) (waiting-missed (One missed) hash s.wanted listed.apart ∙ ap (λ b. cond b [] (waiting_for hash s.wanted)) (none (same_hash missed hash) refl)) (λ y. refl)
  where
    none : (b : Bool) → same_hash missed hash ≡ b → gives_up (One missed) s.wanted hash ≡ false
    none true k = subst (λ (h : Hash). gives_up (One missed) s.wanted h ≡ false) (same_hash-true missed hash k) g
    none false k = gives_up_other missed hash s.wanted k

tick_moves : (hash : Hash) (s : Settled) → AreSingle s.queues → AreListed s.queues s.wanted → Moves hash s (rules s (inbound.Local Tick))
tick_moves hash s single listed =
    let qs : List QueueView = in_order_of (last_missed s.wanted) s.queues in
    record {
      keep = λ c. not (gives_up All s.wanted hash);
      list = waiting-missed All hash s.wanted listed.apart ∙ kept_by (gives_up All s.wanted hash) (waiting_for hash s.wanted);
      here = λ y. here-served (is_given_up s.wanted) (lost_by GaveUp) hash (λ x. refl) qs y ∙ ap (λ (ps : List Parked). list_any (waits_under hash y.seq) ps && not (gives_up All s.wanted hash)) (parked-in_order y.conn (last_missed s.wanted) s.queues (single y.conn));
    }

side_moves : (hash : Hash) (m : SideMessage) (s : Settled) → AreListed s.queues s.wanted → Moves hash s (hears m s)
side_moves hash (GetSet h) s listed = stays_so hash s s refl (λ y. refl)
side_moves hash (Set set) s listed = by_test (is_answer set s)
  where
    by_test : (b : Bool) → Moves hash s (cond b (answered set s) s)
    by_test true = answered_moves hash set s
    by_test false = stays_so hash s s refl (λ y. refl)
side_moves hash (NoSet h) s listed = by_test (gives_up (One h) s.wanted h) refl
  where
    by_test : (b : Bool) → gives_up (One h) s.wanted h ≡ b → Moves hash s (cond b (gives_up_one h (record s { wanted = missed_by (One h) s.wanted })) (record s { wanted = missed_by (One h) s.wanted }))
    by_test true g = given_up_moves hash h s g listed
    by_test false g = missed_moves hash h s g listed

-- a message is parked
parks_so : (hash : Hash) (xs : List Carried) (x : Carried) (s : Settled) → is_open x.conn s.queues ≡ true → AreSingle s.queues → waits_here hash s.queues x ≡ false → AllByRecursion (HasOther x) xs → IsOrdered hash xs s → IsOrdered hash (xs ++ x ∷ []) (parks x (entering s.store x) s)
parks_so hash xs x s live single absent o e = by_waited (waited_by p) refl
  where
    p : Parked
    p = entering s.store x

    link : ℕ
    link = link_number x.conn.from s

    at : List Want → Settled
    at ws = record s { queues = parked_in x.conn p s.queues; wanted = ws }

    other : (y : Carried) → waits_for hash p ≡ false → waits_here hash (parked_in x.conn p s.queues) y ≡ waits_here hash s.queues y
    other y n = here-parked hash x.conn p s.queues live single y ∙ ap (λ b. waits_here hash s.queues y || (same_conn x.conn y.conn && (b && nat_eq (seq_of p).0 y.seq.0))) n ∙ ap (λ b. waits_here hash s.queues y || b) (and_none (same_conn x.conn y.conn)) ∙ or_none_of (waits_here hash s.queues y)

    own : (y : Carried) → waits_for hash p ≡ true → waits_here hash (parked_in x.conn p s.queues) y ≡ (waits_here hash s.queues y || (same_conn x.conn y.conn && nat_eq x.seq.0 y.seq.0))
    own y n = here-parked hash x.conn p s.queues live single y ∙ ap (λ b. waits_here hash s.queues y || (same_conn x.conn y.conn && (b && nat_eq (seq_of p).0 y.seq.0))) n ∙ ap (λ (q : Seq). waits_here hash s.queues y || (same_conn x.conn y.conn && nat_eq q.0 y.seq.0)) (entering_as s x)

    by_hash : (h : Hash) (b : Bool) → same_hash hash h ≡ b → waited_by p ≡ Some h → IsOrdered hash (xs ++ x ∷ []) (at (wanted_named link x.conn (Some h) s.wanted))
    by_hash h true k names = joined_by hash xs x s (at (wanted_named link x.conn (Some h) s.wanted)) (record { list = subst (λ (g : Hash). waiting_for hash (wanted_named link x.conn (Some g) s.wanted) ≡ joined x.conn (waiting_for hash s.wanted)) (same_hash-true hash h k) (waiting-asked hash link x.conn s.wanted); here = λ y. own y (waits_as hash p ∙ ap (is_hash hash) names ∙ k) }) o e
    by_hash h false k names = moved_by hash xs x s (at (wanted_named link x.conn (Some h) s.wanted)) (stays_so hash s (at (wanted_named link x.conn (Some h) s.wanted)) (waiting-asked_other hash h link x.conn s.wanted k) (λ y. other y (waits_as hash p ∙ ap (is_hash hash) names ∙ k))) absent e

    by_waited : (w : Option Hash) → waited_by p ≡ w → IsOrdered hash (xs ++ x ∷ []) (at (wanted_named link x.conn w s.wanted))
    by_waited None names = moved_by hash xs x s (at s.wanted) (stays_so hash s (at s.wanted) refl (λ y. other y (waits_as hash p ∙ ap (is_hash hash) names))) absent e
    by_waited (Some h) names = by_hash h (same_hash hash h) refl names

-- ---- one item more

carried-push : (taken : List Inbound) (item : Inbound) → carried_in (taken ++ item ∷ []) ≡ carried_in taken ++ carried_one item
carried-push taken item = flat-append carried_one taken (item ∷ []) ∙ ap (λ ys. carried_in taken ++ ys) (append_nil (carried_one item))

carried_others : (x : Carried) (taken : List Inbound) → AllByRecursion (IsOther x) taken → AllByRecursion (HasOther x) (carried_in taken)
carried_others x taken a = all_flat (IsOther x) (HasOther x) carried_one taken one a
  where
    one : (item : Inbound) → IsOther x item → AllByRecursion (HasOther x) (carried_one item)
    one (inbound.Opened d) h = tt
    one (inbound.Carried y) h = (h, tt)
    one (inbound.Side d message) h = tt
    one (inbound.Closed d cause) h = tt
    one (inbound.Local command) h = tt

-- nothing carried came
quietly : (hash : Hash) (taken : List Inbound) (item : Inbound) (s t : Settled) → carried_one item ≡ [] → Moves hash s t → IsOrdered hash (carried_in taken) s → IsOrdered hash (carried_in (taken ++ item ∷ [])) t
quietly hash taken item s t none m e = subst (λ (xs : List Carried). IsOrdered hash xs t) (sym (carried-push taken item ∙ ap (λ ys. carried_in taken ++ ys) none ∙ append_nil (carried_in taken))) (moved hash (carried_in taken) s t m e)

ordered_step : (hash : Hash) (start : Settled) (me : NodeId) (peers : List NodeId) (taken : List Inbound) (s : Settled) (out : List Ready) (item : Inbound) → Sound start taken s out → AllConns (OfPeer peers) s.queues → HasShape me peers (taken ++ item ∷ []) → IsOrdered hash (carried_in taken) s → IsOrdered hash (carried_in (taken ++ item ∷ [])) (rules s item)
ordered_step hash start me peers taken s out (inbound.Opened d) k conns shape e = by_test (opens d s)
  where
    by_test : (b : Bool) → IsOrdered hash (carried_in (taken ++ inbound.Opened d ∷ [])) (cond b (opened d s) s)
    by_test true = quietly hash taken (inbound.Opened d) s (opened d s) refl (opened_moves hash d s) e
    by_test false = quietly hash taken (inbound.Opened d) s s refl (stays_so hash s s refl (λ y. refl)) e
ordered_step hash start me peers taken s out (inbound.Carried x) k conns shape e = subst (λ (xs : List Carried). IsOrdered hash xs (rules s (inbound.Carried x))) (sym (carried-push taken (inbound.Carried x))) (by_tests (is_open x.conn s.queues) (overflows x.conn (entering s.store x) s.queues) (goes_through x.conn (entering s.store x) s.queues) refl)
  where
    came : is_open x.conn s.queues ≡ true → AllByRecursion (IsOther x) taken
    came o = others_came me peers taken x (open_conn (OfPeer peers) x.conn s.queues o conns) shape

    absent : is_open x.conn s.queues ≡ true → waits_here hash s.queues x ≡ false
    absent o = unparked start taken s.wanted hash x s.queues (came o) k.fits

    by_tests : (o f g : Bool) → is_open x.conn s.queues ≡ o → IsOrdered hash (carried_in taken ++ x ∷ []) (cond o (cond f (closed_off x.conn s) (cond g s (parks x (entering s.store x) s))) s)
    by_tests true true g o = moved_by hash (carried_in taken) x s (closed_off x.conn s) (closed_moves hash x.conn s k.single k.listed) (absent o) e
    by_tests true false true o = moved_by hash (carried_in taken) x s s (stays_so hash s s refl (λ y. refl)) (absent o) e
    by_tests true false false o = parks_so hash (carried_in taken) x s o k.single (absent o) (carried_others x taken (came o)) e
    by_tests false f g o = moved_by hash (carried_in taken) x s s (stays_so hash s s refl (λ y. refl)) (shut_absent hash x s.queues o) e
ordered_step hash start me peers taken s out (inbound.Side d m) k conns shape e = by_open (is_open d s.queues)
  where
    by_open : (b : Bool) → IsOrdered hash (carried_in (taken ++ inbound.Side d m ∷ [])) (cond b (hears m s) s)
    by_open true = quietly hash taken (inbound.Side d m) s (hears m s) refl (side_moves hash m s k.listed) e
    by_open false = quietly hash taken (inbound.Side d m) s s refl (stays_so hash s s refl (λ y. refl)) e
ordered_step hash start me peers taken s out (inbound.Closed d cause) k conns shape e = by_open (is_open d s.queues)
  where
    by_open : (b : Bool) → IsOrdered hash (carried_in (taken ++ inbound.Closed d cause ∷ [])) (cond b (closed_off d s) s)
    by_open true = quietly hash taken (inbound.Closed d cause) s (closed_off d s) refl (closed_moves hash d s k.single k.listed) e
    by_open false = quietly hash taken (inbound.Closed d cause) s s refl (stays_so hash s s refl (λ y. refl)) e
ordered_step hash start me peers taken s out (inbound.Local Tick) k conns shape e = quietly hash taken (inbound.Local Tick) s (rules s (inbound.Local Tick)) refl (tick_moves hash s k.single k.listed) e
ordered_step hash start me peers taken s out (inbound.Local (Propose slot value)) k conns shape e = quietly hash taken (inbound.Local (Propose slot value)) s s refl (stays_so hash s s refl (λ y. refl)) e
ordered_step hash start me peers taken s out (inbound.Local (Round slot)) k conns shape e = quietly hash taken (inbound.Local (Round slot)) s s refl (stays_so hash s s refl (λ y. refl)) e
ordered_step hash start me peers taken s out (inbound.Local (Timer slot)) k conns shape e = quietly hash taken (inbound.Local (Timer slot)) s s refl (stays_so hash s s refl (λ y. refl)) e
ordered_step hash start me peers taken s out (inbound.Local (Ask link slot)) k conns shape e = quietly hash taken (inbound.Local (Ask link slot)) s s refl (stays_so hash s s refl (λ y. refl)) e

-- ---- each want has a connection that waits

abbrev HasWaiter : Want → Type 0
HasWaiter want = (c : ConnId) × (has_conn c want.waiting ≡ true)

some_besides : (d : ConnId) (cs : List ConnId) → list_any (λ e. not (same_conn d e)) cs ≡ true → (c : ConnId) × (has_conn c (filter (λ e. not (same_conn d e)) cs) ≡ true)
some_besides d [] e = absurd cc
some_besides d (x ∷ xs) e = by_test (same_conn d x) refl e (some_besides d xs)
  where
    rest : List ConnId
    rest = filter (λ e. not (same_conn d e)) xs

    by_test : (b : Bool) → same_conn d x ≡ b → (not b || list_any (λ e. not (same_conn d e)) xs) ≡ true → (list_any (λ e. not (same_conn d e)) xs ≡ true → (c : ConnId) × (has_conn c rest ≡ true)) → (c : ConnId) × (has_conn c (cond (not b) (x ∷ rest) rest) ≡ true)
    by_test true k e r = r e
    by_test false k e r = (x, or_left (same_conn x x) (has_conn x rest) (same_conn-refl x))

left_some : (d : ConnId) (ws : List Want) → AllByRecursion HasWaiter ws → AllByRecursion HasWaiter (left_by d ws)
left_some d ws a = all_step (λ (w : Want). waits_besides d w ≡ true) HasWaiter (leave d) (filter (waits_besides d) ws) (λ w h. some_besides d w.waiting h) (all_kept HasWaiter (λ (w : Want). waits_besides d w ≡ true) (waits_besides d) ws (λ w h k. k) a)

asked_some : (hash : Hash) (link : ℕ) (d : ConnId) (w : Want) → HasWaiter w → HasWaiter (ask hash link d w)
asked_some hash link d w h = by_test (is_for hash w)
  where
    by_test : (b : Bool) → HasWaiter (cond b (record w { asked = slice_set w.asked link true; waiting = joined d w.waiting }) w)
    by_test true = (d, has-joined d d w.waiting ∙ or_right (has_conn d w.waiting) (same_conn d d) (same_conn-refl d))
    by_test false = h

named_some : (link : ℕ) (d : ConnId) (o : Option Hash) (ws : List Want) → AllByRecursion HasWaiter ws → AllByRecursion HasWaiter (wanted_named link d o ws)
named_some link d None ws a = a
named_some link d (Some hash) ws a = by_test (is_wanted hash ws)
  where
    by_test : (b : Bool) → AllByRecursion HasWaiter (cond b (map (ask hash link d) ws) (ws ++ new_want hash link d ∷ []))
    by_test true = all_step HasWaiter HasWaiter (ask hash link d) ws (λ w h. asked_some hash link d w h) a
    by_test false = all_append HasWaiter ws (new_want hash link d ∷ []) a ((d, or_left (same_conn d d) false (same_conn-refl d)), tt)

missed_some : (miss : Miss) (ws : List Want) → AllByRecursion HasWaiter ws → AllByRecursion HasWaiter (missed_by miss ws)
missed_some miss ws a = all_step HasWaiter HasWaiter (count_miss miss) (filter (λ w. not (is_last miss w)) ws) (λ w h. (h.0, ap (has_conn h.0) (count-waiting miss w) ∙ h.1)) (all_filter HasWaiter (λ w. not (is_last miss w)) ws a)

some_step : (s : Settled) (item : Inbound) → AllByRecursion HasWaiter s.wanted → AllByRecursion HasWaiter (rules s item).wanted
some_step s (inbound.Opened d) a = by_test (opens d s)
  where
    by_test : (b : Bool) → AllByRecursion HasWaiter (cond b (opened d s) s).wanted
    by_test true = all_step HasWaiter HasWaiter (unask (link_number d.from s)) s.wanted (λ w h. h) a
    by_test false = a
some_step s (inbound.Carried x) a = by_tests (is_open x.conn s.queues) (overflows x.conn (entering s.store x) s.queues) (goes_through x.conn (entering s.store x) s.queues)
  where
    by_tests : (o f g : Bool) → AllByRecursion HasWaiter (cond o (cond f (closed_off x.conn s) (cond g s (parks x (entering s.store x) s))) s).wanted
    by_tests true true g = left_some x.conn s.wanted a
    by_tests true false true = a
    by_tests true false false = named_some (link_number x.conn.from s) x.conn (waited_by (entering s.store x)) s.wanted a
    by_tests false f g = a
some_step s (inbound.Side d m) a = by_open (is_open d s.queues) m
  where
    by_set : (set : QuorumTree) (b : Bool) → AllByRecursion HasWaiter (cond b (answered set s) s).wanted
    by_set set true = all_filter HasWaiter (λ w. not (is_for (hash_of set) w)) s.wanted a
    by_set set false = a

    by_miss : (hash : Hash) (b : Bool) → AllByRecursion HasWaiter (cond b (gives_up_one hash (record s { wanted = missed_by (One hash) s.wanted })) (record s { wanted = missed_by (One hash) s.wanted })).wanted
    by_miss hash true = missed_some (One hash) s.wanted a
    by_miss hash false = missed_some (One hash) s.wanted a

    by_message : (m : SideMessage) → AllByRecursion HasWaiter (hears m s).wanted
    by_message (GetSet hash) = a
    by_message (Set set) = by_set set (is_answer set s)
    by_message (NoSet hash) = by_miss hash (gives_up (One hash) s.wanted hash)

    by_open : (b : Bool) (m : SideMessage) → AllByRecursion HasWaiter (cond b (hears m s) s).wanted
    by_open true m = by_message m
    by_open false m = a
some_step s (inbound.Closed d cause) a = by_open (is_open d s.queues)
  where
    by_open : (b : Bool) → AllByRecursion HasWaiter (cond b (closed_off d s) s).wanted
    by_open true = left_some d s.wanted a
    by_open false = a
some_step s (inbound.Local Tick) a = missed_some All s.wanted a
some_step s (inbound.Local (Propose slot value)) a = a
some_step s (inbound.Local (Round slot)) a = a
some_step s (inbound.Local (Timer slot)) a = a
some_step s (inbound.Local (Ask link slot)) a = a

-- ---- wanted exactly while something waits

waiting_waited : (hash : Hash) (c : ConnId) (qs : List QueueView) → is_waiting c hash qs ≡ true → is_waited hash qs ≡ true
waiting_waited hash c [] e = absurd cc
waiting_waited hash c (q ∷ qs) e = by_test (is_of c q) e (waiting_waited hash c qs)
  where
    by_test : (b : Bool) → list_any (waits_for hash) (cond b q.parked (parked_of c qs)) ≡ true → (is_waiting c hash qs ≡ true → is_waited hash qs ≡ true) → (list_any (waits_for hash) q.parked || is_waited hash qs) ≡ true
    by_test true e r = or_left (list_any (waits_for hash) q.parked) (is_waited hash qs) e
    by_test false e r = or_right (list_any (waits_for hash) q.parked) (is_waited hash qs) (r e)

none_waited : (hash : Hash) (qs : List QueueView) → AllByRecursion (λ q. list_any (waits_for hash) q.parked ≡ false) qs → is_waited hash qs ≡ false
none_waited hash [] a = refl
none_waited hash (q ∷ qs) a = rw a.0 (none_waited hash qs a.1)

wanted_waited : (start : Settled) (taken : List Inbound) (s : Settled) (out : List Ready) (hash : Hash) → Sound start taken s out → AllByRecursion HasWaiter s.wanted → is_wanted hash s.wanted ≡ is_waited hash s.queues
wanted_waited start taken s out hash k a = by_test (is_wanted hash s.wanted) refl
  where
    waits_for_it : is_wanted hash s.wanted ≡ true → is_waited hash s.queues ≡ true
    waits_for_it is =
        let one = one_of (λ (w : Want). HasWaiter w × IsListed s.queues w) (is_for hash) s.wanted (all_both HasWaiter (IsListed s.queues) (λ (w : Want). HasWaiter w × IsListed s.queues w) s.wanted (λ w h l. (h, l)) a k.listed.each) is in
        let has : HasWaiter one.0 = one.1.0 in
        let listed : IsListed s.queues one.0 = one.1.1 in
        waiting_waited hash has.0 s.queues (ap (λ (h : Hash). is_waiting has.0 h s.queues) (is_for-true hash one.0 one.2) ∙ sym (listed has.0) ∙ has.1)

    none : is_wanted hash s.wanted ≡ false → is_waited hash s.queues ≡ false
    none un = none_waited hash s.queues (all_weaker (λ (q : QueueView). parked_of q.conn s.queues ≡ q.parked) (λ (q : QueueView). list_any (waits_for hash) q.parked ≡ false) s.queues (λ q own. sym (ap (list_any (waits_for hash)) own) ∙ nothing_waits start taken s.wanted hash q.conn s.queues un k.fits) (own_from [] s.queues k.single))

    by_test : (b : Bool) → is_wanted hash s.wanted ≡ b → b ≡ is_waited hash s.queues
    by_test true e = sym (waits_for_it e)
    by_test false e = sym (none e)

-- ---- along a list of takes

record Known (start : Settled) (taken : List Inbound) (s : Settled) (out : List Ready) : Type 0 where
  sound : Sound start taken s out
  some : AllByRecursion HasWaiter s.wanted

known_along : (start : Settled) (taken items : List Inbound) (s : Settled) (out : List Ready) → Known start taken s out → Known start (taken ++ items) (settled_by s items) (out ++ released_by s items)
known_along start taken [] s out k = rw (append_nil taken, append_nil out) k
known_along start taken (item ∷ items) s out k = rw (← append_assoc taken (item ∷ []) items, ← append_assoc out (releases s item) (released_by (rules s item) items)) (known_along start (taken ++ item ∷ []) items (rules s item) (out ++ releases s item) (record { sound = sound_step start taken s out item k.sound; some = some_step s item k.some }))

pub wanted_while_waited : WantedWhileWaited
wanted_while_waited me peers taken given v p hash =
    let start = start_of me peers v in
    let k : Known start taken (settled_by start taken) (released_by start taken) = known_along start [] taken start [] (record { sound = sound_start me peers v.settled.store.local p.local_is_sane; some = tt }) in
    subst (λ (t : Settled). is_wanted hash t.wanted ≡ is_waited hash t.queues) (sym p.settled) (wanted_waited start taken (settled_by start taken) (released_by start taken) hash k.sound k.some)

record Ordered (hash : Hash) (start : Settled) (peers : List NodeId) (taken : List Inbound) (s : Settled) (out : List Ready) : Type 0 where
  sound : Sound start taken s out
  are_peers : s.peers ≡ peers
  conns : AllConns (OfPeer peers) s.queues
  order : IsOrdered hash (carried_in taken) s

first_of : (a b c : Bool) → (a && b && not c) ≡ true → a ≡ true
first_of true b c e = refl
first_of false b c e = absurd cc

ordered_along : (hash : Hash) (start : Settled) (me : NodeId) (peers : List NodeId) (taken items : List Inbound) (s : Settled) (out : List Ready) → HasShape me peers (taken ++ items) → Ordered hash start peers taken s out → Ordered hash start peers (taken ++ items) (settled_by s items) (out ++ released_by s items)
ordered_along hash start me peers taken [] s out shape k = rw (append_nil taken, append_nil out) k
ordered_along hash start me peers taken (item ∷ items) s out shape k =
    let whole : HasShape me peers ((taken ++ item ∷ []) ++ items) = subst (HasShape me peers) (sym (append_assoc taken (item ∷ []) items)) shape in
    let front : HasShape me peers (taken ++ item ∷ []) = λ link peer at. shape_front peer me (taken ++ item ∷ []) items (whole link peer at) in
    let next : Ordered hash start peers (taken ++ item ∷ []) (rules s item) (out ++ releases s item) = record {
      sound = sound_step start taken s out item k.sound;
      are_peers = frame_step (λ m ps. ps ≡ peers) s item k.are_peers;
      conns = conns_step (OfPeer peers) s item (λ d e. subst (λ (ps : List NodeId). is_some (position (λ p. same_node p d.from) ps) ≡ true) k.are_peers (first_of (is_some (link_of d.from s)) (same_node d.to s.me) (is_link_open d.from s.queues) e)) k.conns;
      order = ordered_step hash start me peers taken s out item k.sound k.conns front k.order;
    } in
    rw (← append_assoc taken (item ∷ []) items, ← append_assoc out (releases s item) (released_by (rules s item) items)) (ordered_along hash start me peers (taken ++ item ∷ []) items (rules s item) (out ++ releases s item) whole next)

pub waiters_in_order : WaitersInOrder
waiters_in_order me peers taken given v p shape hash =
    let start = start_of me peers v in
    let k : Ordered hash start peers taken (settled_by start taken) (released_by start taken) = ordered_along hash start me peers [] taken start [] shape (record { sound = sound_start me peers v.settled.store.local p.local_is_sane; are_peers = refl; conns = tt; order = refl }) in
    subst (λ (t : Settled). IsOrdered hash (carried_in taken) t) (sym p.settled) k.order
