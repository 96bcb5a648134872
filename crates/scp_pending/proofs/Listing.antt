-- The connections in a want's list are those of which something that is parked waits for its hash.
use Rattle.std.proofs.Common.{◌≡◌, ℕ, ◌+◌, Bool, true, false, cond, not, List, [], ◌∷◌, ◌++◌, refl, sym, ◌∙◌, ap, subst, arith, append_assoc, map}
use Rattle.std.specs.Prelude.{◌&&◌, ◌||◌, filter, slice_set, Option, Some, None}
use Rattle.std.specs.List.{list_any, AllByRecursion}
use Rattle.scp_wire.specs.scp_types.specs.declared.names.ConnId.{ConnId}
use Rattle.scp_wire.specs.scp_types.specs.declared.names.Hash.{Hash}
use Rattle.scp_wire.specs.scp_quorum.specs.QuorumTree.{QuorumTree}
use Rattle.scp_wire.specs.declared.carried.Carried.{Carried}
use Rattle.scp_wire.specs.declared.side.SideMessage.{SideMessage}
use Rattle.scp_wire.specs.declared.side.SideMessage.TheVariants.{GetSet, Set, NoSet}
use Rattle.scp_wire.specs.declared.link.Command.TheVariants.{Tick, Propose, Round, Timer, Ask}
use Rattle.scp_wire.specs.declared.link.Inbound.{Inbound}
use Rattle.scp_wire.specs.declared.link.Inbound.TheVariants as inbound
use Rattle.scp_wire.specs.Connections.{same_conn}
use Rattle.scp_fetch.specs.declared.want.Want.{Want}
use Rattle.scp_fetch.specs.declared.want.Miss.{Miss}
use Rattle.scp_fetch.specs.declared.want.Miss.TheVariants.{One, All}
use Rattle.scp_fetch.specs.Hashes.{same_hash}
use Rattle.scp_fetch.specs.Wants.{is_for, is_wanted, has_conn, joined, waiting_for, waits_besides, leave, left_by, ask, new_want, unask, is_missed, is_last, count_miss, missed_by, last_missed, without, gives_up}
use Rattle.scp_pending.specs.declared.parked.Parked.{Parked}
use Rattle.scp_pending.specs.declared.parked.Parked.TheVariants.{Waits, Free, Lost}
use Rattle.scp_pending.specs.declared.ready.DropCause.TheVariants.{BadSet, GaveUp}
use Rattle.scp_pending.specs.Sanity.{is_sane}
use Rattle.scp_pending.specs.Queues.{QueueView, is_of, is_open, parked_of, others, parked_in, lane_of, is_at, waits, is_held, stays_behind, served, in_order_of, named, is_hash, hash_of, waits_for, waited_by, is_waiting, resolved_one, resolved, with_set, lost_by}
use Rattle.scp_pending.specs.Causes.{plus}
pub use Rattle.scp_pending.specs.inside.Kept.{IsListed, AreApart, AreListed}
use Rattle.scp_pending.specs.Rules.{Settled, rules, opens, opened, closed_off, entering, overflows, goes_through, wanted_named, parks, by_answer, answered, is_answer, is_given_up, gives_up_one, hears, link_number}
use Rattle.scp_pending.proofs.Basics.{clash, or_none, not_false, same_hash-refl, same_hash-true, same_hash-sym, same_conn-refl, same_conn-true, all_step, all_weaker, all_append, all_both, all_kept, all_filter}
use Rattle.scp_pending.proofs.Wanting.{wanted-map, wanted-filter_of, ask-hash, count-hash, is_for-true, none_wanted}
use Rattle.scp_pending.proofs.Serving.{how_many, AreSingle, how_many-append, how_many-others_mine, none_shut, shut_none, others_few, parked-append, parked-opened, parked-others_mine, parked-others_other, parked_in-mine, parked_in-other, parked-resolved, parked-served, parked-in_order, single-in_order}

-- ---- tests

pub and_none : (b : Bool) → (b && false) ≡ false
and_none true = refl
and_none false = refl

pub and_all : (b : Bool) → (b && true) ≡ b
and_all true = refl
and_all false = refl

pub or_none_of : (b : Bool) → (b || false) ≡ b
or_none_of true = refl
or_none_of false = refl

or_three : (a b c : Bool) → (a || (b || c)) ≡ ((a || b) || c)
or_three true b c = refl
or_three false b c = refl

pub any_push : {X : Type 0} (test : X → Bool) (xs : List X) (x : X) → list_any test (xs ++ x ∷ []) ≡ (list_any test xs || test x)
any_push test [] x = or_none_of (test x)
any_push test (y ∷ ys) x = ap (λ b. test y || b) (any_push test ys x) ∙ or_three (test y) (list_any test ys) (test x)

pub conn_sym : (c d : ConnId) → same_conn c d ≡ same_conn d c
conn_sym c d = by_tests (same_conn c d) (same_conn d c) refl refl
  where
    by_tests : (a b : Bool) → same_conn c d ≡ a → same_conn d c ≡ b → a ≡ b
    by_tests true true e f = refl
    by_tests false false e f = refl
    by_tests true false e f = sym (subst (λ (k : ConnId). same_conn k c ≡ true) (same_conn-true c d e) (same_conn-refl c)) ∙ f
    by_tests false true e f = sym e ∙ subst (λ (k : ConnId). same_conn k d ≡ true) (same_conn-true d c f) (same_conn-refl d)

-- ---- a list of connections

pub has-joined : (c d : ConnId) (conns : List ConnId) → has_conn c (joined d conns) ≡ (has_conn c conns || same_conn d c)
has-joined c d conns = by_test (has_conn d conns) refl
  where
    same : (b : Bool) → same_conn d c ≡ b → has_conn d conns ≡ true → has_conn c conns ≡ (has_conn c conns || b)
    same true k h = (let there : has_conn c conns ≡ true = subst (λ (e : ConnId). has_conn e conns ≡ true) (same_conn-true d c k) h in rw there refl)
    same false k h = sym (or_none_of (has_conn c conns))

    by_test : (b : Bool) → has_conn d conns ≡ b → has_conn c (cond b conns (conns ++ d ∷ [])) ≡ (has_conn c conns || same_conn d c)
    by_test true h = same (same_conn d c) refl h
    by_test false h = any_push (same_conn c) conns d ∙ ap (λ b. has_conn c conns || b) (conn_sym c d)

pub has-left : (c d : ConnId) (conns : List ConnId) → has_conn c (filter (λ e. not (same_conn d e)) conns) ≡ (has_conn c conns && not (same_conn d c))
has-left c d [] = refl
has-left c d (e ∷ es) = by_tests (same_conn d e) (same_conn c e) refl refl (has-left c d es)
  where
    by_tests : (b k : Bool) → same_conn d e ≡ b → same_conn c e ≡ k → has_conn c (filter (λ e. not (same_conn d e)) es) ≡ (has_conn c es && not (same_conn d c)) → has_conn c (cond (not b) (e ∷ filter (λ e. not (same_conn d e)) es) (filter (λ e. not (same_conn d e)) es)) ≡ ((k || has_conn c es) && not (same_conn d c))
    by_tests true true p q rest = (let mine : same_conn d c ≡ true = subst (λ (a : ConnId). same_conn d a ≡ true) (sym (same_conn-true c e q)) p in rest ∙ ap (λ b. has_conn c es && not b) mine ∙ and_none (has_conn c es) ∙ sym (ap (λ b. not b) mine))
    by_tests true false p q rest = rest
    by_tests false true p q rest = (let other : same_conn d c ≡ false = subst (λ (a : ConnId). same_conn d a ≡ false) (sym (same_conn-true c e q)) p in rw (q, other) refl)
    by_tests false false p q rest = rw q rest

besides : (c d : ConnId) (conns : List ConnId) → same_conn d c ≡ false → has_conn c conns ≡ true → list_any (λ e. not (same_conn d e)) conns ≡ true
besides c d [] o h = absurd cc
besides c d (e ∷ es) o h = by_tests (same_conn d e) (same_conn c e) refl refl h (besides c d es o)
  where
    by_tests : (b k : Bool) → same_conn d e ≡ b → same_conn c e ≡ k → (k || has_conn c es) ≡ true → (has_conn c es ≡ true → list_any (λ e. not (same_conn d e)) es ≡ true) → (not b || list_any (λ e. not (same_conn d e)) es) ≡ true
    by_tests false k p q h rest = refl
    by_tests true true p q h rest = clash (same_conn d c) (subst (λ (a : ConnId). same_conn d a ≡ true) (sym (same_conn-true c e q)) p) o
    by_tests true false p q h rest = rest h

-- ---- the wants, each listed

apart-map : (f : Want → Want) → ((w : Want) → (f w).hash ≡ w.hash) → (ws : List Want) → AreApart ws → AreApart (map f ws)
apart-map f same [] a = tt
apart-map f same (w ∷ ws) a = (wanted-map f same (f w).hash ws ∙ ap (λ h. is_wanted h ws) (same w) ∙ a.0, apart-map f same ws a.1)

pub unwanted-filter : (keep : Want → Bool) (hash : Hash) (ws : List Want) → is_wanted hash ws ≡ false → is_wanted hash (filter keep ws) ≡ false
unwanted-filter keep hash [] e = refl
unwanted-filter keep hash (w ∷ ws) e = (let both = or_none (is_for hash w) (is_wanted hash ws) e in by_test (keep w) both.0 (unwanted-filter keep hash ws both.1))
  where
    by_test : (b : Bool) → is_for hash w ≡ false → is_wanted hash (filter keep ws) ≡ false → is_wanted hash (cond b (w ∷ filter keep ws) (filter keep ws)) ≡ false
    by_test true f rest = rw f rest
    by_test false f rest = rest

apart-filter : (keep : Want → Bool) (ws : List Want) → AreApart ws → AreApart (filter keep ws)
apart-filter keep [] a = tt
apart-filter keep (w ∷ ws) a = by_test (keep w) (apart-filter keep ws a.1)
  where
    by_test : (b : Bool) → AreApart (filter keep ws) → AreApart (cond b (w ∷ filter keep ws) (filter keep ws))
    by_test true rest = (unwanted-filter keep w.hash ws a.0, rest)
    by_test false rest = rest

unwanted-push : (hash : Hash) (ws : List Want) (w : Want) → is_wanted hash ws ≡ false → is_for hash w ≡ false → is_wanted hash (ws ++ w ∷ []) ≡ false
unwanted-push hash ws w e f = any_push (is_for hash) ws w ∙ rw (e, f) refl

apart-push : (ws : List Want) (w : Want) → is_wanted w.hash ws ≡ false → AreApart ws → AreApart (ws ++ w ∷ [])
apart-push [] w e a = (refl, tt)
apart-push (v ∷ vs) w e a = (let both = or_none (is_for w.hash v) (is_wanted w.hash vs) e in (unwanted-push v.hash vs w a.0 (same_hash-sym v.hash w.hash ∙ both.0), apart-push vs w both.1 a.1))

-- ---- a connection ends

pub still_left : (c d : ConnId) (hash : Hash) (queues : List QueueView) (ws : List Want) → same_conn c d ≡ false → is_waiting d hash queues ≡ true → AllByRecursion (IsListed queues) ws → is_wanted hash ws ≡ true → is_wanted hash (left_by c ws) ≡ true
still_left c d hash queues ws o waits a is = wanted-map (leave c) (λ w. refl) hash (filter (waits_besides c) ws) ∙ wanted-filter_of (IsListed queues) (waits_besides c) hash ws (λ w l f. besides d c w.waiting o (l d ∙ ap (λ (h : Hash). is_waiting d h queues) (sym (is_for-true hash w f)) ∙ waits)) a is

closed_listed : (d : ConnId) (qs : List QueueView) (ws : List Want) → AreSingle qs → AreListed qs ws → AreListed (others d qs) (left_by d ws)
closed_listed d qs ws single l = record {
  each = all_step (IsListed qs) (IsListed (others d qs)) (leave d) (filter (waits_besides d) ws) one (all_filter (IsListed qs) (waits_besides d) ws l.each);
  apart = apart-map (leave d) (λ w. refl) (filter (waits_besides d) ws) (apart-filter (waits_besides d) ws l.apart);
}
  where
    one : (w : Want) → IsListed qs w → IsListed (others d qs) (leave d w)
    one w h c = has-left c d w.waiting ∙ ap (λ b. b && not (same_conn d c)) (h c) ∙ by_test (same_conn d c) refl
      where
        by_test : (b : Bool) → same_conn d c ≡ b → (is_waiting c w.hash qs && not b) ≡ is_waiting c w.hash (others d qs)
        by_test true e = and_none (is_waiting c w.hash qs) ∙ sym (ap (list_any (waits_for w.hash)) (subst (λ (k : ConnId). parked_of k (others d qs) ≡ []) (same_conn-true d c e) (parked-others_mine d qs (single d))))
        by_test false e = and_all (is_waiting c w.hash qs) ∙ sym (ap (list_any (waits_for w.hash)) (parked-others_other d c qs e))

-- a queue of another connection, and all that is parked of it
pub record StandsElse (c : ConnId) (qs : List QueueView) (q : QueueView) : Type 0 where
  pub other : same_conn c q.conn ≡ false
  pub own : parked_of q.conn qs ≡ q.parked

pub own_from : (front qs : List QueueView) → AreSingle (front ++ qs) → AllByRecursion (λ q. parked_of q.conn (front ++ qs) ≡ q.parked) qs
own_from front [] a = tt
own_from front (q ∷ qs) a = (
  (let few : how_many q.conn (q ∷ qs) ≡ how_many q.conn qs + 1 = ap (plus_one (how_many q.conn qs)) (same_conn-refl q.conn) in let none : how_many q.conn front ≡ 0 = omega (arith, a q.conn, how_many-append q.conn front (q ∷ qs), few) in parked-append q.conn front (q ∷ qs) (shut_none q.conn front none) ∙ rw (same_conn-refl q.conn) refl),
  subst (λ (all : List QueueView). AllByRecursion (λ r. parked_of r.conn all ≡ r.parked) qs) (append_assoc front (q ∷ []) qs) (own_from (front ++ q ∷ []) qs (subst AreSingle (sym (append_assoc front (q ∷ []) qs)) a)),
)
  where
    plus_one : (n : ℕ) (b : Bool) → ℕ
    plus_one n b = plus n b

none_of_conn : (c : ConnId) (qs : List QueueView) → how_many c qs ≡ 0 → AllByRecursion (λ q. same_conn c q.conn ≡ false) qs
none_of_conn c [] e = tt
none_of_conn c (q ∷ qs) e = by_test (is_of c q) refl e (none_of_conn c qs)
  where
    by_test : (b : Bool) → is_of c q ≡ b → plus (how_many c qs) b ≡ 0 → (how_many c qs ≡ 0 → AllByRecursion (λ q. same_conn c q.conn ≡ false) qs) → AllByRecursion (λ q. same_conn c q.conn ≡ false) (q ∷ qs)
    by_test true k e rest = absurd (omega (arith, e))
    by_test false k e rest = (conn_sym c q.conn ∙ k, rest e)

all_others' : (P : QueueView → Type 0) (c : ConnId) (qs : List QueueView) → AllByRecursion P qs → AllByRecursion P (others c qs)
all_others' P c [] a = tt
all_others' P c (q ∷ qs) a = elim (is_of c q) as (λ b. AllByRecursion P (cond b qs (q ∷ others c qs))) [ true ↦ a.1 | false ↦ (a.0, all_others' P c qs a.1) ]

pub others_else : (c : ConnId) (qs : List QueueView) → AreSingle qs → AllByRecursion (StandsElse c qs) (others c qs)
others_else c qs single = all_both (λ (q : QueueView). same_conn c q.conn ≡ false) (λ (q : QueueView). parked_of q.conn qs ≡ q.parked) (StandsElse c qs) (others c qs) (λ q o e. record { other = o; own = e }) (none_of_conn c (others c qs) (by_test (is_open c qs) refl)) (all_others' (λ (q : QueueView). parked_of q.conn qs ≡ q.parked) c qs (own_from [] qs single))
  where
    by_test : (b : Bool) → is_open c qs ≡ b → how_many c (others c qs) ≡ 0
    by_test true e = omega (arith, how_many-others_mine c qs e, single c)
    by_test false e = omega (arith, others_few c c qs, none_shut c qs e)

-- ---- what is resolved and served

not_waits : (hash : Hash) (p : Parked) → waits p ≡ false → waits_for hash p ≡ false
not_waits hash (Waits x) e = absurd cc
not_waits hash (Free d) e = refl
not_waits hash (Lost x cause) e = refl

pub stays_any : (hash : Hash) (kept ps : List Parked) → list_any (waits_for hash) (stays_behind kept ps) ≡ list_any (waits_for hash) ps
stays_any hash kept [] = refl
stays_any hash kept (p ∷ ps) = by_test (is_held kept p) refl (stays_any hash (kept ++ p ∷ []) ps) (stays_any hash kept ps)
  where
    by_test : (b : Bool) → is_held kept p ≡ b → list_any (waits_for hash) (stays_behind (kept ++ p ∷ []) ps) ≡ list_any (waits_for hash) ps → list_any (waits_for hash) (stays_behind kept ps) ≡ list_any (waits_for hash) ps → list_any (waits_for hash) (cond b (p ∷ stays_behind (kept ++ p ∷ []) ps) (stays_behind kept ps)) ≡ (waits_for hash p || list_any (waits_for hash) ps)
    by_test true e stay go = ap (λ b. waits_for hash p || b) stay
    by_test false e stay go = go ∙ ap (λ b. b || list_any (waits_for hash) ps) (sym (not_waits hash p (or_none (waits p) (list_any (is_at (lane_of p)) kept) e).0))

pub not_named : (test : Option Hash → Bool) (hash : Hash) (o : Option Hash) → test (Some hash) ≡ false → test o ≡ true → is_hash hash o ≡ false
not_named test hash None e t = refl
not_named test hash (Some other) e t = by_test (same_hash hash other) refl
  where
    by_test : (b : Bool) → same_hash hash other ≡ b → b ≡ false
    by_test true k = clash (test (Some hash)) (subst (λ (h : Hash). test (Some h) ≡ true) (sym (same_hash-true hash other k)) t) e
    by_test false k = refl

pub resolved_any : (test : Option Hash → Bool) (f : Carried → Parked) (hash : Hash) → ((x : Carried) → waits_for hash (f x) ≡ false) → test (Some hash) ≡ false → (ps : List Parked) → list_any (waits_for hash) (map (resolved_one test f) ps) ≡ list_any (waits_for hash) ps
resolved_any test f hash none e [] = refl
resolved_any test f hash none e (Waits x ∷ ps) = by_test (test (named x.message)) refl (resolved_any test f hash none e ps)
  where
    by_test : (b : Bool) → test (named x.message) ≡ b → list_any (waits_for hash) (map (resolved_one test f) ps) ≡ list_any (waits_for hash) ps → (waits_for hash (cond b (f x) (Waits x)) || list_any (waits_for hash) (map (resolved_one test f) ps)) ≡ (is_hash hash (named x.message) || list_any (waits_for hash) ps)
    by_test true t rest = rw (none x, not_named test hash (named x.message) e t) rest
    by_test false t rest = ap (λ b. is_hash hash (named x.message) || b) rest
resolved_any test f hash none e (Free d ∷ ps) = resolved_any test f hash none e ps
resolved_any test f hash none e (Lost x cause ∷ ps) = resolved_any test f hash none e ps

pub served_same : (test : Option Hash → Bool) (f : Carried → Parked) (hash : Hash) (qs : List QueueView) → ((x : Carried) → waits_for hash (f x) ≡ false) → test (Some hash) ≡ false → AreSingle qs → (c : ConnId) → is_waiting c hash (served (resolved test f qs)) ≡ is_waiting c hash qs
served_same test f hash qs none e single c =
    ap (list_any (waits_for hash)) (parked-served c (resolved test f qs)) ∙ stays_any hash [] (parked_of c (resolved test f qs)) ∙ ap (list_any (waits_for hash)) (parked-resolved c test f qs) ∙ resolved_any test f hash none e (parked_of c qs)

pub answer_waits : (set : QuorumTree) (hash : Hash) (x : Carried) → waits_for hash (by_answer set x) ≡ false
answer_waits set hash x = by_test (is_sane set)
  where
    by_test : (b : Bool) → waits_for hash ((cond b (with_set (Some set)) (lost_by BadSet)) x) ≡ false
    by_test true = refl
    by_test false = refl

-- the wants for which the test says no are as before
served_listed : (test : Option Hash → Bool) (f : Carried → Parked) (qs : List QueueView) (ws : List Want) → ((hash : Hash) (x : Carried) → waits_for hash (f x) ≡ false) → AreSingle qs → AllByRecursion (λ (w : Want). IsListed qs w × (test (Some w.hash) ≡ false)) ws → AllByRecursion (IsListed (served (resolved test f qs))) ws
served_listed test f qs ws none single a = all_weaker (λ (w : Want). IsListed qs w × (test (Some w.hash) ≡ false)) (IsListed (served (resolved test f qs))) ws (λ w h c. h.0 c ∙ sym (served_same test f w.hash qs (none w.hash) h.1 single c)) a

-- ---- misses

-- if no hash is wanted twice, each want is given up where its own miss is the last
given_each : (miss : Miss) (ws : List Want) → AreApart ws → AllByRecursion (λ (w : Want). gives_up miss ws w.hash ≡ is_last miss w) ws
given_each miss [] a = tt
given_each miss (v ∷ vs) a = (
  rw (same_hash-refl v.hash) (by_own (is_last miss v) (none_up v.hash vs a.0)),
  all_both (λ (w : Want). gives_up miss vs w.hash ≡ is_last miss w) (λ (w : Want). is_for v.hash w ≡ false) (λ (w : Want). gives_up miss (v ∷ vs) w.hash ≡ is_last miss w) vs (λ w h o. rw (same_hash-sym w.hash v.hash ∙ o) h) (given_each miss vs a.1) (none_wanted v.hash vs a.0),
)
  where
    none_up : (hash : Hash) (ws : List Want) → is_wanted hash ws ≡ false → gives_up miss ws hash ≡ false
    none_up hash [] e = refl
    none_up hash (w ∷ ws) e = (let both = or_none (is_for hash w) (is_wanted hash ws) e in rw both.0 (none_up hash ws both.1))

    by_own : (b : Bool) → gives_up miss vs v.hash ≡ false → (b || gives_up miss vs v.hash) ≡ b
    by_own true e = refl
    by_own false e = e

pub count-waiting : (miss : Miss) (w : Want) → (count_miss miss w).waiting ≡ w.waiting
count-waiting miss w = by_test (is_missed miss w.hash)
  where
    by_test : (b : Bool) → (cond b (record w { misses = w.misses + 1 }) w).waiting ≡ w.waiting
    by_test true = refl
    by_test false = refl

count_listed : (miss : Miss) (qs : List QueueView) (w : Want) → IsListed qs w → IsListed qs (count_miss miss w)
count_listed miss qs w h c = ap (has_conn c) (count-waiting miss w) ∙ h c ∙ ap (λ (k : Hash). is_waiting c k qs) (sym (count-hash miss w))

missed_listed : (miss : Miss) (test : Option Hash → Bool) (qs served' : List QueueView) (ws : List Want) → ((w : Want) → gives_up miss ws w.hash ≡ is_last miss w → is_last miss w ≡ false → test (Some w.hash) ≡ false) → AreListed qs ws → ((vs : List Want) → AllByRecursion (λ (w : Want). IsListed qs w × (test (Some w.hash) ≡ false)) vs → AllByRecursion (IsListed served') vs) → AreListed served' (missed_by miss ws)
missed_listed miss test qs served' ws kept l serve = record {
  each = all_step (IsListed served') (IsListed served') (count_miss miss) (filter (λ w. not (is_last miss w)) ws) (λ w h. count_listed miss served' w h) (serve (filter (λ w. not (is_last miss w)) ws) (all_kept (λ (w : Want). IsListed qs w × (gives_up miss ws w.hash ≡ is_last miss w)) (λ (w : Want). IsListed qs w × (test (Some w.hash) ≡ false)) (λ w. not (is_last miss w)) ws (λ w h k. (h.0, kept w h.1 (not_false (is_last miss w) k))) (all_both (IsListed qs) (λ (w : Want). gives_up miss ws w.hash ≡ is_last miss w) (λ (w : Want). IsListed qs w × (gives_up miss ws w.hash ≡ is_last miss w)) ws (λ w a b. (a, b)) l.each (given_each miss ws l.apart))));
  apart = apart-map (count_miss miss) (count-hash miss) (filter (λ w. not (is_last miss w)) ws) (apart-filter (λ w. not (is_last miss w)) ws l.apart);
}

-- where no want ends that is missed
missed_still : (miss : Miss) (qs : List QueueView) (ws : List Want) → AreListed qs ws → AreListed qs (missed_by miss ws)
missed_still miss qs ws l = missed_listed miss (λ o. false) qs qs ws (λ w g k. refl) l (λ vs a. all_weaker (λ (w : Want). IsListed qs w × (false ≡ false)) (IsListed qs) vs (λ w h. h.0) a)

-- ---- a message is parked

pub waits_as : (hash : Hash) (p : Parked) → waits_for hash p ≡ is_hash hash (waited_by p)
waits_as hash (Waits x) = refl
waits_as hash (Free d) = refl
waits_as hash (Lost x cause) = refl

pub parked_waiting : (c d : ConnId) (hash : Hash) (p : Parked) (qs : List QueueView) → is_open d qs ≡ true → AreSingle qs → is_waiting c hash (parked_in d p qs) ≡ (is_waiting c hash qs || (same_conn d c && is_hash hash (waited_by p)))
parked_waiting c d hash p qs live single = by_test (same_conn d c) refl
  where
    by_test : (b : Bool) → same_conn d c ≡ b → is_waiting c hash (parked_in d p qs) ≡ (is_waiting c hash qs || (b && is_hash hash (waited_by p)))
    by_test true e = subst (λ (k : ConnId). is_waiting k hash (parked_in d p qs) ≡ (is_waiting k hash qs || is_hash hash (waited_by p))) (same_conn-true d c e) (ap (list_any (waits_for hash)) (parked_in-mine d p qs live (single d)) ∙ any_push (waits_for hash) (parked_of d qs) p ∙ ap (λ b. is_waiting d hash qs || b) (waits_as hash p))
    by_test false e = ap (list_any (waits_for hash)) (parked_in-other d c p qs e) ∙ sym (or_none_of (is_waiting c hash qs))

asked_listed : (d : ConnId) (link : ℕ) (hash : Hash) (p : Parked) (qs : List QueueView) (w : Want) → is_open d qs ≡ true → AreSingle qs → waited_by p ≡ Some hash → IsListed qs w → IsListed (parked_in d p qs) (ask hash link d w)
asked_listed d link hash p qs w live single names h c = by_test (is_for hash w) refl
  where
    hit : (b : Bool) → is_for hash w ≡ b → is_hash w.hash (waited_by p) ≡ b
    hit b k = ap (is_hash w.hash) names ∙ same_hash-sym w.hash hash ∙ k

    by_test : (b : Bool) → is_for hash w ≡ b → has_conn c (cond b (record w { asked = slice_set w.asked link true; waiting = joined d w.waiting }) w).waiting ≡ is_waiting c (cond b (record w { asked = slice_set w.asked link true; waiting = joined d w.waiting }) w).hash (parked_in d p qs)
    by_test true k = has-joined c d w.waiting ∙ ap (λ b. b || same_conn d c) (h c) ∙ ap (λ b. is_waiting c w.hash qs || b) (sym (and_all (same_conn d c)) ∙ ap (λ b. same_conn d c && b) (sym (hit true k))) ∙ sym (parked_waiting c d w.hash p qs live single)
    by_test false k = h c ∙ sym (or_none_of (is_waiting c w.hash qs)) ∙ ap (λ b. is_waiting c w.hash qs || b) (sym (and_none (same_conn d c)) ∙ ap (λ b. same_conn d c && b) (sym (hit false k))) ∙ sym (parked_waiting c d w.hash p qs live single)

parks_listed : (x : Carried) (p : Parked) (s : Settled) → is_open x.conn s.queues ≡ true → AreSingle s.queues → ((hash : Hash) (c : ConnId) → is_wanted hash s.wanted ≡ false → is_waiting c hash s.queues ≡ false) → AreListed s.queues s.wanted → AreListed (parks x p s).queues (parks x p s).wanted
parks_listed x p s live single none l = by_waited (waited_by p) refl
  where
    d : ConnId
    d = x.conn

    link : ℕ
    link = link_number x.conn.from s

    qs' : List QueueView
    qs' = parked_in d p s.queues

    same_by : (w : Want) → is_hash w.hash (waited_by p) ≡ false → IsListed s.queues w → IsListed qs' w
    same_by w o h c = h c ∙ sym (or_none_of (is_waiting c w.hash s.queues)) ∙ ap (λ b. is_waiting c w.hash s.queues || b) (sym (and_none (same_conn d c)) ∙ ap (λ b. same_conn d c && b) (sym o)) ∙ sym (parked_waiting c d w.hash p s.queues live single)

    by_want : (hash : Hash) (b : Bool) → waited_by p ≡ Some hash → is_wanted hash s.wanted ≡ b → AreListed qs' (cond b (map (ask hash link d) s.wanted) (s.wanted ++ new_want hash link d ∷ []))
    by_want hash true names w = record {
      each = all_step (IsListed s.queues) (IsListed qs') (ask hash link d) s.wanted (λ v h. asked_listed d link hash p s.queues v live single names h) l.each;
      apart = apart-map (ask hash link d) (ask-hash hash link d) s.wanted l.apart;
    }
    by_want hash false names w = record {
      each = all_append (IsListed qs') s.wanted (new_want hash link d ∷ []) (all_both (IsListed s.queues) (λ (v : Want). is_for hash v ≡ false) (IsListed qs') s.wanted (λ v h o. same_by v (ap (is_hash v.hash) names ∙ same_hash-sym v.hash hash ∙ o) h) l.each (none_wanted hash s.wanted w)) (own, tt);
      apart = apart-push s.wanted (new_want hash link d) w l.apart;
    }
      where
        own : IsListed qs' (new_want hash link d)
        own c = or_none_of (same_conn c d) ∙ conn_sym c d ∙ sym (and_all (same_conn d c)) ∙ ap (λ b. same_conn d c && b) (sym (ap (is_hash hash) names ∙ same_hash-refl hash)) ∙ ap (λ b. b || (same_conn d c && is_hash hash (waited_by p))) (sym (none hash c w)) ∙ sym (parked_waiting c d hash p s.queues live single)

    by_waited : (o : Option Hash) → waited_by p ≡ o → AreListed qs' (wanted_named link d o s.wanted)
    by_waited None names = record { each = all_weaker (IsListed s.queues) (IsListed qs') s.wanted (λ v h. same_by v (ap (is_hash v.hash) names) h) l.each; apart = l.apart }
    by_waited (Some hash) names = by_want hash (is_wanted hash s.wanted) names refl

-- ---- one item more

pub listed_step : (s : Settled) (item : Inbound) → AreSingle s.queues → ((hash : Hash) (c : ConnId) → is_wanted hash s.wanted ≡ false → is_waiting c hash s.queues ≡ false) → AreListed s.queues s.wanted → AreListed (rules s item).queues (rules s item).wanted
listed_step s (inbound.Opened d) single none l = by_test (opens d s)
  where
    by_test : (b : Bool) → AreListed (cond b (opened d s) s).queues (cond b (opened d s) s).wanted
    by_test true = record {
      each = all_step (IsListed s.queues) (IsListed (opened d s).queues) (unask (link_number d.from s)) s.wanted (λ w h c. h c ∙ sym (ap (list_any (waits_for w.hash)) (parked-opened c d s.queues))) l.each;
      apart = apart-map (unask (link_number d.from s)) (λ w. refl) s.wanted l.apart;
    }
    by_test false = l
listed_step s (inbound.Carried x) single none l = by_tests (is_open x.conn s.queues) (overflows x.conn (entering s.store x) s.queues) (goes_through x.conn (entering s.store x) s.queues) refl
  where
    at : Settled → Type 0
    at t = AreListed t.queues t.wanted

    by_tests : (o f g : Bool) → is_open x.conn s.queues ≡ o → at (cond o (cond f (closed_off x.conn s) (cond g s (parks x (entering s.store x) s))) s)
    by_tests true true g o = closed_listed x.conn s.queues s.wanted single l
    by_tests true false true o = l
    by_tests true false false o = parks_listed x (entering s.store x) s o single none l
    by_tests false f g o = l
listed_step s (inbound.Side d m) single none l = by_open (is_open d s.queues) m
  where
    at : Settled → Type 0
    at t = AreListed t.queues t.wanted

    by_set : (set : QuorumTree) (b : Bool) → at (cond b (answered set s) s)
    by_set set true = record {
      each = served_listed (is_hash (hash_of set)) (by_answer set) s.queues (without (hash_of set) s.wanted) (λ hash x. answer_waits set hash x) single (all_kept (IsListed s.queues) (λ (w : Want). IsListed s.queues w × (is_hash (hash_of set) (Some w.hash) ≡ false)) (λ w. not (is_for (hash_of set) w)) s.wanted (λ w h k. (h, not_false (is_for (hash_of set) w) k)) l.each);
      apart = apart-filter (λ w. not (is_for (hash_of set) w)) s.wanted l.apart;
    }
    by_set set false = l

    last_of : (hash : Hash) → gives_up (One hash) s.wanted hash ≡ true → (w : Want) → gives_up (One hash) s.wanted w.hash ≡ is_last (One hash) w → is_last (One hash) w ≡ false → same_hash hash w.hash ≡ false
    last_of hash g w e k = by_same (same_hash hash w.hash) refl
      where
        by_same : (b : Bool) → same_hash hash w.hash ≡ b → b ≡ false
        by_same true h = clash (is_last (One hash) w) (sym e ∙ subst (λ (o : Hash). gives_up (One hash) s.wanted o ≡ true) (same_hash-true hash w.hash h) g) k
        by_same false h = refl

    by_miss : (hash : Hash) (b : Bool) → gives_up (One hash) s.wanted hash ≡ b → at (cond b (gives_up_one hash (record s { wanted = missed_by (One hash) s.wanted })) (record s { wanted = missed_by (One hash) s.wanted }))
    by_miss hash true g = missed_listed (One hash) (is_hash hash) s.queues (served (resolved (is_hash hash) (lost_by GaveUp) s.queues)) s.wanted (λ w e k. last_of hash g w e k) l (λ vs a. served_listed (is_hash hash) (lost_by GaveUp) s.queues vs (λ h x. refl) single a)
    by_miss hash false g = missed_still (One hash) s.queues s.wanted l

    by_message : (m : SideMessage) → at (hears m s)
    by_message (GetSet hash) = l
    by_message (Set set) = by_set set (is_answer set s)
    by_message (NoSet hash) = by_miss hash (gives_up (One hash) s.wanted hash) refl

    by_open : (b : Bool) (m : SideMessage) → at (cond b (hears m s) s)
    by_open true m = by_message m
    by_open false m = l
listed_step s (inbound.Closed d cause) single none l = by_open (is_open d s.queues)
  where
    by_open : (b : Bool) → AreListed (cond b (closed_off d s) s).queues (cond b (closed_off d s) s).wanted
    by_open true = closed_listed d s.queues s.wanted single l
    by_open false = l
listed_step s (inbound.Local Tick) single none l =
    let qs : List QueueView = in_order_of (last_missed s.wanted) s.queues in
    let in_order : (w : Want) → IsListed s.queues w → IsListed qs w = λ w h c. h c ∙ sym (ap (list_any (waits_for w.hash)) (parked-in_order c (last_missed s.wanted) s.queues (single c))) in
    missed_listed All (is_given_up s.wanted) qs (served (resolved (is_given_up s.wanted) (lost_by GaveUp) qs)) s.wanted (λ w e k. e ∙ k) (record { each = all_weaker (IsListed s.queues) (IsListed qs) s.wanted in_order l.each; apart = l.apart }) (λ vs a. served_listed (is_given_up s.wanted) (lost_by GaveUp) qs vs (λ h x. refl) (single-in_order (last_missed s.wanted) s.queues single) a)
listed_step s (inbound.Local (Propose slot value)) single none l = l
listed_step s (inbound.Local (Round slot)) single none l = l
listed_step s (inbound.Local (Timer slot)) single none l = l
listed_step s (inbound.Local (Ask link slot)) single none l = l

-- ---- the list of a hash

pub waiting_is : (hash : Hash) (qs : List QueueView) (ws : List Want) → AllByRecursion (IsListed qs) ws → (is_wanted hash ws ≡ false → (c : ConnId) → is_waiting c hash qs ≡ false) → (c : ConnId) → has_conn c (waiting_for hash ws) ≡ is_waiting c hash qs
waiting_is hash qs [] a none c = sym (none refl c)
waiting_is hash qs (w ∷ ws) a none c = by_test (is_for hash w) refl (λ un. un) (waiting_is hash qs ws a.1)
  where
    by_test : (b : Bool) → is_for hash w ≡ b → (is_wanted hash ws ≡ false → is_wanted hash ws ≡ false) → ((is_wanted hash ws ≡ false → (c : ConnId) → is_waiting c hash qs ≡ false) → (c : ConnId) → has_conn c (waiting_for hash ws) ≡ is_waiting c hash qs) → has_conn c (cond b w.waiting (waiting_for hash ws)) ≡ is_waiting c hash qs
    by_test true k i rest = a.0 c ∙ ap (λ (h : Hash). is_waiting c h qs) (sym (is_for-true hash w k))
    by_test false k i rest = rest (λ un. none (rw (k, un) refl)) c
