-- The queues: how many a connection has, what is parked of it, and what leaves.
use Rattle.std.proofs.Common.{◌≡◌, ℕ, ◌+◌, ◌≤◌, Bool, true, false, cond, not, List, [], ◌∷◌, ◌++◌, refl, sym, ◌∙◌, ap, subst, arith, map}
use Rattle.std.specs.Prelude.{◌||◌, filter}
use Rattle.std.specs.List.{AllByRecursion}
use Rattle.scp_wire.specs.scp_types.specs.declared.names.ConnId.{ConnId}
use Rattle.scp_wire.specs.scp_types.specs.declared.names.Hash.{Hash}
use Rattle.scp_wire.specs.declared.carried.Carried.{Carried}
use Rattle.scp_wire.specs.Connections.{same_conn}
use Rattle.scp_pending.specs.declared.parked.Parked.{Parked}
use Rattle.scp_pending.specs.declared.ready.Ready.{Ready}
use Rattle.scp_pending.specs.Queues.{QueueView, is_of, is_open, parked_of, others, changed, with_parked, parked_in, is_empty, leaves_of, stays_of, stays_in, served, leaves_in, leaving_of, is_head_waiting, with_first, in_order_of, resolved_one, resolved}
use Rattle.scp_pending.specs.Line.{ready_mark, marks_of, parked_mark}
use Rattle.scp_pending.specs.Causes.{plus}
pub use Rattle.scp_pending.specs.inside.Kept.{how_many, AreSingle}
pub use Rattle.scp_pending.proofs.Laning.{IsParkedOf}
use Rattle.scp_pending.proofs.Laning.{HasLane, leaves-other, lane_apart}
use Rattle.scp_wire.specs.Lanes.{in_lane}
use Rattle.scp_pending.proofs.Basics.{append_nil, clash, same_conn-true, same_conn-refl, same_conn-other, flat-append, all_append, all_filter}

-- ---- how many queues a connection has

pub shut_none : (c : ConnId) (qs : List QueueView) → how_many c qs ≡ 0 → is_open c qs ≡ false
shut_none c [] e = refl
shut_none c (q ∷ qs) e = by_test (is_of c q) e (shut_none c qs)
  where
    by_test : (b : Bool) → plus (how_many c qs) b ≡ 0 → (how_many c qs ≡ 0 → is_open c qs ≡ false) → (b || is_open c qs) ≡ false
    by_test true e rest = absurd (omega (arith, e))
    by_test false e rest = rest e

pub none_shut : (c : ConnId) (qs : List QueueView) → is_open c qs ≡ false → how_many c qs ≡ 0
none_shut c [] e = refl
none_shut c (q ∷ qs) e = by_test (is_of c q) e (none_shut c qs)
  where
    by_test : (b : Bool) → (b || is_open c qs) ≡ false → (is_open c qs ≡ false → how_many c qs ≡ 0) → plus (how_many c qs) b ≡ 0
    by_test true e rest = absurd cc
    by_test false e rest = rest e

pub how_many-append : (c : ConnId) (xs ys : List QueueView) → how_many c (xs ++ ys) ≡ how_many c xs + how_many c ys
how_many-append c [] ys = omega arith
how_many-append c (q ∷ qs) ys = by_test (is_of c q) (how_many-append c qs ys)
  where
    by_test : (b : Bool) → how_many c (qs ++ ys) ≡ how_many c qs + how_many c ys → plus (how_many c (qs ++ ys)) b ≡ plus (how_many c qs) b + how_many c ys
    by_test true e = omega (arith, e)
    by_test false e = e

pub how_many-map : (c : ConnId) (f : QueueView → QueueView) → ((q : QueueView) → (f q).conn ≡ q.conn) → (qs : List QueueView) → how_many c (map f qs) ≡ how_many c qs
how_many-map c f same [] = refl
how_many-map c f same (q ∷ qs) = rw (same q, how_many-map c f same qs) refl

pub how_many-split : (c : ConnId) (t : QueueView → Bool) (qs : List QueueView) → how_many c (filter (λ q. not (t q)) qs) + how_many c (filter t qs) ≡ how_many c qs
how_many-split c t [] = refl
how_many-split c t (q ∷ qs) = by_tests (t q) (is_of c q) refl (how_many-split c t qs)
  where
    by_tests : (b m : Bool) → is_of c q ≡ m → how_many c (filter (λ q. not (t q)) qs) + how_many c (filter t qs) ≡ how_many c qs → how_many c (cond (not b) (q ∷ filter (λ q. not (t q)) qs) (filter (λ q. not (t q)) qs)) + how_many c (cond b (q ∷ filter t qs) (filter t qs)) ≡ plus (how_many c qs) m
    by_tests true true k e = rw k (omega (arith, e))
    by_tests true false k e = rw k e
    by_tests false true k e = rw k (omega (arith, e))
    by_tests false false k e = rw k e

stays-conn : (q : QueueView) → (stays_in q).conn ≡ q.conn
stays-conn q = refl

pub how_many-served : (c : ConnId) (qs : List QueueView) → how_many c (served qs) ≡ how_many c qs
how_many-served c qs = how_many-map c stays_in stays-conn qs

pub how_many-others_mine : (c : ConnId) (qs : List QueueView) → is_open c qs ≡ true → how_many c (others c qs) + 1 ≡ how_many c qs
how_many-others_mine c [] e = absurd cc
how_many-others_mine c (q ∷ qs) e = by_test (is_of c q) refl e (how_many-others_mine c qs)
  where
    by_test : (b : Bool) → is_of c q ≡ b → (b || is_open c qs) ≡ true → (is_open c qs ≡ true → how_many c (others c qs) + 1 ≡ how_many c qs) → how_many c (cond b qs (q ∷ others c qs)) + 1 ≡ plus (how_many c qs) b
    by_test true k e rest = refl
    by_test false k e rest = rw k (rest e)

pub how_many-others_other : (c d : ConnId) (qs : List QueueView) → same_conn c d ≡ false → how_many d (others c qs) ≡ how_many d qs
how_many-others_other c d [] o = refl
how_many-others_other c d (q ∷ qs) o = by_test (is_of c q) refl (how_many-others_other c d qs o)
  where
    by_test : (b : Bool) → is_of c q ≡ b → how_many d (others c qs) ≡ how_many d qs → how_many d (cond b qs (q ∷ others c qs)) ≡ plus (how_many d qs) (is_of d q)
    by_test true k e = rw (same_conn-other q.conn c d k o) refl
    by_test false k e = ap (λ n. plus n (is_of d q)) e

pub others_few : (c d : ConnId) (qs : List QueueView) → how_many d (others c qs) ≤ how_many d qs
others_few c d [] = omega arith
others_few c d (q ∷ qs) = by_tests (is_of c q) (is_of d q) refl (others_few c d qs)
  where
    by_tests : (b m : Bool) → is_of d q ≡ m → how_many d (others c qs) ≤ how_many d qs → how_many d (cond b qs (q ∷ others c qs)) ≤ plus (how_many d qs) m
    by_tests true true k h = omega arith
    by_tests true false k h = omega arith
    by_tests false true k h = rw k (omega (arith, h))
    by_tests false false k h = rw k h

pub how_many-changed : (c d : ConnId) (p : Parked) (qs : List QueueView) → how_many d (changed c (with_parked p) qs) ≡ how_many d qs
how_many-changed c d p [] = refl
how_many-changed c d p (q ∷ qs) = by_test (is_of c q) (how_many-changed c d p qs)
  where
    by_test : (b : Bool) → how_many d (changed c (with_parked p) qs) ≡ how_many d qs → how_many d (cond b (with_parked p q ∷ qs) (q ∷ changed c (with_parked p) qs)) ≡ plus (how_many d qs) (is_of d q)
    by_test true e = refl
    by_test false e = ap (λ n. plus n (is_of d q)) e

pub how_many-parked_in : (c d : ConnId) (p : Parked) (qs : List QueueView) → is_open c qs ≡ true → how_many d (parked_in c p qs) ≡ how_many d qs
how_many-parked_in c d p qs e = by_test (is_empty (parked_of c qs))
  where
    new : QueueView
    new = record { conn = c; parked = p ∷ [] }

    by_mine : (b : Bool) → same_conn c d ≡ b → how_many d (others c qs ++ new ∷ []) ≡ how_many d qs
    by_mine true k = (let own : how_many d (others c qs) + 1 ≡ how_many d qs = subst (λ (a : ConnId). how_many a (others c qs) + 1 ≡ how_many a qs) (same_conn-true c d k) (how_many-others_mine c qs e) in let one : how_many d (new ∷ []) ≡ 1 = rw k refl in how_many-append d (others c qs) (new ∷ []) ∙ omega (arith, own, one))
    by_mine false k = (let none : how_many d (new ∷ []) ≡ 0 = rw k refl in how_many-append d (others c qs) (new ∷ []) ∙ omega (arith, how_many-others_other c d qs k, none))

    by_test : (b : Bool) → how_many d (cond b (others c qs ++ new ∷ []) (changed c (with_parked p) qs)) ≡ how_many d qs
    by_test true = by_mine (same_conn c d) refl
    by_test false = how_many-changed c d p qs

-- openness goes by how many there are
pub open_as : (c : ConnId) (xs ys : List QueueView) → how_many c xs ≡ how_many c ys → is_open c xs ≡ is_open c ys
open_as c xs ys e = by_test (is_open c ys) refl
  where
    by_test : (b : Bool) → is_open c ys ≡ b → is_open c xs ≡ b
    by_test false k = shut_none c xs (e ∙ none_shut c ys k)
    by_test true k = by_other (is_open c xs) refl
      where
        by_other : (a : Bool) → is_open c xs ≡ a → a ≡ true
        by_other true f = refl
        by_other false f = clash (is_open c ys) k (shut_none c ys (sym e ∙ none_shut c xs f))

-- ---- what is parked of it

pub parked_shut : (c : ConnId) (qs : List QueueView) → is_open c qs ≡ false → parked_of c qs ≡ []
parked_shut c [] e = refl
parked_shut c (q ∷ qs) e = by_test (is_of c q) e (parked_shut c qs)
  where
    by_test : (b : Bool) → (b || is_open c qs) ≡ false → (is_open c qs ≡ false → parked_of c qs ≡ []) → cond b q.parked (parked_of c qs) ≡ []
    by_test true e rest = absurd cc
    by_test false e rest = rest e

pub parked-append : (c : ConnId) (xs ys : List QueueView) → is_open c xs ≡ false → parked_of c (xs ++ ys) ≡ parked_of c ys
parked-append c [] ys e = refl
parked-append c (q ∷ qs) ys e = by_test (is_of c q) e (parked-append c qs ys)
  where
    by_test : (b : Bool) → (b || is_open c qs) ≡ false → (is_open c qs ≡ false → parked_of c (qs ++ ys) ≡ parked_of c ys) → cond b q.parked (parked_of c (qs ++ ys)) ≡ parked_of c ys
    by_test true e rest = absurd cc
    by_test false e rest = rest e

-- a queue of another connection doesn't matter
pub parked-insert : (c : ConnId) (xs ys : List QueueView) (q : QueueView) → is_of c q ≡ false → parked_of c (xs ++ q ∷ ys) ≡ parked_of c (xs ++ ys)
parked-insert c [] ys q e = rw e refl
parked-insert c (x ∷ xs) ys q e = ap (λ ps. cond (is_of c x) x.parked ps) (parked-insert c xs ys q e)

-- nor does an empty one at the end, where the connection isn't open
pub parked-opened : (c d : ConnId) (qs : List QueueView) → parked_of c (qs ++ record { conn = d; parked = [] } ∷ []) ≡ parked_of c qs
parked-opened c d [] = by_test (same_conn d c)
  where
    none : List Parked
    none = []

    by_test : (b : Bool) → cond b none none ≡ none
    by_test true = refl
    by_test false = refl
parked-opened c d (q ∷ qs) = ap (λ ps. cond (is_of c q) q.parked ps) (parked-opened c d qs)

pub parked-others_mine : (c : ConnId) (qs : List QueueView) → how_many c qs ≤ 1 → parked_of c (others c qs) ≡ []
parked-others_mine c [] h = refl
parked-others_mine c (q ∷ qs) h = by_test (is_of c q) refl h (parked-others_mine c qs)
  where
    by_test : (b : Bool) → is_of c q ≡ b → plus (how_many c qs) b ≤ 1 → (how_many c qs ≤ 1 → parked_of c (others c qs) ≡ []) → parked_of c (cond b qs (q ∷ others c qs)) ≡ []
    by_test true k h rest = parked_shut c qs (shut_none c qs (omega (arith, h)))
    by_test false k h rest = rw k (rest h)

pub parked-others_other : (c d : ConnId) (qs : List QueueView) → same_conn c d ≡ false → parked_of d (others c qs) ≡ parked_of d qs
parked-others_other c d [] o = refl
parked-others_other c d (q ∷ qs) o = by_test (is_of c q) refl (parked-others_other c d qs o)
  where
    by_test : (b : Bool) → is_of c q ≡ b → parked_of d (others c qs) ≡ parked_of d qs → parked_of d (cond b qs (q ∷ others c qs)) ≡ cond (is_of d q) q.parked (parked_of d qs)
    by_test true k e = rw (same_conn-other q.conn c d k o) refl
    by_test false k e = ap (λ ps. cond (is_of d q) q.parked ps) e

pub parked-changed_mine : (c : ConnId) (p : Parked) (qs : List QueueView) → is_open c qs ≡ true → parked_of c (changed c (with_parked p) qs) ≡ parked_of c qs ++ p ∷ []
parked-changed_mine c p [] e = absurd cc
parked-changed_mine c p (q ∷ qs) e = by_test (is_of c q) refl e (parked-changed_mine c p qs)
  where
    by_test : (b : Bool) → is_of c q ≡ b → (b || is_open c qs) ≡ true → (is_open c qs ≡ true → parked_of c (changed c (with_parked p) qs) ≡ parked_of c qs ++ p ∷ []) → parked_of c (cond b (with_parked p q ∷ qs) (q ∷ changed c (with_parked p) qs)) ≡ cond b q.parked (parked_of c qs) ++ p ∷ []
    by_test true k e rest = rw k refl
    by_test false k e rest = rw k (rest e)

pub parked-changed_other : (c d : ConnId) (p : Parked) (qs : List QueueView) → same_conn c d ≡ false → parked_of d (changed c (with_parked p) qs) ≡ parked_of d qs
parked-changed_other c d p [] o = refl
parked-changed_other c d p (q ∷ qs) o = by_test (is_of c q) refl (parked-changed_other c d p qs o)
  where
    by_test : (b : Bool) → is_of c q ≡ b → parked_of d (changed c (with_parked p) qs) ≡ parked_of d qs → parked_of d (cond b (with_parked p q ∷ qs) (q ∷ changed c (with_parked p) qs)) ≡ cond (is_of d q) q.parked (parked_of d qs)
    by_test true k e = rw (same_conn-other q.conn c d k o) refl
    by_test false k e = ap (λ ps. cond (is_of d q) q.parked ps) e

empty-nil : (ps : List Parked) → is_empty ps ≡ true → ps ≡ []
empty-nil [] e = refl
empty-nil (p ∷ ps) e = absurd cc

pub parked_in-mine : (c : ConnId) (p : Parked) (qs : List QueueView) → is_open c qs ≡ true → how_many c qs ≤ 1 → parked_of c (parked_in c p qs) ≡ parked_of c qs ++ p ∷ []
parked_in-mine c p qs e h = by_test (is_empty (parked_of c qs)) refl
  where
    own : parked_of c (record { conn = c; parked = p ∷ [] } ∷ []) ≡ p ∷ []
    own = rw (same_conn-refl c) refl

    by_test : (b : Bool) → is_empty (parked_of c qs) ≡ b → parked_of c (cond b (others c qs ++ record { conn = c; parked = p ∷ [] } ∷ []) (changed c (with_parked p) qs)) ≡ parked_of c qs ++ p ∷ []
    by_test true k = parked-append c (others c qs) (record { conn = c; parked = p ∷ [] } ∷ []) (shut_none c (others c qs) (omega (arith, h, how_many-others_mine c qs e))) ∙ own ∙ ap (λ ps. ps ++ p ∷ []) (sym (empty-nil (parked_of c qs) k))
    by_test false k = parked-changed_mine c p qs e

pub parked_in-other : (c d : ConnId) (p : Parked) (qs : List QueueView) → same_conn c d ≡ false → parked_of d (parked_in c p qs) ≡ parked_of d qs
parked_in-other c d p qs o = by_test (is_empty (parked_of c qs))
  where
    by_test : (b : Bool) → parked_of d (cond b (others c qs ++ record { conn = c; parked = p ∷ [] } ∷ []) (changed c (with_parked p) qs)) ≡ parked_of d qs
    by_test true = parked-insert d (others c qs) [] (record { conn = c; parked = p ∷ [] }) o ∙ ap (parked_of d) (append_nil (others c qs)) ∙ parked-others_other c d qs o
    by_test false = parked-changed_other c d p qs o

pub parked-resolved : (c : ConnId) (test : _) (f : Carried → Parked) (qs : List QueueView) → parked_of c (resolved test f qs) ≡ map (resolved_one test f) (parked_of c qs)
parked-resolved c test f [] = refl
parked-resolved c test f (q ∷ qs) = by_test (is_of c q) (parked-resolved c test f qs)
  where
    by_test : (b : Bool) → parked_of c (resolved test f qs) ≡ map (resolved_one test f) (parked_of c qs) → cond b (map (resolved_one test f) q.parked) (parked_of c (resolved test f qs)) ≡ map (resolved_one test f) (cond b q.parked (parked_of c qs))
    by_test true e = refl
    by_test false e = e

pub parked-served : (c : ConnId) (qs : List QueueView) → parked_of c (served qs) ≡ stays_of (parked_of c qs)
parked-served c [] = refl
parked-served c (q ∷ qs) = by_test (is_of c q) (parked-served c qs)
  where
    by_test : (b : Bool) → parked_of c (served qs) ≡ stays_of (parked_of c qs) → cond b (stays_of q.parked) (parked_of c (served qs)) ≡ stays_of (cond b q.parked (parked_of c qs))
    by_test true e = refl
    by_test false e = e

-- ---- queues in another order

pub all_first : (P : QueueView → Type 0) (hash : Hash) (qs : List QueueView) → AllByRecursion P qs → AllByRecursion P (with_first hash qs)
all_first P hash qs a = all_append P (filter (λ q. is_head_waiting hash q.parked) qs) (filter (λ q. not (is_head_waiting hash q.parked)) qs) (all_filter P (λ q. is_head_waiting hash q.parked) qs a) (all_filter P (λ q. not (is_head_waiting hash q.parked)) qs a)

pub all_in_order : (P : QueueView → Type 0) (hashes : List Hash) (qs : List QueueView) → AllByRecursion P qs → AllByRecursion P (in_order_of hashes qs)
all_in_order P [] qs a = a
all_in_order P (hash ∷ hashes) qs a = all_first P hash (in_order_of hashes qs) (all_in_order P hashes qs a)

how_many-first : (c : ConnId) (hash : Hash) (qs : List QueueView) → how_many c (with_first hash qs) ≡ how_many c qs
how_many-first c hash qs = omega (arith, how_many-append c (filter (λ q. is_head_waiting hash q.parked) qs) (filter (λ q. not (is_head_waiting hash q.parked)) qs), how_many-split c (λ q. is_head_waiting hash q.parked) qs)

pub how_many-in_order : (c : ConnId) (hashes : List Hash) (qs : List QueueView) → how_many c (in_order_of hashes qs) ≡ how_many c qs
how_many-in_order c [] qs = refl
how_many-in_order c (hash ∷ hashes) qs = how_many-first c hash (in_order_of hashes qs) ∙ how_many-in_order c hashes qs

parked-first : (c : ConnId) (hash : Hash) (qs : List QueueView) → how_many c qs ≤ 1 → parked_of c (with_first hash qs) ≡ parked_of c qs
parked-first c hash [] h = refl
parked-first c hash (q ∷ qs) h = by_tests (test q) (is_of c q) refl h (parked-first c hash qs)
  where
    test : QueueView → Bool
    test r = is_head_waiting hash r.parked

    first : List QueueView
    first = filter (λ r. is_head_waiting hash r.parked) qs

    rest : List QueueView
    rest = filter (λ r. not (is_head_waiting hash r.parked)) qs

    by_tests : (l m : Bool) → is_of c q ≡ m → plus (how_many c qs) m ≤ 1 → (how_many c qs ≤ 1 → parked_of c (first ++ rest) ≡ parked_of c qs) → parked_of c (cond l (q ∷ first) first ++ cond (not l) (q ∷ rest) rest) ≡ cond m q.parked (parked_of c qs)
    by_tests true true m h e = rw m refl
    by_tests true false m h e = rw m (e h)
    by_tests false true m h e = (let few : how_many c first ≡ 0 = omega (arith, h, how_many-split c test qs) in parked-append c first (q ∷ rest) (shut_none c first few) ∙ rw m refl)
    by_tests false false m h e = parked-insert c first rest q m ∙ e h

pub parked-in_order : (c : ConnId) (hashes : List Hash) (qs : List QueueView) → how_many c qs ≤ 1 → parked_of c (in_order_of hashes qs) ≡ parked_of c qs
parked-in_order c [] qs h = refl
parked-in_order c (hash ∷ hashes) qs h = parked-first c hash (in_order_of hashes qs) (subst (λ (n : ℕ). n ≤ 1) (sym (how_many-in_order c hashes qs)) h) ∙ parked-in_order c hashes qs h

pub single-in_order : (hashes : List Hash) (qs : List QueueView) → AreSingle qs → AreSingle (in_order_of hashes qs)
single-in_order hashes qs a c = subst (λ (n : ℕ). n ≤ 1) (sym (how_many-in_order c hashes qs)) (a c)

-- ---- what leaves

abbrev pub AreMine : QueueView → Type 0
AreMine q = AllByRecursion (IsParkedOf q.conn) q.parked

pub marks_of-append : (c : ConnId) (xs ys : List Ready) → marks_of c (xs ++ ys) ≡ marks_of c xs ++ marks_of c ys
marks_of-append c xs ys = flat-append (ready_mark c) xs ys

pub marks-leaving_none : (c : ConnId) (qs : List QueueView) → how_many c qs ≡ 0 → AllByRecursion AreMine qs → marks_of c (leaving_of qs) ≡ []
marks-leaving_none c [] h a = refl
marks-leaving_none c (q ∷ qs) h a = by_test (is_of c q) refl h (λ k. marks-leaving_none c qs k a.1)
  where
    by_test : (b : Bool) → is_of c q ≡ b → plus (how_many c qs) b ≡ 0 → (how_many c qs ≡ 0 → marks_of c (leaving_of qs) ≡ []) → marks_of c (leaves_in q ++ leaving_of qs) ≡ []
    by_test true k h rest = absurd (omega (arith, h))
    by_test false k h rest = marks_of-append c (leaves_in q) (leaving_of qs) ∙ ap (λ ms. ms ++ marks_of c (leaving_of qs)) (leaves-other q.conn c [] q.parked k a.0) ∙ rest h

pub marks-leaving : (slots : ℕ → ℕ) (s : ℕ) (c : ConnId) (qs : List QueueView) → how_many c qs ≤ 1 → AllByRecursion AreMine qs → AllByRecursion (HasLane slots) (parked_of c qs) → in_lane slots s (marks_of c (leaving_of qs)) ++ in_lane slots s (map parked_mark (stays_of (parked_of c qs))) ≡ in_lane slots s (map parked_mark (parked_of c qs))
marks-leaving slots s c [] h a l = refl
marks-leaving slots s c (q ∷ qs) h a l = by_test (is_of c q) refl h l (λ k. marks-leaving slots s c qs k a.1)
  where
    by_test : (b : Bool) → is_of c q ≡ b → plus (how_many c qs) b ≤ 1 → AllByRecursion (HasLane slots) (cond b q.parked (parked_of c qs)) → (how_many c qs ≤ 1 → AllByRecursion (HasLane slots) (parked_of c qs) → in_lane slots s (marks_of c (leaving_of qs)) ++ in_lane slots s (map parked_mark (stays_of (parked_of c qs))) ≡ in_lane slots s (map parked_mark (parked_of c qs))) → in_lane slots s (marks_of c (leaves_in q ++ leaving_of qs)) ++ in_lane slots s (map parked_mark (stays_of (cond b q.parked (parked_of c qs)))) ≡ in_lane slots s (map parked_mark (cond b q.parked (parked_of c qs)))
    by_test true k h l rest =
        let same : q.conn ≡ c = same_conn-true q.conn c k in
        let none : marks_of c (leaving_of qs) ≡ [] = marks-leaving_none c qs (omega (arith, h)) a.1 in
        ap (λ ms. in_lane slots s ms ++ in_lane slots s (map parked_mark (stays_of q.parked))) (marks_of-append c (leaves_in q) (leaving_of qs) ∙ ap (λ ms. marks_of c (leaves_in q) ++ ms) none ∙ append_nil (marks_of c (leaves_in q)))
        ∙ subst (λ (d : ConnId). in_lane slots s (marks_of d (leaves_of q.conn q.parked)) ++ in_lane slots s (map parked_mark (stays_of q.parked)) ≡ in_lane slots s (map parked_mark q.parked)) same (lane_apart slots q.conn s [] q.parked refl a.0 l)
    by_test false k h l rest =
        ap (λ ms. in_lane slots s ms ++ in_lane slots s (map parked_mark (stays_of (parked_of c qs)))) (marks_of-append c (leaves_in q) (leaving_of qs) ∙ ap (λ ms. ms ++ marks_of c (leaving_of qs)) (leaves-other q.conn c [] q.parked k a.0))
        ∙ rest h l
