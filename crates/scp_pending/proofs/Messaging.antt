-- What is parked, as messages: each came, and those of a connection are its queue.
use Rattle.std.proofs.Common.{◌≡◌, ℕ, ◌+◌, ◌≤◌, Bool, true, false, cond, List, [], ◌∷◌, ◌++◌, refl, sym, ◌∙◌, ap, subst, arith, map, append_assoc}
use Rattle.std.specs.Prelude.{flat_map, All, sum_by, slice_index_or, ◌||◌}
use Rattle.std.specs.List.{AllByRecursion, AllZip}
use Rattle.std.specs.List.Sorted.{IsPermutation}
use Rattle.std.proofs.lemmas.List.Elements.{All-nil, All-cons, All-head, All-tail, All-from_recursion, recursion_from_All, filter-append}
use Rattle.std.proofs.lemmas.List.Sums.{sum_by-cons}
use Rattle.std.proofs.lemmas.List.Sorted.{All-permutation, list_any-IsPermutation, sum_by-IsPermutation}
use Rattle.scp_wire.specs.scp_types.specs.declared.names.ConnId.{ConnId}
use Rattle.scp_wire.specs.scp_types.specs.declared.names.NodeId.{NodeId}
use Rattle.scp_wire.specs.scp_types.specs.declared.names.Seq.{Seq}
use Rattle.scp_wire.specs.inside.Carried.{IsCarried, IsCarried-prop}
use Rattle.scp_wire.specs.declared.carried.Carried.{Carried}
use Rattle.scp_wire.specs.declared.message.Message.{Message}
use Rattle.scp_wire.specs.declared.link.Inbound.{Inbound}
use Rattle.scp_wire.specs.Connections.{same_conn}
use Rattle.scp_wire.specs.Marks.{number}
use Rattle.scp_fetch.specs.declared.want.Want.{Want}
use Rattle.scp_pending.specs.declared.parked.Parked.{Parked}
use Rattle.scp_pending.specs.declared.parked.Parked.TheVariants.{Waits, Free, Lost}
use Rattle.scp_pending.specs.declared.ready.Ready.{Ready}
use Rattle.scp_pending.specs.Queues.{QueueView, is_of, is_open, parked_of, seq_of}
use Rattle.scp_pending.specs.Rules.{Settled, PendingView}
use Rattle.scp_pending.specs.Causes.{Place, plus}
use Rattle.scp_pending.specs.Line.{parked_mark}
use Rattle.scp_pending.specs.inside.Outcome.{Adds, parked_in_all}
use Rattle.scp_pending.specs.Pends.{Pends, start_of}
use Rattle.scp_pending.specs.Messages.{IsParkedAs, is_on, messages_on, AreParked, message_mark, StandFor, ParkedStandFor}
use Rattle.scp_pending.proofs.Basics.{append_nil, clash, flat-append, same_conn-refl, same_conn-true, all_weaker}
use Rattle.scp_pending.proofs.Serving.{how_many, AreSingle, IsParkedOf, AreMine, parked_shut}
use Rattle.scp_pending.proofs.Standing.{Stands, AllStand, Fits, mine_of}
use Rattle.scp_pending.proofs.Passing.{sound_of}

-- ---- one message

abbrev carried_of : ConnId → Seq → (m : Message) → IsCarried m → Carried
carried_of c s m k = record { conn = c; seq = s; message = m; carried = k }

-- that a message is carried has one proof, so its parts determine it
same_carried : (x y : Carried) → x.conn ≡ y.conn → x.seq ≡ y.seq → x.message ≡ y.message → x ≡ y
same_carried x y c s m =
    let by_message : (k : IsCarried y.message) → carried_of x.conn x.seq x.message x.carried ≡ carried_of x.conn x.seq y.message k = subst (λ (n : Message). (k : IsCarried n) → carried_of x.conn x.seq x.message x.carried ≡ carried_of x.conn x.seq n k) m (λ k. ap (carried_of x.conn x.seq x.message) (IsCarried-prop x.message x.carried k)) in
    by_message y.carried ∙ ap (λ (d : ConnId). carried_of d x.seq y.message y.carried) c ∙ ap (λ (n : Seq). carried_of y.conn n y.message y.carried) s

pub its_conn : (c : ConnId) (p : Parked) (y : Carried) → IsParkedOf c p → IsParkedAs p y → y.conn ≡ c
its_conn c (Waits x) y m e = ap (λ (z : Carried). z.conn) e ∙ m
its_conn c (Free d) y m e = e.0 ∙ m
its_conn c (Lost x cause) y m e = ap (λ (z : Carried). z.conn) e ∙ m

pub its_seq : (p : Parked) (y : Carried) → IsParkedAs p y → y.seq ≡ seq_of p
its_seq (Waits x) y e = ap (λ (z : Carried). z.seq) e
its_seq (Free d) y e = e.1
its_seq (Lost x cause) y e = ap (λ (z : Carried). z.seq) e

it_came : (start : Settled) (taken : List Inbound) (wanted : List Want) (c : ConnId) (p : Parked) (y : Carried) → Stands start taken wanted c p → IsParkedAs p y → Place start taken y
it_came start taken wanted c (Waits x) y w e = subst (Place start taken) (sym e) w.1.waiting.place
it_came start taken wanted c (Free d) y w e = subst (Place start taken) (same_carried w.1.x y (w.1.conn ∙ sym e.0) (w.1.seq ∙ sym e.1) (w.1.message ∙ sym e.2)) w.1.place
it_came start taken wanted c (Lost x cause) y w e = subst (Place start taken) (sym e) w.1

-- ---- what is parked of each connection came

-- what holds of the messages of each connection holds of all
all_of_each : (P : Carried → Type 0) (xs : List Carried) → ((c : ConnId) → AllByRecursion P (messages_on c xs)) → AllByRecursion P xs
all_of_each P [] h = tt
all_of_each P (x ∷ xs) h = (first.0, all_of_each P xs (λ c. rest c (is_on c x) (h c)))
  where
    first : AllByRecursion P (x ∷ messages_on x.conn xs)
    first = subst (λ (b : Bool). AllByRecursion P (cond b (x ∷ messages_on x.conn xs) (messages_on x.conn xs))) (same_conn-refl x.conn) (h x.conn)

    rest : (c : ConnId) (b : Bool) → AllByRecursion P (cond b (x ∷ messages_on c xs) (messages_on c xs)) → AllByRecursion P (messages_on c xs)
    rest c true a = a.1
    rest c false a = a

zip_all : (P : Parked → Type 0) (Q : Carried → Type 0) (ps : List Parked) (ys : List Carried) → ((p : Parked) (y : Carried) → P p → IsParkedAs p y → Q y) → AllByRecursion P ps → AllZip IsParkedAs ps ys → AllByRecursion Q ys
zip_all P Q [] [] h a z = tt
zip_all P Q [] (y ∷ ys) h a z = absurd z
zip_all P Q (p ∷ ps) [] h a z = absurd z
zip_all P Q (p ∷ ps) (y ∷ ys) h a z = (h p y a.0 z.0, zip_all P Q ps ys h a.1 z.1)

zip_marks : (ps : List Parked) (ys : List Carried) → AllZip IsParkedAs ps ys → map message_mark ys ≡ map parked_mark ps
zip_marks [] [] z = refl
zip_marks [] (y ∷ ys) z = absurd z
zip_marks (p ∷ ps) [] z = absurd z
zip_marks (p ∷ ps) (y ∷ ys) z = ap (λ (s : Seq). number s.0 ∷ map message_mark ys) (its_seq p y z.0) ∙ ap (λ ms. parked_mark p ∷ ms) (zip_marks ps ys z.1)

stand_of : (start : Settled) (taken : List Inbound) (wanted : List Want) (c : ConnId) (qs : List QueueView) → AllByRecursion (AllStand start taken wanted) qs → AllByRecursion (Stands start taken wanted c) (parked_of c qs)
stand_of start taken wanted c [] a = tt
stand_of start taken wanted c (q ∷ qs) a = by_test (is_of c q) refl (stand_of start taken wanted c qs a.1)
  where
    by_test : (b : Bool) → is_of c q ≡ b → AllByRecursion (Stands start taken wanted c) (parked_of c qs) → AllByRecursion (Stands start taken wanted c) (cond b q.parked (parked_of c qs))
    by_test true k rest = subst (λ (d : ConnId). AllByRecursion (Stands start taken wanted d) q.parked) (same_conn-true q.conn c k) a.0
    by_test false k rest = rest

all_stand : (me : NodeId) (peers : List NodeId) (taken : List Inbound) (given : List Ready) (v : PendingView) → Pends me peers taken given v → AllByRecursion (AllStand (start_of me peers v) taken v.settled.wanted) v.settled.queues
all_stand me peers taken given v p = all_weaker (Fits (start_of me peers v) taken v.settled.wanted) (AllStand (start_of me peers v) taken v.settled.wanted) v.settled.queues (λ q f. f.stands) (sound_of me peers taken given v p).fits

stand_for : (me : NodeId) (peers : List NodeId) (taken : List Inbound) (given : List Ready) (v : PendingView) (messages : List Carried) → Pends me peers taken given v → AreParked v messages → StandFor (start_of me peers v) taken v messages
stand_for me peers taken given v messages p k =
    let start = start_of me peers v in
    let wanted = v.settled.wanted in
    let qs = v.settled.queues in
    record {
      came = all_of_each (Place start taken) messages (λ c. zip_all (Stands start taken wanted c) (Place start taken) (parked_of c qs) (messages_on c messages) (λ r y w e. it_came start taken wanted c r y w e) (stand_of start taken wanted c qs (all_stand me peers taken given v p)) (k c));
      numbers = λ c. zip_marks (parked_of c qs) (messages_on c messages) (k c);
    }

pub parked_stand_for : ParkedStandFor
parked_stand_for = stand_for

-- ---- a queue, and then the others

pub record Parts (ps rest : List Parked) (ys : List Carried) : Type 0 where
  pub first : List Carried
  pub later : List Carried
  pub is : ys ≡ first ++ later
  pub firsts : AllZip IsParkedAs ps first
  pub laters : AllZip IsParkedAs rest later

pub parts : (ps rest : List Parked) (ys : List Carried) → AllZip IsParkedAs (ps ++ rest) ys → Parts ps rest ys
parts [] rest ys a = record { first = []; later = ys; is = refl; firsts = tt; laters = a }
parts (p ∷ ps) rest [] a = absurd a
parts (p ∷ ps) rest (y ∷ ys) a = (let k = parts ps rest ys a.1 in record { first = y ∷ k.first; later = k.later; is = ap (λ zs. y ∷ zs) k.is; firsts = (a.0, k.firsts); laters = k.laters })

zip_append : (ps qs : List Parked) (xs ys : List Carried) → AllZip IsParkedAs ps xs → AllZip IsParkedAs qs ys → AllZip IsParkedAs (ps ++ qs) (xs ++ ys)
zip_append [] qs [] ys a b = b
zip_append [] qs (x ∷ xs) ys a b = absurd a
zip_append (p ∷ ps) qs [] ys a b = absurd a
zip_append (p ∷ ps) qs (x ∷ xs) ys a b = (a.0, zip_append ps qs xs ys a.1 b)

abbrev none : List Parked
none = []

-- of a queue all is of its connection
queue_on : (c d : ConnId) (ps : List Parked) (ys : List Carried) (b : Bool) → same_conn d c ≡ b → AllByRecursion (IsParkedOf d) ps → AllZip IsParkedAs ps ys → AllZip IsParkedAs (cond b ps []) (messages_on c ys)
queue_on c d [] [] true e m a = tt
queue_on c d [] [] false e m a = tt
queue_on c d [] (y ∷ ys) b e m a = absurd a
queue_on c d (p ∷ ps) [] b e m a = absurd a
queue_on c d (p ∷ ps) (y ∷ ys) true e m a =
    let on : is_on c y ≡ true = ap (λ (k : ConnId). same_conn k c) (its_conn d p y m.0 a.0) ∙ e in
    subst (λ (t : Bool). AllZip IsParkedAs (p ∷ ps) (cond t (y ∷ messages_on c ys) (messages_on c ys))) (sym on) (a.0, queue_on c d ps ys true e m.1 a.1)
queue_on c d (p ∷ ps) (y ∷ ys) false e m a =
    let off : is_on c y ≡ false = ap (λ (k : ConnId). same_conn k c) (its_conn d p y m.0 a.0) ∙ e in
    subst (λ (t : Bool). AllZip IsParkedAs none (cond t (y ∷ messages_on c ys) (messages_on c ys))) (sym off) (queue_on c d ps ys false e m.1 a.1)

abbrev of_queue : ConnId → QueueView → List Parked
of_queue c q = cond (is_of c q) q.parked []

queues_on : (c : ConnId) (qs : List QueueView) (ys : List Carried) → AllByRecursion AreMine qs → AllZip IsParkedAs (parked_in_all qs) ys → AllZip IsParkedAs (flat_map (of_queue c) qs) (messages_on c ys)
queues_on c [] [] m a = tt
queues_on c [] (y ∷ ys) m a = absurd a
queues_on c (q ∷ qs) ys m a =
    let k = parts q.parked (parked_in_all qs) ys a in
    subst (AllZip IsParkedAs (of_queue c q ++ flat_map (of_queue c) qs)) (sym (ap (messages_on c) k.is ∙ filter-append (is_on c) k.first k.later))
    (zip_append (of_queue c q) (flat_map (of_queue c) qs) (messages_on c k.first) (messages_on c k.later)
    (queue_on c q.conn q.parked k.first (is_of c q) refl m.0 k.firsts)
    (queues_on c qs k.later m.1 k.laters))

-- ---- a connection has one queue, wherever that is

none_spread : (c : ConnId) (qs : List QueueView) → how_many c qs ≡ 0 → flat_map (of_queue c) qs ≡ []
none_spread c [] h = refl
none_spread c (q ∷ qs) h = by_test (is_of c q) h (none_spread c qs)
  where
    by_test : (b : Bool) → plus (how_many c qs) b ≡ 0 → (how_many c qs ≡ 0 → flat_map (of_queue c) qs ≡ []) → cond b q.parked [] ++ flat_map (of_queue c) qs ≡ []
    by_test true k rest = absurd (omega (arith, k))
    by_test false k rest = rest k

spread_single : (c : ConnId) (qs : List QueueView) → how_many c qs ≤ 1 → flat_map (of_queue c) qs ≡ parked_of c qs
spread_single c [] h = refl
spread_single c (q ∷ qs) h = by_test (is_of c q) h (none_spread c qs) (spread_single c qs)
  where
    by_test : (b : Bool) → plus (how_many c qs) b ≤ 1 → (how_many c qs ≡ 0 → flat_map (of_queue c) qs ≡ []) → (how_many c qs ≤ 1 → flat_map (of_queue c) qs ≡ parked_of c qs) → cond b q.parked [] ++ flat_map (of_queue c) qs ≡ cond b q.parked (parked_of c qs)
    by_test true k none rest = ap (λ ps. q.parked ++ ps) (none (omega (arith, k))) ∙ append_nil q.parked
    by_test false k none rest = rest k

abbrev counts : ConnId → QueueView → ℕ
counts c q = plus 0 (is_of c q)

how_many-sum : (c : ConnId) (qs : List QueueView) → how_many c qs ≡ sum_by (counts c) qs
how_many-sum c [] = refl
how_many-sum c (q ∷ qs) = by_test (is_of c q) (how_many-sum c qs) ∙ sym (sum_by-cons (counts c) q qs)
  where
    by_test : (b : Bool) → how_many c qs ≡ sum_by (counts c) qs → plus (how_many c qs) b ≡ plus 0 b + sum_by (counts c) qs
    by_test true e = omega (arith, e)
    by_test false e = omega (arith, e)

pub single_same : (qs rs : List QueueView) → IsPermutation qs rs → AreSingle qs → AreSingle rs
single_same qs rs same h c = let a = how_many-sum c qs in let b = how_many-sum c rs in let s = sum_by-IsPermutation (counts c) qs rs same in omega (arith, a, b, s, h c)

abbrev IsThis : ConnId → List Parked → QueueView → Type 0
IsThis c ps q = is_of c q ≡ true → q.parked ≡ ps

none_are : (c : ConnId) (qs : List QueueView) (ps : List Parked) → how_many c qs ≡ 0 → All (IsThis c ps) qs
none_are c [] ps h = All-nil (IsThis c ps)
none_are c (q ∷ qs) ps h = by_test (is_of c q) refl h (none_are c qs ps)
  where
    by_test : (b : Bool) → is_of c q ≡ b → plus (how_many c qs) b ≡ 0 → (how_many c qs ≡ 0 → All (IsThis c ps) qs) → All (IsThis c ps) (q ∷ qs)
    by_test true e k rest = absurd (omega (arith, k))
    by_test false e k rest = All-cons (IsThis c ps) q qs (λ t. clash (is_of c q) t e) (rest k)

all_are : (c : ConnId) (qs : List QueueView) (ps : List Parked) → how_many c qs ≤ 1 → parked_of c qs ≡ ps → All (IsThis c ps) qs
all_are c [] ps h same = All-nil (IsThis c ps)
all_are c (q ∷ qs) ps h same = by_test (is_of c q) refl h same (all_are c qs ps)
  where
    by_test : (b : Bool) → is_of c q ≡ b → plus (how_many c qs) b ≤ 1 → cond b q.parked (parked_of c qs) ≡ ps → (how_many c qs ≤ 1 → parked_of c qs ≡ ps → All (IsThis c ps) qs) → All (IsThis c ps) (q ∷ qs)
    by_test true e k is rest = All-cons (IsThis c ps) q qs (λ t. is) (none_are c qs ps (omega (arith, k)))
    by_test false e k is rest = All-cons (IsThis c ps) q qs (λ t. clash (is_of c q) t e) (rest k is)

-- each queue is what is parked of its connection
pub own_parked : (qs : List QueueView) → AreSingle qs → All (λ q. q.parked ≡ parked_of q.conn qs) qs
own_parked qs single = λ k d l. let q = slice_index_or qs k d in all_are q.conn qs (parked_of q.conn qs) (single q.conn) refl k d l (same_conn-refl q.conn)

found_this : (c : ConnId) (qs : List QueueView) (ps : List Parked) → is_open c qs ≡ true → All (IsThis c ps) qs → parked_of c qs ≡ ps
found_this c [] ps e a = absurd cc
found_this c (q ∷ qs) ps e a = by_test (is_of c q) refl e (λ k. found_this c qs ps k (All-tail (IsThis c ps) q qs a))
  where
    by_test : (b : Bool) → is_of c q ≡ b → (b || is_open c qs) ≡ true → (is_open c qs ≡ true → parked_of c qs ≡ ps) → cond b q.parked (parked_of c qs) ≡ ps
    by_test true t k rest = All-head (IsThis c ps) q qs a t
    by_test false t k rest = rest k

parked_same : (c : ConnId) (qs rs : List QueueView) → IsPermutation qs rs → how_many c qs ≤ 1 → parked_of c rs ≡ parked_of c qs
parked_same c qs rs same h = by_test (is_open c qs) refl
  where
    alike : is_open c qs ≡ is_open c rs
    alike = list_any-IsPermutation (is_of c) qs rs same

    by_test : (b : Bool) → is_open c qs ≡ b → parked_of c rs ≡ parked_of c qs
    by_test true e = found_this c rs (parked_of c qs) (sym alike ∙ e) (All-permutation (IsThis c (parked_of c qs)) qs rs same (all_are c qs (parked_of c qs) h refl))
    by_test false e = parked_shut c rs (sym alike ∙ e) ∙ sym (parked_shut c qs e)

pub moved : (P : QueueView → Type 0) (qs rs : List QueueView) → IsPermutation qs rs → AllByRecursion P qs → AllByRecursion P rs
moved P qs rs same a = recursion_from_All P rs (All-permutation P qs rs same (All-from_recursion P qs a))

pub all_mine : (me : NodeId) (peers : List NodeId) (taken : List Inbound) (given : List Ready) (v : PendingView) → Pends me peers taken given v → AllByRecursion AreMine v.settled.queues
all_mine me peers taken given v p =
    let start = start_of me peers v in
    all_weaker (AllStand start taken v.settled.wanted) AreMine v.settled.queues (λ q w. all_weaker (Stands start taken v.settled.wanted q.conn) (IsParkedOf q.conn) q.parked (λ r s. mine_of start taken v.settled.wanted q.conn r s) w) (all_stand me peers taken given v p)

-- the messages of the queues, in whatever order these are
pub are_parked : (me : NodeId) (peers : List NodeId) (taken : List Inbound) (given : List Ready) (v : PendingView) (queues : List QueueView) (messages : List Carried) → IsPermutation v.settled.queues queues → AllZip IsParkedAs (parked_in_all queues) messages → Pends me peers taken given v → AreParked v messages
are_parked me peers taken given v queues messages same are p c =
    let single = (sound_of me peers taken given v p).single in
    subst (λ (ps : List Parked). AllZip IsParkedAs ps (messages_on c messages)) (spread_single c queues (single_same v.settled.queues queues same single c) ∙ parked_same c v.settled.queues queues same (single c))
    (queues_on c queues messages (moved AreMine v.settled.queues queues same (all_mine me peers taken given v p)) are)

pub all_added : (ps : List Parked) (ys : List Carried) → Adds ps [] ys → AllZip IsParkedAs ps ys
all_added ps ys adds = subst (AllZip IsParkedAs ps) (sym adds.grows) adds.are

-- ---- one more is added

pub added_more : (all done before after : List Parked) (p : Parked) (y : Carried) (old now new : List Carried) → all ≡ done ++ before → before ≡ p ∷ after → Adds done old now → IsParkedAs p y → new ≡ now ++ y ∷ [] → (more : List Parked) × (all ≡ more ++ after) × Adds more old new
added_more all done before after p y old now new split next adds k grows = (
  done ++ p ∷ [],
  split ∙ ap (λ xs. done ++ xs) next ∙ sym (append_assoc done (p ∷ []) after),
  record { more = adds.more ++ y ∷ []; grows = grows ∙ ap (λ xs. xs ++ y ∷ []) adds.grows ∙ append_assoc old adds.more (y ∷ []); are = zip_append done (p ∷ []) adds.more (y ∷ []) adds.are (k, tt) },
)

pub added_queue : (done : List QueueView) (q : QueueView) (old now new : List Carried) → Adds (parked_in_all done) old now → Adds q.parked now new → Adds (parked_in_all (done ++ q ∷ [])) old new
added_queue done q old now new a b =
    let all : parked_in_all (done ++ q ∷ []) ≡ parked_in_all done ++ q.parked = flat-append (λ (r : QueueView). r.parked) done (q ∷ []) ∙ ap (λ ps. parked_in_all done ++ ps) (append_nil q.parked) in
    subst (λ (ps : List Parked). Adds ps old new) (sym all) (record { more = a.more ++ b.more; grows = b.grows ∙ ap (λ xs. xs ++ b.more) a.grows ∙ append_assoc old a.more b.more; are = zip_append (parked_in_all done) q.parked a.more b.more a.are b.are })
