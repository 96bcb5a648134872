-- What is read keeps the shape.
use Rattle.std.proofs.Common.{◌≡◌, ◌≢◌, ℕ, ◌+◌, Bool, true, false, List, [], ◌∷◌, ◌++◌, refl, sym, ◌∙◌, ap, subst, append_assoc, length, drop, arith, suc}
use Rattle.std.specs.Prelude.{Option, Some, None, Result, Ok, Err, IfOk, OnOk, fold, option_to_list, if◌then◌else◌}
use Rattle.std.specs.List.{AllByRecursion}
use Rattle.std.proofs.lemmas.List.{append-nil}
use Rattle.scp_quorum.specs.scp_types.specs.declared.fault.Fault.{Fault}
use Rattle.scp_quorum.specs.scp_types.specs.declared.names.ConnId.{ConnId}
use Rattle.scp_quorum.specs.scp_types.specs.declared.names.NodeId.{NodeId}
use Rattle.scp_wire.specs.declared.message.Message.{Message}
use Rattle.scp_wire.specs.declared.message.Message.TheVariants.{Envelope, GetSet, Set, NoSet, GetRecord, Record, Records}
use Rattle.scp_wire.specs.declared.link.LinkItem.{LinkItem}
use Rattle.scp_wire.specs.declared.link.LinkItem.TheVariants as item
use Rattle.scp_wire.specs.declared.link.Inbound.{Inbound}
use Rattle.scp_wire.specs.declared.link.Inbound.TheVariants as inbound
use Rattle.scp_wire.specs.declared.link.Cause.{Cause}
use Rattle.scp_wire.specs.declared.link.Cause.TheVariants.{Malformed, Link, Spent, ParkedFull}
use Rattle.scp_wire.specs.Carried.{is_carried}
use Rattle.scp_wire.specs.Reading.{reading_of}
use Rattle.scp_wire.specs.LinkReading.{ReaderView, unread, reading, after, readings, after_all, brought, after_read, brought_one, brought_each, after_one, after_each, next_of, is_spent, singles, records_from, numbered, first_of, ReaderState, taken_by, HasRead}
use Rattle.scp_wire.specs.declared.side.SideMessage.{SideMessage}
use Rattle.scp_wire.specs.declared.side.SideMessage.TheVariants as side
use Rattle.scp_wire.specs.Connections.{conn_at}
use Rattle.scp_wire.specs.Shape.{Tail, never_open, goes, MayGo, AreOfLink, Come, nothing_came, comes, MayCome, AreInOrder}
use Rattle.scp_wire.specs.Parts.{FrontsAreInOrder, OneMoreIsOfLink}
use Rattle.scp_wire.specs.ReaderLaws.{ReadingsAreInOrder, ReadingsGrow, ReadingsGrowByOne, GrowsByOne}

-- a message that is read as itself
abbrev pub IsSingle : Message → Type 0
IsSingle (Envelope envelope) = Unit {0}
IsSingle (GetSet hash) = Unit {0}
IsSingle (Set set) = Unit {0}
IsSingle (NoSet hash) = Unit {0}
IsSingle (GetRecord slot) = Unit {0}
IsSingle (Record slot value) = Unit {0}
IsSingle (Records first values) = ⊥

-- ---- readings of two lists

pub readings-append : (r : ReaderView) (xs ys : List LinkItem) → readings r (xs ++ ys) ≡ readings r xs ++ readings (after_all r xs) ys
readings-append r [] ys = refl
readings-append r (x ∷ xs) ys = ap (λ zs. reading r x ++ zs) (readings-append (after r x) xs ys) ∙ sym (append_assoc (reading r x) (readings (after r x) xs) (readings (after_all (after r x) xs) ys))

pub after_all-append : (r : ReaderView) (xs ys : List LinkItem) → after_all r (xs ++ ys) ≡ after_all (after_all r xs) ys
after_all-append r [] ys = refl
after_all-append r (x ∷ xs) ys = after_all-append (after r x) xs ys

pub readings-one : (r : ReaderView) (x : LinkItem) → readings r (x ∷ []) ≡ reading r x
readings-one r x = append-nil (reading r x)

pub readings_grow : ReadingsGrow
readings_grow = λ r xs ys. record { given = readings-append r xs ys; stands = after_all-append r xs ys }

grows_by_one : (r : ReaderView) (xs : List LinkItem) (x : LinkItem) → GrowsByOne r xs x
grows_by_one r xs x = record {
  given = readings-append r xs (x ∷ []) ∙ ap (λ zs. readings r xs ++ zs) (readings-one (after_all r xs) x);
  stands = after_all-append r xs (x ∷ []);
}

pub readings_grow_by_one : ReadingsGrowByOne
readings_grow_by_one = λ r xs x. grows_by_one r xs x

first_and_others : (xs : List Inbound) → option_to_list (first_of xs) ++ drop 1 xs ≡ xs
first_and_others [] = refl
first_and_others (x ∷ xs) = refl

pub has_read_one : (items : List LinkItem) (given : List Inbound) (old new : ReaderState) (x : LinkItem) (got : Option Inbound) → old.rest ≡ [] → HasRead items given old → got ≡ first_of (reading old.at x) → new ≡ taken_by old x → HasRead (items ++ x ∷ []) (given ++ option_to_list got) new
has_read_one items given old new x got none h read stands =
    let g = grows_by_one unread items x in
    let all : given ≡ readings unread items = sym (ap (λ zs. given ++ zs) none ∙ append-nil given) ∙ h.given_is in
    record {
      given_is = ap (λ (r : ReaderState). (given ++ option_to_list got) ++ r.rest) stands
          ∙ ap (λ o. (given ++ option_to_list o) ++ drop 1 (reading old.at x)) read
          ∙ append_assoc given (option_to_list (first_of (reading old.at x))) (drop 1 (reading old.at x))
          ∙ ap (λ zs. given ++ zs) (first_and_others (reading old.at x))
          ∙ ap (λ zs. zs ++ reading old.at x) all
          ∙ ap (λ r. readings unread items ++ reading r x) h.stands
          ∙ sym g.given;
      stands = ap (λ (r : ReaderState). r.at) stands ∙ ap (λ r. after r x) h.stands ∙ sym g.stands;
    }

pub has_read : (items : List LinkItem) (given : List Inbound) (old new : ReaderState) (x : LinkItem) (r : Result (Option Inbound) Fault) → old.rest ≡ [] → HasRead items given old → IfOk r (λ got. got ≡ first_of (reading old.at x)) → OnOk r (new ≡ taken_by old x) → IfOk r (λ got. HasRead (items ++ x ∷ []) (given ++ option_to_list got) new)
has_read items given old new x (Ok got) none h read stands = has_read_one items given old new x got none h read stands
has_read items given old new x (Err f) none h read stands = tt

-- what is left of a batch is given in turn
pub has_given : (items : List LinkItem) (given : List Inbound) (old new : ReaderState) (got : Option Inbound) → HasRead items given old → old.rest ≡ option_to_list got ++ new.rest → new.at ≡ old.at → HasRead items (given ++ option_to_list got) new
has_given items given old new got h parts same = record {
  given_is = append_assoc given (option_to_list got) new.rest ∙ ap (λ zs. given ++ zs) (sym parts) ∙ h.given_is;
  stands = same ∙ h.stands;
}

-- ---- the shape of two lists

pub in_order-append : (peer me : NodeId) (h : Come) (xs ys : List Inbound) → AreInOrder peer me h xs → AreInOrder peer me (fold comes h xs) ys → AreInOrder peer me h (xs ++ ys)
in_order-append peer me h [] ys a b = b
in_order-append peer me h (x ∷ xs) ys a b = (a.0, in_order-append peer me (comes h x) xs ys a.1 b)

in_order-front : (peer me : NodeId) (h : Come) (xs ys : List Inbound) → AreInOrder peer me h (xs ++ ys) → AreInOrder peer me h xs
in_order-front peer me h [] ys a = tt
in_order-front peer me h (x ∷ xs) ys a = (a.0, in_order-front peer me (comes h x) xs ys a.1)

of_link-push : (peer me : NodeId) (t : Tail) (xs : List LinkItem) (x : LinkItem) → AreOfLink peer me t xs → MayGo peer me (fold goes t xs) x → AreOfLink peer me t (xs ++ x ∷ [])
of_link-push peer me t [] x a b = (b, tt)
of_link-push peer me t (y ∷ ys) x a b = (a.0, of_link-push peer me (goes t y) ys x a.1 b)

pub fronts_are_in_order : FrontsAreInOrder
fronts_are_in_order = in_order-front

pub one_more_is_of_link : OneMoreIsOfLink
one_more_is_of_link = of_link-push

-- ---- one item

-- how the tail, the reader and what it gave are related
record Agrees (t : Tail) (r : ReaderView) (h : Come) : Type 0 where
  life : h.life ≡ t.life
  over : r.ended ≡ true → h.is_open ≡ false
  open' : r.ended ≡ false → h.is_open ≡ true
  tail : r.ended ≡ false → t.is_open ≡ true
  next : r.ended ≡ false → h.next ≡ r.next

record Keeps (peer me : NodeId) (t : Tail) (r : ReaderView) (h : Come) (given : List Inbound) : Type 0 where
  in_order : AreInOrder peer me h given
  agrees : Agrees t r (fold comes h given)

not_full : (c : Cause) → Type 0
not_full c = c ≢ ParkedFull

link_isnt : Link ≢ ParkedFull
link_isnt e = cc

malformed_isnt : Malformed ≢ ParkedFull
malformed_isnt e = cc

spent_isnt : Spent ≢ ParkedFull
spent_isnt e = cc

true_isnt : {X : Type 0} → true ≡ false → X
true_isnt e = cc

false_isnt : {X : Type 0} → false ≡ true → X
false_isnt e = cc

-- a connection goes on
abbrev goes_on : ℕ → ReaderView
goes_on n = record { ended = false; next = n }

ends : (peer me : NodeId) (t : Tail) (h : Come) (n : ℕ) (conn : ConnId) (cause : Cause) → (t2 : Tail) → t2.life ≡ t.life → cause ≢ ParkedFull → Agrees t (goes_on n) h → conn ≡ conn_at peer me t.life → Keeps peer me t2 (record { ended = true; next = n }) h (inbound.Closed conn cause ∷ [])
ends peer me t h n conn cause t2 l c a e = record {
  in_order = ((a.open' refl, e ∙ ap (conn_at peer me) (sym a.life), c), tt);
  agrees = record { life = a.life ∙ sym l; over = λ _. refl; open' = λ b. true_isnt b; tail = λ b. true_isnt b; next = λ b. true_isnt b };
}

sides : (peer me : NodeId) (t : Tail) (h : Come) (n : ℕ) (conn : ConnId) (m : SideMessage) → Agrees t (goes_on n) h → conn ≡ conn_at peer me t.life → Keeps peer me t (goes_on n) h (inbound.Side conn m ∷ [])
sides peer me t h n conn m a e = record { in_order = ((a.open' refl, e ∙ ap (conn_at peer me) (sym a.life)), tt); agrees = a }

carries : (peer me : NodeId) (t : Tail) (h : Come) (n : ℕ) (conn : ConnId) → Agrees t (goes_on n) h → t.is_open ≡ true → conn ≡ conn_at peer me t.life → (given : Inbound) → ((k : Come) → comes k given ≡ record k { next = k.next + 1 }) → (MayCome peer me h given ≡ ((h.is_open ≡ true) × (conn ≡ conn_at peer me h.life) × (n ≡ h.next))) → Keeps peer me t (goes_on (n + 1)) h (given ∷ [])
carries peer me t h n conn a o e given w v = record {
  in_order = (subst (λ (X : Type 0). X) (sym v) (a.open' refl, e ∙ ap (conn_at peer me) (sym a.life), sym (a.next refl)), tt);
  agrees = subst (λ (k : Come). Agrees t (goes_on (n + 1)) k) (sym (w h)) (record { life = a.life; over = λ b. false_isnt b; open' = λ _. a.open' refl; tail = λ _. o; next = λ _. ap (λ k. k + 1) (a.next refl) });
}

pub records_single : (slot : ℕ) (values : List (List ℕ)) → AllByRecursion IsSingle (records_from slot values)
records_single slot [] = tt
records_single slot (value ∷ values) = (tt, records_single (slot + 1) values)

pub all_single : (m : Message) → AllByRecursion IsSingle (singles m)
all_single (Envelope x) = (tt, tt)
all_single (GetSet x) = (tt, tt)
all_single (Set x) = (tt, tt)
all_single (NoSet x) = (tt, tt)
all_single (GetRecord x) = (tt, tt)
all_single (Record x y) = (tt, tt)
all_single (Records x y) = records_single x.0 y

one_message : (peer me : NodeId) (t : Tail) (h : Come) (n : ℕ) (conn : ConnId) (m : Message) → IsSingle m → Agrees t (goes_on n) h → t.is_open ≡ true → conn ≡ conn_at peer me t.life → Keeps peer me t (goes_on (next_of n m)) h (numbered conn n m ∷ [])
one_message peer me t h n conn (Envelope x) s a o e = carries peer me t h n conn a o e (numbered conn n (Envelope x)) (λ k. refl) refl
one_message peer me t h n conn (GetSet x) s a o e = sides peer me t h n conn (side.GetSet x) a e
one_message peer me t h n conn (Set x) s a o e = sides peer me t h n conn (side.Set x) a e
one_message peer me t h n conn (NoSet x) s a o e = sides peer me t h n conn (side.NoSet x) a e
one_message peer me t h n conn (GetRecord x) s a o e = carries peer me t h n conn a o e (numbered conn n (GetRecord x)) (λ k. refl) refl
one_message peer me t h n conn (Record x y) s a o e = carries peer me t h n conn a o e (numbered conn n (Record x y)) (λ k. refl) refl
one_message peer me t h n conn (Records x y) s a o e = elim s [ ]

keeps_both : (peer me : NodeId) (t : Tail) (r1 r2 : ReaderView) (h : Come) (x : Inbound) (xs : List Inbound) → Keeps peer me t r1 h (x ∷ []) → Keeps peer me t r2 (comes h x) xs → Keeps peer me t r2 h (x ∷ xs)
keeps_both peer me t r1 r2 h x xs k l = record { in_order = (k.in_order.0, l.in_order); agrees = l.agrees }

-- messages in turn, up to one that is spent
each : (peer me : NodeId) (t : Tail) (h : Come) (n : ℕ) (conn : ConnId) (ms : List Message) → AllByRecursion IsSingle ms → Agrees t (goes_on n) h → t.is_open ≡ true → conn ≡ conn_at peer me t.life → Keeps peer me t (after_each (goes_on n) ms) h (brought_each conn n ms)
each peer me t h n conn [] all' a o e = record { in_order = tt; agrees = a }
each peer me t h n conn (m ∷ ms) all' a o e =
    by_test (is_spent n m) (let k = one_message peer me t h n conn m all'.0 a o e in keeps_both peer me t (goes_on (next_of n m)) (after_each (goes_on (next_of n m)) ms) h (numbered conn n m) (brought_each conn (next_of n m) ms) k (each peer me t (comes h (numbered conn n m)) (next_of n m) conn ms all'.1 k.agrees o e))
  where
    by_test : (b : Bool) → Keeps peer me t (after_each (goes_on (next_of n m)) ms) h (numbered conn n m ∷ brought_each conn (next_of n m) ms)
        → Keeps peer me t (if b then (if b then record { ended = true; next = n } else goes_on (next_of n m)) else after_each (if b then record { ended = true; next = n } else goes_on (next_of n m)) ms) h ((if b then inbound.Closed conn Spent else numbered conn n m) ∷ (if b then [] else brought_each conn (next_of n m) ms))
    by_test true k = ends peer me t h n conn Spent t refl spent_isnt a e
    by_test false k = k

reads : (peer me : NodeId) (t : Tail) (h : Come) (n : ℕ) (conn : ConnId) (read : Option Message) → Agrees t (goes_on n) h → t.is_open ≡ true → conn ≡ conn_at peer me t.life → Keeps peer me t (after_read (goes_on n) read) h (brought conn n read)
reads peer me t h n conn None a o e = ends peer me t h n conn Malformed t refl malformed_isnt a e
reads peer me t h n conn (Some m) a o e = each peer me t h n conn (singles m) (all_single m) a o e

discards : (peer me : NodeId) (t t2 : Tail) (h : Come) (n : ℕ) → t2.life ≡ t.life → Agrees t (record { ended = true; next = n }) h → Keeps peer me t2 (record { ended = true; next = n }) h []
discards peer me t t2 h n l a = record { in_order = tt; agrees = record { life = a.life ∙ sym l; over = a.over; open' = λ b. true_isnt b; tail = λ b. true_isnt b; next = λ b. true_isnt b } }

shut_reader : (t : Tail) (r : ReaderView) (h : Come) → Agrees t r h → t.is_open ≡ false → (b : Bool) → r.ended ≡ b → h.is_open ≡ false
shut_reader t r h a s true e = a.over e
shut_reader t r h a s false e = true_isnt (sym (a.tail e) ∙ s)

one : (peer me : NodeId) (t : Tail) (ended : Bool) (n : ℕ) (h : Come) (x : LinkItem) → Agrees t (record { ended = ended; next = n }) h → MayGo peer me t x → Keeps peer me (goes t x) (after (record { ended = ended; next = n }) x) h (reading (record { ended = ended; next = n }) x)
one peer me t ended n h (item.Opened conn) a g = record {
  in_order = ((shut_reader t (record { ended = ended; next = n }) h a g.0 ended refl, g.1 ∙ ap (λ k. conn_at peer me (k + 1)) (sym a.life)), tt);
  agrees = record { life = ap (λ k. k + 1) a.life; over = λ b. false_isnt b; open' = λ _. refl; tail = λ _. refl; next = λ _. refl };
}
one peer me t true n h (item.Bytes conn bytes) a g = discards peer me t t h n refl a
one peer me t false n h (item.Bytes conn bytes) a g = reads peer me t h n conn (reading_of bytes) a g.0 g.1
one peer me t true n h (item.Closed conn) a g = discards peer me t (record { life = t.life; is_open = false }) h n refl a
one peer me t false n h (item.Closed conn) a g = ends peer me t h n conn Link (record { life = t.life; is_open = false }) refl link_isnt a g.1

all : (peer me : NodeId) (t : Tail) (r : ReaderView) (h : Come) (items : List LinkItem) → Agrees t r h → AreOfLink peer me t items → AreInOrder peer me h (readings r items)
all peer me t r h [] a g = tt
all peer me t r h (x ∷ xs) a g =
    let k = one peer me t r.ended r.next h x a g.0 in
    in_order-append peer me h (reading r x) (readings (after r x) xs) k.in_order (all peer me (goes t x) (after r x) (fold comes h (reading r x)) xs k.agrees g.1)

pub readings_in_order : ReadingsAreInOrder
readings_in_order = λ peer me items g. all peer me never_open unread nothing_came items (record { life = refl; over = λ _. refl; open' = λ b. true_isnt b; tail = λ b. true_isnt b; next = λ b. true_isnt b }) g

-- ---- a message that is no batch

alone_by : (b : Bool) (x y : ReaderView) (i : Inbound) → ((i ∷ (if b then [] else [])) ≡ i ∷ []) × ((if b then x else x) ≡ x)
alone_by true x y i = (refl, refl)
alone_by false x y i = (refl, refl)

pub carried_alone : (conn : ConnId) (r : ReaderView) (m : Message) → is_carried m ≡ true → (brought conn r.next (Some m) ≡ brought_one conn r.next m ∷ []) × (after_read r (Some m) ≡ after_one r m)
carried_alone conn r (Envelope x) c = alone_by (is_spent r.next (Envelope x)) (after_one r (Envelope x)) r (brought_one conn r.next (Envelope x))
carried_alone conn r (GetSet x) c = absurd cc
carried_alone conn r (Set x) c = absurd cc
carried_alone conn r (NoSet x) c = absurd cc
carried_alone conn r (GetRecord x) c = alone_by (is_spent r.next (GetRecord x)) (after_one r (GetRecord x)) r (brought_one conn r.next (GetRecord x))
carried_alone conn r (Record x y) c = alone_by (is_spent r.next (Record x y)) (after_one r (Record x y)) r (brought_one conn r.next (Record x y))
carried_alone conn r (Records x y) c = absurd cc

-- ---- the records of a batch, one more

pub records_from-more : (slot : ℕ) (vs : List (List ℕ)) (v : List ℕ) → records_from slot (vs ++ v ∷ []) ≡ records_from slot vs ++ Record (record { 0 = slot + length vs }) v ∷ []
records_from-more slot [] v = ap (λ k. Record (record { 0 = k }) v ∷ []) (omega arith)
records_from-more slot (w ∷ vs) v = ap (λ ms. Record (record { 0 = slot }) w ∷ ms) (records_from-more (slot + 1) vs v ∙ ap (λ k. records_from (slot + 1) vs ++ Record (record { 0 = k }) v ∷ []) (omega arith))

-- after messages that didn't end the connection one more is read; after an end it is dropped
pub record ReadsMore (conn : ConnId) (r : ReaderView) (ms : List Message) (m : Message) : Type 0 where
  pub brings : brought_each conn r.next (ms ++ m ∷ []) ≡ brought_each conn r.next ms ++ brought_one conn (after_each r ms).next m ∷ []
  pub goes_past : after_each r (ms ++ m ∷ []) ≡ after_one (after_each r ms) m
  pub so_many : length (brought_each conn r.next ms) ≡ length ms

pub reads_more : (conn : ConnId) (r : ReaderView) (ms : List Message) (m : Message) → (after_each r ms).ended ≡ false → ReadsMore conn r ms m
reads_more conn r [] m runs = record { brings = (alone_by (is_spent r.next m) r r (brought_one conn r.next m)).0; goes_past = (alone_by (is_spent r.next m) (after_one r m) r (brought_one conn r.next m)).1; so_many = refl }
reads_more conn r (x ∷ ms) m runs = by_test (is_spent r.next x) refl (λ running. reads_more conn (record r { next = next_of r.next x }) ms m running)
  where
    by_test : (b : Bool) → is_spent r.next x ≡ b → ((after_each (record r { next = next_of r.next x }) ms).ended ≡ false → ReadsMore conn (record r { next = next_of r.next x }) ms m) → ReadsMore conn r (x ∷ ms) m
    by_test true e more = absurd (let step : (after_each r (x ∷ ms)).ended ≡ true = rw e refl in let bad : true ≡ false = sym step ∙ runs in cc)
    by_test false e more =
        let step : after_each r (x ∷ ms) ≡ after_each (record r { next = next_of r.next x }) ms = rw e refl in
        let k = more (subst (λ (q : ReaderView). q.ended ≡ false) step runs) in
        record {
          brings = rw e (ap (λ xs. numbered conn r.next x ∷ xs) k.brings);
          goes_past = rw e k.goes_past;
          so_many = rw e (ap suc k.so_many);
        }

pub given_up : (conn : ConnId) (r : ReaderView) (ms : List Message) (m : Message) → r.ended ≡ false → (after_each r ms).ended ≡ true → (brought_each conn r.next (ms ++ m ∷ []) ≡ brought_each conn r.next ms) × (after_each r (ms ++ m ∷ []) ≡ after_each r ms)
given_up conn r [] m runs over = absurd (let bad : false ≡ true = sym runs ∙ over in cc)
given_up conn r (x ∷ ms) m runs over = by_test (is_spent r.next x) refl (λ ended. given_up conn (record r { next = next_of r.next x }) ms m runs ended)
  where
    by_test : (b : Bool) → is_spent r.next x ≡ b → ((after_each (record r { next = next_of r.next x }) ms).ended ≡ true → (brought_each conn (next_of r.next x) (ms ++ m ∷ []) ≡ brought_each conn (next_of r.next x) ms) × (after_each (record r { next = next_of r.next x }) (ms ++ m ∷ []) ≡ after_each (record r { next = next_of r.next x }) ms)) → (brought_each conn r.next (x ∷ (ms ++ m ∷ [])) ≡ brought_each conn r.next (x ∷ ms)) × (after_each r (x ∷ (ms ++ m ∷ [])) ≡ after_each r (x ∷ ms))
    by_test true e more = (rw e refl, rw e refl)
    by_test false e more =
        let step : after_each r (x ∷ ms) ≡ after_each (record r { next = next_of r.next x }) ms = rw e refl in
        let k = more (subst (λ (q : ReaderView). q.ended ≡ true) step over) in
        (rw e (ap (λ xs. numbered conn r.next x ∷ xs) k.0), rw e k.1)

-- ---- a value more of a batch

records_from-length : (slot : ℕ) (vs : List (List ℕ)) → length (records_from slot vs) ≡ length vs
records_from-length slot [] = refl
records_from-length slot (v ∷ vs) = ap suc (records_from-length (slot + 1) vs)

pub record BatchRuns (conn : ConnId) (r : ReaderView) (first : ℕ) (vs : List (List ℕ)) (v : List ℕ) : Type 0 where
  pub brings : brought_each conn r.next (records_from first (vs ++ v ∷ [])) ≡ brought_each conn r.next (records_from first vs) ++ brought_one conn (after_each r (records_from first vs)).next (Record (record { 0 = first + length vs }) v) ∷ []
  pub goes_past : after_each r (records_from first (vs ++ v ∷ [])) ≡ after_one (after_each r (records_from first vs)) (Record (record { 0 = first + length vs }) v)
  pub so_many : length (brought_each conn r.next (records_from first vs)) ≡ length vs

pub batch_runs : (conn : ConnId) (r : ReaderView) (first : ℕ) (vs : List (List ℕ)) (v : List ℕ) → (after_each r (records_from first vs)).ended ≡ false → BatchRuns conn r first vs v
batch_runs conn r first vs v runs =
    let k = reads_more conn r (records_from first vs) (Record (record { 0 = first + length vs }) v) runs in
    let e = records_from-more first vs v in
    record {
      brings = ap (λ ms. brought_each conn r.next ms) e ∙ k.brings;
      goes_past = ap (λ ms. after_each r ms) e ∙ k.goes_past;
      so_many = k.so_many ∙ records_from-length first vs;
    }

pub record BatchIsOver (conn : ConnId) (r : ReaderView) (first : ℕ) (vs : List (List ℕ)) (v : List ℕ) : Type 0 where
  pub brings : brought_each conn r.next (records_from first (vs ++ v ∷ [])) ≡ brought_each conn r.next (records_from first vs)
  pub goes_past : after_each r (records_from first (vs ++ v ∷ [])) ≡ after_each r (records_from first vs)

pub batch_is_over : (conn : ConnId) (r : ReaderView) (first : ℕ) (vs : List (List ℕ)) (v : List ℕ) → r.ended ≡ false → (after_each r (records_from first vs)).ended ≡ true → BatchIsOver conn r first vs v
batch_is_over conn r first vs v runs over =
    let k = given_up conn r (records_from first vs) (Record (record { 0 = first + length vs }) v) runs over in
    let e = records_from-more first vs v in
    record { brings = ap (λ ms. brought_each conn r.next ms) e ∙ k.0; goes_past = ap (λ ms. after_each r ms) e ∙ k.1 }
