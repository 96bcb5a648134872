-- What is read of a connection is what was sent on it.
use Rattle.std.proofs.Common.{◌≡◌, ◌≢◌, ℕ, ◌+◌, ◌-◌, ◌<◌, ◌≤◌, Bool, true, false, List, [], ◌∷◌, ◌++◌, refl, sym, ◌∙◌, ap, subst, nat_eq, arith, length, zero, suc, take}
use Rattle.std.specs.Prelude.{Option, Some, None, option_to_list, if◌then◌else◌, nat_lt, map, filter, not, is_some}
use Rattle.std.proofs.lemmas.List.Elements.{filter-append}
use Rattle.std.proofs.lemmas.Bool.{eqb-true, eqb-false}
use Rattle.std.proofs.lemmas.Bool.Decides.{nat_tests}
use Rattle.scp_quorum.specs.scp_types.specs.declared.names.ConnId.{ConnId}
use Rattle.scp_quorum.specs.scp_types.specs.declared.names.NodeId.{NodeId}
use Rattle.scp_wire.specs.declared.message.Message.{Message}
use Rattle.scp_wire.specs.declared.message.Message.TheVariants.{Envelope, GetSet, Set, NoSet, GetRecord, Record, Records}
use Rattle.scp_wire.specs.declared.side.SideMessage.{SideMessage}
use Rattle.scp_wire.specs.declared.side.SideMessage.TheVariants as side
use Rattle.scp_wire.specs.declared.link.LinkItem.{LinkItem}
use Rattle.scp_wire.specs.declared.link.LinkItem.TheVariants as item
use Rattle.scp_wire.specs.declared.link.Inbound.{Inbound}
use Rattle.scp_wire.specs.declared.link.Inbound.TheVariants as inbound
use Rattle.scp_wire.specs.declared.link.Cause.{Cause}
use Rattle.scp_wire.specs.declared.link.Cause.TheVariants.{Malformed, Link, Spent}
use Rattle.scp_wire.specs.Carried.{is_carried}
use Rattle.scp_wire.specs.Reading.{reading_of}
use Rattle.scp_wire.specs.LinkReading.{ReaderView, unread, reading, after, readings, brought, after_read, brought_each, after_each, next_of, is_spent, singles, numbered}
use Rattle.scp_wire.specs.Connections.{conn_at, same_conn}
use Rattle.scp_wire.specs.Shape.{Tail, never_open, AreOfLink}
use Rattle.scp_wire.specs.Marks.{number, ended, one_if, came_mark, marks_in, came_message, messages_in, is_of, of_conn}
use Rattle.scp_wire.specs.Sent.{sent_by, closed_by, sent, is_closed, readable, all_readable, carried_of, numbers, line_of_sent, readable_from, opened_by, opened, up_to, in_turn, read_of_sent}
use Rattle.scp_wire.specs.ReaderLaws.{IsSent, ReadingsAreSent}
use Rattle.std.specs.List.{AllByRecursion}
use Rattle.scp_wire.proofs.Shapes.{IsSingle, all_single}
use Rattle.scp_wire.proofs.Lines.{same_conn-at, marks_in-append, messages_in-append}

-- ---- an item of another life says nothing

record Silent (c : ConnId) (xs : List Inbound) : Type 0 where
  marks : marks_in c xs ≡ []
  messages : messages_in c xs ≡ []
  all : of_conn c xs ≡ []

silent-none : (c : ConnId) → Silent c []
silent-none c = record { marks = refl; messages = refl; all = refl }

silent-append : (c : ConnId) (xs ys : List Inbound) → Silent c xs → Silent c ys → Silent c (xs ++ ys)
silent-append c xs ys a b = record {
  marks = marks_in-append c xs ys ∙ rw (a.marks, b.marks) refl;
  messages = messages_in-append c xs ys ∙ rw (a.messages, b.messages) refl;
  all = filter-append (is_of c) xs ys ∙ rw (a.all, b.all) refl;
}

other_end : (c conn : ConnId) (cause : Cause) → same_conn conn c ≡ false → Silent c (inbound.Closed conn cause ∷ [])
other_end c conn cause e = record { marks = rw e refl; messages = refl; all = rw e refl }

other_opening : (c conn : ConnId) → same_conn conn c ≡ false → Silent c (inbound.Opened conn ∷ [])
other_opening c conn e = record { marks = refl; messages = refl; all = rw e refl }

other_side : (c conn : ConnId) (m : SideMessage) → same_conn conn c ≡ false → Silent c (inbound.Side conn m ∷ [])
other_side c conn m e = record { marks = refl; messages = refl; all = rw e refl }

other_one : (c conn : ConnId) (n : ℕ) (m : Message) → same_conn conn c ≡ false → Silent c (numbered conn n m ∷ [])
other_one c conn n (Envelope x) e = record { marks = rw e refl; messages = rw e refl; all = rw e refl }
other_one c conn n (GetSet x) e = other_side c conn (side.GetSet x) e
other_one c conn n (Set x) e = other_side c conn (side.Set x) e
other_one c conn n (NoSet x) e = other_side c conn (side.NoSet x) e
other_one c conn n (GetRecord x) e = record { marks = rw e refl; messages = rw e refl; all = rw e refl }
other_one c conn n (Record x y) e = record { marks = rw e refl; messages = rw e refl; all = rw e refl }
other_one c conn n (Records x y) e = other_end c conn Malformed e

other_each : (c conn : ConnId) (n : ℕ) (ms : List Message) → same_conn conn c ≡ false → Silent c (brought_each conn n ms)
other_each c conn n [] e = silent-none c
other_each c conn n (m ∷ ms) e = by_test (is_spent n m) (silent-append c (numbered conn n m ∷ []) (brought_each conn (next_of n m) ms) (other_one c conn n m e) (other_each c conn (next_of n m) ms e))
  where
    by_test : (b : Bool) → Silent c (numbered conn n m ∷ brought_each conn (next_of n m) ms) → Silent c ((if b then inbound.Closed conn Spent else numbered conn n m) ∷ (if b then [] else brought_each conn (next_of n m) ms))
    by_test true s = other_end c conn Spent e
    by_test false s = s

other_read : (c conn : ConnId) (n : ℕ) (read : Option Message) → same_conn conn c ≡ false → Silent c (brought conn n read)
other_read c conn n None e = other_end c conn Malformed e
other_read c conn n (Some m) e = other_each c conn n (singles m) e

if_silent : (c : ConnId) (b : Bool) (xs : List Inbound) → Silent c xs → Silent c (if b then [] else xs)
if_silent c true xs s = silent-none c
if_silent c false xs s = s

-- an item of a life that isn't this one
record IsOther (c : ConnId) (r : ReaderView) (x : LinkItem) : Type 0 where
  read : Silent c (reading r x)
  sent_none : sent_by c x ≡ []
  opened_none : opened_by c x ≡ []
  closed_none : closed_by c x ≡ false

other_conn : (peer me : NodeId) (life a : ℕ) (conn : ConnId) → nat_eq a life ≡ false → conn ≡ conn_at peer me a → same_conn conn (conn_at peer me life) ≡ false
other_conn peer me life a conn ne is = ap (λ (d : ConnId). same_conn d (conn_at peer me life)) is ∙ same_conn-at peer me a life ∙ ne

opened_other : (c : ConnId) (r : ReaderView) (conn : ConnId) → same_conn conn c ≡ false → IsOther c r (item.Opened conn)
opened_other c r conn e = record { read = other_opening c conn e; sent_none = refl; opened_none = rw e refl; closed_none = refl }

bytes_other : (c : ConnId) (r : ReaderView) (conn : ConnId) (bytes : List ℕ) → same_conn conn c ≡ false → IsOther c r (item.Bytes conn bytes)
bytes_other c r conn bytes e = record { read = if_silent c r.ended (brought conn r.next (reading_of bytes)) (other_read c conn r.next (reading_of bytes) e); sent_none = rw e refl; opened_none = refl; closed_none = refl }

closed_other : (c : ConnId) (r : ReaderView) (conn : ConnId) → same_conn conn c ≡ false → IsOther c r (item.Closed conn)
closed_other c r conn e = record { read = if_silent c r.ended (inbound.Closed conn Link ∷ []) (other_end c conn Link e); sent_none = refl; opened_none = refl; closed_none = e }

-- ---- the life is over

record IsOver (c : ConnId) (r : ReaderView) (items : List LinkItem) : Type 0 where
  read : Silent c (readings r items)
  sent_none : sent c items ≡ []
  opened_none : opened c items ≡ []
  closed_none : is_closed c items ≡ false

over-none : (c : ConnId) (r : ReaderView) → IsOver c r []
over-none c r = record { read = silent-none c; sent_none = refl; opened_none = refl; closed_none = refl }

over-more : (c : ConnId) (r : ReaderView) (x : LinkItem) (xs : List LinkItem) → IsOther c r x → IsOver c (after r x) xs → IsOver c r (x ∷ xs)
over-more c r x xs a k = record {
  read = silent-append c (reading r x) (readings (after r x) xs) a.read k.read;
  sent_none = rw (a.sent_none) k.sent_none;
  opened_none = rw (a.opened_none) k.opened_none;
  closed_none = rw (a.closed_none) k.closed_none;
}

later : (a life : ℕ) → life < a → nat_eq a life ≡ false
later a life lt = grind (arith, nat_tests)

earlier : (a life : ℕ) → a < life → nat_eq a life ≡ false
earlier a life lt = grind (arith, nat_tests)

past_it : (peer me : NodeId) (life : ℕ) (t : Tail) (r : ReaderView) (items : List LinkItem) → life < t.life → AreOfLink peer me t items → IsOver (conn_at peer me life) r items
past_it peer me life t r [] lt a = over-none (conn_at peer me life) r
past_it peer me life t r (item.Opened conn ∷ xs) lt a = over-more (conn_at peer me life) r (item.Opened conn) xs (opened_other (conn_at peer me life) r conn (other_conn peer me life (t.life + 1) conn (later (t.life + 1) life (omega (arith, lt))) a.0.1)) (past_it peer me life (record { life = t.life + 1; is_open = true }) (after r (item.Opened conn)) xs (omega (arith, lt)) a.1)
past_it peer me life t r (item.Bytes conn bytes ∷ xs) lt a = over-more (conn_at peer me life) r (item.Bytes conn bytes) xs (bytes_other (conn_at peer me life) r conn bytes (other_conn peer me life t.life conn (later t.life life lt) a.0.1)) (past_it peer me life t (after r (item.Bytes conn bytes)) xs lt a.1)
past_it peer me life t r (item.Closed conn ∷ xs) lt a = over-more (conn_at peer me life) r (item.Closed conn) xs (closed_other (conn_at peer me life) r conn (other_conn peer me life t.life conn (later t.life life lt) a.0.1)) (past_it peer me life (record { life = t.life; is_open = false }) (after r (item.Closed conn)) xs lt a.1)

-- closed at its tail: the next item opens another life
shut_it : (peer me : NodeId) (life : ℕ) (t : Tail) (r : ReaderView) (items : List LinkItem) → t.life ≡ life → t.is_open ≡ false → AreOfLink peer me t items → IsOver (conn_at peer me life) r items
shut_it peer me life t r [] l s a = over-none (conn_at peer me life) r
shut_it peer me life t r (item.Opened conn ∷ xs) l s a = over-more (conn_at peer me life) r (item.Opened conn) xs (opened_other (conn_at peer me life) r conn (other_conn peer me life (t.life + 1) conn (later (t.life + 1) life (omega (arith, l))) a.0.1)) (past_it peer me life (record { life = t.life + 1; is_open = true }) (after r (item.Opened conn)) xs (omega (arith, l)) a.1)
shut_it peer me life t r (item.Bytes conn bytes ∷ xs) l s a = absurd (let e : true ≡ false = sym a.0.0 ∙ s in cc)
shut_it peer me life t r (item.Closed conn ∷ xs) l s a = absurd (let e : true ≡ false = sym a.0.0 ∙ s in cc)

-- what is left of an ended connection is discarded
dead : (peer me : NodeId) (life : ℕ) (t : Tail) (n : ℕ) (items : List LinkItem) → t.life ≡ life → t.is_open ≡ true → AreOfLink peer me t items → Silent (conn_at peer me life) (readings (record { ended = true; next = n }) items)
dead peer me life t n [] l o a = silent-none (conn_at peer me life)
dead peer me life t n (item.Opened conn ∷ xs) l o a = absurd (let e : true ≡ false = sym o ∙ a.0.0 in cc)
dead peer me life t n (item.Bytes conn bytes ∷ xs) l o a = dead peer me life t n xs l o a.1
dead peer me life t n (item.Closed conn ∷ xs) l o a = (shut_it peer me life (record { life = t.life; is_open = false }) (record { ended = true; next = n }) xs l refl a.1).read

-- ---- the life itself

abbrev goes_on : ℕ → ReaderView
goes_on n = record { ended = false; next = n }

abbrev end_by : ℕ → List Message → Bool → Bool → Option Cause
end_by limit messages ok closed = if nat_lt limit (length messages) then Some Spent else (if not ok then Some Malformed else (if closed then Some Link else None))

-- what is read says exactly these messages, as far as the limit lets them, and the end
record Told (c : ConnId) (n limit : ℕ) (xs : List Inbound) (ms : List Message) (ok closed : Bool) : Type 0 where
  are : messages_in c xs ≡ take limit (filter is_carried ms)
  line : marks_in c xs ≡ numbers n (take limit (filter is_carried ms)) ++ map ended (option_to_list (end_by limit (filter is_carried ms) ok closed))
  all : of_conn c xs ≡ in_turn c n (up_to limit ms) ++ map (inbound.Closed c) (option_to_list (end_by limit (filter is_carried ms) ok closed))

take_none : {X : Type 0} (n : ℕ) → take {A = X} n [] ≡ []
take_none zero = refl
take_none (suc n) = refl

none_less : (n : ℕ) → nat_lt n 0 ≡ false
none_less n = grind (arith, nat_tests)

end_none : (limit : ℕ) (ok closed : Bool) → end_by limit [] ok closed ≡ (if not ok then Some Malformed else (if closed then Some Link else None))
end_none limit ok closed = rw (none_less limit) refl

told-nothing : (c : ConnId) (n limit : ℕ) → Told c n limit [] [] true false
told-nothing c n limit = record { are = sym (take_none limit); line = rw (take_none {X = Message} limit, end_none limit true false) refl; all = rw (end_none limit true false) refl }

-- the end, and its connection is this one
told-end : (c conn : ConnId) (cause : Cause) (n limit : ℕ) (rest : List Inbound) (ok closed : Bool) → same_conn conn c ≡ true → conn ≡ c → Silent c rest → (if not ok then Some Malformed else (if closed then Some Link else None)) ≡ Some cause → Told c n limit (inbound.Closed conn cause ∷ rest) [] ok closed
told-end c conn cause n limit rest ok closed same here silent is = record {
  are = silent.messages ∙ sym (take_none limit);
  line = rw (take_none {X = Message} limit, end_none limit ok closed, is, same, silent.marks) refl;
  all = rw (end_none limit ok closed, is, same, silent.all) (ap (λ d. inbound.Closed d cause ∷ []) here);
}

told-spent : (c conn : ConnId) (n : ℕ) (rest : List Inbound) (m : Message) (ms : List Message) (ok closed : Bool) → is_carried m ≡ true → same_conn conn c ≡ true → conn ≡ c → Silent c rest → Told c n 0 (inbound.Closed conn Spent ∷ rest) (m ∷ ms) ok closed
told-spent c conn n rest m ms ok closed is same here silent =
    let less : nat_lt 0 (length (m ∷ filter is_carried ms)) ≡ true = grind (arith, nat_tests) in
    record {
      are = silent.messages;
      line = rw (is, less, same, silent.marks) refl;
      all = rw (is, less, same, silent.all) (ap (λ d. inbound.Closed d Spent ∷ []) here);
    }

less_suc : (a b : ℕ) → nat_lt (suc a) (suc b) ≡ nat_lt a b
less_suc a b = grind (arith, nat_tests)

-- a side message more, which has no number
told-side : (c conn : ConnId) (n limit : ℕ) (x : Inbound) (rest : List Inbound) (m : Message) (ms : List Message) (ok closed : Bool) → is_carried m ≡ false → came_mark c x ≡ [] → came_message c x ≡ [] → is_of c x ≡ true → x ≡ numbered c n m → Told c n limit rest ms ok closed → Told c n limit (x ∷ rest) (m ∷ ms) ok closed
told-side c conn n limit x rest m ms ok closed is mark message mine same t =
    let end : List Inbound = map (inbound.Closed c) (option_to_list (end_by limit (filter is_carried ms) ok closed)) in
    let next : n ≡ next_of n m = rw is refl in
    record {
      are = rw (is, message) t.are;
      line = rw (is, mark) t.line;
      all = rw (is, mine) (ap (λ d. d ∷ of_conn c rest) same ∙ ap (λ ys. numbered c n m ∷ ys) (t.all ∙ ap (λ k. in_turn c k (up_to limit ms) ++ end) next));
    }

-- one carried message more, as an item that says so
told-carried : (c : ConnId) (n limit : ℕ) (x : Inbound) (rest : List Inbound) (m : Message) (ms : List Message) (ok closed : Bool) → is_carried m ≡ true → came_mark c x ≡ number n ∷ [] → came_message c x ≡ m ∷ [] → is_of c x ≡ true → x ≡ numbered c n m → Told c (n + 1) limit rest ms ok closed → Told c n (suc limit) (x ∷ rest) (m ∷ ms) ok closed
told-carried c n limit x rest m ms ok closed is mark message mine same t =
    let less : nat_lt (suc limit) (length (m ∷ filter is_carried ms)) ≡ nat_lt limit (length (filter is_carried ms)) = less_suc limit (length (filter is_carried ms)) in
    let some : nat_eq (suc limit) 0 ≡ false = grind (arith, nat_tests) in
    let one_less : suc limit - 1 ≡ limit = omega arith in
    let end : List Inbound = map (inbound.Closed c) (option_to_list (end_by limit (filter is_carried ms) ok closed)) in
    let next : n + 1 ≡ next_of n m = rw is refl in
    record {
      are = rw (is, message) (ap (λ ns. m ∷ ns) t.are);
      line = rw (is, mark, less) (ap (λ ns. number n ∷ ns) t.line);
      all = rw (is, mine, some, less, one_less) (ap (λ d. d ∷ of_conn c rest) same ∙ ap (λ ys. numbered c n m ∷ ys) (t.all ∙ ap (λ k. in_turn c k (up_to limit ms) ++ end) next));
    }

-- what follows of the connection, where a message was carried, and where it ended
record Rest (c : ConnId) (xs : List LinkItem) (ms : List Message) (ok closed : Bool) : Type 0 where
  live : (n limit : ℕ) → n + limit ≡ 1000000 → Told c n limit (readings (goes_on n) xs) ms ok closed
  dead' : (n : ℕ) → Silent c (readings (record { ended = true; next = n }) xs)

not_limit : (n limit : ℕ) → n + suc limit ≡ 1000000 → nat_eq n 1000000 ≡ false
not_limit n limit e = let lt : n < 1000000 = omega (arith, e) in grind (arith, nat_tests)

-- what messages in turn say, with what follows
abbrev Says : ConnId → List LinkItem → ConnId → List Message → List Message → Bool → Bool → Type 0
Says c xs conn ms all ok closed = (n limit : ℕ) → n + limit ≡ 1000000 → Told c n limit (brought_each conn n ms ++ readings (after_each (goes_on n) ms) xs) all ok closed

-- a message as it is read on this connection
record IsHere (c : ConnId) (n : ℕ) (m : Message) (x : Inbound) : Type 0 where
  mark : came_mark c x ≡ number n ∷ []
  message : came_message c x ≡ m ∷ []
  mine : is_of c x ≡ true
  same : x ≡ numbered c n m

carried : (c conn : ConnId) (n limit : ℕ) (xs : List LinkItem) (m : Message) (ms all later' : List Message) (ok closed : Bool) → (x : Inbound) → is_carried m ≡ true → IsHere c n m x → same_conn conn c ≡ true → conn ≡ c → n + limit ≡ 1000000 → Rest c xs later' ok closed → Says c xs conn ms all ok closed
    → Told c n limit (((if nat_eq n 1000000 then inbound.Closed conn Spent else x) ∷ (if nat_eq n 1000000 then [] else brought_each conn (n + 1) ms)) ++ readings (if nat_eq n 1000000 then (if nat_eq n 1000000 then record { ended = true; next = n } else goes_on (n + 1)) else after_each (if nat_eq n 1000000 then record { ended = true; next = n } else goes_on (n + 1)) ms) xs) (m ∷ all) ok closed
carried c conn n zero xs m ms all later' ok closed x is h same here e r says =
    let at : nat_eq n 1000000 ≡ true = let end : n ≡ 1000000 = omega (arith, e) in grind (arith, nat_tests) in
    rw at (told-spent c conn n (readings (record { ended = true; next = n }) xs) m all ok closed is same here (r.dead' n))
carried c conn n (suc limit) xs m ms all later' ok closed x is h same here e r says =
    rw (not_limit n limit e) (told-carried c n limit x (brought_each conn (n + 1) ms ++ readings (after_each (goes_on (n + 1)) ms) xs) m all ok closed is h.mark h.message h.mine h.same (says (n + 1) limit (omega (arith, e))))

here-carried : (c conn : ConnId) (n : ℕ) (m : Message) → is_carried m ≡ true → same_conn conn c ≡ true → conn ≡ c → IsHere c n m (numbered conn n m)
here-carried c conn n (Envelope x) is same here = record { mark = rw same refl; message = rw same refl; mine = rw same refl; same = ap (λ (d : ConnId). numbered d n (Envelope x)) here }
here-carried c conn n (GetSet x) is same here = absurd cc
here-carried c conn n (Set x) is same here = absurd cc
here-carried c conn n (NoSet x) is same here = absurd cc
here-carried c conn n (GetRecord x) is same here = record { mark = rw same refl; message = rw same refl; mine = rw same refl; same = ap (λ (d : ConnId). numbered d n (GetRecord x)) here }
here-carried c conn n (Record x y) is same here = record { mark = rw same refl; message = rw same refl; mine = rw same refl; same = ap (λ (d : ConnId). numbered d n (Record x y)) here }
here-carried c conn n (Records x y) is same here = absurd cc

side_told : (c conn : ConnId) (n limit : ℕ) (s : SideMessage) (m : Message) (rest : List Inbound) (all : List Message) (ok closed : Bool) → is_carried m ≡ false → inbound.Side c s ≡ numbered c n m → same_conn conn c ≡ true → conn ≡ c → Told c n limit rest all ok closed → Told c n limit (inbound.Side conn s ∷ rest) (m ∷ all) ok closed
side_told c conn n limit s m rest all ok closed is is_side same here t = told-side c conn n limit (inbound.Side conn s) rest m all ok closed is refl refl same (ap (λ (d : ConnId). inbound.Side d s) here ∙ is_side) t

each_told : (c conn : ConnId) (xs : List LinkItem) (ms later' : List Message) (ok closed : Bool) → AllByRecursion IsSingle ms → same_conn conn c ≡ true → conn ≡ c → Rest c xs later' ok closed → Says c xs conn ms (ms ++ later') ok closed
each_told c conn xs [] later' ok closed all same here r = λ n limit e. r.live n limit e
each_told c conn xs (Envelope x ∷ ms) later' ok closed all same here r = λ n limit e. carried c conn n limit xs (Envelope x) ms (ms ++ later') later' ok closed (numbered conn n (Envelope x)) refl (here-carried c conn n (Envelope x) refl same here) same here e r (each_told c conn xs ms later' ok closed all.1 same here r)
each_told c conn xs (GetSet x ∷ ms) later' ok closed all same here r = λ n limit e. side_told c conn n limit (side.GetSet x) (GetSet x) (brought_each conn n ms ++ readings (after_each (goes_on n) ms) xs) (ms ++ later') ok closed refl refl same here (each_told c conn xs ms later' ok closed all.1 same here r n limit e)
each_told c conn xs (Set x ∷ ms) later' ok closed all same here r = λ n limit e. side_told c conn n limit (side.Set x) (Set x) (brought_each conn n ms ++ readings (after_each (goes_on n) ms) xs) (ms ++ later') ok closed refl refl same here (each_told c conn xs ms later' ok closed all.1 same here r n limit e)
each_told c conn xs (NoSet x ∷ ms) later' ok closed all same here r = λ n limit e. side_told c conn n limit (side.NoSet x) (NoSet x) (brought_each conn n ms ++ readings (after_each (goes_on n) ms) xs) (ms ++ later') ok closed refl refl same here (each_told c conn xs ms later' ok closed all.1 same here r n limit e)
each_told c conn xs (GetRecord x ∷ ms) later' ok closed all same here r = λ n limit e. carried c conn n limit xs (GetRecord x) ms (ms ++ later') later' ok closed (numbered conn n (GetRecord x)) refl (here-carried c conn n (GetRecord x) refl same here) same here e r (each_told c conn xs ms later' ok closed all.1 same here r)
each_told c conn xs (Record x y ∷ ms) later' ok closed all same here r = λ n limit e. carried c conn n limit xs (Record x y) ms (ms ++ later') later' ok closed (numbered conn n (Record x y)) refl (here-carried c conn n (Record x y) refl same here) same here e r (each_told c conn xs ms later' ok closed all.1 same here r)
each_told c conn xs (Records x y ∷ ms) later' ok closed all same here r = elim all.0 [ ]

bytes_told : (c conn : ConnId) (n limit : ℕ) (xs : List LinkItem) (read : Option Message) (later' : List Message) (ok closed : Bool) → same_conn conn c ≡ true → conn ≡ c → n + limit ≡ 1000000 → Rest c xs later' ok closed
    → Told c n limit (brought conn n read ++ readings (after_read (goes_on n) read) xs) (readable_from read later') (if is_some read then ok else false) closed
bytes_told c conn n limit xs None later' ok closed same here e r = told-end c conn Malformed n limit (readings (record { ended = true; next = n }) xs) false closed same here (r.dead' n) refl
bytes_told c conn n limit xs (Some m) later' ok closed same here e r = each_told c conn xs (singles m) later' ok closed (all_single m) same here r n limit e

same_here : (peer me : NodeId) (life : ℕ) (t : Tail) (conn : ConnId) → t.life ≡ life → conn ≡ conn_at peer me t.life → same_conn conn (conn_at peer me life) ≡ true
same_here peer me life t conn l e = ap (λ (d : ConnId). same_conn d (conn_at peer me life)) e ∙ same_conn-at peer me t.life life ∙ ap (λ k. nat_eq k life) l ∙ same_nat life
  where
    same_nat : (k : ℕ) → nat_eq k k ≡ true
    same_nat k = grind (arith, nat_tests)

conn_here : (peer me : NodeId) (life : ℕ) (t : Tail) (conn : ConnId) → t.life ≡ life → conn ≡ conn_at peer me t.life → conn ≡ conn_at peer me life
conn_here peer me life t conn l e = e ∙ ap (λ k. conn_at peer me k) l

living : (peer me : NodeId) (life : ℕ) (t : Tail) (n limit : ℕ) (items : List LinkItem) → t.life ≡ life → t.is_open ≡ true → n + limit ≡ 1000000 → AreOfLink peer me t items → Told (conn_at peer me life) n limit (readings (goes_on n) items) (readable (sent (conn_at peer me life) items)) (all_readable (sent (conn_at peer me life) items)) (is_closed (conn_at peer me life) items)
living peer me life t n limit [] l o e a = told-nothing (conn_at peer me life) n limit
living peer me life t n limit (item.Opened conn ∷ xs) l o e a = absurd (let f : true ≡ false = sym o ∙ a.0.0 in cc)
living peer me life t n limit (item.Bytes conn bytes ∷ xs) l o e a =
    let c = conn_at peer me life in
    let same = same_here peer me life t conn l a.0.1 in
    let told = bytes_told c conn n limit xs (reading_of bytes) (readable (sent c xs)) (all_readable (sent c xs)) (is_closed c xs) same (conn_here peer me life t conn l a.0.1) e (record { live = λ k m f. living peer me life t k m xs l o f a.1; dead' = λ k. dead peer me life t k xs l o a.1 }) in
    subst (λ (bs : List (List ℕ)). Told c n limit (brought conn n (reading_of bytes) ++ readings (after_read (goes_on n) (reading_of bytes)) xs) (readable bs) (all_readable bs) (is_closed c xs)) (ap (λ b. one_if b bytes ++ sent c xs) (sym same)) told
living peer me life t n limit (item.Closed conn ∷ xs) l o e a =
    let c = conn_at peer me life in
    let same = same_here peer me life t conn l a.0.1 in
    let over = shut_it peer me life (record { life = t.life; is_open = false }) (record { ended = true; next = n }) xs l refl a.1 in
    rw (over.sent_none, same) (told-end c conn Link n limit (readings (record { ended = true; next = n }) xs) true true same (conn_here peer me life t conn l a.0.1) over.read refl)

-- ---- before it

-- the same, with the opening too, of items of the whole link
record Tells (c : ConnId) (xs : List Inbound) (items : List LinkItem) : Type 0 where
  are : messages_in c xs ≡ carried_of 1000000 (sent c items)
  line : marks_in c xs ≡ line_of_sent 0 1000000 (sent c items) (is_closed c items)
  all : of_conn c xs ≡ read_of_sent c items

tells-none : (c : ConnId) → Tells c [] []
tells-none c = let t = told-nothing c 0 1000000 in record { are = t.are; line = t.line; all = t.all }

tells-other : (c : ConnId) (r : ReaderView) (x : LinkItem) (xs : List LinkItem) → IsOther c r x → Tells c (readings (after r x) xs) xs → Tells c (readings r (x ∷ xs)) (x ∷ xs)
tells-other c r x xs a t = record {
  are = messages_in-append c (reading r x) (readings (after r x) xs) ∙ rw (a.read.messages, a.sent_none) t.are;
  line = marks_in-append c (reading r x) (readings (after r x) xs) ∙ rw (a.read.marks, a.sent_none, a.closed_none) t.line;
  all = filter-append (is_of c) (reading r x) (readings (after r x) xs) ∙ rw (a.read.all, a.opened_none, a.sent_none, a.closed_none) t.all;
}

-- a life is opened once
opened_before : (peer me : NodeId) (life : ℕ) (t : Tail) (items : List LinkItem) → life ≤ t.life → AreOfLink peer me t items → opened (conn_at peer me life) items ≡ []
opened_before peer me life t [] le a = refl
opened_before peer me life t (item.Opened conn ∷ xs) le a = rw (other_conn peer me life (t.life + 1) conn (later (t.life + 1) life (omega (arith, le))) a.0.1) (opened_before peer me life (record { life = t.life + 1; is_open = true }) xs (omega (arith, le)) a.1)
opened_before peer me life t (item.Bytes conn bytes ∷ xs) le a = opened_before peer me life t xs le a.1
opened_before peer me life t (item.Closed conn ∷ xs) le a = opened_before peer me life (record { life = t.life; is_open = false }) xs le a.1

tells-opened : (c conn : ConnId) (r : ReaderView) (xs : List LinkItem) → same_conn conn c ≡ true → conn ≡ c → opened c xs ≡ [] → Told c 0 1000000 (readings (goes_on 0) xs) (readable (sent c xs)) (all_readable (sent c xs)) (is_closed c xs) → Tells c (readings r (item.Opened conn ∷ xs)) (item.Opened conn ∷ xs)
tells-opened c conn r xs same here none t = record {
  are = t.are;
  line = t.line;
  all = rw (same, none) (ap (λ (d : ConnId). inbound.Opened d ∷ of_conn c (readings (goes_on 0) xs)) here ∙ ap (λ ys. inbound.Opened c ∷ ys) t.all);
}

before : (peer me : NodeId) (life : ℕ) (t : Tail) (r : ReaderView) (items : List LinkItem) → t.life < life → AreOfLink peer me t items → Tells (conn_at peer me life) (readings r items) items
before peer me life t r [] lt a = tells-none (conn_at peer me life)
before peer me life t r (item.Opened conn ∷ xs) lt a = by_test (nat_eq (t.life + 1) life) refl (before peer me life (record { life = t.life + 1; is_open = true }) (goes_on 0) xs)
  where
    by_test : (b : Bool) → nat_eq (t.life + 1) life ≡ b → (t.life + 1 < life → AreOfLink peer me (record { life = t.life + 1; is_open = true }) xs → Tells (conn_at peer me life) (readings (goes_on 0) xs) xs) → Tells (conn_at peer me life) (readings r (item.Opened conn ∷ xs)) (item.Opened conn ∷ xs)
    by_test true e k =
        let is : t.life + 1 ≡ life = eqb-true (t.life + 1) life e in
        let here : conn ≡ conn_at peer me life = a.0.1 ∙ ap (λ n. conn_at peer me n) is in
        tells-opened (conn_at peer me life) conn r xs (ap (λ (d : ConnId). same_conn d (conn_at peer me life)) a.0.1 ∙ same_conn-at peer me (t.life + 1) life ∙ e) here
        (opened_before peer me life (record { life = t.life + 1; is_open = true }) xs (omega (arith, is)) a.1)
        (living peer me life (record { life = t.life + 1; is_open = true }) 0 1000000 xs is refl refl a.1)
    by_test false e k =
        let ne : t.life + 1 ≢ life = eqb-false (t.life + 1) life e in
        tells-other (conn_at peer me life) r (item.Opened conn) xs (opened_other (conn_at peer me life) r conn (other_conn peer me life (t.life + 1) conn e a.0.1)) (k (omega (arith, lt, ne)) a.1)
before peer me life t r (item.Bytes conn bytes ∷ xs) lt a = tells-other (conn_at peer me life) r (item.Bytes conn bytes) xs (bytes_other (conn_at peer me life) r conn bytes (other_conn peer me life t.life conn (earlier t.life life lt) a.0.1)) (before peer me life t (after r (item.Bytes conn bytes)) xs lt a.1)
before peer me life t r (item.Closed conn ∷ xs) lt a = tells-other (conn_at peer me life) r (item.Closed conn) xs (closed_other (conn_at peer me life) r conn (other_conn peer me life t.life conn (earlier t.life life lt) a.0.1)) (before peer me life (record { life = t.life; is_open = false }) (after r (item.Closed conn)) xs lt a.1)

never : (peer me : NodeId) (items : List LinkItem) → AreOfLink peer me never_open items → IsOver (conn_at peer me 0) unread items
never peer me items a = shut_it peer me 0 never_open unread items refl refl a

tells-over : (c : ConnId) (r : ReaderView) (items : List LinkItem) → IsOver c r items → Tells c (readings r items) items
tells-over c r items k = record {
  are = rw (k.sent_none) k.read.messages;
  line = rw (k.sent_none, k.closed_none) k.read.marks;
  all = rw (k.opened_none, k.sent_none, k.closed_none) k.read.all;
}

tells-life : (peer me : NodeId) (items : List LinkItem) → AreOfLink peer me never_open items → (life : ℕ) → Tells (conn_at peer me life) (readings unread items) items
tells-life peer me items a life = by_test (nat_eq 0 life) refl
  where
    by_test : (b : Bool) → nat_eq 0 life ≡ b → Tells (conn_at peer me life) (readings unread items) items
    by_test true e = subst (λ k. Tells (conn_at peer me k) (readings unread items) items) (eqb-true 0 life e) (tells-over (conn_at peer me 0) unread items (never peer me items a))
    by_test false e = let ne : 0 ≢ life = eqb-false 0 life e in before peer me life never_open unread items (omega (arith, ne)) a

sent_told : (c : ConnId) (items : List LinkItem) → Tells c (readings unread items) items → IsSent c items
sent_told c items t = record { messages = t.are; line = t.line; all = t.all }

pub readings_are_sent : ReadingsAreSent
readings_are_sent = λ peer me items a life. sent_told (conn_at peer me life) items (tells-life peer me items a life)
