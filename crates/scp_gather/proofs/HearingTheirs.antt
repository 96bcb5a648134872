-- What is read of a link of which all bytes encode messages.
use Rattle.std.proofs.Common.{◌≡◌, inl, inr, ℕ, Bool, true, false, cond, List, [], ◌∷◌, ◌++◌, refl, sym, ap, subst}
use Rattle.std.specs.Prelude.{Option, Some, All, AllPairs}
use Rattle.std.specs.List.{AllZip}
use Rattle.std.proofs.lemmas.Grind.{flat_map-append}
use Rattle.std.proofs.lemmas.List.Elements.{All-nil, All-cons, All-head, All-tail, All-weaker}
use Rattle.scp_workers.specs.scp_types.specs.declared.names.ConnId.{ConnId}
use Rattle.scp_workers.specs.scp_wire.specs.declared.link.Cause.TheVariants.{Link, Spent}
use Rattle.scp_workers.specs.scp_wire.specs.declared.link.Inbound.{Inbound}
use Rattle.scp_workers.specs.scp_wire.specs.declared.link.Inbound.TheVariants as inbound
use Rattle.scp_workers.specs.scp_wire.specs.declared.link.LinkItem.{LinkItem}
use Rattle.scp_workers.specs.scp_wire.specs.declared.link.LinkItem.TheVariants as item
use Rattle.scp_workers.specs.scp_wire.specs.declared.message.Message.{Message}
use Rattle.scp_workers.specs.scp_wire.specs.declared.message.Message.TheVariants.{Envelope, GetSet, Set, NoSet, GetRecord, Record, Records}
use Rattle.scp_workers.specs.scp_wire.specs.LinkReading.{ReaderView, unread, numbered, singles, is_spent, brought_each, after_each, brought, after_read, readings}
use Rattle.scp_workers.specs.scp_wire.specs.Message.{message_value, SpellsMessage}
use Rattle.scp_workers.specs.scp_wire.specs.Reading.{reading_of, SpellingIsRead}
use Rattle.scp_workers.specs.scp_outbox.specs.Sent.{statement_of, IsStep}
use Rattle.scp_workers.specs.scp_theorem.specs.Grounds.{Grounds, MaySend}
use Rattle.scp_gather.specs.Sent.{bytes_among}
use Rattle.scp_gather.specs.Theirs.{message_by, messages_by, IsWellRead, WhatIsReadIsTheirs, WhatCameFirstIsTheirs}
use Rattle.scp_gather.proofs.Parts.{IsPartOf, part_all, part_pairs, front_all, front_pairs}

-- ---- one message

-- it is no batch
abbrev IsSingle : Message → Type 0
IsSingle (Envelope envelope) = Unit {0}
IsSingle (GetSet hash) = Unit {0}
IsSingle (Set set) = Unit {0}
IsSingle (NoSet hash) = Unit {0}
IsSingle (GetRecord slot) = Unit {0}
IsSingle (Record slot value) = Unit {0}
IsSingle (Records first values) = ⊥

no_batch : (g : Grounds) (link : ℕ) (m : Message) → MaySend g link m → IsSingle m
no_batch g link (Envelope envelope) h = tt
no_batch g link (GetSet hash) h = tt
no_batch g link (Set set) h = tt
no_batch g link (NoSet hash) h = tt
no_batch g link (GetRecord slot) h = tt
no_batch g link (Record slot value) h = tt
no_batch g link (Records first values) h = h

single : (m : Message) → IsSingle m → singles m ≡ m ∷ []
single (Envelope envelope) h = refl
single (GetSet hash) h = refl
single (Set set) h = refl
single (NoSet hash) h = refl
single (GetRecord slot) h = refl
single (Record slot value) h = refl
single (Records first values) h = absurd h

-- what comes under its number is the message itself
comes_as_itself : (conn : ConnId) (n : ℕ) (m : Message) → IsSingle m → (message_by (numbered conn n m) ≡ m ∷ []) × IsWellRead (numbered conn n m)
comes_as_itself conn n (Envelope envelope) h = (refl, tt)
comes_as_itself conn n (GetSet hash) h = (refl, tt)
comes_as_itself conn n (Set set) h = (refl, tt)
comes_as_itself conn n (NoSet hash) h = (refl, tt)
comes_as_itself conn n (GetRecord slot) h = (refl, tt)
comes_as_itself conn n (Record slot value) h = (refl, tt)
comes_as_itself conn n (Records first values) h = absurd h

-- ---- item by item

-- some of the messages came, in their order, and nothing else
abbrev AreOf : List Inbound → List Message → Type 0
AreOf came messages = IsPartOf (messages_by came) messages × All IsWellRead came

-- no message came here
quiet : (x : Inbound) (came : List Inbound) (messages : List Message) → message_by x ≡ [] → IsWellRead x → AreOf came messages → AreOf (x ∷ came) messages
quiet x came messages none of h = (subst (λ l. IsPartOf (l ++ messages_by came) messages) (sym none) h.0, All-cons IsWellRead x came of h.1)

-- one message was sent: it came, or its connection ended before it as spent
one_comes : (conn : ConnId) (n : ℕ) (m : Message) (came : List Inbound) (messages : List Message) (spent : Bool) → IsSingle m → AreOf came messages → AreOf (cond spent (inbound.Closed conn Spent) (numbered conn n m) ∷ (cond spent [] [] ++ came)) (m ∷ messages)
one_comes conn n m came messages true h was = (inl was.0, All-cons IsWellRead (inbound.Closed conn Spent) came (λ e. absurd cc) was.1)
one_comes conn n m came messages false h was =
    let itself = comes_as_itself conn n m h in
    (inr (messages_by came, ap (λ l. l ++ messages_by came) itself.0, was.0), All-cons IsWellRead (numbered conn n m) came itself.1 was.1)

-- what is read of further items, wherever the reader is, is of these messages
abbrev Follow : List LinkItem → List Message → Type 0
Follow items messages = (r : ReaderView) → AreOf (readings r items) messages

each_comes : (conn : ConnId) (r : ReaderView) (m : Message) (items : List LinkItem) (messages : List Message) → IsSingle m → Follow items messages → AreOf (brought_each conn r.next (singles m) ++ readings (after_each r (singles m)) items) (m ∷ messages)
each_comes conn r m items messages h follow =
    subst (λ l. AreOf (brought_each conn r.next l ++ readings (after_each r l) items) (m ∷ messages)) (sym (single m h))
    (one_comes conn r.next m (readings (after_each r (m ∷ [])) items) messages (is_spent r.next m) h (follow (after_each r (m ∷ []))))

bytes_come : (conn : ConnId) (bytes : List ℕ) (r : ReaderView) (m : Message) (items : List LinkItem) (messages : List Message) (ended : Bool) → reading_of bytes ≡ Some m → IsSingle m → Follow items messages → AreOf (cond ended [] (brought conn r.next (reading_of bytes)) ++ readings (cond ended r (after_read r (reading_of bytes))) items) (m ∷ messages)
bytes_come conn bytes r m items messages true is h follow = (inl (follow r).0, (follow r).1)
bytes_come conn bytes r m items messages false is h follow =
    subst (λ (o : Option Message). AreOf (brought conn r.next o ++ readings (after_read r o) items) (m ∷ messages)) (sym is) (each_comes conn r m items messages h follow)

close_comes : (conn : ConnId) (r : ReaderView) (items : List LinkItem) (messages : List Message) (ended : Bool) → Follow items messages → AreOf (cond ended [] (inbound.Closed conn Link ∷ []) ++ readings (cond ended r (record r { ended = true })) items) messages
close_comes conn r items messages true follow = follow r
close_comes conn r items messages false follow =
    let then = record r { ended = true } in quiet (inbound.Closed conn Link) (readings then items) messages refl (λ e. absurd cc) (follow then)

-- what is read of items of which all bytes encode these messages is some of the messages, in their order
all_come : SpellingIsRead → (items : List LinkItem) (messages : List Message) → AllZip (λ bytes m. SpellsMessage bytes (message_value m)) (bytes_among items) messages → All IsSingle messages → Follow items messages
all_come is_read [] [] spelt one r = (refl, All-nil IsWellRead)
all_come is_read [] (m ∷ messages) spelt one r = absurd spelt
all_come is_read (item.Opened conn ∷ items) messages spelt one r =
    let then = record r { ended = false; next = 0 } in quiet (inbound.Opened conn) (readings then items) messages refl tt (all_come is_read items messages spelt one then)
all_come is_read (item.Bytes conn bytes ∷ items) [] spelt one r = absurd spelt
all_come is_read (item.Bytes conn bytes ∷ items) (m ∷ messages) spelt one r =
    bytes_come conn bytes r m items messages r.ended (is_read bytes m spelt.0) (All-head IsSingle m messages one) (λ now. all_come is_read items messages spelt.1 (All-tail IsSingle m messages one) now)
all_come is_read (item.Closed conn ∷ items) messages spelt one r = close_comes conn r items messages r.ended (λ now. all_come is_read items messages spelt one now)

-- ---- the laws

pub read_is_theirs : SpellingIsRead → WhatIsReadIsTheirs
read_is_theirs is_read g link items sent =
    let all = all_come is_read items sent.messages sent.spelt (All-weaker (MaySend g link) IsSingle (no_batch g link) sent.messages sent.allowed) unread in
    let read : List Message = messages_by (readings unread items) in
    record {
      allowed = part_all (MaySend g link) read sent.messages all.0 sent.allowed;
      newer = part_pairs (λ m n. IsStep (statement_of m) (statement_of n)) read sent.messages all.0 sent.newer;
      well_read = all.1;
    }

pub first_is_theirs : WhatCameFirstIsTheirs
first_is_theirs g link came more h =
    let parts = flat_map-append message_by came more in
    record {
      allowed = front_all (MaySend g link) (messages_by came) (messages_by more) (subst (All (MaySend g link)) parts h.allowed);
      newer = front_pairs (λ m n. IsStep (statement_of m) (statement_of n)) (messages_by came) (messages_by more) (subst (λ l. AllPairs (λ m n. IsStep (statement_of m) (statement_of n)) l) parts h.newer);
      well_read = front_all IsWellRead came more h.well_read;
    }
