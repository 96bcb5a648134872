-- What the slot stage asks for, and what the applier answers, was asked for.
use Rattle.std.proofs.Common.{◌≡◌, ℕ, Bool, true, false, List, [], ◌∷◌, refl, sym, ap, subst, inl, inr, length}
use Rattle.std.specs.Prelude.{Option, Some, None, Any, Contains, flat_map, option_map, if◌then◌else◌}
use Rattle.std.specs.List.{AllByRecursion}
use Rattle.std.proofs.lemmas.Bool.{eqb-true}
use Rattle.std.proofs.lemmas.List.Elements.{All-nil, All-cons, All-contains, All-from_recursion, Contains-push, Contains-append_left, Contains-append_right, Contains-append_cases}
use Rattle.scp_outbox.specs.scp_types.specs.declared.names.ConnId.{ConnId}
use Rattle.scp_outbox.specs.scp_types.specs.declared.names.NodeId.{NodeId}
use Rattle.scp_outbox.specs.scp_types.specs.declared.names.Seq.{Seq}
use Rattle.scp_outbox.specs.scp_types.specs.declared.names.Slot.{Slot}
use Rattle.scp_outbox.specs.scp_quorum.specs.SharedSet.{SharedSet}
use Rattle.scp_outbox.specs.scp_wire.specs.declared.message.Message.{Message}
use Rattle.scp_outbox.specs.scp_wire.specs.declared.message.Message.TheVariants as message
use Rattle.scp_outbox.specs.scp_wire.specs.declared.link.Command.TheVariants.{Propose, Round, Timer, Tick, Ask}
use Rattle.scp_outbox.specs.scp_wire.specs.declared.link.Inbound.{Inbound}
use Rattle.scp_outbox.specs.scp_wire.specs.declared.link.Inbound.TheVariants as inbound
use Rattle.scp_apply.specs.scp_pending.specs.Endings.{commands_in, passing}
use Rattle.scp_apply.specs.scp_ledger.specs.declared.journal.Decision.{Decision}
use Rattle.scp_apply.specs.scp_ledger.specs.declared.journal.Fate.{Fate}
use Rattle.scp_apply.specs.scp_ledger.specs.declared.journal.Fate.TheVariants.{Taken, Dropped, Closed}
use Rattle.scp_apply.specs.scp_ledger.specs.declared.journal.Verdict.{Verdict}
use Rattle.scp_apply.specs.scp_ledger.specs.declared.took.Onward.{Onward}
use Rattle.scp_apply.specs.scp_ledger.specs.declared.took.Onward.TheVariants.{Decided, Asked}
use Rattle.scp_apply.specs.scp_ledger.specs.Decisions.{is_at}
use Rattle.scp_apply.specs.scp_ledger.specs.Journals.{request_by}
use Rattle.scp_apply.specs.scp_ledger.specs.Verdicts.{link_of}
use Rattle.scp_apply.specs.Applied.{value_of}
use Rattle.scp_apply.specs.Applier.{ApplierView, Takes}
use Rattle.scp_theorem.specs.Fates.{IsOfLink, conn_of}
use Rattle.scp_theorem.specs.Grounds.{Grounds, IsLifeOf, TellsToAsk, AsksForRecord, IsApplied}
use Rattle.scp_theorem.proofs.Basics.{IsMore, no_more, more_of, any_here, any_later, none_some, some_same}
use Rattle.scp_theorem.proofs.Places.{place_of, life_at}
use Rattle.scp_theorem.proofs.Replies.{MayReply}

-- ---- lists with one item, and with none

only : {X : Type 0} (x y : X) → Contains (x ∷ []) y → y ≡ x
only x y h = All-contains (λ z. z ≡ x) (x ∷ []) y (All-cons (λ z. z ≡ x) x [] refl (All-nil (λ z. z ≡ x))) h

none : {X : Type 0} (y : X) → Contains [] y → ⊥
none y h = All-contains (λ z. ⊥) [] y (All-nil (λ z. ⊥)) h

-- ---- a command to ask

tells_itself : (x : Inbound) (link : ℕ) (slot : Slot) → Contains (passing x) (Ask link slot) → TellsToAsk link slot x
tells_itself (inbound.Opened conn) link slot h = absurd (none (Ask link slot) h)
tells_itself (inbound.Carried y) link slot h = absurd (none (Ask link slot) h)
tells_itself (inbound.Side conn message) link slot h = absurd (none (Ask link slot) h)
tells_itself (inbound.Closed conn cause) link slot h = absurd (none (Ask link slot) h)
tells_itself (inbound.Local Tick) link slot h = absurd (none (Ask link slot) h)
tells_itself (inbound.Local (Propose at value)) link slot h = absurd (let e : Ask link slot ≡ Propose at value = only (Propose at value) (Ask link slot) h in cc)
tells_itself (inbound.Local (Round at)) link slot h = absurd (let e : Ask link slot ≡ Round at = only (Round at) (Ask link slot) h in cc)
tells_itself (inbound.Local (Timer at)) link slot h = absurd (let e : Ask link slot ≡ Timer at = only (Timer at) (Ask link slot) h in cc)
tells_itself (inbound.Local (Ask of at)) link slot h = (let e : Ask link slot ≡ Ask of at = only (Ask of at) (Ask link slot) h in (cc, cc))

pub command_in : (xs : List Inbound) (link : ℕ) (slot : Slot) → Contains (commands_in xs) (Ask link slot) → Any (TellsToAsk link slot) xs
command_in [] link slot h = absurd (none (Ask link slot) h)
command_in (x ∷ xs) link slot h = elim (Contains-append_cases (passing x) (commands_in xs) (Ask link slot) h) [
  | inl here ↦ any_here (TellsToAsk link slot) x xs (tells_itself x link slot here)
  | inr later ↦ any_later (TellsToAsk link slot) x xs (command_in xs link slot later)
]

-- ---- a request for a record

-- the entry of the request
record HasEntry (peers : List NodeId) (journal : List Fate) (link : ℕ) (slot : Slot) : Type 0 where
  conn : ConnId
  seq : Seq
  set : Option SharedSet
  verdict : Verdict
  there : Contains journal (Taken conn seq (message.GetRecord slot) set verdict)
  link_is : link ≡ link_of peers conn

later_entry : (peers : List NodeId) (fate : Fate) (journal : List Fate) (link : ℕ) (slot : Slot) → HasEntry peers journal link slot → HasEntry peers (fate ∷ journal) link slot
later_entry peers fate journal link slot h = record {
  conn = h.conn;
  seq = h.seq;
  set = h.set;
  verdict = h.verdict;
  there = Contains-append_right (fate ∷ []) journal (Taken h.conn h.seq (message.GetRecord slot) h.set h.verdict) h.there;
  link_is = h.link_is;
}

first_entry : (peers : List NodeId) (fate : Fate) (journal : List Fate) (link : ℕ) (slot : Slot) → Contains (request_by peers fate) (Asked link slot) → HasEntry peers (fate ∷ journal) link slot
first_entry peers (Taken conn seq (message.GetRecord at) set verdict) journal link slot h =
    let e : Asked link slot ≡ Asked (link_of peers conn) at = only (Asked (link_of peers conn) at) (Asked link slot) h in
    let slots : slot ≡ at = cc in
    record {
      conn = conn;
      seq = seq;
      set = set;
      verdict = verdict;
      there = subst (λ (x : Slot). Contains (Taken conn seq (message.GetRecord at) set verdict ∷ journal) (Taken conn seq (message.GetRecord x) set verdict)) (sym slots) (Contains-append_left (Taken conn seq (message.GetRecord at) set verdict ∷ []) journal (Taken conn seq (message.GetRecord at) set verdict) (Contains-push [] (Taken conn seq (message.GetRecord at) set verdict)));
      link_is = cc;
    }
first_entry peers (Taken conn seq (message.Envelope e) set verdict) journal link slot h = absurd (none (Asked link slot) h)
first_entry peers (Taken conn seq (message.GetSet hash) set verdict) journal link slot h = absurd (none (Asked link slot) h)
first_entry peers (Taken conn seq (message.Set inside) set verdict) journal link slot h = absurd (none (Asked link slot) h)
first_entry peers (Taken conn seq (message.NoSet hash) set verdict) journal link slot h = absurd (none (Asked link slot) h)
first_entry peers (Taken conn seq (message.Record at value) set verdict) journal link slot h = absurd (none (Asked link slot) h)
first_entry peers (Taken conn seq (message.Records first values) set verdict) journal link slot h = absurd (none (Asked link slot) h)
first_entry peers (Dropped conn seq cause) journal link slot h = absurd (none (Asked link slot) h)
first_entry peers (Closed conn cause) journal link slot h = absurd (none (Asked link slot) h)

entry_in : (peers : List NodeId) (journal : List Fate) (link : ℕ) (slot : Slot) → Contains (flat_map (request_by peers) journal) (Asked link slot) → HasEntry peers journal link slot
entry_in peers [] link slot h = absurd (none (Asked link slot) h)
entry_in peers (fate ∷ journal) link slot h = elim (Contains-append_cases (request_by peers fate) (flat_map (request_by peers) journal) (Asked link slot) h) [
  | inl here ↦ first_entry peers fate journal link slot here
  | inr later ↦ later_entry peers fate journal link slot (entry_in peers journal link slot later)
]

-- a request that goes on to the applier is in the journal, from a connection of its link
pub request_stands : (g : Grounds) (link : ℕ) (slot : Slot) → AllByRecursion (λ fate. IsOfLink g.who.me g.who.peers (conn_of fate)) g.journal → Contains (flat_map (request_by g.who.peers) g.journal) (Asked link slot) → AsksForRecord g link slot
request_stands g link slot links there =
    let h = entry_in g.who.peers g.journal link slot there in
    let fate : Fate = Taken h.conn h.seq (message.GetRecord slot) h.set h.verdict in
    let of_link : IsOfLink g.who.me g.who.peers h.conn = All-contains (λ (x : Fate). IsOfLink g.who.me g.who.peers (conn_of x)) g.journal fate (All-from_recursion (λ (x : Fate). IsOfLink g.who.me g.who.peers (conn_of x)) g.journal links) h.there in
    record {
      conn = h.conn;
      of_link = subst (λ (n : ℕ). IsLifeOf g.who n h.conn) (sym h.link_is) (life_at g.who h.conn (length g.who.peers) (place_of g.who h.conn of_link));
      seq = h.seq;
      set = h.set;
      verdict = h.verdict;
      taken = h.there;
    }

-- ---- the record of a slot that is applied

slot_is : (s t : Slot) → s.0 ≡ t.0 → s ≡ t
slot_is s t e = ap (λ (n : ℕ). let x : Slot = record { 0 = n } in x) e

pub value_there : (slot : Slot) (value : List ℕ) (ds : List Decision) → value_of slot.0 ds ≡ Some value → Any (λ (d : Decision). (d.slot ≡ slot) × (d.value ≡ value)) ds
value_there slot value [] e = none_some None value refl e
value_there slot value (d ∷ ds) e = by_test (is_at slot.0 d) refl (value_there slot value ds) e
  where
    by_test : (b : Bool) → is_at slot.0 d ≡ b → (value_of slot.0 ds ≡ Some value → Any (λ (x : Decision). (x.slot ≡ slot) × (x.value ≡ value)) ds) → (if b then Some d.value else value_of slot.0 ds) ≡ Some value → Any (λ (x : Decision). (x.slot ≡ slot) × (x.value ≡ value)) (d ∷ ds)
    by_test true k rest f = any_here (λ (x : Decision). (x.slot ≡ slot) × (x.value ≡ value)) d ds (slot_is d.slot slot (eqb-true d.slot.0 slot.0 k), some_same (Some d.value) d.value value refl f)
    by_test false k rest f = any_later (λ (x : Decision). (x.slot ≡ slot) × (x.value ≡ value)) d ds (rest f)

-- what the applier answers may be sent
abbrev pub record_to : ℕ → Slot → Option (List ℕ) → Option (ℕ × Message)
record_to link slot found = option_map (λ value. (link, message.Record slot value)) found

pub answer_may : (g : Grounds) (link : ℕ) (slot : Slot) (found : Option (List ℕ)) → ((value : List ℕ) → found ≡ Some value → IsApplied g slot value) → AsksForRecord g link slot → MayReply g (record_to link slot found)
answer_may g link slot None has asked = tt
answer_may g link slot (Some value) has asked = ((has value refl, asked), refl)

-- what is applied only grows
pub applied_more : (old : ApplierView) (x : Onward) (answer : Option (ℕ × Message)) (new : ApplierView) → Takes old x answer new → IsMore old.applied new.applied
applied_more old (Decided d) answer new t = more_of old.applied new.applied t.1.more t.1.grows
applied_more old (Asked link slot) answer new t = no_more old.applied new.applied (ap (λ (v : ApplierView). v.applied) t.1)
