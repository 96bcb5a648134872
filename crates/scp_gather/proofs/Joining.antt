-- What follows where every worker of a node ended well.
use Rattle.std.proofs.Common.{◌≡◌, ℕ, ◌+◌, ◌<◌, inl, inr, List, [], ◌++◌, refl, sym, ◌∙◌, ap, subst, arith, length, eq-eqb}
use Rattle.std.specs.Prelude.{Option, None, Some, IfSome, slice_get, filter}
use Rattle.std.specs.List.{AllByRecursion}
use Rattle.std.proofs.lemmas.List.{append-nil}
use Rattle.std.proofs.lemmas.Bool.{ne_eqb}
use Rattle.scp_workers.specs.scp_driver.specs.Driver.{Says}
use Rattle.scp_workers.specs.scp_types.specs.declared.names.NodeId.{NodeId}
use Rattle.scp_workers.specs.scp_types.specs.declared.names.ConnId.{ConnId}
use Rattle.scp_workers.specs.scp_quorum.specs.QuorumTree.{QuorumTree}
use Rattle.scp_workers.specs.scp_wire.specs.declared.carried.Carried.{Carried}
use Rattle.scp_workers.specs.scp_wire.specs.declared.link.Inbound.{Inbound}
use Rattle.scp_workers.specs.scp_wire.specs.declared.message.Message.{Message}
use Rattle.scp_workers.specs.scp_wire.specs.Connections.{conn_at}
use Rattle.scp_workers.specs.scp_wire.specs.Lanes.{slots_of, in_lane, EndsLast, HaveSlots}
use Rattle.scp_workers.specs.scp_wire.specs.LinkReading.{unread, readings}
use Rattle.scp_workers.specs.scp_wire.specs.Marks.{Mark, messages_in, IsWhole}
use Rattle.scp_workers.specs.scp_wire.specs.Parts.{IsNumbered, PeersSayAllOfTheirs, NumbersNameMessages}
use Rattle.scp_workers.specs.scp_wire.specs.ReaderLaws.{ReadingsAreInOrder, ReadingsAreSent}
use Rattle.scp_workers.specs.scp_wire.specs.Sent.{sent, carried_of}
use Rattle.scp_workers.specs.scp_wire.specs.Shape.{HasShape, Come, MayCome, AreInOrder, AreOfLink, never_open, nothing_came, of_peer, is_from}
use Rattle.scp_workers.specs.scp_pending.specs.declared.ready.Ready.{Ready}
use Rattle.scp_workers.specs.scp_pending.specs.Causes.{IsSettledBy}
use Rattle.scp_workers.specs.scp_pending.specs.Laws.{AllAccounts}
use Rattle.scp_workers.specs.scp_pending.specs.Line.{Accounts, held, marks_of, marks_parked}
use Rattle.scp_workers.specs.scp_pending.specs.Messages.{AreParked, StandFor, ParkedStandFor, marks_of_messages}
use Rattle.scp_workers.specs.scp_pending.specs.Pends.{Pends, RestIsSettled, start_of}
use Rattle.scp_workers.specs.scp_pending.specs.Rules.{Settled, fresh}
use Rattle.scp_workers.specs.scp_ledger.specs.declared.took.Onward.{Onward}
use Rattle.scp_workers.specs.scp_ledger.specs.Marks.{marks_of as marks_on}
use Rattle.scp_workers.specs.scp_theorem.specs.Account.{Account, Ran}
use Rattle.scp_workers.specs.scp_theorem.specs.Kept.{KeepsLedger, RanKeepsLedger, slots_sent, line_sent, line_held}
use Rattle.scp_workers.specs.scp_ends.specs.Commands.{IsCommand}
use Rattle.scp_workers.specs.scp_ends.specs.Ends.{Sender, heard}
use Rattle.scp_workers.specs.scp_ends.specs.Links.{LinkEnd}
use Rattle.scp_workers.specs.scp_ends.specs.Order.{of, values}
use Rattle.scp_workers.specs.Working.{sent_by}
use Rattle.scp_workers.specs.Reading.{ReaderEnd, HasReadAll}
use Rattle.scp_workers.specs.Pending.{IsFor as PendsFor}
use Rattle.scp_workers.specs.scp_ledger.specs.By.{JournalsBy}
use Rattle.scp_workers.specs.Slot.{IsFor as JournalsFor}
use Rattle.scp_gather.specs.Left.{Left, items_of, sent_over}
use Rattle.scp_gather.specs.Node.{IsLinkAt, IsReadOut, IsNode, EndWell}
use Rattle.scp_gather.specs.Gathered.{account_gathered, is_command, IsEmptied, AreEmptied, HasItsLine, AreLeftParked, Gathered, WhatEndsWellIsGathered}
use Rattle.scp_workers.specs.scp_ends.proofs.Whole.{no_others}
use Rattle.scp_gather.proofs.Hearing.{emptied, sole_is, Tells, picked, of_each}
use Rattle.scp_workers.specs.scp_theorem.proofs.Basics.{there_is}
use Rattle.scp_gather.proofs.Lists.{split, within, same_at, other_at, all_map}
use Rattle.scp_workers.specs.scp_theorem.proofs.Coming.{from_one}
use Rattle.scp_gather.proofs.Coming.{no_command, from_none, told_one, all_in_order, same_place, IsCarriedByLink, carried_by_link, told_by_link}
use Rattle.scp_workers.specs.scp_theorem.proofs.Entries.{same_marks}
use Rattle.scp_gather.proofs.Parking.{parked_right, parked_of_links}

module _ {D : Type 0} (says : Says D) where
  -- what is public of the crates below
  pub record Laws : Type 0 where
    pub ran : RanKeepsLedger {D = D} says.level says.extracted says.combined says.place
    pub in_order : ReadingsAreInOrder
    pub sent_is : ReadingsAreSent
    pub peers_say : PeersSayAllOfTheirs
    pub numbers : NumbersNameMessages
    pub accounts : AllAccounts
    pub settled : RestIsSettled
    pub parked : ParkedStandFor

  -- the node's stages are, for what they took and gave, as their calls promise
  pub node_pends : (me : NodeId) (set : QuorumTree) (peers : List NodeId) (e : Left D) → IsNode me set peers e → (w : EndWell says e) → Pends me peers (values e.pend.input.got) w.given.sent e.pend.stage
  node_pends me set peers e n w =
      let f : PendsFor me peers set e.pend.first = n.pends_for in
      subst (λ (o : Option (Sender Ready)). Pends me peers (values e.pend.input.got) (sent_by o) e.pend.stage) w.pend_ended
      (subst (λ (ps : List NodeId). Pends me ps (values e.pend.input.got) (sent_by e.pend.output) e.pend.stage) f.peers_are
      (subst (λ (m : NodeId). Pends m e.pend.first.settled.peers (values e.pend.input.got) (sent_by e.pend.output) e.pend.stage) f.me_is w.pends.all.pends))

  pub node_journals : (me : NodeId) (set : QuorumTree) (peers : List NodeId) (e : Left D) → IsNode me set peers e → (w : EndWell says e) → JournalsBy says me set peers (values e.slot.input.got) w.onward.sent e.slot.stage.ledger
  node_journals me set peers e n w =
      let took : List Ready = values e.slot.input.got in
      let f : JournalsFor me peers set e.slot.first.ledger = n.journals_for in
      subst (λ (o : Option (Sender Onward)). JournalsBy says me set peers took (sent_by o) e.slot.stage.ledger) w.slot_ended
      (subst (λ (q : QuorumTree). JournalsBy says me q peers took (sent_by e.slot.output) e.slot.stage.ledger) f.local_is
      (subst (λ (ps : List NodeId). JournalsBy says me e.slot.first.ledger.local ps took (sent_by e.slot.output) e.slot.stage.ledger) f.peers_are
      (subst (λ (m : NodeId). JournalsBy says m e.slot.first.ledger.local e.slot.first.ledger.peers took (sent_by e.slot.output) e.slot.stage.ledger) f.me_is w.journals.all.journals)))

-- what a reader sent is all that its items are read as
reads_all : (r : ReaderEnd) (output : Sender Inbound) → HasReadAll r → r.output ≡ Some output → output.sent ≡ readings unread (values r.input.got)
reads_all r output h e =
    ap (λ (o : Option (Sender Inbound)). sent_by o) (sym e)
    ∙ sym (append-nil (sent_by r.output))
    ∙ ap (λ (xs : List Inbound). sent_by r.output ++ xs) (sym h.nothing_left)
    ∙ h.all.read.given_is

module _ {D : Type 0} (says : Says D) where
  module _ (laws : Laws says) (me : NodeId) (set : QuorumTree) (peers : List NodeId) (e : Left D) (n : IsNode me set peers e) (w : EndWell says e) where
    abbrev came : List Inbound
    came = values e.pend.input.got

    abbrev took : List Ready
    took = values e.slot.input.got

    abbrev account : Account D
    account = account_gathered me set peers e

    -- ---- the link at a place

    its_link : (l : ℕ) (peer : NodeId) → slice_get peers l ≡ Some peer → (k : LinkEnd) × (slice_get e.links l ≡ Some k)
    its_link l peer at = let b : l < length peers = within peers l peer at in let c : length e.links ≡ length peers = n.links_count in there_is e.links l (omega (arith, b, c))

    its_reader : (l : ℕ) (peer : NodeId) → slice_get peers l ≡ Some peer → (r : ReaderEnd) × (slice_get e.readers l ≡ Some r)
    its_reader l peer at = let b : l < length peers = within peers l peer at in let c : length e.readers ≡ length peers = n.readers_count in there_is e.readers l (omega (arith, b, c))

    output_number : (l : ℕ) (peer : NodeId) (k : LinkEnd) (r : ReaderEnd) → IsLinkAt me peer l k r → (out : IsReadOut e.pend.input k r) → out.output.number ≡ l
    output_number l peer k r is out = subst (λ (o : Option (Sender Inbound)). IfSome o (λ s. s.number ≡ l)) out.ended is.number

    -- what a link brings to the inbox is what its reader makes of what its tail sent
    link_is : (l : ℕ) (peer : NodeId) → slice_get peers l ≡ Some peer → (k : LinkEnd) → slice_get e.links l ≡ Some k → heard l e.pend.input.got ≡ readings unread k.tail.sent
    link_is l peer at k there =
        let r = its_reader l peer at in
        let is = n.lanes l peer at k there r.0 r.1 in
        let out = w.lanes l k there r.0 r.1 in
        ap (λ m. heard m e.pend.input.got) (sym (output_number l peer k r.0 is out))
        ∙ (emptied e.pend.input out.output w.pends.heard out.brings).all
        ∙ reads_all r.0 out.output out.reads out.ended
        ∙ ap (readings unread) (sole_is r.0.input k.tail is.alone out.reads.heard out.queued)

    link_of_node : (l : ℕ) (peer : NodeId) → slice_get peers l ≡ Some peer → (k : LinkEnd) → slice_get e.links l ≡ Some k → AreOfLink peer me never_open k.tail.sent
    link_of_node l peer at k there =
        let r = its_reader l peer at in
        let is = n.lanes l peer at k there r.0 r.1 in
        let out = w.lanes l k there r.0 r.1 in
        subst (λ (m : NodeId). AreOfLink peer m never_open k.tail.sent) is.to (subst (λ (m : NodeId). AreOfLink m k.to never_open k.tail.sent) is.from out.link.shape)

    link_in_order : (l : ℕ) (peer : NodeId) → slice_get peers l ≡ Some peer → (k : LinkEnd) → slice_get e.links l ≡ Some k → AreInOrder peer me nothing_came (readings unread k.tail.sent)
    link_in_order l peer at k there = laws.in_order peer me k.tail.sent (link_of_node l peer at k there)

    over_is : (l : ℕ) (k : LinkEnd) → slice_get e.links l ≡ Some k → sent_over e.links l ≡ k.tail.sent
    over_is l k there = ap items_of there

    -- ---- what was heard of each producer

    local_is : heard (length peers) e.pend.input.got ≡ e.local.sent
    local_is = ap (λ m. heard m e.pend.input.got) (sym n.local_number) ∙ (emptied e.pend.input e.local w.pends.heard w.told).all

    no_further : (m : ℕ) → length peers < m → of m e.pend.input.got ≡ []
    no_further m lt = let p : e.pend.input.producers ≡ length peers + 1 = n.inbox in no_others e.pend.input e.local w.told m (omega (arith, lt, p))

    -- what holds of each thing of a link, and of each command, holds of what was heard of each producer
    each_heard : (Q : ℕ → Inbound → Type 0) → ((m : ℕ) (peer : NodeId) → slice_get peers m ≡ Some peer → (h : Come) (x : Inbound) → MayCome peer me h x → Q m x) → ((x : Inbound) → IsCommand x → Q (length peers) x) → (m : ℕ) → AllByRecursion (Q m) (heard m e.pend.input.got)
    each_heard Q link command m = elim (split m (length peers)) [
      | inl lt ↦
          let p = there_is peers m lt in
          let k = its_link m p.0 p.1 in
          subst (AllByRecursion (Q m)) (sym (link_is m p.0 p.1 k.0 k.1)) (all_in_order p.0 me (Q m) (link m p.0 p.1) nothing_came (readings unread k.0.tail.sent) (link_in_order m p.0 p.1 k.0 k.1))
      | inr more ↦ elim more [
        | inl same ↦ subst (λ i. AllByRecursion (Q i) (heard i e.pend.input.got)) (sym same) (subst (AllByRecursion (Q (length peers))) (sym local_is) (all_map IsCommand (Q (length peers)) command e.local.sent w.commands))
        | inr lt ↦ subst (λ xs. AllByRecursion (Q m) (values xs)) (sym (no_further m lt)) tt
      ]
    ]

    -- what came of a peer is what its reader makes of its link
    of_link_is : (l : ℕ) (peer : NodeId) → slice_get peers l ≡ Some peer → (k : LinkEnd) → slice_get e.links l ≡ Some k → of_peer peer came ≡ readings unread k.tail.sent
    of_link_is l peer at k there =
        picked (is_from peer) l e.pend.input.got (each_heard (Tells (is_from peer) l)
        (λ m p there' h x may. from_one p me peer h x may ∙ same_place p peer m l (same_at peers m l p peer there' at) (λ s. n.apart m l p there' (at ∙ ap (λ (q : NodeId). Some q) (sym s))))
        (λ x c. from_none peer x c ∙ sym (ne_eqb (length peers) l (λ s. other_at peers l peer at (sym s)))))
        ∙ link_is l peer at k there

    read_is : (l : ℕ) (peer : NodeId) → slice_get peers l ≡ Some peer → of_peer peer came ≡ readings unread (sent_over e.links l)
    read_is l peer at = let k = its_link l peer at in of_link_is l peer at k.0 k.1 ∙ ap (readings unread) (sym (over_is l k.0 k.1))

    told_is : filter is_command came ≡ e.local.sent
    told_is =
        picked is_command (length peers) e.pend.input.got (each_heard (Tells is_command (length peers))
        (λ m p there h x may. no_command p me h x may ∙ sym (ne_eqb m (length peers) (other_at peers m p there)))
        (λ x c. told_one x c ∙ sym (eq-eqb (length peers) (length peers) refl)))
        ∙ local_is

    carried_is : AllByRecursion (IsCarriedByLink me peers) came
    carried_is = of_each (IsCarriedByLink me peers) e.pend.input.got (each_heard (λ m. IsCarriedByLink me peers) (λ m p there h x may. carried_by_link me p peers m there h x may) (λ x c. told_by_link me peers x c))

    links_are : (l : ℕ) (peer : NodeId) → slice_get peers l ≡ Some peer → AreOfLink peer me never_open (sent_over e.links l)
    links_are l peer at = let k = its_link l peer at in subst (AreOfLink peer me never_open) (sym (over_is l k.0 k.1)) (link_of_node l peer at k.0 k.1)

    shape_is : HasShape me peers came
    shape_is l peer at = subst (AreInOrder peer me nothing_came) (sym (read_is l peer at)) (laws.in_order peer me (sent_over e.links l) (links_are l peer at))

    -- ---- the stages, of this node

    on_way : took ≡ w.given.sent
    on_way = sole_is e.slot.input w.given n.ready w.journals.heard w.ready

    onwards : values e.apply.input.got ≡ w.onward.sent
    onwards = sole_is e.apply.input w.onward n.decided w.applies.heard w.decided

    local_is_set : e.pend.stage.settled.store.local ≡ set
    local_is_set = w.pends.all.local_is ∙ n.pends_for.local_is

    pends_is : Pends me peers came took e.pend.stage
    pends_is = subst (λ (rs : List Ready). Pends me peers came rs e.pend.stage) (sym on_way) (node_pends says me set peers e n w)

    journals_is : JournalsBy says me set peers took w.onward.sent e.slot.stage.ledger
    journals_is = node_journals says me set peers e n w

    start_is : start_of me peers e.pend.stage ≡ fresh me peers set
    start_is = ap (λ (q : QuorumTree). fresh me peers q) local_is_set

    settled_is : IsSettledBy (fresh me peers set) came e.pend.stage
    settled_is = subst (λ (s : Settled). IsSettledBy s came e.pend.stage) start_is (laws.settled me peers came took e.pend.stage w.pends.nothing_left pends_is)

    ran : Ran says.level says.extracted says.combined says.place account
    ran = record {
      links = links_are;
      read = λ l peer at. sym (read_is l peer at) ∙ ap (of_peer peer) (sym (append-nil came)) ∙ sym (append-nil (of_peer peer (came ++ [])));
      local = local_is_set;
      given = took;
      pends = pends_is;
      took = took;
      ready = sym (append-nil took);
      onwards = w.onward.sent;
      journals = journals_is;
      applied = values e.apply.input.got;
      decided = sym onwards ∙ sym (append-nil (values e.apply.input.got));
      applies = w.applies.all.applies;
      first = w.applies.all.from_one ∙ sym w.journals.all.from_one;
    }

    keeps_is : KeepsLedger says.level says.extracted says.combined says.place account
    keeps_is = laws.ran account ran

    -- ---- channels

    emptied_at : (l : ℕ) (peer : NodeId) → slice_get peers l ≡ Some peer → (k : LinkEnd) → slice_get e.links l ≡ Some k → (r : ReaderEnd) → slice_get e.readers l ≡ Some r → IsEmptied r.input k.tail × IfSome r.output (IsEmptied e.pend.input)
    emptied_at l peer at k there r there' =
        let out = w.lanes l k there r there' in
        (emptied r.input k.tail out.reads.heard out.queued, subst (λ (o : Option (Sender Inbound)). IfSome o (IsEmptied e.pend.input)) (sym out.ended) (emptied e.pend.input out.output w.pends.heard out.brings))

    emptied_is : AreEmptied peers e
    emptied_is = record {
      links = emptied_at;
      commands = emptied e.pend.input e.local w.pends.heard w.told;
      ready = subst (λ (o : Option (Sender Ready)). IfSome o (IsEmptied e.slot.input)) (sym w.pend_ended) (emptied e.slot.input w.given w.journals.heard w.ready);
      decided = subst (λ (o : Option (Sender Onward)). IfSome o (IsEmptied e.apply.input)) (sym w.slot_ended) (emptied e.apply.input w.onward w.applies.heard w.decided);
    }

    -- ---- what is parked

    stand_for : (parked : List Carried) → AreParked e.pend.stage parked → StandFor (start_of me peers e.pend.stage) came e.pend.stage parked
    stand_for parked are = laws.parked me peers came took e.pend.stage parked pends_is are

    held_is : (c : ConnId) (parked : List Carried) → AreParked e.pend.stage parked → held c e.pend.stage ≡ marks_of_messages c parked
    held_is c parked are =
        ap (λ (rs : List Ready). marks_of c rs ++ marks_parked c e.pend.stage.settled.queues) w.pends.nothing_left
        ∙ sym ((stand_for parked are).numbers c)

    messages_are : (l : ℕ) (peer : NodeId) → slice_get peers l ≡ Some peer → (life : ℕ) → messages_in (conn_at peer me life) came ≡ carried_of 1000000 (sent (conn_at peer me life) (sent_over e.links l))
    messages_are l peer at life =
        let c = conn_at peer me life in
        sym (laws.peers_say c came).messages ∙ ap (messages_in c) (read_is l peer at) ∙ (laws.sent_is peer me (sent_over e.links l) (links_are l peer at) life).messages

    -- the messages that came are those that were sent
    all_came : (l : ℕ) (peer : NodeId) → slice_get peers l ≡ Some peer → (life : ℕ) → messages_in (conn_at peer me life) came ++ [] ≡ carried_of 1000000 (sent (conn_at peer me life) (sent_over e.links l))
    all_came l peer at life = append-nil (messages_in (conn_at peer me life) came) ∙ messages_are l peer at life

    numbered_is : (l : ℕ) (peer : NodeId) → slice_get peers l ≡ Some peer → (life : ℕ) → AllByRecursion (IsNumbered (conn_at peer me life) (carried_of 1000000 (sent (conn_at peer me life) (sent_over e.links l)))) came
    numbered_is l peer at life = subst (λ (ms : List Message). AllByRecursion (IsNumbered (conn_at peer me life) ms) came) (all_came l peer at life) (laws.numbers peer me came (shape_is l peer at) life []).messages_are

    slots_fit : (l : ℕ) (peer : NodeId) → slice_get peers l ≡ Some peer → (life : ℕ) → HaveSlots (conn_at peer me life) (slots_sent account l (conn_at peer me life)) came
    slots_fit l peer at life = subst (λ (ms : List Message). HaveSlots (conn_at peer me life) (slots_of ms) came) (all_came l peer at life) (laws.numbers peer me came (shape_is l peer at) life []).slots

    accounts_is : (l : ℕ) (peer : NodeId) → slice_get peers l ≡ Some peer → (life : ℕ) → Accounts (conn_at peer me life) (slots_sent account l (conn_at peer me life)) came took (held (conn_at peer me life) e.pend.stage)
    accounts_is l peer at life =
        let c = conn_at peer me life in
        laws.accounts me peers came took e.pend.stage pends_is shape_is l peer at life (slots_sent account l c) (slots_fit l peer at life)

    line_held_is : (l : ℕ) (c : ConnId) (parked : List Carried) → AreParked e.pend.stage parked → line_held account l c ≡ marks_of_messages c parked
    line_held_is l c parked are = append-nil (held c e.pend.stage) ∙ held_is c parked are

    line_is : (l : ℕ) (peer : NodeId) → slice_get peers l ≡ Some peer → (life : ℕ) → (parked : List Carried) → AreParked e.pend.stage parked → HasItsLine account l (conn_at peer me life) parked
    line_is l peer at life parked are =
        let c = conn_at peer me life in
        let slots = slots_sent account l c in
        record {
          whole = λ s. subst (λ (ms : List Mark). IsWhole (in_lane slots s (line_sent account l c)) (in_lane slots s (marks_on c e.slot.stage.ledger.journal ++ ms))) (line_held_is l c parked are) ((keeps_is.fates l peer at life).whole s);
          ends = λ s. subst (λ (ms : List Mark). EndsLast (in_lane slots s ms)) (ap (λ (ms : List Mark). ms ++ held c e.pend.stage) (sym (same_marks c took e.slot.stage.ledger.journal journals_is.entries)) ∙ ap (λ (ms : List Mark). marks_on c e.slot.stage.ledger.journal ++ ms) (held_is c parked are)) ((accounts_is l peer at life).ends s);
          messages_are = parked_right c (carried_of 1000000 (sent c (sent_over e.links l))) (start_of me peers e.pend.stage) came parked (numbered_is l peer at life) (stand_for parked are).came;
        }

    parked_is : (parked : List Carried) → AreParked e.pend.stage parked → AreLeftParked account parked
    parked_is parked are = record {
      lines = λ l peer at life. line_is l peer at life parked are;
      of_links = parked_of_links me peers (start_of me peers e.pend.stage) came parked carried_is (stand_for parked are).came;
    }

    gathered_is : Gathered says me set peers e
    gathered_is = record {
      keeps = keeps_is;
      first = w.journals.all.from_one;
      read = read_is;
      told = told_is;
      shape = shape_is;
      emptied = emptied_is;
      settled = settled_is;
      parked = parked_is;
    }

  pub gathered : Laws says → WhatEndsWellIsGathered says
  gathered laws = λ me set peers e n w. gathered_is laws me set peers e n w
