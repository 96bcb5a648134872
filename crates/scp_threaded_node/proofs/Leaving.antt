-- What the threads of a node left is of its channels.
use Rattle.std.proofs.Common.{◌≡◌, ◌∙◌, ℕ, zero, suc, ◌+◌, Bool, true, false, ap, sym, refl, subst, List, [], ◌∷◌, ◌++◌, length, ◌⊎◌, inl, inr, arith}
use Rattle.std.specs.Prelude.{Option, Some, Result, Ok, IfOk, IfSome, is_some, slice_get, map}
use Rattle.std.specs.List.{AllByRecursion}
use Rattle.std.proofs.lemmas.List.{length-append}
use Rattle.std.proofs.lemmas.Option.{slice_get_within}
use Rattle.scp_gather.specs.scp_types.specs.declared.fault.Fault.{Fault}
use Rattle.scp_gather.specs.scp_types.specs.declared.names.NodeId.{NodeId}
use Rattle.scp_gather.specs.scp_quorum.specs.QuorumTree.{QuorumTree}
use Rattle.scp_gather.specs.scp_wire.specs.declared.link.Inbound.{Inbound}
use Rattle.scp_gather.specs.scp_wire.specs.declared.link.LinkItem.{LinkItem}
use Rattle.scp_gather.specs.scp_ends.specs.Ends.{Line, Sender}
use Rattle.scp_gather.specs.scp_ends.specs.Links.{LinkEnd}
use Rattle.scp_gather.specs.scp_pending.specs.declared.ready.Ready.{Ready}
use Rattle.scp_gather.specs.scp_pending.specs.Rules.{PendingView}
use Rattle.scp_gather.specs.scp_ledger.specs.declared.took.Onward.{Onward}
use Rattle.scp_gather.specs.scp_workers.specs.declared.reading.ReadingStage.{ReadingStage}
use Rattle.scp_gather.specs.scp_workers.specs.declared.slot.SlotStage.{SlotStage}
use Rattle.scp_gather.specs.scp_workers.specs.Reading.{ReaderEnd}
use Rattle.scp_gather.specs.scp_workers.specs.Pending.{IsFor as PendsFor}
use Rattle.scp_gather.specs.scp_workers.specs.Slot.{IsFor as JournalsFor}
use Rattle.scp_gather.specs.scp_workers.specs.Working.{End, Work, Holds, IsLeftOf}
use Rattle.scp_gather.specs.scp_workers.specs.Carrying.{IsSameLink}
use Rattle.scp_gather.specs.scp_shared_outbox.specs.Ends.{TakerView}
use Rattle.scp_gather.specs.Left.{Left}
use Rattle.scp_gather.specs.scp_pending.specs.Peers.{AreApart}
use Rattle.scp_gather.specs.Node.{IsLinkAt, IsNode}
use Rattle.scp_gather.specs.Report.{IsJoined, AreJoined, SendsTo, keeps_by}
use Rattle.scp_threaded_node.specs.declared.ending.Stood.{Stood}
use Rattle.scp_threaded_node.specs.declared.node.Node.{Node}
use Rattle.scp_threaded_node.specs.declared.node.Running.{Running}
use Rattle.scp_gather.specs.scp_types.specs.declared.capacities.Capacities.{Capacities}
use Rattle.scp_threaded_node.specs.Seats.{IsLane, IsDriven, AreDriven, Runs, SendsAs, tail_of}
use Rattle.scp_threaded_node.specs.Ended.{IsSentBy, AreSentBy, AreSized}
use Rattle.scp_threaded_node.specs.declared.ending.TailLeft.{TailLeft}
use Rattle.scp_threaded_node.specs.Outlets.{IsHandedBack, taker_in, keeps_in}
use Rattle.scp_threaded_node.specs.inside.Left.{IsLaneOf, AreEndsOf, IsLeft}
use Rattle.scp_gather.specs.scp_shared_outbox.proofs.Each.{each_front, each_last, each_push}
use Rattle.scp_gather.specs.scp_shared_outbox.proofs.ListsOfAll.{push_cases, some_is, there_is}

-- ---- a worker's sending end

module _ {T U S : Type 0} (line : Line U) (n : ℕ) (w : Work T U S) (e : End T U S) where
  -- where its end was heard, what it left sends as it sent
  left_one : (unheard : Bool) → unheard ≡ false → SendsAs line n w → IsLeftOf unheard w.output e.output → (t : Sender U) × (e.output ≡ Some t) × (t.line ≡ line) × (t.number ≡ n)
  left_one true heard sends left = cc
  left_one false heard sends left =
      let same = subst (λ (o : Option (Sender U)). IsLeftOf false o e.output) sends.1 left in
      (same.0, same.1, same.2.0 ∙ sends.2, same.2.1 ∙ sends.3)

  -- whatever it left has that number
  number_of : (unheard : Bool) → SendsAs line n w → IsLeftOf unheard w.output e.output → IfSome e.output (λ s. s.number ≡ n)
  number_of true sends left = subst (λ (o : Option (Sender U)). IfSome o (λ s. s.number ≡ n)) (sym left) tt
  number_of false sends left =
      let same = subst (λ (o : Option (Sender U)). IsLeftOf false o e.output) sends.1 left in
      subst (λ (o : Option (Sender U)). IfSome o (λ s. s.number ≡ n)) (sym same.1) (same.2.1 ∙ sends.3)

  sends_to : SendsAs line n w → Holds w e → SendsTo line e
  sends_to sends holds = λ heard. let t = left_one e.unheard heard sends holds.output in (t.0, t.1, t.2)

-- ---- a node that ran, and what its threads left

module _ (me peer : NodeId) (inbox : Line Inbound) (room place : ℕ) (x : Running) (r : ReaderEnd) (k : LinkEnd) (back : Option TakerView) where
  lane_joined : IsLaneOf x r k back → IsLane me peer inbox room place (tail_of x.tail) x.reader.promise.0.value → IsJoined inbox k r
  lane_joined of lane = (of.link.line ∙ (lane.line ∙ sym of.reader.input.line), sends_to inbox place x.reader.promise.0.value r lane.goes_to of.reader)

  lane_at : IsLaneOf x r k back → IsLane me peer inbox room place (tail_of x.tail) x.reader.promise.0.value → IsLinkAt me peer place k r
  lane_at of lane = record {
    from = of.link.from ∙ lane.from;
    to = of.link.to ∙ lane.to;
    alone = of.reader.input.producers ∙ lane.alone;
    number = number_of inbox place x.reader.promise.0.value r r.unheard lane.goes_to of.reader.output;
  }

all_by : {X : Type 0} (P : X → Type 0) (xs : List X) → ((i : ℕ) (x : X) → slice_get xs i ≡ Some x → P x) → AllByRecursion P xs
all_by P [] f = tt
all_by P (x ∷ xs) f = (f 0 x refl, all_by P xs (λ i y h. f (suc i) y h))

module _ {A S : Type 0} (me : NodeId) (set : QuorumTree) (peers : List NodeId) (caps : Capacities) (node : Node A S) (e : Left A) (takers : List (Option TakerView)) where
  -- what sends is of the channel of what receives
  pub joined : Runs me set peers caps node → IsLeft node e takers → AreJoined e
  joined runs left = record {
    links = λ l k hk r hr.
        let within = slice_get_within e.links l k hk in
        let lane = there_is node.lanes.items l (omega (arith, within, left.lanes.links_count)) in
        let peer = there_is peers l (omega (arith, within, left.lanes.links_count, runs.count)) in
        let back = there_is takers l (omega (arith, within, left.lanes.links_count, left.lanes.takers_count)) in
        subst (λ (line : Line Inbound). IsJoined line k r) (sym left.pend.input.line)
        (lane_joined me peer.0 node.pend.promise.0.value.input.line caps.link l lane.0 r k back.0 (left.lanes.each l lane.0 lane.1 r hr k hk back.0 back.1) (runs.lanes l lane.0 lane.1 peer.0 peer.1));
    local = ap (λ (s : Sender Inbound). s.line) left.local ∙ (runs.local.0 ∙ sym left.pend.input.line);
    ready = subst (λ (line : Line Ready). SendsTo line e.pend) (sym left.slot.input.line) (sends_to node.slot.promise.0.value.input.line 0 node.pend.promise.0.value e.pend runs.stages.ready.0 left.pend);
    decided = subst (λ (line : Line Onward). SendsTo line e.slot) (sym left.apply.input.line) (sends_to node.apply.promise.0.value.input.line 0 node.slot.promise.0.value e.slot runs.stages.decided.0 left.slot);
  }

  -- what was left is of the channels of the node
  pub is_node : AreApart peers → Runs me set peers caps node → IsLeft node e takers → IsNode me set peers e
  is_node apart runs left = record {
    apart = apart;
    links_count = left.lanes.links_count ∙ runs.count;
    readers_count = left.lanes.readers_count ∙ runs.count;
    lanes = λ l peer hp k hk r hr.
        let lane = there_is node.lanes.items l (omega (arith, slice_get_within e.links l k hk, left.lanes.links_count)) in
        let back = there_is takers l (omega (arith, slice_get_within e.links l k hk, left.lanes.links_count, left.lanes.takers_count)) in
        lane_at me peer node.pend.promise.0.value.input.line caps.link l lane.0 r k back.0 (left.lanes.each l lane.0 lane.1 r hr k hk back.0 back.1) (runs.lanes l lane.0 lane.1 peer hp);
    local_number = ap (λ (s : Sender Inbound). s.number) left.local ∙ runs.local.1;
    inbox = left.pend.input.producers ∙ runs.stages.producers;
    ready = left.slot.input.producers ∙ runs.stages.ready.1;
    decided = left.apply.input.producers ∙ runs.stages.decided.1;
    pends_for = subst (λ (v : PendingView). PendsFor me peers set v) (sym left.pend.first) runs.stages.pend_of;
    journals_for = subst (λ (s : SlotStage _). JournalsFor me peers set s.ledger) (sym left.slot.first) runs.stages.slot_of;
  }

  -- and each has the room of its channel
  pub sized : Runs me set peers caps node → IsLeft node e takers → AreSized caps e
  sized runs left = record {
    links = all_by (λ (r : ReaderEnd). r.input.room ≡ caps.link) e.readers (λ l r hr.
        let within = slice_get_within e.readers l r hr in
        let lane = there_is node.lanes.items l (omega (arith, within, left.lanes.readers_count)) in
        let k = there_is e.links l (omega (arith, within, left.lanes.readers_count, left.lanes.links_count)) in
        let peer = there_is peers l (omega (arith, within, left.lanes.readers_count, runs.count)) in
        let back = there_is takers l (omega (arith, within, left.lanes.readers_count, left.lanes.takers_count)) in
        (left.lanes.each l lane.0 lane.1 r hr k.0 k.1 back.0 back.1).reader.input.room ∙ (runs.lanes l lane.0 lane.1 peer.0 peer.1).room_is);
    inbox = left.pend.input.room ∙ runs.stages.rooms.0;
    ready = left.slot.input.room ∙ runs.stages.rooms.1;
    decided = left.apply.input.room ∙ runs.stages.rooms.2;
  }

-- ---- one link more

module _ (lanes front : List Running) (last : Running) (is : lanes ≡ front ++ last ∷ []) where
  -- the last of the links, as it was driven
  pub driven_last : (driven : ℕ → Bool) (sent : ℕ → List LinkItem) → AreDriven driven sent lanes → IsDriven (driven (length front)) (sent (length front)) last.tail
  driven_last driven sent all = each_last (λ (i : ℕ) (x : Running). IsDriven (driven i) (sent i) x.tail) front lanes last is all

  pub driven_front : (driven : ℕ → Bool) (sent : ℕ → List LinkItem) → AreDriven driven sent lanes → AreDriven driven sent front
  driven_front driven sent all = each_front (λ (i : ℕ) (x : Running). IsDriven (driven i) (sent i) x.tail) front lanes last is all

module _ (lanes front : List Running) (last : Running) (is : lanes ≡ front ++ last ∷ []) (readers : List ReaderEnd) (links : List LinkEnd) (takers : List (Option TakerView)) where
  one_more : (n : ℕ) → n ≡ length front → n + 1 ≡ length lanes
  one_more n e = omega (arith, ap length is, length-append front (last ∷ []), e)

  pub ends_more : (r : ReaderEnd) (k : LinkEnd) (t : Option TakerView) → AreEndsOf front readers links takers → IsLaneOf last r k t → AreEndsOf lanes (readers ++ r ∷ []) (links ++ k ∷ []) (takers ++ t ∷ [])
  ends_more r k t ends mine = record {
    readers_count = omega (arith, length-append readers (r ∷ []), one_more (length readers) ends.readers_count);
    links_count = omega (arith, length-append links (k ∷ []), one_more (length links) ends.links_count);
    takers_count = omega (arith, length-append takers (t ∷ []), one_more (length takers) ends.takers_count);
    each = λ i x hx r2 hr k2 hk t2 ht. each i x (push_cases front last x i (ap (λ (xs : List Running). slice_get xs i) (sym is) ∙ hx)) r2 (push_cases readers r r2 i hr) k2 (push_cases links k k2 i hk) t2 (push_cases takers t t2 i ht);
  }
    where
      each : (i : ℕ) (x : Running) → (slice_get front i ≡ Some x) ⊎ ((i ≡ length front) × (x ≡ last)) → (r2 : ReaderEnd) → (slice_get readers i ≡ Some r2) ⊎ ((i ≡ length readers) × (r2 ≡ r)) → (k2 : LinkEnd) → (slice_get links i ≡ Some k2) ⊎ ((i ≡ length links) × (k2 ≡ k)) → (t2 : Option TakerView) → (slice_get takers i ≡ Some t2) ⊎ ((i ≡ length takers) × (t2 ≡ t)) → IsLaneOf x r2 k2 t2
      each i x (inl a) r2 (inl b) k2 (inl c) t2 (inl d) = ends.each i x a r2 b k2 c t2 d
      each i x (inl a) r2 (inl b) k2 (inl c) t2 (inr d) = absurd (omega (arith, slice_get_within readers i r2 b, d.0, ends.readers_count, ends.takers_count))
      each i x (inl a) r2 (inl b) k2 (inr c) t2 d = absurd (omega (arith, slice_get_within readers i r2 b, c.0, ends.readers_count, ends.links_count))
      each i x (inl a) r2 (inr b) k2 c t2 d = absurd (omega (arith, slice_get_within front i x a, b.0, ends.readers_count))
      each i x (inr a) r2 (inl b) k2 c t2 d = absurd (omega (arith, slice_get_within readers i r2 b, a.0, ends.readers_count))
      each i x (inr a) r2 (inr b) k2 (inl c) t2 d = absurd (omega (arith, slice_get_within links i k2 c, a.0, ends.links_count))
      each i x (inr a) r2 (inr b) k2 (inr c) t2 (inl d) = absurd (omega (arith, slice_get_within takers i t2 d, a.0, ends.takers_count))
      each i x (inr a) r2 (inr b) k2 (inr c) t2 (inr d) = rw (a.1, b.1, c.1, d.1) mine

  pub sent_more : (driven : ℕ → Bool) (sent : ℕ → List LinkItem) (stood : List Stood) (st : Stood) (k : LinkEnd) → length links ≡ length front → slice_get stood (length front) ≡ Some st → AreSentBy driven sent stood links → IsSentBy (driven (length front)) (sent (length front)) st k → AreSentBy driven sent stood (links ++ k ∷ [])
  sent_more driven sent stood st k count at earlier mine =
      each_push (λ (i : ℕ) (x : LinkEnd). (s : Stood) → slice_get stood i ≡ Some s → IsSentBy (driven i) (sent i) s x) links (links ++ k ∷ []) k refl earlier here
    where
      here : (s : Stood) → slice_get stood (length links) ≡ Some s → IsSentBy (driven (length links)) (sent (length links)) s k
      here s hs = subst (λ (n : ℕ). IsSentBy (driven n) (sent n) s k) (sym count) (subst (λ (s2 : Stood). IsSentBy (driven (length front)) (sent (length front)) s2 k) same mine)
        where
          same : st ≡ s
          same = some_is st s (sym at ∙ ap (slice_get stood) (sym count) ∙ hs)

  -- the same where the last link's sending end may be lost, but isn't
  pub left_more : (r : ReaderEnd) (tail : Result TailLeft Fault) (t : TailLeft) → tail ≡ Ok t → (readers2 : List ReaderEnd) → readers2 ≡ readers ++ r ∷ [] → (links2 : List LinkEnd) → links2 ≡ links ++ t.link ∷ [] → (takers2 : List (Option TakerView)) → takers2 ≡ takers ++ t.taker ∷ []
      → AreEndsOf front readers links takers → Holds last.reader.promise.0.value r → IfOk tail (λ left. IsSameLink (tail_of last.tail) left.link) → IfOk tail (λ left. IsHandedBack (taker_in last) left.link left.taker) → AreEndsOf lanes readers2 links2 takers2
  left_more r tail t there readers2 e links2 f takers2 h ends holds same back =
      rw (e, f, h)
      (ends_more r t.link t.taker ends (record {
        reader = holds;
        link = subst (λ (o : Result TailLeft Fault). IfOk o (λ left. IsSameLink (tail_of last.tail) left.link)) there same;
        handed_back = subst (λ (o : Result TailLeft Fault). IfOk o (λ left. IsHandedBack (taker_in last) left.link left.taker)) there back;
      }))

  pub sent_left : (driven : ℕ → Bool) (sent : ℕ → List LinkItem) (stood : List Stood) (place : ℕ) → place ≡ length front → (st : Stood) → slice_get stood place ≡ Some st → (tail : Result TailLeft Fault) (t : TailLeft) → tail ≡ Ok t → (links2 : List LinkEnd) → links2 ≡ links ++ t.link ∷ []
      → length links ≡ length front → AreSentBy driven sent stood links → IfOk tail (λ left. IsSentBy (driven (length front)) (sent (length front)) st left.link) → AreSentBy driven sent stood links2
  sent_left driven sent stood place here st at tail t there links2 f count earlier mine =
      subst (AreSentBy driven sent stood) (sym f)
      (sent_more driven sent stood st t.link count (ap (slice_get stood) (sym here) ∙ at) earlier (subst (λ (o : Result TailLeft Fault). IfOk o (λ left. IsSentBy (driven (length front)) (sent (length front)) st left.link)) there mine))

-- what each link's courier hands back, by what it was given
pub handed_back : (lanes : List Running) (readers : List ReaderEnd) (links : List LinkEnd) (takers : List (Option TakerView)) → AreEndsOf lanes readers links takers
    → (i : ℕ) (end : Option TakerView) → slice_get (map taker_in lanes) i ≡ Some end → (k : LinkEnd) → slice_get links i ≡ Some k → (back : Option TakerView) → slice_get takers i ≡ Some back → IsHandedBack end k back
handed_back lanes readers links takers ends i end at k hk back hb =
    let within = slice_get_within takers i back hb in
    let lane = there_is lanes i (omega (arith, within, ends.takers_count)) in
    let r = there_is readers i (omega (arith, within, ends.takers_count, ends.readers_count)) in
    subst (λ (e : Option TakerView). IsHandedBack e k back) (some_is (taker_in lane.0) end (sym (map_get lanes i lane.0 lane.1) ∙ at)) (ends.each i lane.0 lane.1 r.0 r.1 k hk back hb).handed_back
  where
    map_get : (xs : List Running) (n : ℕ) (x : Running) → slice_get xs n ≡ Some x → slice_get (map taker_in xs) n ≡ Some (taker_in x)
    map_get [] n x h = cc
    map_get (y ∷ ys) zero x h = ap (λ (z : Running). Some (taker_in z)) (some_is y x h)
    map_get (y ∷ ys) (suc n) x h = map_get ys n x h

-- what each link's reader keeps, by what it was given
pub keep_as_given : (lanes : List Running) (readers : List ReaderEnd) (links : List LinkEnd) (takers : List (Option TakerView)) → AreEndsOf lanes readers links takers → map keeps_by readers ≡ map keeps_in lanes
keep_as_given lanes readers links takers ends = same_maps readers lanes ends.readers_count each
  where
    same_maps : (rs : List ReaderEnd) (xs : List Running) → length rs ≡ length xs → ((i : ℕ) (r : ReaderEnd) → slice_get rs i ≡ Some r → (x : Running) → slice_get xs i ≡ Some x → keeps_by r ≡ keeps_in x) → map keeps_by rs ≡ map keeps_in xs
    same_maps [] [] count same = refl
    same_maps (r ∷ rs) [] count same = absurd (omega (arith, count))
    same_maps [] (x ∷ xs) count same = absurd (omega (arith, count))
    same_maps (r ∷ rs) (x ∷ xs) count same =
        ap (λ (b : Bool). b ∷ map keeps_by rs) (same 0 r refl x refl)
        ∙ ap (λ (bs : List Bool). keeps_in x ∷ bs) (same_maps rs xs (omega (arith, count)) (λ i s at y here. same (suc i) s at y here))

    each : (i : ℕ) (r : ReaderEnd) → slice_get readers i ≡ Some r → (x : Running) → slice_get lanes i ≡ Some x → keeps_by r ≡ keeps_in x
    each i r hr x hx =
        let within = slice_get_within readers i r hr in
        let k = there_is links i (omega (arith, within, ends.readers_count, ends.links_count)) in
        let back = there_is takers i (omega (arith, within, ends.readers_count, ends.takers_count)) in
        ap (λ (s : ReadingStage). is_some s.kept) (ends.each i x hx r hr k.0 k.1 back.0 back.1).reader.first
