-- What travelled between nodes that have ended.
use Rattle.std.proofs.Common.{◌≡◌, ◌≢◌, ◌∙◌, ℕ, ◌+◌, ◌-◌, ◌≤◌, ◌<◌, true, false, Bool, ap, sym, refl, subst, List, [], ◌∷◌, length, zero, suc, Option, Some, None, arith}
use Rattle.std.specs.Prelude.{map, slice_get}
use Rattle.std.specs.Global.{Vec}
use Rattle.std.proofs.lemmas.List.{length-map}
use Rattle.std.proofs.lemmas.Option.{slice_get_within}
use Rattle.scp_threaded_node.specs.scp_driver.specs.Kv.{kv_says}
use Rattle.scp_threaded_node.specs.scp_wire.specs.declared.link.Inbound.{Inbound}
use Rattle.scp_threaded_node.specs.scp_wire.specs.declared.link.LinkItem.{LinkItem}
use Rattle.scp_threaded_node.specs.scp_wire.specs.LinkReading.{unread, readings}
use Rattle.scp_threaded_node.specs.scp_wire.specs.Shape.{of_peer}
use Rattle.scp_threaded_node.specs.scp_shared_outbox.specs.Ends.{PutterView, MarkerView, TakerView}
use Rattle.scp_threaded_node.specs.scp_shared_outbox.specs.declared.outlets.Outlets.{Outlets}
use Rattle.scp_threaded_node.specs.scp_shared_outbox.specs.Places.{Each, link_of, peer_at, AreTwoOf}
use Rattle.scp_threaded_node.specs.scp_shared_outbox.specs.Table.{at_link, at_place, AreRows, AreAllBack, AllCameOut, AreOutletsOf, ArePuttersOf, PutAt, IsAnyTakerOf, IsTakerOf}
use Rattle.scp_threaded_node.specs.scp_shared_outbox.proofs.Peers.{link_within, peer_of_place}
use Rattle.scp_threaded_node.specs.scp_theorem.specs.Grounds.{Grounds, IsSentOut}
use Rattle.scp_threaded_node.specs.scp_theorem.specs.Handed.{handed_by}
use Rattle.scp_threaded_node.specs.scp_theorem.specs.Laws.{HandedOutMayGo}
use Rattle.scp_threaded_node.specs.scp_ledger.specs.declared.took.Outgoing.{Outgoing}
use Rattle.scp_threaded_node.specs.scp_ends.specs.Links.{LinkEnd}
use Rattle.scp_threaded_node.specs.scp_ends.specs.Order.{values}
use Rattle.scp_threaded_node.specs.scp_workers.specs.Working.{HavePut, AreSameOutlets}
use Rattle.scp_threaded_node.specs.scp_workers.specs.Carrying.{HasCarried, IsSameTaker}
use Rattle.scp_threaded_node.specs.scp_gather.specs.Sent.{WhatIsCarriedIsSentOut, bytes_among}
use Rattle.scp_threaded_node.specs.scp_gather.specs.Theirs.{AreTheirs, WhatIsReadIsTheirs}
use Rattle.scp_threaded_node.specs.scp_gather.specs.Gathered.{account_gathered}
use Rattle.scp_threaded_node.specs.scp_gather.specs.Kv.{NodeReport, Left}
use Rattle.scp_threaded_node.specs.scp_gather.specs.Left.{items_of}
use Rattle.scp_script.specs.declared.command.Command.{Command}
use Rattle.scp_script.specs.Nodes.{id_of, peers_of, set_at}
use Rattle.scp_script.specs.Script.{node_count}
use Rattle.scp_threaded_node.specs.Kv.{Node}
use Rattle.scp_threaded_node.specs.declared.node.Running.{Running}
use Rattle.scp_threaded_node.specs.declared.node.Tail.{Tail}
use Rattle.scp_threaded_node.specs.declared.node.Tail.TheVariants.{Host, Courier}
use Rattle.scp_threaded_node.specs.Outlets.{GivenEnds, given_to, taker_in, taker_of, IsHandedBack}
use Rattle.scp_threaded_node.specs.Seats.{IsDriven, AreDriven}
use Rattle.scp_threaded_script.specs.Lines.{is_driven, driven_to, items_to}
use Rattle.scp_threaded_script.specs.Reported.{AreNodesReported, AreSoReported, IsNodeReported}
use Rattle.scp_threaded_script.specs.Travels.{PutBy, Travels, grounds_at}
use Rattle.scp_threaded_script.specs.inside.Outlets.{AreSameMarkers, IsSeated, AreSeated, all_given}
use Rattle.scp_threaded_script.specs.inside.Over.{IsOver, AreOver}
use Rattle.scp_threaded_script.specs.inside.Played.{HaveDone}
use Rattle.scp_threaded_script.proofs.Peers.{peer_count, peer_is}
use Rattle.scp_threaded_node.specs.scp_shared_outbox.proofs.ListsOfAll.{there_is}
use Rattle.scp_threaded_script.proofs.Seating.{same_rows, putters_back, taker_back}

some_is : {T : Type 0} (x y : T) → Some x ≡ Some y → x ≡ y
some_is x y e = cc

get_map : {X Y : Type 0} (f : X → Y) (xs : List X) (i : ℕ) (x : X) → slice_get xs i ≡ Some x → slice_get (map f xs) i ≡ Some (f x)
get_map f [] i x h = cc
get_map f (y ∷ ys) zero x h = ap (λ z. Some (f z)) (some_is y x h)
get_map f (y ∷ ys) (suc i) x h = get_map f ys i x h

-- a link that the script doesn't drive has a courier, which was given an end of the outbox
carried_taker : (sent : List LinkItem) (tail : Tail) → IsDriven false sent tail → (t : TakerView) × (taker_of tail ≡ Some t)
carried_taker sent (Host k) carried = let e : false ≡ true = carried in cc
carried_taker sent (Courier thread) carried = (thread.promise.0.value.taker, refl)

module _ (commands : List Command) (nodes : List Node) (first markers : List (Vec MarkerView)) (reports : List NodeReport) (outlets : List Outlets) (takers : List (Vec (Option TakerView)))
    (done : HaveDone commands commands nodes) (seated : AreSeated (node_count commands) first (all_given nodes)) (same : AreSameMarkers first markers) (over : AreOver commands (all_given nodes) reports outlets takers) where
  abbrev count : ℕ
  count = node_count commands

  abbrev given : List GivenEnds
  given = all_given nodes

  many : length given ≡ count
  many = length-map nodes given_to ∙ done.0

  -- the node behind the first ones, and all that is known of it
  record IsAt (i : ℕ) (left : Left) (o : Outlets) (t : Vec (Option TakerView)) : Type 0 where
    node : Node
    node_at : slice_get nodes i ≡ Some node
    report : NodeReport
    report_at : slice_get reports i ≡ Some report
    left_at : slice_get over.lefts i ≡ Some left
    outlets_at : slice_get outlets i ≡ Some o
    takers_at : slice_get takers i ≡ Some t
    seat : IsSeated count first (i + 1) (given_to node)
    is : IsOver commands (i + 1) (given_to node) left report o t

  at_node : (i : ℕ) → i < count → (left : Left) × (o : Outlets) × (t : Vec (Option TakerView)) × IsAt i left o t
  at_node i lt =
      let node = there_is nodes i (omega (arith, lt, done.0)) in
      let g : slice_get given i ≡ Some (given_to node.0) = get_map given_to nodes i node.0 node.1 in
      let left = there_is over.lefts i (omega (arith, lt, many, over.lefts_count)) in
      let report = there_is reports i (omega (arith, lt, many, over.reports_count)) in
      let o = there_is outlets i (omega (arith, lt, many, over.outlets_count)) in
      let t = there_is takers i (omega (arith, lt, many, over.takers_count)) in (
        left.0,
        o.0,
        t.0,
        record {
          node = node.0;
          node_at = node.1;
          report = report.0;
          report_at = report.1;
          left_at = left.1;
          outlets_at = o.1;
          takers_at = t.1;
          seat = seated i (given_to node.0) g;
          is = over.each i (given_to node.0) g left.0 left.1 report.0 report.1 o.0 o.1 t.0 t.1;
        },
      )

  -- a link of a node that has ended
  link_at : (i : ℕ) → i < count → (left : Left) (o : Outlets) (t : Vec (Option TakerView)) → IsAt i left o t → (place : ℕ) → place + 1 < count → (k : LinkEnd) × (slice_get left.links place ≡ Some k)
  link_at i lt left o t x place within = there_is left.links place (omega (arith, within, x.is.reported.ended.links_count, peer_count count (i + 1) (omega arith) (omega (arith, lt))))

  -- ---- the ends of all outboxes are back

  any_taker : (node place : ℕ) (given_end back : Option TakerView) (k : LinkEnd) → IsAnyTakerOf first node place given_end → IsHandedBack given_end k back → IsAnyTakerOf markers node place back
  any_taker node place None back k was h = subst (λ (b : Option TakerView). IsAnyTakerOf markers node place b) (sym h) tt
  any_taker node place (Some g) back k was h = subst (λ (b : Option TakerView). IsAnyTakerOf markers node place b) (sym h.1) (taker_back first markers node place g h.0 same was h.2.desk h.2.producers)

  outlets_back : (i : ℕ) (left : Left) (o : Outlets) (t : Vec (Option TakerView)) → IsAt i left o t → AreOutletsOf count markers (i + 1) o
  outlets_back i left o t x =
      let b = x.is.back in
      let g = given_to x.node in
      record {
        pend = putters_back count first markers (i + 1) 0 g.replies left.pend.outlets o.pend.items same x.seat.replies b.replies b.outlets_are.0;
        slot = putters_back count first markers (i + 1) 1 g.said left.slot.outlets o.slot.items same x.seat.said b.said b.outlets_are.1;
        apply = putters_back count first markers (i + 1) 2 g.answers left.apply.outlets o.apply.items same x.seat.answers b.answers b.outlets_are.2;
      }

  row_back : (i : ℕ) (left : Left) (o : Outlets) (t : Vec (Option TakerView)) → IsAt i left o t → length t.items + 1 ≡ count
  row_back i left o t x = ap (λ n. n + 1) x.is.back.takers_count ∙ x.seat.takers_many

  takers_back : (i : ℕ) → i < count → (left : Left) (o : Outlets) (t : Vec (Option TakerView)) → IsAt i left o t → Each (IsAnyTakerOf markers (i + 1)) t.items
  takers_back i lt left o t x place back at =
      let within = slice_get_within t.items place back at in
      let row = row_back i left o t x in
      let g = there_is (given_to x.node).takers place (omega (arith, within, x.is.back.takers_count)) in
      let k = link_at i lt left o t x place (omega (arith, within, row)) in
      any_taker (i + 1) place g.0 back k.0 (x.seat.takers place g.0 g.1) (x.is.back.takers_are place g.0 g.1 k.0 k.1 back at)

  pub all_back : AreRows count first → AreAllBack count outlets markers takers
  all_back rows = record {
    markers_are = same_rows count first markers same rows;
    outlets_many = over.outlets_count ∙ many;
    outlets_are = λ i o at. (let n = at_node i (omega (arith, slice_get_within outlets i o at, over.outlets_count, many)) in
        subst (λ (own : Outlets). AreOutletsOf count markers (i + 1) own) (some_is n.1 o (sym n.3.outlets_at ∙ at)) (outlets_back i n.0 n.1 n.2 n.3));
    takers_many = record {
      nodes = over.takers_count ∙ many;
      each = λ i row at. (let n = at_node i (omega (arith, slice_get_within takers i row at, over.takers_count, many)) in
          subst (λ (r : Vec (Option TakerView)). length r.items + 1 ≡ count) (some_is n.2 row (sym n.3.takers_at ∙ at)) (row_back i n.0 n.1 n.2 n.3));
    };
    takers_are = λ i row at. (let lt : i < count = omega (arith, slice_get_within takers i row at, over.takers_count, many) in let n = at_node i lt in
        subst (λ (r : Vec (Option TakerView)). Each (IsAnyTakerOf markers (i + 1)) r.items) (some_is n.2 row (sym n.3.takers_at ∙ at)) (takers_back i lt n.0 n.1 n.2 n.3));
  }

  -- ---- what travelled

  -- what one stage put into the outbox of a link
  put_at : (node : ℕ) (place : ℕ) (putters back : List PutterView) (out : List Outgoing) → length putters + 1 ≡ count → place + 1 < count → putters ≡ back → HavePut out back → PutAt putters place (handed_by out place)
  put_at node place putters back out wide within is put =
      let p = there_is putters place (omega (arith, wide, within)) in
      (p.0, p.1, put place p.0 (ap (λ (ps : List PutterView). slice_get ps place) (sym is) ∙ p.1))

  -- what a courier carried, which was given its end
  came_back : (k : LinkEnd) (end back : Option TakerView) (g : TakerView) → end ≡ Some g → IsHandedBack end k back → (t : TakerView) × (back ≡ Some t) × HasCarried t.gave k
  came_back k None back g e h = let no : None ≡ Some g = e in cc
  came_back k (Some f) back g e h = (h.0, h.1, h.3)

  module _ (may : HandedOutMayGo kv_says) (law : WhatIsCarriedIsSentOut) (read : WhatIsReadIsTheirs) (came : AllCameOut count outlets takers) where
    -- what the receiver took of the sender is what it read of the link
    heard_of : (i : ℕ) → i < count → (left : Left) (o : Outlets) (t : Vec (Option TakerView)) → IsAt i left o t → (place : ℕ) → place + 1 < count → (from : ℕ) → peer_at place (i + 1) ≡ from
        → (g : Grounds) (link : ℕ) (k : LinkEnd) → slice_get left.links place ≡ Some k → IsSentOut g link (bytes_among k.tail.sent) → AreTheirs g link (of_peer (id_of from) (values left.pend.input.got))
    heard_of i lt left o t x place within from peer g link k at sent =
        let p = peer_is count (i + 1) place (omega arith) (omega (arith, lt)) within in
        let taken = x.is.reported.ended.report.gathered.read place (id_of (peer_at place (i + 1))) p in
        subst (λ (f : ℕ). AreTheirs g link (of_peer (id_of f) (values left.pend.input.got))) peer
        (subst (λ (items : List Inbound). AreTheirs g link items) (sym (taken ∙ ap (λ (z : Option LinkEnd). readings unread (items_of z)) at)) (read g link k.tail.sent sent))

    travels_at : (from to : ℕ) → AreTwoOf count from to → is_driven commands from to ≡ false → (sender : Left) (o : Outlets) (t : Vec (Option TakerView)) → IsAt (from - 1) sender o t
        → (receiver : Left) (o2 : Outlets) (t2 : Vec (Option TakerView)) → IsAt (to - 1) receiver o2 t2 → (put : PutBy commands from sender) → Travels commands from to sender receiver put
    travels_at from to two free sender o t x receiver o2 t2 y put =
        let l = link_of to from in
        let m = link_of from to in
        let l_in : l + 1 < count = link_within count to from (two.1, two.0, λ e. two.2 (sym e)) in
        let m_in : m + 1 < count = link_within count from to two in
        let n_to : to - 1 + 1 ≡ to = omega (arith, two.1.0) in
        let back = x.is.back in
        let own = outlets_back (from - 1) sender o t x in
        let k = link_at (to - 1) (omega (arith, two.1.0, two.1.1)) receiver o2 t2 y m m_in in
        let lane = there_is y.node.lanes.items m (omega (arith, m_in, y.seat.takers_many, length-map y.node.lanes.items taker_in)) in
        let peer : peer_at m (to - 1 + 1) ≡ from = ap (λ (n : ℕ). peer_at m n) n_to ∙ peer_of_place from to two.0.0 two.1.0 two.2 in
        let free_here : driven_to commands (to - 1 + 1) m ≡ false = ap (λ (f : ℕ). is_driven commands f (to - 1 + 1)) peer ∙ ap (λ (n : ℕ). is_driven commands from n) n_to ∙ free in
        let courier = carried_taker (items_to (to - 1 + 1) commands m) lane.0.tail (subst (λ (b : Bool). IsDriven b (items_to (to - 1 + 1) commands m) lane.0.tail) free_here (done.1.sent (to - 1) y.node y.node_at m lane.0 lane.1)) in
        let end : slice_get (given_to y.node).takers m ≡ Some (taker_in lane.0) = get_map taker_in y.node.lanes.items m lane.0 lane.1 in
        let there = there_is t2.items m (omega (arith, m_in, row_back (to - 1) receiver o2 t2 y)) in
        let b = came_back k.0 (taker_in lane.0) there.0 courier.0 courier.1 (y.is.back.takers_are m (taker_in lane.0) end k.0 k.1 there.0 there.1) in
        let at : at_link takers from to ≡ Some (Some b.0) = ap (λ (row : Option (Vec (Option TakerView))). at_place row m) y.takers_at ∙ there.1 ∙ ap (λ (z : Option TakerView). Some z) b.1 in
        let out = came from to two o x.outlets_at b.0 at (handed_by put.replies l) (handed_by put.said l) (handed_by put.answers l)
        (put_at from l o.pend.items sender.pend.outlets put.replies own.pend.many l_in back.outlets_are.0 put.replies_put)
        (put_at from l o.slot.items sender.slot.outlets put.said own.slot.many l_in back.outlets_are.1 put.said_put)
        (put_at from l o.apply.items sender.apply.outlets put.answers own.apply.many l_in back.outlets_are.2 put.answers_put) in
        let account = account_gathered (id_of from) (set_at from commands) (peers_of count from) sender in
        let sent = law (grounds_at commands from sender) l (handed_by put.replies l) (handed_by put.said l) (handed_by put.answers l) b.0.gave k.0 (may account put.replies put.said put.answers put.handed l) out b.2 in
        record {
          gave = b.0.gave;
          came_out = out;
          link = k.0;
          there = k.1;
          carried = b.2;
          sent = sent;
          theirs = heard_of (to - 1) (omega (arith, two.1.0, two.1.1)) receiver o2 t2 y m m_in from peer (grounds_at commands from sender) l k.0 k.1 sent;
        }

    so_reported : AreSoReported commands over.lefts reports
    so_reported i r at =
        let n = at_node i (omega (arith, slice_get_within reports i r at, over.reports_count, many)) in
        (n.0, n.3.left_at, subst (λ (x : NodeReport). IsNodeReported commands (i + 1) n.0 x) (some_is n.3.report r (sym n.3.report_at ∙ at)) n.3.is.reported)

    pub nodes_reported : AreNodesReported commands reports
    nodes_reported = record {
      count = over.reports_count ∙ many;
      lefts = over.lefts;
      lefts_count = over.lefts_count ∙ many;
      reported = so_reported;
      travels = λ from to two free sender receiver hs hr put.
          let x = at_node (from - 1) (omega (arith, two.0.0, two.0.1)) in
          let y = at_node (to - 1) (omega (arith, two.1.0, two.1.1)) in
          subst (λ (s : Left). (p : PutBy commands from s) → Travels commands from to s receiver p) (some_is x.0 sender (sym x.3.left_at ∙ hs))
          (subst (λ (r : Left). (p : PutBy commands from x.0) → Travels commands from to x.0 r p) (some_is y.0 receiver (sym y.3.left_at ∙ hr)) (travels_at from to two free x.0 x.1 x.2 x.3 y.0 y.1 y.2 y.3)) put;
    }
