-- A node that runs goes on running, whatever is done on its links or sent to it.
use Rattle.std.proofs.Common.{◌≡◌, ◌∙◌, ℕ, ap, sym, subst, List, length, Some}
use Rattle.std.specs.Prelude.{slice_get}
use Rattle.scp_gather.specs.scp_types.specs.declared.names.NodeId.{NodeId}
use Rattle.scp_gather.specs.scp_quorum.specs.QuorumTree.{QuorumTree}
use Rattle.scp_gather.specs.scp_wire.specs.declared.link.Inbound.{Inbound}
use Rattle.scp_gather.specs.scp_wire.specs.declared.link.LinkItem.{LinkItem}
use Rattle.scp_gather.specs.scp_ends.specs.Ends.{Line}
use Rattle.scp_gather.specs.scp_ends.specs.Links.{LinkEnd, with_item}
use Rattle.scp_gather.specs.scp_workers.specs.Reading.{ReaderWork}
use Rattle.scp_gather.specs.scp_types.specs.declared.capacities.Capacities.{Capacities}
use Rattle.scp_threaded_node.specs.declared.acting.Act.{Act}
use Rattle.scp_threaded_node.specs.declared.acting.Act.TheVariants.{Open, Close, Send}
use Rattle.scp_threaded_node.specs.declared.node.Node.{Node}
use Rattle.scp_threaded_node.specs.declared.node.Running.{Running}
use Rattle.scp_threaded_node.specs.declared.node.Tail.{Tail}
use Rattle.scp_threaded_node.specs.declared.node.Tail.TheVariants.{Host, Courier}
use Rattle.scp_threaded_node.specs.Acting.{act_on, acted, with_command, ActsAt, IsUnchanged}
use Rattle.scp_threaded_node.specs.Seats.{IsLane, AreRunning, Runs, tail_of}
use Rattle.scp_gather.specs.scp_shared_outbox.proofs.ListsOfAll.{set_length}
use Rattle.scp_threaded_node.proofs.Changing.{each_set}

with_item_lane : (me peer : NodeId) (inbox : Line Inbound) (room place : ℕ) (k : LinkEnd) (x : LinkItem) (r : ReaderWork) → IsLane me peer inbox room place k r → IsLane me peer inbox room place (with_item k x) r
with_item_lane me peer inbox room place k x r l = record { from = l.from; to = l.to; line = l.line; tail = l.tail; alone = l.alone; room_is = l.room_is; goes_to = l.goes_to }

act_on_lane : (me peer : NodeId) (inbox : Line Inbound) (room place : ℕ) (a : Act) (k : LinkEnd) (r : ReaderWork) → IsLane me peer inbox room place k r → IsLane me peer inbox room place (act_on a k) r
act_on_lane me peer inbox room place Open k r l = with_item_lane me peer inbox room place k _ r l
act_on_lane me peer inbox room place Close k r l = with_item_lane me peer inbox room place k _ r l
act_on_lane me peer inbox room place (Send bytes) k r l = with_item_lane me peer inbox room place k _ r l

acted_lane : (me peer : NodeId) (inbox : Line Inbound) (room place : ℕ) (a : Act) (t : Tail) (r : ReaderWork) → IsLane me peer inbox room place (tail_of t) r → IsLane me peer inbox room place (tail_of (acted a t)) r
acted_lane me peer inbox room place a (Host k) r l = act_on_lane me peer inbox room place a k r l
acted_lane me peer inbox room place a (Courier thread) r l = l

pub acts_runs : {A S : Type 0} (me : NodeId) (set : QuorumTree) (peers : List NodeId) (caps : Capacities) (a : Act) (place : ℕ) (x y : Node A S) → ActsAt a place x y → Runs me set peers caps x → Runs me set peers caps y
acts_runs {A} {S} me set peers caps a place x y acts r =
    let inbox = x.pend.promise.0.value.input.line in
    let lane = acts.lane in
    let after = record lane { tail = acted a lane.tail } in
    let P = λ (i : ℕ) (z : Running). (peer : NodeId) → slice_get peers i ≡ Some peer → IsLane me peer inbox caps.link i (tail_of z.tail) z.reader.promise.0.value in
    let count : length y.lanes.items ≡ length peers = ap (λ (xs : List Running). length xs) acts.is ∙ set_length x.lanes.items place after ∙ r.count in
    let lanes : AreRunning me peers inbox caps.link y.lanes.items =
    subst (λ (xs : List Running). AreRunning me peers inbox caps.link xs) (sym acts.is)
    (each_set P P x.lanes.items place lane after acts.was (λ f peer at. acted_lane me peer inbox caps.link place a lane.tail lane.reader.promise.0.value (f peer at)) (λ i z apart f. f) r.lanes) in
    subst (λ (n : Node A S). Runs me set peers caps n) (sym acts.same) (record { count = count; lanes = lanes; local = r.local; stages = r.stages })

pub unchanged_runs : {A S : Type 0} (me : NodeId) (set : QuorumTree) (peers : List NodeId) (caps : Capacities) (x y : Node A S) → IsUnchanged x y → Runs me set peers caps x → Runs me set peers caps y
unchanged_runs {A} {S} me set peers caps x y u r =
    let count : length y.lanes.items ≡ length peers = ap (λ (xs : List Running). length xs) u.lanes ∙ r.count in
    let lanes : AreRunning me peers x.pend.promise.0.value.input.line caps.link y.lanes.items = subst (λ (xs : List Running). AreRunning me peers x.pend.promise.0.value.input.line caps.link xs) (sym u.lanes) r.lanes in
    subst (λ (n : Node A S). Runs me set peers caps n) (sym u.same) (record { count = count; lanes = lanes; local = r.local; stages = r.stages })

pub told_runs : {A S : Type 0} (me : NodeId) (set : QuorumTree) (peers : List NodeId) (caps : Capacities) (node : Node A S) (x : Inbound) → Runs me set peers caps node → Runs me set peers caps (with_command node x)
told_runs me set peers caps node x r = record { count = r.count; lanes = r.lanes; local = r.local; stages = r.stages }
