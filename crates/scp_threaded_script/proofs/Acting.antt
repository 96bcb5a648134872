-- What something done on a link does to nodes that run.
use Rattle.std.proofs.Common.{◌≡◌, ◌≢◌, ◌∙◌, ℕ, ◌+◌, ◌-◌, ◌≤◌, Bool, true, false, ap, sym, refl, subst, List, [], ◌∷◌, ◌++◌, length, Some, append-nil, arith}
use Rattle.std.specs.Prelude.{slice_get, slice_set, fold, if◌then◌else◌}
use Rattle.scp_threaded_node.specs.scp_types.specs.declared.names.NodeId.{NodeId}
use Rattle.scp_threaded_node.specs.scp_wire.specs.declared.link.LinkItem.{LinkItem}
use Rattle.scp_threaded_node.specs.scp_wire.specs.declared.link.LinkItem.TheVariants as item
use Rattle.scp_threaded_node.specs.scp_wire.specs.Connections.{conn_at}
use Rattle.scp_threaded_node.specs.scp_wire.specs.Shape.{never_open, goes}
use Rattle.scp_threaded_node.specs.scp_ends.specs.Links.{LinkEnd, stands}
use Rattle.scp_script.specs.declared.command.Command.{Command}
use Rattle.scp_script.specs.declared.command.Command.TheVariants as script
use Rattle.scp_script.specs.Nodes.{id_of, peers_of, set_at, capacities_in}
use Rattle.scp_script.specs.Script.{is_link, lives, node_count}
use Rattle.scp_threaded_node.specs.declared.acting.Act.{Act}
use Rattle.scp_threaded_node.specs.declared.acting.Act.TheVariants.{Open, Close, Send}
use Rattle.scp_threaded_node.specs.Kv.{Node}
use Rattle.scp_threaded_node.specs.declared.node.Running.{Running}
use Rattle.scp_threaded_node.specs.declared.node.Tail.{Tail}
use Rattle.scp_threaded_node.specs.declared.node.Tail.TheVariants.{Host, Courier}
use Rattle.scp_threaded_node.specs.Acting.{act_on, acted, ActsAt, IsUnchanged}
use Rattle.scp_threaded_node.specs.Seats.{Each, IsDriven, AreDriven, Runs, tail_of}
use Rattle.scp_threaded_script.specs.Lines.{link_of, peer_at, item_by, items_on, command_by, commands_for, driven_to, items_to}
use Rattle.scp_threaded_script.specs.inside.Played.{AllRun, AreTold, AreItemsSent, HaveDone, AreTwoOf, ActsOn, AreUnchanged}
use Rattle.scp_threaded_script.specs.Reported.{AllRunSoFar}
use Rattle.scp_threaded_node.proofs.Staying.{acts_runs, unchanged_runs}
use Rattle.scp_threaded_node.specs.scp_shared_outbox.proofs.ListsOfAll.{set_length}
use Rattle.scp_threaded_node.proofs.Changing.{each_set}
use Rattle.scp_threaded_node.specs.scp_shared_outbox.proofs.Peers.{peer_of_place}
use Rattle.scp_threaded_script.proofs.Links.{same_link, to_another, at_another, peer_there}
use Rattle.scp_threaded_script.proofs.Sending.{items_more, life_after}
use Rattle.scp_threaded_script.proofs.Telling.{none_more}

-- ---- what one node's links sent

driven_acted : (b : Bool) (s s2 : List LinkItem) (a : Act) (t : Tail) → ((k : LinkEnd) → t ≡ Host k → k.tail.sent ≡ s → (act_on a k).tail.sent ≡ s2) → IsDriven b s t → IsDriven b s2 (acted a t)
driven_acted true s s2 a t here d = (act_on a d.0, ap (acted a) d.1, here d.0 d.1 d.2)
driven_acted false s s2 a (Host k) here d = d
driven_acted false s s2 a (Courier thread) here d = d

same_driven : (f : ℕ → Bool) (s s2 : ℕ → List LinkItem) (lanes : List Running) → ((i : ℕ) → s2 i ≡ s i) → AreDriven f s lanes → AreDriven f s2 lanes
same_driven f s s2 lanes same d i x at = subst (λ (items : List LinkItem). IsDriven (f i) items x.tail) (sym (same i)) (d i x at)

acts_driven : (f : ℕ → Bool) (s s2 : ℕ → List LinkItem) (a : Act) (place : ℕ) (x y : Node) → (acts : ActsAt a place x y) → ((i : ℕ) → i ≢ place → s2 i ≡ s i) → ((k : LinkEnd) → acts.lane.tail ≡ Host k → k.tail.sent ≡ s place → (act_on a k).tail.sent ≡ s2 place) → AreDriven f s x.lanes.items → AreDriven f s2 y.lanes.items
acts_driven f s s2 a place x y acts other here d =
    let lane = acts.lane in
    let after = record lane { tail = acted a lane.tail } in
    let P = λ (i : ℕ) (z : Running). IsDriven (f i) (s i) z.tail in
    let Q = λ (i : ℕ) (z : Running). IsDriven (f i) (s2 i) z.tail in
    subst (λ (xs : List Running). AreDriven f s2 xs) (sym acts.is)
    (each_set P Q x.lanes.items place lane after acts.was
    (driven_acted (f place) (s place) (s2 place) a lane.tail here)
    (λ i z apart p. subst (λ (items : List LinkItem). IsDriven (f i) items z.tail) (sym (other i apart)) p)
    d)

-- ---- which line it was

-- it is what the line does: on its link it puts what the line puts there, and nothing on any other; and the line tells no node anything
pub record IsLineOn (a : Act) (from to : ℕ) (done : List Command) (command : Command) : Type 0 where
  pub here : (k : LinkEnd) → k.from ≡ id_of from → k.to ≡ id_of to → k.tail.sent ≡ items_on from to done → (act_on a k).tail.sent ≡ items_on from to (done ++ command ∷ [])
  pub other : (f t : ℕ) → is_link f t from to ≡ false → item_by f t done command ≡ []
  pub untold : (node : ℕ) → command_by node command ≡ []

same_conn : (from to : ℕ) (k : LinkEnd) (n m : ℕ) → k.from ≡ id_of from → k.to ≡ id_of to → n ≡ m → conn_at k.from k.to n ≡ conn_at (id_of from) (id_of to) m
same_conn from to k n m f t e = ap (λ (x : NodeId). conn_at x k.to n) f ∙ ap (λ (x : NodeId). conn_at (id_of from) x n) t ∙ ap (λ (i : ℕ). conn_at (id_of from) (id_of to) i) e

life_is : (from to : ℕ) (done : List Command) (k : LinkEnd) → k.tail.sent ≡ items_on from to done → (stands k).life ≡ lives from to done
life_is from to done k sent = ap (λ (xs : List LinkItem). (fold goes never_open xs).life) sent ∙ life_after from to done

-- one item more, and the same that the line puts there
one_more : (from to : ℕ) (done : List Command) (command : Command) (sent : List LinkItem) (x y : LinkItem) (b : Bool) → sent ≡ items_on from to done → x ≡ y → b ≡ true → item_by from to done command ≡ (if b then y ∷ [] else []) → sent ++ x ∷ [] ≡ items_on from to (done ++ command ∷ [])
one_more from to done command sent x y b was same is_so is =
    ap (λ (xs : List LinkItem). xs ++ x ∷ []) was
    ∙ ap (λ (z : LinkItem). items_on from to done ++ z ∷ []) same
    ∙ ap (λ (xs : List LinkItem). items_on from to done ++ xs) (sym (is ∙ ap (λ (c : Bool). if c then y ∷ [] else []) is_so))
    ∙ sym (items_more from to done command)

no_item : (b : Bool) (x : LinkItem) → b ≡ false → (if b then x ∷ [] else []) ≡ []
no_item b x not_so = ap (λ (c : Bool). if c then x ∷ [] else []) not_so

pub opens_line : (from to : ℕ) (done : List Command) → IsLineOn Open from to done (script.Open from to)
opens_line from to done = record {
  here = λ k f t sent. one_more from to done (script.Open from to) k.tail.sent _ (item.Opened (conn_at (id_of from) (id_of to) (lives from to done + 1))) (is_link from to from to) sent (ap item.Opened (same_conn from to k ((stands k).life + 1) (lives from to done + 1) f t (ap (λ (n : ℕ). n + 1) (life_is from to done k sent)))) (same_link from to) refl;
  other = λ f t not_so. no_item (is_link f t from to) (item.Opened (conn_at (id_of f) (id_of t) (lives f t done + 1))) not_so;
  untold = λ node. refl;
}

pub closes_line : (from to : ℕ) (done : List Command) → IsLineOn Close from to done (script.Close from to)
closes_line from to done = record {
  here = λ k f t sent. one_more from to done (script.Close from to) k.tail.sent _ (item.Closed (conn_at (id_of from) (id_of to) (lives from to done))) (is_link from to from to) sent (ap item.Closed (same_conn from to k (stands k).life (lives from to done) f t (life_is from to done k sent))) (same_link from to) refl;
  other = λ f t not_so. no_item (is_link f t from to) (item.Closed (conn_at (id_of f) (id_of t) (lives f t done))) not_so;
  untold = λ node. refl;
}

pub sends_line : (from to : ℕ) (bytes : List ℕ) (done : List Command) → IsLineOn (Send bytes) from to done (script.Send from to bytes)
sends_line from to bytes done = record {
  here = λ k f t sent. one_more from to done (script.Send from to bytes) k.tail.sent _ (item.Bytes (conn_at (id_of from) (id_of to) (lives from to done)) bytes) (is_link from to from to) sent (ap (λ c. item.Bytes c bytes) (same_conn from to k (stands k).life (lives from to done) f t (life_is from to done k sent))) (same_link from to) refl;
  other = λ f t not_so. no_item (is_link f t from to) (item.Bytes (conn_at (id_of f) (id_of t) (lives f t done)) bytes) not_so;
  untold = λ node. refl;
}

-- ---- all nodes

acts_on_runs : (commands : List Command) (old new : List Node) (from to : ℕ) (a : Act) → ActsOn old from to a new → AllRunSoFar commands old → AllRunSoFar commands new
acts_on_runs commands old new from to a t all =
    let P = λ (i : ℕ) (node : Node). Runs (id_of (i + 1)) (set_at (i + 1) commands) (peers_of (node_count commands) (i + 1)) (capacities_in commands) node in
    let i = to - 1 in
    subst (Each P) (sym t.is) (each_set P P old i t.node t.after t.was (acts_runs (id_of (i + 1)) (set_at (i + 1) commands) (peers_of (node_count commands) (i + 1)) (capacities_in commands) a (link_of from to) t.node t.after t.acts) (λ j z apart p. p) all)

acts_on_count : (old new : List Node) (from to : ℕ) (a : Act) → ActsOn old from to a new → length new ≡ length old
acts_on_count old new from to a t = ap (λ (xs : List Node). length xs) t.is ∙ set_length old (to - 1) t.after

pub acts_run : (commands : List Command) (old new : List Node) (from to : ℕ) (a : Act) → ActsOn old from to a new → AllRun commands old → AllRun commands new
acts_run commands old new from to a t all = (acts_on_count old new from to a t ∙ all.0, acts_on_runs commands old new from to a t all.1)

acts_on_told : (done : List Command) (command : Command) (old new : List Node) (from to : ℕ) (a : Act) → IsLineOn a from to done command → ActsOn old from to a new → AreTold done old → AreTold (done ++ command ∷ []) new
acts_on_told done command old new from to a line t all =
    let P = λ (i : ℕ) (node : Node). node.local.sent ≡ commands_for (i + 1) done in
    let Q = λ (i : ℕ) (node : Node). node.local.sent ≡ commands_for (i + 1) (done ++ command ∷ []) in
    let same = λ (i : ℕ). sym (none_more (i + 1) done command (line.untold (i + 1))) in
    subst (Each Q) (sym t.is) (each_set P Q old (to - 1) t.node t.after t.was (λ p. ap (λ (n : Node). n.local.sent) t.acts.same ∙ p ∙ same (to - 1)) (λ i z apart p. p ∙ same i) all)

same_items : (f t : ℕ) (done : List Command) (command : Command) → item_by f t done command ≡ [] → items_on f t (done ++ command ∷ []) ≡ items_on f t done
same_items f t done command none = items_more f t done command ∙ ap (λ (xs : List LinkItem). items_on f t done ++ xs) none ∙ append-nil (items_on f t done)

-- the links of the node at which it was done
acts_there : (commands done : List Command) (command : Command) (from to : ℕ) (a : Act) (x y : Node) → 1 ≤ from → from ≤ node_count commands → 1 ≤ to → from ≢ to → IsLineOn a from to done command → ActsAt a (link_of from to) x y → Runs (id_of to) (set_at to commands) (peers_of (node_count commands) to) (capacities_in commands) x → AreDriven (driven_to commands to) (items_to to done) x.lanes.items → AreDriven (driven_to commands to) (items_to to (done ++ command ∷ [])) y.lanes.items
acts_there commands done command from to a x y one most some apart line acts r d =
    let place = link_of from to in
    let l = r.lanes place acts.lane acts.was (id_of from) (peer_there (node_count commands) from to one most some apart) in
    let peer : peer_at place to ≡ from = peer_of_place from to one some apart in
    acts_driven (driven_to commands to) (items_to to done) (items_to to (done ++ command ∷ [])) a place x y acts
    (λ i away. same_items (peer_at i to) to done command (line.other (peer_at i to) to (at_another i from to away)))
    (λ k is sent. line.here k (ap (λ (t : Tail). (tail_of t).from) (sym is) ∙ l.from) (ap (λ (t : Tail). (tail_of t).to) (sym is) ∙ l.to) (sent ∙ ap (λ (n : ℕ). items_on n to done) peer) ∙ ap (λ (n : ℕ). items_on n to (done ++ command ∷ [])) (sym peer))
    d

acts_on_sent : (commands done : List Command) (command : Command) (old new : List Node) (from to : ℕ) (a : Act) → AreTwoOf (node_count commands) from to → IsLineOn a from to done command → ActsOn old from to a new → AllRunSoFar commands old → AreItemsSent commands done old → AreItemsSent commands (done ++ command ∷ []) new
acts_on_sent commands done command old new from to a two line t runs all =
    let P = λ (i : ℕ) (node : Node). AreDriven (driven_to commands (i + 1)) (items_to (i + 1) done) node.lanes.items in
    let Q = λ (i : ℕ) (node : Node). AreDriven (driven_to commands (i + 1)) (items_to (i + 1) (done ++ command ∷ [])) node.lanes.items in
    let R = λ (n : ℕ). Runs (id_of n) (set_at n commands) (peers_of (node_count commands) n) (capacities_in commands) t.node in
    let at : to - 1 + 1 ≡ to = omega (arith, two.1.0) in
    subst (Each Q) (sym t.is) (each_set P Q old (to - 1) t.node t.after t.was
    (λ p. subst (λ (n : ℕ). AreDriven (driven_to commands n) (items_to n (done ++ command ∷ [])) t.after.lanes.items) (sym at)
    (acts_there commands done command from to a t.node t.after two.0.0 two.0.1 two.1.0 two.2 line t.acts (subst R at (runs (to - 1) t.node t.was)) (subst (λ (n : ℕ). AreDriven (driven_to commands n) (items_to n done) t.node.lanes.items) at p)))
    (λ i z apart p. same_driven (driven_to commands (i + 1)) (items_to (i + 1) done) (items_to (i + 1) (done ++ command ∷ [])) z.lanes.items (λ l. same_items (peer_at l (i + 1)) (i + 1) done command (line.other (peer_at l (i + 1)) (i + 1) (to_another (peer_at l (i + 1)) (i + 1) from to (λ e. apart (omega (arith, e)))))) p)
    all)

-- a line was done on its link
pub acts_done : (commands done : List Command) (command : Command) (old new : List Node) (from to : ℕ) (a : Act) → AreTwoOf (length old) from to → IsLineOn a from to done command → ActsOn old from to a new → HaveDone commands done old → HaveDone commands (done ++ command ∷ []) new
acts_done commands done command old new from to a two line t all =
    let among : AreTwoOf (node_count commands) from to = subst (λ (n : ℕ). AreTwoOf n from to) all.0 two in (
      acts_on_count old new from to a t ∙ all.0,
      record {
        run = acts_on_runs commands old new from to a t all.1.run;
        told = acts_on_told done command old new from to a line t all.1.told;
        sent = acts_on_sent commands done command old new from to a among line t all.1.run all.1.sent;
      },
    )

-- ---- nothing was done

pub unchanged_run : (commands : List Command) (old new : List Node) → AreUnchanged old new → AllRun commands old → AllRun commands new
unchanged_run commands old new u all = (u.count ∙ all.0, λ i y at. let was = u.each i y at in unchanged_runs (id_of (i + 1)) (set_at (i + 1) commands) (peers_of (node_count commands) (i + 1)) (capacities_in commands) was.0 y was.2 (all.1 i was.0 was.1))

pub all_unchanged : (nodes : List Node) → AreUnchanged nodes nodes
all_unchanged nodes = record { count = refl; each = λ i y at. (y, at, record { same = refl; lanes = refl }) }

twice_unchanged : (x y z : Node) → IsUnchanged x y → IsUnchanged y z → IsUnchanged x z
twice_unchanged x y z u v = record {
  same = v.same ∙ ap (λ (n : Node). record n { lanes = z.lanes }) u.same;
  lanes = v.lanes ∙ u.lanes;
}

-- nor to one of them more
pub one_more_unchanged : (old nodes : List Node) (i : ℕ) (y z : Node) → slice_get nodes i ≡ Some y → IsUnchanged y z → AreUnchanged old nodes → AreUnchanged old (slice_set nodes i z)
one_more_unchanged old nodes i y z was u all =
    let P = λ (j : ℕ) (w : Node). (x : Node) × (slice_get old j ≡ Some x) × IsUnchanged x w in
    record {
      count = set_length nodes i z ∙ all.count;
      each = each_set P P nodes i y z was (λ p. (p.0, p.1, twice_unchanged p.0 y z p.2 u)) (λ j w apart p. p) all.each;
    }

pub unchanged_done : (commands done : List Command) (old new : List Node) → AreUnchanged old new → HaveDone commands done old → HaveDone commands done new
unchanged_done commands done old new u all = (
  u.count ∙ all.0,
  record {
    run = (unchanged_run commands old new u (all.0, all.1.run)).1;
    told = λ i y at. let was = u.each i y at in ap (λ (n : Node). n.local.sent) was.2.same ∙ all.1.told i was.0 was.1;
    sent = λ i y at. let was = u.each i y at in subst (λ (xs : List Running). AreDriven (driven_to commands (i + 1)) (items_to (i + 1) done) xs) (sym was.2.lanes) (all.1.sent i was.0 was.1);
  },
)
