-- What a line's event is answered with: it is taken, or its queue is full.
use Rattle.std.proofs.Common.{◌≡◌, ◌≢◌, ◌<◌, ◌≤◌, ◌-◌, ℕ, Bool, true, false, List, [], Option, Some, None, length, refl, sym, ◌∙◌, ap, subst, arith}
use Rattle.std.specs.Prelude.{slice_get, IsSome}
use Rattle.scp_turn.specs.scp_core.specs.declared.event.Event.{Event}
use Rattle.scp_turn.specs.scp_core.specs.declared.event.Event.TheVariants as event
use Rattle.scp_turn.specs.scp_core.specs.declared.event.Reply.{Reply}
use Rattle.scp_turn.specs.scp_core.specs.declared.event.Reply.TheVariants.{Failed, NoLink, AlreadyOpen, LivesSpent, NotOpen, Full, Accepted, Blocked, Idle, Moved, Sent, JournalFull, NoMemory}
use Rattle.scp_turn.specs.scp_core.specs.Node.{LinkView, HasLink, is_full}
use Rattle.scp_turn.specs.scp_core.specs.Kv.{NodeView, Step}
use Rattle.scp_turn.specs.scp_wire.specs.Shape.{Tail}
use Rattle.scp_turn.specs.scp_wire.specs.declared.link.Command.{Command as Local}
use Rattle.scp_turn.specs.Heard.{Nodes}
use Rattle.scp_turn.specs.Rounds.{link_of}
use Rattle.scp_report.specs.scp_script.specs.declared.command.Command.{Command}
use Rattle.scp_report.specs.scp_script.specs.declared.command.Command.TheVariants as script
use Rattle.scp_report.specs.scp_script.specs.Script.{node_count, is_open, lives, IsNode, IsLink, Admits, AreAdmitted}
use Rattle.scp_line.specs.Play.{HasNoRoom, event_by}
use Rattle.scp_line.proofs.Places.{of_map}
use Rattle.scp_line.specs.Links.{AreLinked, tail_at, tail_said}
use Rattle.scp_report.specs.scp_script.proofs.Admitted.{open_is_link}

-- ---- one node

-- a line's event is taken, or there is no room for it
abbrev pub IsTaken : Reply → Type 0
IsTaken Failed = ⊥
IsTaken NoLink = ⊥
IsTaken AlreadyOpen = ⊥
IsTaken LivesSpent = ⊥
IsTaken NotOpen = ⊥
IsTaken Full = Unit {0}
IsTaken Accepted = Unit {0}
IsTaken Blocked = ⊥
IsTaken Idle = ⊥
IsTaken Moved = ⊥
IsTaken (Sent bytes) = ⊥
IsTaken JournalFull = ⊥
IsTaken NoMemory = ⊥

pub neither : (reply : Reply) → IsTaken reply → reply ≢ Accepted → reply ≢ Full → ⊥
neither Failed is a f = is
neither NoLink is a f = is
neither AlreadyOpen is a f = is
neither LivesSpent is a f = is
neither NotOpen is a f = is
neither Full is a f = f refl
neither Accepted is a f = a refl
neither Blocked is a f = is
neither Idle is a f = is
neither Moved is a f = is
neither (Sent bytes) is a f = is
neither JournalFull is a f = is
neither NoMemory is a f = is

runs_not : (b : Bool) (P : Type 0) → b ≡ true → b ≡ false → P
runs_not true P t f = absurd cc
runs_not false P t f = absurd cc

isnt : (a b : LinkView) (o : Option LinkView) (x y : Bool) → o ≡ Some a → o ≡ Some b → a.is_open ≡ x → b.is_open ≡ y → x ≡ y
isnt a b o x y p q r s =
    let same : a ≡ b = cc (p, q) in
    sym r ∙ ap (λ (k : LinkView). k.is_open) same ∙ s

open_says : (v w : NodeView) (l : ℕ) (k : LinkView) → v.failed ≡ false → slice_get v.links l ≡ Some k → k.is_open ≡ false → k.life < 65535 → (reply : Reply) → Step v (event.Open l) reply w → IsTaken reply
open_says v w l k run at closed few Failed s = runs_not v.failed (IsTaken Failed) s.0 run
open_says v w l k run at closed few NoLink s = cc (at, s.1)
open_says v w l k run at closed few AlreadyOpen s = let e : false ≡ true = isnt k s.1.0 (slice_get v.links l) false true at s.1.1 closed s.1.2 in absurd cc
open_says v w l k run at closed few LivesSpent s =
    let same : k ≡ s.1.0 = cc (at, s.1.1) in
    let life : k.life ≡ 65535 = ap (λ (x : LinkView). x.life) same ∙ s.1.2.1 in
    absurd (omega (arith, life, few))
open_says v w l k run at closed few NotOpen s = absurd s.1
open_says v w l k run at closed few Full s = tt
open_says v w l k run at closed few Accepted s = tt
open_says v w l k run at closed few Blocked s = absurd s.1
open_says v w l k run at closed few Idle s = absurd s.1
open_says v w l k run at closed few Moved s = absurd s.1
open_says v w l k run at closed few (Sent sent) s = absurd s.1
open_says v w l k run at closed few JournalFull s = absurd s.1
open_says v w l k run at closed few NoMemory s = absurd s.1

send_says : (v w : NodeView) (l : ℕ) (bytes : List ℕ) (k : LinkView) → v.failed ≡ false → slice_get v.links l ≡ Some k → k.is_open ≡ true → (reply : Reply) → Step v (event.Send l bytes) reply w → IsTaken reply
send_says v w l bytes k run at opened Failed s = runs_not v.failed (IsTaken Failed) s.0 run
send_says v w l bytes k run at opened NoLink s = cc (at, s.1)
send_says v w l bytes k run at opened AlreadyOpen s = absurd s.1
send_says v w l bytes k run at opened LivesSpent s = absurd s.1
send_says v w l bytes k run at opened NotOpen s = let e : true ≡ false = isnt k s.1.0 (slice_get v.links l) true false at s.1.1 opened s.1.2 in absurd cc
send_says v w l bytes k run at opened Full s = tt
send_says v w l bytes k run at opened Accepted s = tt
send_says v w l bytes k run at opened Blocked s = absurd s.1
send_says v w l bytes k run at opened Idle s = absurd s.1
send_says v w l bytes k run at opened Moved s = absurd s.1
send_says v w l bytes k run at opened (Sent sent) s = absurd s.1
send_says v w l bytes k run at opened JournalFull s = absurd s.1
send_says v w l bytes k run at opened NoMemory s = absurd s.1

close_says : (v w : NodeView) (l : ℕ) (k : LinkView) → v.failed ≡ false → slice_get v.links l ≡ Some k → k.is_open ≡ true → (reply : Reply) → Step v (event.Close l) reply w → IsTaken reply
close_says v w l k run at opened Failed s = runs_not v.failed (IsTaken Failed) s.0 run
close_says v w l k run at opened NoLink s = cc (at, s.1)
close_says v w l k run at opened AlreadyOpen s = absurd s.1
close_says v w l k run at opened LivesSpent s = absurd s.1
close_says v w l k run at opened NotOpen s = let e : true ≡ false = isnt k s.1.0 (slice_get v.links l) true false at s.1.1 opened s.1.2 in absurd cc
close_says v w l k run at opened Full s = tt
close_says v w l k run at opened Accepted s = tt
close_says v w l k run at opened Blocked s = absurd s.1
close_says v w l k run at opened Idle s = absurd s.1
close_says v w l k run at opened Moved s = absurd s.1
close_says v w l k run at opened (Sent sent) s = absurd s.1
close_says v w l k run at opened JournalFull s = absurd s.1
close_says v w l k run at opened NoMemory s = absurd s.1

local_says : (v w : NodeView) (c : Local) → v.failed ≡ false → HasLink v c → (reply : Reply) → Step v (event.Local c) reply w → IsTaken reply
local_says v w c run has Failed s = runs_not v.failed (IsTaken Failed) s.0 run
local_says v w c run has NoLink s = absurd (s.1 has)
local_says v w c run has AlreadyOpen s = absurd s.1
local_says v w c run has LivesSpent s = absurd s.1
local_says v w c run has NotOpen s = absurd s.1
local_says v w c run has Full s = tt
local_says v w c run has Accepted s = tt
local_says v w c run has Blocked s = absurd s.1
local_says v w c run has Idle s = absurd s.1
local_says v w c run has Moved s = absurd s.1
local_says v w c run has (Sent sent) s = absurd s.1
local_says v w c run has JournalFull s = absurd s.1
local_says v w c run has NoMemory s = absurd s.1

-- a node's event will be taken where there is room
abbrev pub IsReady : NodeView → Event → Type 0
IsReady v (event.Open l) = (k : LinkView) × (slice_get v.links l ≡ Some k) × (k.is_open ≡ false) × (k.life < 65535)
IsReady v (event.Send l bytes) = (k : LinkView) × (slice_get v.links l ≡ Some k) × (k.is_open ≡ true)
IsReady v (event.Close l) = (k : LinkView) × (slice_get v.links l ≡ Some k) × (k.is_open ≡ true)
IsReady v (event.Local command) = HasLink v command
IsReady v (event.ReaderTake l) = ⊥
IsReady v (event.ReaderPut l) = ⊥
IsReady v event.PendTake = ⊥
IsReady v event.PendPut = ⊥
IsReady v event.SlotTake = ⊥
IsReady v event.SlotPut = ⊥
IsReady v event.ApplyTake = ⊥
IsReady v (event.Drain l) = ⊥

pub ready_says : (v w : NodeView) (e : Event) (reply : Reply) → v.failed ≡ false → IsReady v e → Step v e reply w → IsTaken reply
ready_says v w (event.Open l) reply run r s = open_says v w l r.0 run r.1 r.2 r.3 reply s
ready_says v w (event.Send l bytes) reply run r s = send_says v w l bytes r.0 run r.1 r.2 reply s
ready_says v w (event.Close l) reply run r s = close_says v w l r.0 run r.1 r.2 reply s
ready_says v w (event.Local command) reply run r s = local_says v w command run r reply s
ready_says v w (event.ReaderTake l) reply run r s = absurd r
ready_says v w (event.ReaderPut l) reply run r s = absurd r
ready_says v w event.PendTake reply run r s = absurd r
ready_says v w event.PendPut reply run r s = absurd r
ready_says v w event.SlotTake reply run r s = absurd r
ready_says v w event.SlotPut reply run r s = absurd r
ready_says v w event.ApplyTake reply run r s = absurd r
ready_says v w (event.Drain l) reply run r s = absurd r

-- the queue that an event goes to is full
abbrev IsFullAt : NodeView → Event → Type 0
IsFullAt v (event.Open l) = (k : LinkView) × (slice_get v.links l ≡ Some k) × is_full k
IsFullAt v (event.Send l bytes) = (k : LinkView) × (slice_get v.links l ≡ Some k) × is_full k
IsFullAt v (event.Close l) = (k : LinkView) × (slice_get v.links l ≡ Some k) × is_full k
IsFullAt v (event.Local command) = length v.inbox ≡ v.inbox_room
IsFullAt v (event.ReaderTake l) = ⊥
IsFullAt v (event.ReaderPut l) = ⊥
IsFullAt v event.PendTake = ⊥
IsFullAt v event.PendPut = ⊥
IsFullAt v event.SlotTake = ⊥
IsFullAt v event.SlotPut = ⊥
IsFullAt v event.ApplyTake = ⊥
IsFullAt v (event.Drain l) = ⊥

full_before : (v w : NodeView) (e : Event) → Step v e Full w → IsFullAt v e
full_before v w (event.Open l) s = (s.1.0, s.1.1, s.1.2.2)
full_before v w (event.Send l bytes) s = (s.1.0, s.1.1, s.1.2.1)
full_before v w (event.Close l) s = (s.1.0, s.1.1, s.1.2.1)
full_before v w (event.Local command) s = s.1.1
full_before v w (event.ReaderTake l) s = absurd s.1
full_before v w (event.ReaderPut l) s = absurd s.1
full_before v w event.PendTake s = absurd s.1
full_before v w event.PendPut s = absurd s.1
full_before v w event.SlotTake s = absurd s.1
full_before v w event.SlotPut s = absurd s.1
full_before v w event.ApplyTake s = absurd s.1
full_before v w (event.Drain l) s = absurd s.1

full_at : (v w : NodeView) (e : Event) → Step v e Full w → IsFullAt w e
full_at v w e s = subst (λ (u : NodeView). IsFullAt u e) (sym s.2) (full_before v w e s)

-- ---- the node of a line

-- a line's event finds its node, and will be taken where there is room
abbrev pub IsReadyFor : Nodes → Option (ℕ × Event) → Type 0
IsReadyFor nodes None = Unit {0}
IsReadyFor nodes (Some offered) = (1 ≤ offered.0) × (offered.0 ≤ length nodes) × ((v : NodeView) → slice_get nodes (offered.0 - 1) ≡ Some v → IsReady v offered.1)

record LinkIs (v : NodeView) (from to : ℕ) (done : List Command) : Type 0 where
  pub k : LinkView
  pub at : slice_get v.links (link_of from to) ≡ Some k
  pub life : k.life ≡ lives from to done
  pub opened : k.is_open ≡ is_open from to done

link_is : (done : List Command) (nodes : Nodes) (from to : ℕ) → IsLink from to done → length nodes ≡ node_count done → AreLinked done nodes → (v : NodeView) → slice_get nodes (to - 1) ≡ Some v → LinkIs v from to done
link_is done nodes from to link count linked v at =
    let there = of_map tail_at v.links (link_of from to) (tail_said from to done) (linked from to link.0.0 (omega (arith, link.0.1, count)) link.1.0 (omega (arith, link.1.1, count)) link.2 v at) in
    record { k = there.0; at = there.1; life = ap (λ (t : Tail). t.life) there.2; opened = ap (λ (t : Tail). t.is_open) there.2 }

node_is : (done : List Command) (nodes : Nodes) (number : ℕ) → IsNode number done → (1 ≤ node_count done → length nodes ≡ node_count done) → (1 ≤ number) × (number ≤ length nodes)
node_is done nodes number is count = let same = count (omega (arith, is.0, is.1)) in (is.0, omega (arith, is.1, same))

pub ready_for : (done : List Command) (command : Command) (nodes : Nodes) → Admits done command → AreAdmitted [] done → (1 ≤ node_count done → length nodes ≡ node_count done) → AreLinked done nodes → IsReadyFor nodes (event_by command)
ready_for done (script.Caps capacities) nodes a all count linked = tt
ready_for done (script.Nodes n quorum) nodes a all count linked = tt
ready_for done (script.Set at set) nodes a all count linked = tt
ready_for done (script.Open from to) nodes a all count linked =
    let same = count (omega (arith, a.0.1.0, a.0.1.1)) in
    let node = node_is done nodes to a.0.1 count in
    (node.0, node.1, λ v at. let k = link_is done nodes from to a.0 same linked v at in (k.k, k.at, k.opened ∙ a.1, omega (arith, k.life, a.2)))
ready_for done (script.Close from to) nodes a all count linked =
    let link = open_is_link from to done all a in
    let same = count (omega (arith, link.1.0, link.1.1)) in
    let node = node_is done nodes to link.1 count in
    (node.0, node.1, λ v at. let k = link_is done nodes from to link same linked v at in (k.k, k.at, k.opened ∙ a))
ready_for done (script.Send from to bytes) nodes a all count linked =
    let link = open_is_link from to done all a in
    let same = count (omega (arith, link.1.0, link.1.1)) in
    let node = node_is done nodes to link.1 count in
    (node.0, node.1, λ v at. let k = link_is done nodes from to link same linked v at in (k.k, k.at, k.opened ∙ a))
ready_for done (script.Propose at slot value) nodes a all count linked = let node = node_is done nodes at a count in (node.0, node.1, λ v there. tt)
ready_for done (script.Round at slot) nodes a all count linked = let node = node_is done nodes at a count in (node.0, node.1, λ v there. tt)
ready_for done (script.Timer at slot) nodes a all count linked = let node = node_is done nodes at a count in (node.0, node.1, λ v there. tt)
ready_for done (script.Tick at) nodes a all count linked = let node = node_is done nodes at a count in (node.0, node.1, λ v there. tt)
ready_for done (script.Ask from to slot) nodes a all count linked =
    let same = count (omega (arith, a.1.0, a.1.1)) in
    let node = node_is done nodes from a.0 count in (
      node.0,
      node.1,
      λ v at.
          let k = link_is done nodes to from (a.1, a.0, λ (e : to ≡ from). a.2 (sym e)) same linked v at in
          subst (λ (o : Option LinkView). IsSome o) (sym k.at) refl,
    )
ready_for done script.Settle nodes a all count linked = tt
ready_for done (script.Wait at things) nodes a all count linked = tt
ready_for done (script.Report at) nodes a all count linked = tt

-- ---- a queue that is full

abbrev FindsNoRoom : Nodes → Option (ℕ × Event) → Type 0
FindsNoRoom nodes None = ⊥
FindsNoRoom nodes (Some offered) = (node : NodeView) × (slice_get nodes (offered.0 - 1) ≡ Some node) × IsFullAt node offered.1

finds_no_room : (nodes : Nodes) (command : Command) → FindsNoRoom nodes (event_by command) → HasNoRoom nodes command
finds_no_room nodes (script.Caps capacities) f = f
finds_no_room nodes (script.Nodes count quorum) f = f
finds_no_room nodes (script.Set at set) f = f
finds_no_room nodes (script.Open from to) f = (f.0, f.1, f.2.0, f.2.1, f.2.2)
finds_no_room nodes (script.Close from to) f = (f.0, f.1, f.2.0, f.2.1, f.2.2)
finds_no_room nodes (script.Send from to bytes) f = (f.0, f.1, f.2.0, f.2.1, f.2.2)
finds_no_room nodes (script.Propose at slot value) f = (f.0, f.1, f.2)
finds_no_room nodes (script.Round at slot) f = (f.0, f.1, f.2)
finds_no_room nodes (script.Timer at slot) f = (f.0, f.1, f.2)
finds_no_room nodes (script.Tick at) f = (f.0, f.1, f.2)
finds_no_room nodes (script.Ask from to slot) f = (f.0, f.1, f.2)
finds_no_room nodes script.Settle f = f
finds_no_room nodes (script.Wait at things) f = f
finds_no_room nodes (script.Report at) f = f

-- the node of a line's event answered `Full`
pub has_no_room : (nodes : Nodes) (command : Command) (number : ℕ) (e : Event) (v w : NodeView) → event_by command ≡ Some (number, e) → slice_get nodes (number - 1) ≡ Some w → Step v e Full w → HasNoRoom nodes command
has_no_room nodes command number e v w is at s = finds_no_room nodes command (subst (λ (o : Option (ℕ × Event)). FindsNoRoom nodes o) (sym is) (w, at, full_at v w e s))
