-- That the ledger of a node runs, where the node does.
use Rattle.std.proofs.Common.{◌≡◌, ℕ, true, false, List, [], ◌∷◌, refl, sym, ◌∙◌, subst, ⊎_elim}
use Rattle.scp_stand_node.specs.scp_core.specs.declared.event.Event.{Event}
use Rattle.scp_stand_node.specs.scp_core.specs.declared.event.Event.TheVariants as event
use Rattle.scp_stand_node.specs.scp_core.specs.declared.event.Reply.{Reply}
use Rattle.scp_stand_node.specs.scp_core.specs.declared.event.Reply.TheVariants as reply
use Rattle.scp_stand_node.specs.scp_core.specs.History.{Exchange}
use Rattle.scp_stand_node.specs.scp_core.specs.Node.{Accepts, SendsOut, PendBrings, PendTakes}
use Rattle.scp_stand_node.specs.scp_core.specs.Kv.{NodeView, Moves, Step}
use Rattle.scp_stand_node.specs.scp_turn.specs.Kv.{Does}
use Rattle.scp_stand_node.specs.Stand.{IsSeen}
use Rattle.scp_live.specs.Living.{IsLive}

-- where the node runs, its ledger does
abbrev Sound : NodeView → Type 0
Sound v = v.failed ≡ false → IsSeen v

by : (v w made : NodeView) → w ≡ made → made.failed ≡ v.failed → (IsSeen v → IsSeen made) → Sound v → Sound w
by v w made is failed on sound = subst (λ (x : NodeView). Sound x) (sym is) (λ runs. on (sound (sym failed ∙ runs)))

none : (w : NodeView) → w.failed ≡ true → Sound w
none w failed runs = absurd (let no : true ≡ false = sym failed ∙ runs in cc)

accepted : (v w : NodeView) (e : Event) → Accepts v e w → Sound v → Sound w
accepted v w (event.Open l) p s = by v w _ p.2.3 refl (λ q. record { runs = q.runs; ledger = q.ledger }) s
accepted v w (event.Send l bytes) p s = by v w _ p.2.2 refl (λ q. record { runs = q.runs; ledger = q.ledger }) s
accepted v w (event.Close l) p s = by v w _ p.2.2 refl (λ q. record { runs = q.runs; ledger = q.ledger }) s
accepted v w (event.Local command) p s = by v w _ p.2 refl (λ q. record { runs = q.runs; ledger = q.ledger }) s
accepted v w (event.ReaderTake l) p s = absurd p
accepted v w (event.ReaderPut l) p s = absurd p
accepted v w event.PendTake p s = absurd p
accepted v w event.PendPut p s = absurd p
accepted v w event.SlotTake p s = absurd p
accepted v w event.SlotPut p s = absurd p
accepted v w event.ApplyTake p s = absurd p
accepted v w (event.Drain l) p s = absurd p

moved : (v w : NodeView) (e : Event) → Moves v e w → Sound v → Sound w
moved v w (event.Open l) p s = absurd p
moved v w (event.Send l bytes) p s = absurd p
moved v w (event.Close l) p s = absurd p
moved v w (event.Local command) p s = absurd p
moved v w (event.ReaderTake l) p s = by v w _ p.2.4 refl (λ q. record { runs = q.runs; ledger = q.ledger }) s
moved v w (event.ReaderPut l) p s = by v w _ p.2.4 refl (λ q. record { runs = q.runs; ledger = q.ledger }) s
moved v w event.PendTake p s =
    ⊎_elim
    (λ (b : PendBrings v w). by v w _ b.is refl (λ q. record { runs = q.runs; ledger = q.ledger }) s)
    (λ (t : PendTakes v w). by v w _ t.is refl (λ q. record { runs = q.runs; ledger = q.ledger }) s)
    p.1
moved v w event.PendPut p s = by v w _ p.3 refl (λ q. record { runs = q.runs; ledger = q.ledger }) s
moved v w event.SlotTake p s = by v w _ p.1.is refl (λ q. record { runs = q.runs; ledger = p.1.running }) s
moved v w event.SlotPut p s = by v w _ p.3 refl (λ q. record { runs = q.runs; ledger = q.ledger }) s
moved v w event.ApplyTake p s = by v w _ p.is refl (λ q. record { runs = q.runs; ledger = q.ledger }) s
moved v w (event.Drain l) p s = absurd p

sent : (v w : NodeView) (e : Event) (bytes : List ℕ) → SendsOut v e bytes w → Sound v → Sound w
sent v w (event.Open l) bytes p s = absurd p
sent v w (event.Send l b) bytes p s = absurd p
sent v w (event.Close l) bytes p s = absurd p
sent v w (event.Local command) bytes p s = absurd p
sent v w (event.ReaderTake l) bytes p s = absurd p
sent v w (event.ReaderPut l) bytes p s = absurd p
sent v w event.PendTake bytes p s = absurd p
sent v w event.PendPut bytes p s = absurd p
sent v w event.SlotTake bytes p s = absurd p
sent v w event.SlotPut bytes p s = absurd p
sent v w event.ApplyTake bytes p s = absurd p
sent v w (event.Drain l) bytes p s = by v w _ p.is refl (λ q. record { runs = q.runs; ledger = q.ledger }) s

same : (v w : NodeView) → w ≡ v → Sound v → Sound w
same v w is s = subst (λ (x : NodeView). Sound x) (sym is) s

stepped : (v w : NodeView) (e : Event) (r : Reply) → Step v e r w → Sound v → Sound w
stepped v w e reply.Failed p s = same v w p.1 s
stepped v w e reply.NoLink p s = same v w p.2 s
stepped v w e reply.AlreadyOpen p s = same v w p.2 s
stepped v w e reply.LivesSpent p s = same v w p.2 s
stepped v w e reply.NotOpen p s = same v w p.2 s
stepped v w e reply.Full p s = same v w p.2 s
stepped v w e reply.Accepted p s = accepted v w e p.1 s
stepped v w e reply.Blocked p s = same v w p.2 s
stepped v w e reply.Idle p s = same v w p.2 s
stepped v w e reply.Moved p s = moved v w e p.1 s
stepped v w e (reply.Sent bytes) p s = sent v w e bytes p.1 s
stepped v w e reply.JournalFull p s = none w p.0.failed
stepped v w e reply.NoMemory p s = none w p.0.failed

steps : (heard : List Exchange) (v w : NodeView) → Does v heard w → Sound v → Sound w
steps [] v w does s = same v w does s
steps (x ∷ heard) v w does s = steps heard does.0 w does.2 (stepped v does.0 x.0 x.1 does.1 s)

-- a node as it begins
began : (v : NodeView) (live : IsLive v) → Sound live.start
began v live runs = subst (λ (x : NodeView). IsSeen x) (sym (live.begins.now runs)) (record { runs = live.begins.flows.runs; ledger = live.begins.flows.journal.running })

pub live_seen : (v : NodeView) → IsLive v → IsSeen v
live_seen v live = steps live.past live.start v live.does (began v live) live.runs
