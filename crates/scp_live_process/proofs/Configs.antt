-- No step changes a node's configuration.
use Rattle.std.proofs.Common.{◌≡◌, ℕ, List, [], ◌∷◌, ◌∙◌, ap, ⊎_elim}
use Rattle.scp_stand_node.specs.scp_core.specs.declared.config.Config.{Config}
use Rattle.scp_stand_node.specs.scp_core.specs.declared.event.Event.{Event}
use Rattle.scp_stand_node.specs.scp_core.specs.declared.event.Event.TheVariants as event
use Rattle.scp_stand_node.specs.scp_core.specs.declared.event.Reply.{Reply}
use Rattle.scp_stand_node.specs.scp_core.specs.declared.event.Reply.TheVariants as reply
use Rattle.scp_stand_node.specs.scp_core.specs.History.{Exchange}
use Rattle.scp_stand_node.specs.scp_core.specs.Node.{Accepts, SendsOut, PendBrings, PendTakes}
use Rattle.scp_stand_node.specs.scp_core.specs.Kv.{NodeView, Moves, Step}
use Rattle.scp_stand_node.specs.scp_turn.specs.Kv.{Does}

abbrev config : NodeView → Config
config v = v.config

accepted : (v w : NodeView) (e : Event) → Accepts v e w → w.config ≡ v.config
accepted v w (event.Open l) p = ap config p.2.3
accepted v w (event.Send l bytes) p = ap config p.2.2
accepted v w (event.Close l) p = ap config p.2.2
accepted v w (event.Local command) p = ap config p.2
accepted v w (event.ReaderTake l) p = absurd p
accepted v w (event.ReaderPut l) p = absurd p
accepted v w event.PendTake p = absurd p
accepted v w event.PendPut p = absurd p
accepted v w event.SlotTake p = absurd p
accepted v w event.SlotPut p = absurd p
accepted v w event.ApplyTake p = absurd p
accepted v w (event.Drain l) p = absurd p

moved : (v w : NodeView) (e : Event) → Moves v e w → w.config ≡ v.config
moved v w (event.Open l) p = absurd p
moved v w (event.Send l bytes) p = absurd p
moved v w (event.Close l) p = absurd p
moved v w (event.Local command) p = absurd p
moved v w (event.ReaderTake l) p = ap config p.2.4
moved v w (event.ReaderPut l) p = ap config p.2.4
moved v w event.PendTake p = ⊎_elim (λ (b : PendBrings v w). ap config b.is) (λ (t : PendTakes v w). ap config t.is) p.1
moved v w event.PendPut p = ap config p.3
moved v w event.SlotTake p = ap config p.1.is
moved v w event.SlotPut p = ap config p.3
moved v w event.ApplyTake p = ap config p.is
moved v w (event.Drain l) p = absurd p

sent : (v w : NodeView) (e : Event) (bytes : List ℕ) → SendsOut v e bytes w → w.config ≡ v.config
sent v w (event.Open l) bytes p = absurd p
sent v w (event.Send l b) bytes p = absurd p
sent v w (event.Close l) bytes p = absurd p
sent v w (event.Local command) bytes p = absurd p
sent v w (event.ReaderTake l) bytes p = absurd p
sent v w (event.ReaderPut l) bytes p = absurd p
sent v w event.PendTake bytes p = absurd p
sent v w event.PendPut bytes p = absurd p
sent v w event.SlotTake bytes p = absurd p
sent v w event.SlotPut bytes p = absurd p
sent v w event.ApplyTake bytes p = absurd p
sent v w (event.Drain l) bytes p = ap config p.is

stepped : (v w : NodeView) (e : Event) (r : Reply) → Step v e r w → w.config ≡ v.config
stepped v w e reply.Failed s = ap config s.1
stepped v w e reply.NoLink s = ap config s.2
stepped v w e reply.AlreadyOpen s = ap config s.2
stepped v w e reply.LivesSpent s = ap config s.2
stepped v w e reply.NotOpen s = ap config s.2
stepped v w e reply.Full s = ap config s.2
stepped v w e reply.Accepted s = accepted v w e s.1
stepped v w e reply.Blocked s = ap config s.2
stepped v w e reply.Idle s = ap config s.2
stepped v w e reply.Moved s = moved v w e s.1
stepped v w e (reply.Sent bytes) s = sent v w e bytes s.1
stepped v w e reply.JournalFull s = s.0.keeps.config
stepped v w e reply.NoMemory s = s.0.keeps.config

pub steps_keep_the_config : (heard : List Exchange) (v w : NodeView) → Does v heard w → w.config ≡ v.config
steps_keep_the_config [] v w does = ap config does
steps_keep_the_config (x ∷ heard) v w does = steps_keep_the_config heard does.0 w does.2 ∙ stepped v does.0 x.0 x.1 does.1
