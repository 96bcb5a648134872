use Rattle.scp_theorem.specs.scp_wire.specs.declared.message.Message.TheVariants.{Envelope}
use Rattle.scp_workers.proofs.Outlets.{PutBelow}
use Rattle.scp_workers.proofs.handing.hand_to_all.Given as goal

abbrev pub invariant-loop-outlet : goal.invariant-loop-outlet
invariant-loop-outlet g l = PutBelow l.fn.outlets.items (Envelope (record { value = l.envelope })) l.outlet-index l.outlet-items
