use Rattle.std.proofs.Common.{sym, subst, false}
use Rattle.scp_slot.specs.declared.state.State.{State}
use Rattle.scp_slot.specs.Slot.{view_of, IsRunning, IsWorking, HoldsShort}
use Rattle.scp_slot.proofs.Taking.{begins_running}
use Rattle.scp_slot.proofs.Limiting.{begins_short}
use Rattle.scp_slot.proofs.machine.SlotMachine.new.Goals as goal

pub returns-clause-running : goal.returns-clause-running
returns-clause-running g c = subst (λ (s : State _). IsRunning (view_of s false)) (sym c.in_ok-boxed.ensures.ok) (begins_running c.args.me c.args.slot.0 c.args.set.value _ c.in_ok-state.ensures.begins)

pub returns-clause-sound : goal.returns-clause-sound
returns-clause-sound g c e =
    subst (λ (s : State _). IsWorking g.D.Driver.says.level g.D.Driver.says.place s × HoldsShort (view_of s false)) (sym c.in_ok-boxed.ensures.ok)
    (record { running = begins_running c.args.me c.args.slot.0 c.args.set.value _ c.in_ok-state.ensures.begins; nominator = c.in_ok-state.ensures.sound }, begins_short c.args.me c.args.slot.0 c.args.set.value _ c.in_ok-state.ensures.begins c.in_ok-state.ensures.blank)
