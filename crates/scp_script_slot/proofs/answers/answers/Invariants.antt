use Rattle.std.proofs.Common.{◌≡◌, string_bytes}
use Rattle.scp_slot.specs.Slot.{IsSound, slot_view, driver_of}
use Rattle.scp_script_slot.specs.Answers.{AreAnswers}
use Rattle.scp_script_slot.proofs.answers.answers.Given as goal

-- those that are done are answered
abbrev pub invariant-loop-input : goal.invariant-loop-input
invariant-loop-input g l = record {
  sound : IsSound g.D.Driver.says.level g.D.Driver.says.place l.machine;
  driver : driver_of l.machine ≡ driver_of l.initial.machine;
  answers : AreAnswers (g.D.Driver.says.level (driver_of l.initial.machine)) (g.D.Driver.says.combined (driver_of l.initial.machine)) l.yielded (slot_view l.initial.machine) (string_bytes l.out) (slot_view l.machine);
}
