-- A code of slot machines, from one of their drivers, by which proofs tell ledgers apart; nothing here need be believed.
use Rattle.std.specs.Prelude.{[]}
use Rattle.std.specs.Coded.{Coded}
use base.Fml.{ftrue}
use denote.RattleType.{RattleType}
use denote.Plain.{Nothing as nothing}
use denote.Exit.{unchanged}
use Rattle.scp_slot.specs.declared.machine.SlotMachine.{SlotMachine}
use Rattle.scp_slot.specs.contracts.machine.SlotMachine as machine

-- a type of these values with this code, as the logic has it
abbrev pub row_of : {D : Type 0} → Coded D → RattleType
row_of {D} c = record { Denot = D; mir = []; written = nothing.written; reaches = []; lives = []; own_val = λ x vs. ftrue; exit = λ k. unchanged; coded = c; shr_at = λ x. nothing.shr_at tt }

-- that of a machine's type, whose fields are private
abbrev pub machine_code : {D : Type 0} → Coded D → Coded (SlotMachine D)
machine_code c = (machine.the_row (row_of c)).coded
