use Rattle.std.proofs.Common.{◌∙◌, ap, Option, string_bytes, subst}
use Rattle.scp_turn.specs.scp_driver.specs.declared.kv_driver.KvDriver.{KvDriver}
use Rattle.scp_turn.specs.scp_slot.specs.declared.machine.SlotMachine.{SlotMachine}
use Rattle.scp_turn.specs.scp_ledger.specs.Seen.{machine_at}
use Rattle.scp_turn.specs.scp_ledger.specs.Kv.{KvLedger}
use Rattle.scp_stand_slot.specs.Adding.{Adds}
use Rattle.scp_stand_node.specs.Links.{script_of}
use Rattle.scp_stand_node.specs.Slots.{IsToldOf}
use Rattle.scp_stand_node.proofs.slots.write_its_machine.Goals as goal

pub returns-clause-added : goal.returns-clause-added
returns-clause-added c =
    let seen = c.args.seen in
    subst (λ (machine : Option (SlotMachine KvDriver)). Adds (string_bytes c.args.out.now) (string_bytes c.write_machine_of.new.out) (IsToldOf seen.names.now seen.node.now.config.me c.args.members.now c.args.slot seen.node.now.ledger.journal (script_of seen.lines) machine))
    (c.machine-machine.ensures ∙ ap (λ (ledger : KvLedger). machine_at ledger.machines c.args.slot) (c.ledger.ensures c.requires.runs))
    c.in_ok-write_machine_of.ensures.added
