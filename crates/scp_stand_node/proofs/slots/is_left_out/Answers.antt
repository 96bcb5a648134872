use Rattle.std.proofs.Common.{◌∙◌, sym}
use Rattle.scp_stand_slot.specs.Machine.{IsBlankMachine}
use Rattle.scp_stand_node.specs.Links.{script_of}
use Rattle.scp_stand_node.specs.Slots.{is_begun}
use Rattle.scp_stand_node.proofs.Whole.{left_out, told_of}
use Rattle.scp_stand_node.proofs.slots.is_left_out.Goals as goal

pub returns : goal.returns
returns c = left_out c.is_blank.result (IsBlankMachine c.args.machine.now) (is_begun c.args.node.now.config.me c.args.slot c.args.node.now.ledger.journal (script_of c.args.lines)) (sym c.has_begun.ensures ∙ c.if-has_begun.false) c.is_blank.ensures

pub returns-then-has_begun : goal.returns-then-has_begun
returns-then-has_begun c = told_of (IsBlankMachine c.args.machine.now) (is_begun c.args.node.now.config.me c.args.slot c.args.node.now.ledger.journal (script_of c.args.lines)) (sym c.has_begun.ensures ∙ c.if-has_begun.true)
