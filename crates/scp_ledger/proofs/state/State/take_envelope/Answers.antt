use Rattle.std.specs.Prelude.{Option, Some, false}
use Rattle.scp_slot.specs.declared.output.SlotInput.TheVariants as input
use Rattle.scp_ledger.specs.declared.state.Entering.{Entering}
use Rattle.scp_ledger.specs.inside.State.{state_view}
use Rattle.scp_ledger.specs.Takes.{TakesEnvelope}
use Rattle.scp_ledger.proofs.Outcomes.{if_ok, RanAs, envelope_took}
use Rattle.scp_ledger.proofs.state.State.take_envelope.Goals as goal

pub returns-clause-takes : goal.returns-clause-takes
returns-clause-takes g c =
    let s = c.args.self.now in
    let t = c.take_input.new.self in
    let e = c.args.envelope in
    let at = c.slot_of-slot.result in
    let x = c.in_ok-share.field-0 in
    let shared = c.in_ok-try_clone.field-0 in
    let entering : Option Entering = Some (record { conn = c.args.conn; seq = c.args.seq; envelope = e; set = c.args.set }) in
    if_ok c.take_input.result
    (λ took. RanAs g.D.Driver.says.level g.D.Driver.says.extracted g.D.Driver.says.combined g.D.Driver.says.place s t at (input.Envelope x shared) entering took)
    (λ took. TakesEnvelope g.D.Driver.says.level g.D.Driver.says.extracted g.D.Driver.says.combined g.D.Driver.says.place (state_view false s) c.args.conn c.args.seq e (Some c.args.set.value) took (state_view false t))
    (λ took ran. envelope_took g.D.Driver.says.level g.D.Driver.says.extracted g.D.Driver.says.combined g.D.Driver.says.place s t c.args.conn c.args.seq e c.args.set shared took at x c.requires.sound.machines c.slot_of-slot.ensures c.in_ok-share.ensures.same c.in_ok-try_clone.ensures ran)
    c.take_input.ensures.ran
