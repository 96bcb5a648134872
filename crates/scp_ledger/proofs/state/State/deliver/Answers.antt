use Rattle.std.specs.Prelude.{Some, false}
use Rattle.scp_ledger.specs.inside.State.{state_view}
use Rattle.scp_ledger.specs.Takes.{TakesMessage, TakesEnvelope, TakesRecord}
use Rattle.scp_ledger.proofs.Outcomes.{if_ok, delivered_envelope, delivered_record}
use Rattle.scp_ledger.proofs.state.State.deliver.Goals as goal

pub returns-in-Some-clause-takes : goal.returns-in-Some-clause-takes
returns-in-Some-clause-takes g c =
    let v = state_view false c.args.self.now in
    let w = state_view false c.take_envelope.new.self in
    let d = c.args.delivery in
    let parts = c.into_parts-message.result in
    let are = c.into_parts-message.ensures in
    if_ok c.take_envelope.result
    (λ took. TakesEnvelope g.D.Driver.says.level g.D.Driver.says.extracted g.D.Driver.says.combined g.D.Driver.says.place v parts.0 parts.1 c.in-Envelope.envelope (Some c.in-Some.set.value) took w)
    (λ took. TakesMessage g.D.Driver.says.level g.D.Driver.says.extracted g.D.Driver.says.combined g.D.Driver.says.place v d.conn d.seq d.message d.set took w)
    (λ took t. delivered_envelope g.D.Driver.says.level g.D.Driver.says.extracted g.D.Driver.says.combined g.D.Driver.says.place v w took d.conn parts.0 d.seq parts.1 d.message parts.2 d.set parts.3 c.in-Envelope.envelope c.in-Some.set are.conn are.seq are.message c.in-Envelope.is are.set c.in-Some.is t)
    c.take_envelope.ensures.takes

pub returns-in-Record-clause-takes : goal.returns-in-Record-clause-takes
returns-in-Record-clause-takes g c =
    let v = state_view false c.args.self.now in
    let w = state_view false c.take_record.new.self in
    let d = c.args.delivery in
    let parts = c.into_parts-message.result in
    let are = c.into_parts-message.ensures in
    if_ok c.take_record.result
    (λ took. TakesRecord v parts.0 parts.1 c.in-Record.slot c.in-Record.value parts.3 took w)
    (λ took. TakesMessage g.D.Driver.says.level g.D.Driver.says.extracted g.D.Driver.says.combined g.D.Driver.says.place v d.conn d.seq d.message d.set took w)
    (λ took t. delivered_record g.D.Driver.says.level g.D.Driver.says.extracted g.D.Driver.says.combined g.D.Driver.says.place v w took d.conn parts.0 d.seq parts.1 d.message parts.2 d.set parts.3 c.in-Record.slot c.in-Record.value are.conn are.seq are.message c.in-Record.is are.set t)
    c.take_record.ensures.takes
