use Rattle.std.proofs.Common.{refl, ◌∙◌, ap}
use Rattle.scp_ballot_rules.specs.scp_envelope.specs.declared.statement.Envelope.{Envelope}
use Rattle.scp_ballot.specs.inside.Gives.{IsWorth}
use Rattle.scp_ballot.proofs.Emitting.{emits_none, emits_some}
use Rattle.scp_ballot_rules.proofs.Stepping.{refuted}
use Rattle.scp_ballot.proofs.machine.Machine.emit.Goals as goal

pub returns-then-not-is_worth-clause-emits : goal.returns-then-not-is_worth-clause-emits
returns-then-not-is_worth-clause-emits c =
    emits_none c.args.self.now c.in_ok-own.own c.in_ok-own.ensures.own (refuted (IsWorth c.args.self.now.emitted c.in_ok-own.own) c.is_worth.result c.is_worth.ensures c.if-not-is_worth.true)

pub returns-clause-emits : goal.returns-clause-emits
returns-clause-emits c =
    emits_some c.args.self.now c.in_ok-own.own c.in_ok-own.ensures.own _ c.in_ok-kept.kept c.in_ok-envelope.envelope refl (c.is_worth.ensures.0 c.if-not-is_worth.false) c.in_ok-kept.ensures.same (ap (λ (e : Envelope). e.statement) c.in_ok-envelope.ensures.same ∙ c.unsigned.ensures.statement) (ap (λ (e : Envelope). e.signature) c.in_ok-envelope.ensures.same ∙ c.unsigned.ensures.unsigned)
