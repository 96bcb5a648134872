use Rattle.std.proofs.Common.{subst}
use Rattle.scp_slot.specs.scp_envelope.specs.Kinds.{envelope_kind, envelope_value}
use Rattle.scp_slot.specs.scp_envelope.specs.Short.{IsShort}
use Rattle.scp_slot.specs.scp_envelope.specs.declared.statement.Envelope.{Envelope}
use Rattle.scp_slot.specs.scp_xdr.specs.Kind.{Fits}
use Rattle.scp_ledger.proofs.lists.to_each.Goals as goal

pub returns-clause-fits : goal.returns-clause-fits
returns-clause-fits c =
    let keeps : IsShort c.args.envelope → Fits envelope_kind (envelope_value c.args.envelope) = subst (λ (e : Envelope). IsShort e → Fits envelope_kind (envelope_value e)) c.get.ensures c.a_short_envelope_fits.ensures in
    c.what_fits_a_link.ensures.envelope (record { value = c.args.envelope }) (keeps c.requires.short) c.requires.short.lists
