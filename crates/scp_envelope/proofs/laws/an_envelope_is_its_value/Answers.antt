use Rattle.scp_envelope.proofs.EnvelopeValues.{envelope_again, envelope_value_again}
use Rattle.scp_envelope.proofs.laws.an_envelope_is_its_value.Goals as goal

pub returns-clause-envelope : goal.returns-clause-envelope
returns-clause-envelope c = envelope_again

pub returns-clause-value : goal.returns-clause-value
returns-clause-value c = envelope_value_again
