use Rattle.scp_wire.proofs.Fits.{names, set, short_record, short_envelope, spelt}
use Rattle.scp_wire.proofs.laws.what_fits_a_link.Goals as goal

pub returns-clause-names : goal.returns-clause-names
returns-clause-names c = names

pub returns-clause-set : goal.returns-clause-set
returns-clause-set c = set

pub returns-clause-value : goal.returns-clause-value
returns-clause-value c = short_record

pub returns-clause-envelope : goal.returns-clause-envelope
returns-clause-envelope c = short_envelope

pub returns-clause-spelt : goal.returns-clause-spelt
returns-clause-spelt c = spelt
