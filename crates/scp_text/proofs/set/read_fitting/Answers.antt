use Rattle.scp_text.proofs.Fitting.{fits_found}
use Rattle.scp_text.proofs.set.read_fitting.Goals as goal

pub returns-clause-fits : goal.returns-clause-fits
returns-clause-fits c = fits_found c.read_set.result c.args.text.now c.read_set.ensures.found
