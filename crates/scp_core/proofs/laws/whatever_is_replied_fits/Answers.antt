use Rattle.scp_core.proofs.Fitting.{replies_fit_always}
use Rattle.scp_core.proofs.laws.whatever_is_replied_fits.Goals as goal

pub returns : goal.returns
returns c = record { fits = replies_fit_always c.what_fits_a_link.ensures.names c.what_fits_a_link.ensures.set c.what_is_replied_was_asked_for.ensures.replies c.the_last_sets_are_stored.ensures.sets }
