use Rattle.scp_again.proofs.All.{never_back, late_never_back}
use Rattle.scp_again.proofs.laws.what_is_sent_once_more_never_goes_back.Goals as goal

pub returns-clause-made : goal.returns-clause-made
returns-clause-made g c = never_back g.D.Driver.says c.what_is_given_was_handed_out.ensures.empty c.what_is_given_was_handed_out.ensures.puts c.what_is_given_was_handed_out.ensures.gives

pub returns-clause-late : goal.returns-clause-late
returns-clause-late g c = late_never_back g.D.Driver.says c.what_is_given_was_handed_out.ensures.empty c.what_is_given_was_handed_out.ensures.puts c.what_is_given_was_handed_out.ensures.gives
