use Rattle.scp_theorem.proofs.Going.{handed_may_go}
use Rattle.scp_theorem.proofs.grounds.what_is_handed_out_may_be_sent.Goals as goal

pub returns : goal.returns
returns g c = handed_may_go g.D.Driver.says c.what_is_replied_was_asked_for.ensures.replies c.who_it_is_stays.ensures.config c.nothing_is_of_a_stranger.ensures.links c.each_command_passes_once.ensures.commands c.what_ran_keeps_the_ledger.ensures
