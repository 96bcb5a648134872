use Rattle.scp_epoch.proofs.Playing.{plays_event}
use Rattle.scp_epoch.proofs.carrying.play_one.Goals as goal

pub returns-clause-played : goal.returns-clause-played
returns-clause-played g c = plays_event g.A.Driver.says c.args.event c.in_ok-play.field-0 c.args.node.now c.play.new.node c.in_ok-play.ensures.episode
