use Rattle.scp_live_folder.proofs.Switching.{finds_one_epoch}
use Rattle.scp_live_folder.proofs.laws.a_start_finds_one_epoch.Goals as goal

pub returns : goal.returns
returns c = finds_one_epoch
