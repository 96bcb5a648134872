use Rattle.scp_script.proofs.Tables.{nothing_known}
use Rattle.scp_script.proofs.links.Links.new.Goals as goal

pub returns : goal.returns
returns c = λ from to f t. nothing_known from to
