use Rattle.scp_live_head.proofs.Cuts.{some_cut, none_cut}
use Rattle.scp_live_head.proofs.words.mark_at.Goals as goal

pub returns-clause-found : goal.returns-clause-found
returns-clause-found c = some_cut c.args.mark c.args.bytes.now c.place_of.result c.place_of.ensures

pub returns-clause-none : goal.returns-clause-none
returns-clause-none c = none_cut c.args.mark c.args.bytes.now c.place_of.result c.place_of.ensures
