use Rattle.scp_threaded_node.proofs.Given.{unchanged_given}
use Rattle.scp_threaded_node.proofs.Staying.{unchanged_runs}
use Rattle.scp_threaded_node.proofs.acting.flush.Goals as goal

pub returns-clause-runs : goal.returns-clause-runs
returns-clause-runs g c = λ me set peers caps r. unchanged_runs me set peers caps c.args.node.now c.flush_all.new.node c.flush_all.ensures r

pub returns-clause-given : goal.returns-clause-given
returns-clause-given g c = unchanged_given c.args.node.now c.flush_all.new.node c.flush_all.ensures
