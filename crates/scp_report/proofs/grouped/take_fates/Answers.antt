use Rattle.std.specs.Ordering.{is_eq}
use Rattle.std.specs.BTreeMap.{get}
use Rattle.scp_core.specs.scp_types.specs.Order.{conn_cmp}
use Rattle.scp_report.proofs.Sorting.{taken_fates}
use Rattle.scp_report.proofs.grouped.take_fates.Goals as goal

pub returns-in-Some-clause-others : goal.returns-in-Some-clause-others
returns-in-Some-clause-others c = λ other. taken_fates (is_eq (conn_cmp c.args.conn other)) (get conn_cmp c.remove.new.self other) (get conn_cmp c.args.grouped.now other) (c.remove.ensures.updates.0 other)

pub returns-in-None-clause-others : goal.returns-in-None-clause-others
returns-in-None-clause-others c = λ other. taken_fates (is_eq (conn_cmp c.args.conn other)) (get conn_cmp c.remove.new.self other) (get conn_cmp c.args.grouped.now other) (c.remove.ensures.updates.0 other)
