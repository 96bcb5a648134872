use Rattle.std.specs.Ordering.{is_eq}
use Rattle.std.specs.BTreeMap.{get}
use Rattle.scp_core.specs.scp_types.specs.Order.{conn_cmp}
use Rattle.scp_report.proofs.Sorting.{put_in}
use Rattle.scp_report.proofs.grouped.put_fates.Goals as goal

pub returns : goal.returns
returns c = λ other. put_in (is_eq (conn_cmp c.args.conn other)) c.args.fates (get conn_cmp c.insert.new.self other) (get conn_cmp c.args.grouped.now other) (c.in_ok-insert.ensures.updates.0 other)
