use Rattle.std.proofs.Common.{rules, not}
use Rattle.std.proofs.lemmas.Fn.{filter_same}
use Rattle.scp_fetch.specs.Hashes.{same_conn}
use Rattle.scp_fetch.proofs.waiters.Waiters.leave.Goals as goal

pub returns : goal.returns
returns c = rw (← c.self.view_is) (filter_same _ (λ other. not (same_conn c.args.conn.now other)) _ (λ x b f call. search rules) _ _ c.retain.ensures.filtered)
