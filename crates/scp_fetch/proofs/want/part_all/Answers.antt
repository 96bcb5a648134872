use Rattle.std.proofs.Common.{rules, refl}
use Rattle.scp_fetch.specs.Wants.{waits_besides, leave}
use Rattle.scp_fetch.proofs.Tables.{walked_all, under_walked}
use Rattle.scp_fetch.proofs.want.part_all.Goals as goal

pub returns-clause-left : goal.returns-clause-left
returns-clause-left c = walked_all _ (waits_besides c.args.conn.now) (leave c.args.conn.now) _ (λ k v b w h call. search rules) _ _ c.retain.ensures.filtered

pub returns-clause-under : goal.returns-clause-under
returns-clause-under c = under_walked _ (waits_besides c.args.conn.now) (leave c.args.conn.now) _ (λ k v b w h call. search rules) (λ w. refl) _ _ c.retain.ensures.filtered c.requires.under
