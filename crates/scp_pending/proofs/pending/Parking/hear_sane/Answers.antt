use Rattle.std.proofs.Common.{rules, false}
use Rattle.scp_pending.specs.Rules.{PendingView}
use Rattle.scp_pending.proofs.Hearing.{answer_sane}
use Rattle.scp_pending.proofs.pending.Parking.hear_sane.Goals as goal

pub returns : goal.returns
returns c =
    let v : PendingView = record { failed = false; settled = record { me = c.self.inside.me; peers = c.self.inside.peers.items; store = c.self.inside.store; wanted = c.self.inside.fetcher; queues = c.self.inside.queues.items }; leaving = c.self.inside.leaving.items } in
    rw (← c.self.view_is, c.in_ok-resolve.ensures, c.in_ok-insert.ensures.stored) (answer_sane v c.args.sane c.in_ok-try_clone.field-0.value c.in_ok-shared.shared.value c.hash-hash.result (search rules) (search rules) (search rules) (search rules) (search rules))
