use Rattle.std.proofs.Common.{◌≡◌, ◌++◌, rules}
use Rattle.std.specs.Prelude.{option_to_list}
use Rattle.scp_pending.specs.Rules.{PendingView}
use Rattle.scp_pending.proofs.Passing.{settled_just, none_as}
use Rattle.scp_pending.proofs.pending.Pending.next_ready.Goals as goal

pub returns-clause-settled : goal.returns-clause-settled
returns-clause-settled c =
    let v : PendingView = record c.self.inside.parking { failed = c.self.inside.failed } in
    let e : v.leaving ≡ option_to_list c.next.result ++ c.next.new.leaving.items = search rules in
    rw (← c.self.view_is) (λ me peers taken given p. settled_just me peers taken given v c.next.result c.next.new.leaving.items e (none_as c.next.result v.leaving _ c.next.new.leaving.items e c.next.ensures.items c.next.ensures.none) p)
