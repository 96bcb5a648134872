use Rattle.std.proofs.Common.{◌≡◌, ◌∙◌, min, length, take, refl, rules}
use Rattle.scp_live_log.proofs.Past.{elapses_to}
use Rattle.scp_live_log.proofs.Moments.{cut_at_once}
use Rattle.scp_live_log.proofs.memory.MemoryLogEventLog.cut.Goals as goal

pub returns-clause-time : goal.returns-clause-time
returns-clause-time c =
    let past = c.in_ok-put.ensures.past in
    elapses_to c.args.self.now.past.items c.put.new.past.items past.0 c.args.self.now.bytes.items c.put.new.bytes.items past.1 past.2

pub returns-clause-crash : goal.returns-clause-crash
returns-clause-crash c d left =
    let end : c.min-end.result ≡ min c.args.length (length c.args.self.now.bytes.items) = search rules in
    let next : c.in_ok-next.next.items ≡ take c.min-end.result c.args.self.now.bytes.items = search rules in
    (c.args.self.now.bytes.items, refl, cut_at_once c.args.self.now.bytes.items d c.args.length c.min-end.result end (left ∙ c.in_ok-put.ensures.ok ∙ next))
