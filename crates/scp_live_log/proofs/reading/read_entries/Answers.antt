use Rattle.std.proofs.Common.{List, refl, sym, subst}
use Rattle.scp_live_log.specs.Log.{EntryView}
use Rattle.scp_live_log.proofs.Walking.{IsReading, reading_more, reading_end}
use Rattle.scp_live_log.proofs.reading.read_entries.Goals as goal

pub loop-entries-preserved : goal.loop-entries-preserved
loop-entries-preserved c =
    let ie = rw c.in-Some.is at c.in_ok-found.ensures.entry in
    let is = rw c.in-Some.is at c.in_ok-found.ensures.bytes in
    let chain = rw c.in-Some.is at c.in_ok-found.ensures.digest in
    subst (λ (l : List EntryView). IsReading c.args.before.0 c.args.bytes.now l c.in-Some.found.digest.0 c.behind-rest.result.now) (sym c.in_ok-push.ensures.items)
    (reading_more c.args.before.0 c.args.bytes.now c.loop-entries.entries.items c.loop-entries.last.0 c.loop-entries.rest.now c.in-Some.found.begins c.in-Some.found.entry c.behind-rest.result.now c.in-Some.found.digest.0 _ ie is chain c.behind-rest.ensures c.loop-entries.invariant)

pub returns-clause-front : goal.returns-clause-front
returns-clause-front c =
    let none = rw c.in_default.is at c.in_ok-found.ensures.none in
    reading_end c.args.before.0 c.args.bytes.now c.loop-entries.entries.items c.loop-entries.last.0 c.loop-entries.rest.now _ refl none c.loop-entries.invariant
