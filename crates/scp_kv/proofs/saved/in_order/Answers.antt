use Rattle.std.proofs.lemmas.Result.{err_from_is_err_and}
use Rattle.scp_kv.proofs.Bytes.{built_more, fell}
use Rattle.scp_kv.proofs.saved.in_order.Goals as goal

pub loop-entry-preserved : goal.loop-entry-preserved
loop-entry-preserved c =
    built_more c.args.entries.items c.loop-entry.entries.items c.pop.new.self.items c.in-Some.entry c.loop-entry.state c.put_below.new.state c.in-Some.ensures.items
    c.in_ok-put_below.ensures.below c.in_ok-put_below.ensures.put c.loop-entry.invariant

pub returns-in_err-put_below : goal.returns-in_err-put_below
returns-in_err-put_below c =
    let p = err_from_is_err_and c.from_residual.result c.from_residual.ensures.1 in
    rw (p.1, p.2) (fell c.args.entries.items c.loop-entry.entries.items c.pop.new.self.items c.in-Some.entry c.loop-entry.state c.in_err-put_below.field-0.0 c.in-Some.ensures.items c.in_err-put_below.ensures.refused c.loop-entry.invariant)
