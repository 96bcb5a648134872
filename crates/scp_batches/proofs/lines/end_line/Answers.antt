use Rattle.std.proofs.Common.{ℕ, Vec, Global, sym, subst}
use Rattle.scp_live_log.specs.Log.{IsLine}
use Rattle.scp_batches.proofs.Splitting.{held_more}
use Rattle.scp_batches.proofs.lines.end_line.Goals as goal

pub new-requires-2 : goal.new-requires-2
new-requires-2 c =
    let h = held_more c.args.held.now.items c.args.bytes.now c.add.new.front.items c.requires.held.line c.requires.line c.in_ok-add.ensures.ok in
    subst (λ (v : Vec ℕ Global). IsLine v.items) (sym c.replace-front.ensures.value) h.line
