use Rattle.std.proofs.Common.{◌-◌, length, arith}
use Rattle.scp_types.proofs.Words.{by_last}
use Rattle.scp_types.proofs.bytes.same_bytes.Goals as goal

pub returns : goal.returns
returns c =
    let xs = c.args.a.now in
    by_last xs c.args.b.now c.same_word-2.result (length xs - 8) c.loop-at.at (omega (arith, c.if-a-b.false)) (omega (arith, c.if-a-lt8.false)) (omega (arith, c.loop-at-test.false)) c.loop-at.invariant c.same_word-2.ensures
