use Rattle.scp_types.proofs.Words.{by_four}
use Rattle.scp_types.proofs.bytes.same_32.Goals as goal

pub returns : goal.returns
returns c = by_four c.args.a.now c.args.b.now c.same_word.result c.same_word-2.result c.same_word-3.result c.same_word-4.result c.told-a c.told-b c.same_word.ensures c.same_word-2.ensures c.same_word-3.ensures c.same_word-4.ensures
