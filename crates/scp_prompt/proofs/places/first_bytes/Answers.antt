use Rattle.std.proofs.Common.{sym, arith}
use Rattle.std.proofs.lemmas.List.{length-take-le}
use Rattle.scp_prompt.proofs.places.first_bytes.Goals as goal

pub slice_bounds-result-end : goal.slice_bounds-result-end
slice_bounds-result-end c = sym (length-take-le 40 c.args.word.now (let more = c.if-word-gt-SHOWN_LIMIT.true in omega (arith, more)))
