use Rattle.std.specs.Fmt.{decimal}
use Rattle.hex.specs.Hex.{encode_lower}
use Rattle.std.proofs.lemmas.Result.{IfOk-weaker}
use Rattle.scp_live_head.proofs.Heads.{slot_word, word_there, word_cut}
use Rattle.scp_live_head.proofs.applied.value_in.Goals as goal

pub returns-in-Some-clause-found : goal.returns-in-Some-clause-found
returns-in-Some-clause-found c =
    IfOk-weaker c.decode.result _ _
    (λ found by slot value small are is. by value are (word_cut (decimal slot) (encode_lower value) c.args.line.now c.in-Some.word.0.now c.in-Some.word.1.now (slot_word slot small) is c.in-Some.ensures.some).1)
    c.decode.ensures.found

pub returns-in-None-clause-found : goal.returns-in-None-clause-found
returns-in-None-clause-found c slot value small are is = absurd (word_there (decimal slot) (encode_lower value) c.args.line.now is c.in-None.ensures.none)
