use Rattle.hex.specs.Hex.{encode_lower}
use Rattle.std.proofs.lemmas.Result.{IfOk-weaker}
use Rattle.scp_live_head.proofs.Heads.{said_cut}
use Rattle.scp_live_head.proofs.reading.said_in.Goals as goal

pub returns-in-Some-clause-found : goal.returns-in-Some-clause-found
returns-in-Some-clause-found c =
    IfOk-weaker c.decode.result _ _ (λ found by said are is. by said are (said_cut said c.args.line.now c.in-Some.digits.now is c.in-Some.ensures.some)) c.decode.ensures.found

pub returns-in-None-clause-found : goal.returns-in-None-clause-found
returns-in-None-clause-found c said are is = absurd (c.in-None.ensures.none (encode_lower said) is)
