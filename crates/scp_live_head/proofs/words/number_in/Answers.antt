use Rattle.std.proofs.Common.{◌≡◌, Ok}
use Rattle.std.proofs.lemmas.Fmt.{parse-decimal}
use Rattle.scp_live_head.proofs.words.number_in.Goals as goal

pub returns-in_default : goal.returns-in_default
returns-in_default c n small e =
    absurd (let read : c.parse.result ≡ Ok n = parse-decimal 64 n c.args.text.now c.parse.result small small e c.parse.ensures.value.0 in cc c.in_default.is)

pub returns : goal.returns
returns c n small e =
    let read : c.parse.result ≡ Ok n = parse-decimal 64 n c.args.text.now c.parse.result small small e c.parse.ensures.value.0 in
    let value : c.in-Ok.number ≡ n = cc c.in-Ok.is in
    value
