use Rattle.std.proofs.Common.{◌≡◌, ⊎_elim, ◌∙◌, Ok, Err, Option, sym, ap, subst, ℕ, Vec}
use Rattle.std.specs.Prelude.{IfSome}
use Rattle.std.specs.declared.alloc.Global.{Global}
use Rattle.std.proofs.lemmas.Result.{IfOk-weaker}
use Rattle.hex.specs.Hex.{decode_of, IsBytes}
use Rattle.hex.specs.declared.error.FromHexError.TheVariants.{OutOfMemory}
use Rattle.hex.proofs.HexLemmas.{decode_of-encode_lower, decode_of-ok}
use Rattle.scp_live_head.proofs.reading.decode.Goals as goal

pub returns-in-Ok-clause-are : goal.returns-in-Ok-clause-are
returns-in-Ok-clause-are c = (decode_of-ok c.args.digits.now c.in-Ok.bytes.items c.in-Ok.ensures.ok).3

pub returns-in-Ok-clause-found : goal.returns-in-Ok-clause-found
returns-in-Ok-clause-found c bytes are is =
    let both : Ok c.in-Ok.bytes.items ≡ Ok bytes = sym c.in-Ok.ensures.ok ∙ ap decode_of is ∙ decode_of-encode_lower bytes are in
    cc

pub returns-in-Err-clause-are : goal.returns-in-Err-clause-are
returns-in-Err-clause-are c = IfOk-weaker c.undecoded.result _ _ (λ found none. subst (λ (o : Option (Vec ℕ Global)). IfSome o (λ bytes. IsBytes bytes.items)) (sym none.0) tt) c.undecoded.ensures

pub returns-in-Err-clause-found : goal.returns-in-Err-clause-found
returns-in-Err-clause-found c =
    IfOk-weaker c.undecoded.result _ _
    (λ found none bytes are is. absurd (⊎_elim
    (λ (memory : c.in-Err.fault ≡ OutOfMemory). none.1 memory)
    (λ (refused : decode_of c.args.digits.now ≡ Err c.in-Err.fault). let both : Ok bytes ≡ Err c.in-Err.fault = sym (ap decode_of is ∙ decode_of-encode_lower bytes are) ∙ refused in cc)
    c.in-Err.ensures.err))
    c.undecoded.ensures
