use Rattle.std.proofs.Common.{◌<◌, ◌^◌, arith, rules}
use Rattle.std.proofs.lemmas.Result.{IfOk-weaker}
use Rattle.scp_live_head.proofs.Slots.{kept_none, kept_from}
use Rattle.scp_live_head.proofs.applied.kept_size.Goals as goal

pub returns-in_default-clause-kept : goal.returns-in_default-clause-kept
returns-in_default-clause-kept c =
    let small : c.args.first < 2 ^ 64 = search rules in
    kept_none c.args.first c.args.bytes.now (λ other value lt are rest e. c.in_default.ensures other value rest (omega (arith, small, lt)) e)

pub returns-then-slot-first-clause-kept : goal.returns-then-slot-first-clause-kept
returns-then-slot-first-clause-kept c =
    let small : c.args.first < 2 ^ 64 = search rules in
    let more : c.args.first < c.in-Some.slot = search rules in
    kept_none c.args.first c.args.bytes.now (λ other value lt are rest e. absurd (omega (arith, lt, more, c.in-Some.ensures other value rest (omega (arith, small, lt)) e)))

pub returns-clause-kept : goal.returns-clause-kept
returns-clause-kept c =
    let small : c.args.first < 2 ^ 64 = search rules in
    IfOk-weaker c.size_from.result _ _ (λ size from. kept_from c.in-Some.slot c.args.first c.args.bytes.now size small c.in-Some.ensures from) c.size_from.ensures.kept
