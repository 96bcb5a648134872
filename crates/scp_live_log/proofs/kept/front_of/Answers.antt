use Rattle.std.proofs.Common.{◌≡◌, length, subst, arith}
use Rattle.scp_live_log.specs.declared.wanted.Unfit.TheVariants.{Chain}
use Rattle.scp_live_log.specs.Log.{HasBatch}
use Rattle.scp_live_log.proofs.Fronts.{whole_front_at, damaged_at, tail_at}
use Rattle.scp_live_log.proofs.kept.front_of.Goals as goal

pub returns-then-has_batch-clause-damaged : goal.returns-then-has_batch-clause-damaged
returns-then-has_batch-clause-damaged c n why is =
    let told : c.len.result ≡ n = cc is in
    let chain : why ≡ Chain = cc is in
    let count : length c.in_ok-front.front.entries.items ≡ n = grind (arith, told, c.len.ensures) in (
      chain,
      damaged_at c.args.header.now c.args.bytes.now c.behind-rest.result.now c.digest.result c.behind-tail.result.now c.in_ok-front.front.entries.items c.in_ok-front.front.last.0 c.in_ok-front.front.size n
          c.digest.ensures c.behind-rest.ensures c.behind-tail.ensures c.if-not-begins_with.ensures.some.1 count c.in_ok-front.ensures.front c.if-has_batch.ensures.some,
    )

pub returns-clause-front : goal.returns-clause-front
returns-clause-front c =
    whole_front_at c.args.header.now c.args.bytes.now c.behind-rest.result.now c.digest.result c.in_ok-front.front.entries.items c.in_ok-front.front.last.0 c.in_ok-front.front.size
    c.digest.ensures c.behind-rest.ensures c.if-not-begins_with.ensures.some.0 c.if-not-begins_with.ensures.some.1 c.in_ok-front.ensures.size c.in_ok-front.ensures.front

pub returns-clause-torn : goal.returns-clause-torn
returns-clause-torn c h =
    c.if-has_batch.ensures.none (subst HasBatch (tail_at c.args.bytes.now c.behind-rest.result.now c.behind-tail.result.now (length c.args.header.now) c.in_ok-front.front.size c.behind-rest.ensures c.behind-tail.ensures) h)
