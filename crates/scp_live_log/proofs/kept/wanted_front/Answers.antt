use Rattle.std.proofs.Common.{◌≡◌, ℕ, length, sym, subst, arith}
use Rattle.scp_live_log.specs.declared.kept.LogFault.TheVariants.{Count}
use Rattle.scp_live_log.specs.Wanted.{Fits}
use Rattle.scp_live_log.specs.inside.Front.{IsFrontFault}
use Rattle.scp_live_log.proofs.Fronts.{front_wanted, has_entries}
use Rattle.scp_live_log.proofs.kept.wanted_front.Goals as goal

pub returns-in-Err-clause-count : goal.returns-in-Err-clause-count
returns-in-Err-clause-count c n w is = absurd (subst IsFrontFault (let same : c.in-Err.fault ≡ Count n w = cc in same) c.in-Err.ensures.others)

pub returns-in-Err-clause-others : goal.returns-in-Err-clause-others
returns-in-Err-clause-others c = front_wanted c.in-Err.fault c.in-Err.ensures.others

pub returns-then-not-fits-clause-count : goal.returns-then-not-fits-clause-count
returns-then-not-fits-clause-count c n w is =
    let same : c.args.wanted ≡ w = cc is in
    let count : c.len-count.result ≡ n = cc is in
    let many : length c.in-Ok.front.entries.items ≡ n = grind (arith, count, c.len-count.ensures) in (
      sym same,
      subst (λ (m : ℕ). ¬ (Fits c.args.wanted m)) count c.if-not-fits.ensures.no,
      has_entries c.args.header.now c.args.bytes.now c.in-Ok.front.entries.items c.in-Ok.front.last.0 c.in-Ok.front.size n many c.in-Ok.ensures.front,
    )

pub returns-clause-wanted : goal.returns-clause-wanted
returns-clause-wanted c =
    let many : c.len-count.result ≡ length c.in-Ok.front.entries.items = grind (arith, c.len-count.ensures) in
    subst (λ (m : ℕ). Fits c.args.wanted m) many c.if-not-fits.ensures.yes
