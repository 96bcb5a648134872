use Rattle.std.proofs.Common.{inl, refl}
use Rattle.scp_sim_findings.proofs.Aiming.{shortened}
use Rattle.scp_sim_findings.proofs.shrinking.shorten_to.Goals as goal

pub returns-in-Some : goal.returns-in-Some
returns-in-Some c =
    shortened c.put_beside.result c.args.finding c.args.judging.now c.args.told.now c.put_beside.new.told c.as_slice.result.now c.in_ok-found.found c.in-Some.script c.in-Some.is c.as_slice.ensures.value
    c.in_ok-found.ensures.part c.in_ok-found.ensures.comes c.in_ok-found.ensures.alike c.put_beside.ensures.shrunk c.put_beside.ensures.text c.put_beside.ensures.rest

pub returns-in-None : goal.returns-in-None
returns-in-None c = inl refl
