use Rattle.std.proofs.Common.{List, subst}
use Rattle.scp_notices.specs.scp_turn.specs.Heard.{Nodes}
use Rattle.scp_notices.specs.declared.notice.Notice.{Notice}
use Rattle.scp_sim_findings.specs.Outcome.{IsFound}
use Rattle.scp_sim_findings.proofs.replaying.comes_to.Goals as goal

pub returns-in-Ok : goal.returns-in-Ok
returns-in-Ok c =
    let marks = c.args.judging.now.marks in
    let slots = c.args.judging.now.slots in
    λ yes. record {
      script = c.in-Ok.ran.script;
      network = c.in-Ok.ran.network;
      notices = c.in-Ok.ran.notices.items;
      ran = c.in-Ok.ensures.ran;
      found =
          subst (λ (ns : Nodes). IsFound c.args.finding marks slots ns c.in-Ok.ran.notices.items) c.nodes.ensures
          (subst (λ (xs : List Notice). IsFound c.args.finding marks slots c.nodes.result.now xs) c.as_slice.ensures.value (c.is_found.ensures.0 yes));
    }
