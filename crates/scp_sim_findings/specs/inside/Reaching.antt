-- What a smaller script is to come to.
-- No public clause reaches these definitions, so nothing here needs to be believed.
use Rattle.std.specs.Prelude.{ℕ, List}
use Rattle.scp_sim_findings.specs.declared.shrinking.Aim.{Aim}
use Rattle.scp_sim_findings.specs.Needs.{AreNeedsOf}
use Rattle.scp_sim_findings.specs.Replayed.{ComesTo}

-- Playing the script leads to what is aimed at: the finding, and if nodes are stuck, the same needs.
pub record Reaches (aim : Aim) (script : List ℕ) : Type 0 where
  pub comes : ComesTo script aim.finding aim.judging.marks aim.judging.slots
  pub needs : AreNeedsOf aim.finding script aim.needs.items
