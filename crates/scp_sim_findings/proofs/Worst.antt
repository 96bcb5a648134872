-- The worst that is found, by what is found in turn.
use Rattle.std.proofs.Common.{ℕ, Bool, List, Some, None}
use Rattle.scp_sim_findings.specs.declared.outcome.Finding.{Finding}
use Rattle.scp_sim_findings.specs.declared.outcome.Finding.TheVariants.{Split, Stuck, Cut}
use Rattle.scp_sim_findings.specs.Outcome.{IsFound, IsWorse, IsWorst}
use Rattle.scp_notices.specs.scp_turn.specs.Heard.{Nodes}
use Rattle.scp_notices.specs.declared.notice.Notice.{Notice}

pub worst_split : (marks : List Bool) (slots : ℕ) (nodes : Nodes) (notices : List Notice) → IsFound Split marks slots nodes notices → IsWorst (Some Split) marks slots nodes notices
worst_split marks slots nodes notices found = (found, none)
  where
    none : (worse : Finding) → IsWorse worse Split → ¬ (IsFound worse marks slots nodes notices)
    none Split w f = absurd w
    none Stuck w f = absurd w
    none Cut w f = absurd w

pub worst_stuck : (marks : List Bool) (slots : ℕ) (nodes : Nodes) (notices : List Notice) → ¬ (IsFound Split marks slots nodes notices) → IsFound Stuck marks slots nodes notices → IsWorst (Some Stuck) marks slots nodes notices
worst_stuck marks slots nodes notices no_split found = (found, none)
  where
    none : (worse : Finding) → IsWorse worse Stuck → ¬ (IsFound worse marks slots nodes notices)
    none Split w f = no_split f
    none Stuck w f = absurd w
    none Cut w f = absurd w

pub worst_cut : (marks : List Bool) (slots : ℕ) (nodes : Nodes) (notices : List Notice) → ¬ (IsFound Split marks slots nodes notices) → ¬ (IsFound Stuck marks slots nodes notices) → IsFound Cut marks slots nodes notices → IsWorst (Some Cut) marks slots nodes notices
worst_cut marks slots nodes notices no_split no_stuck found = (found, none)
  where
    none : (worse : Finding) → IsWorse worse Cut → ¬ (IsFound worse marks slots nodes notices)
    none Split w f = no_split f
    none Stuck w f = no_stuck f
    none Cut w f = absurd w

pub worst_none : (marks : List Bool) (slots : ℕ) (nodes : Nodes) (notices : List Notice) → ¬ (IsFound Split marks slots nodes notices) → ¬ (IsFound Stuck marks slots nodes notices) → ¬ (IsFound Cut marks slots nodes notices) → IsWorst None marks slots nodes notices
worst_none marks slots nodes notices no_split no_stuck no_cut = none
  where
    none : (finding : Finding) → ¬ (IsFound finding marks slots nodes notices)
    none Split f = no_split f
    none Stuck f = no_stuck f
    none Cut f = no_cut f
