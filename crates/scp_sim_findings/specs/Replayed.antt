-- A script that was played once more (this project's profile).
use Rattle.std.specs.Prelude.{ℕ, ◌≡◌, Bool, List}
use Rattle.scp_notices.specs.scp_report.specs.Node.{reports_of}
use Rattle.scp_notices.specs.scp_report.specs.Reports.{settled_text}
use Rattle.scp_notices.specs.scp_turn.specs.Network.{NetworkView}
use Rattle.scp_notices.specs.declared.notice.Notice.{Notice}
use Rattle.scp_notices.specs.Run.{IsRan}
use Rattle.scp_notices.specs.scp_script_check.specs.declared.reading.Script.{Script}
use Rattle.scp_sim_findings.specs.declared.outcome.Finding.{Finding}
use Rattle.scp_sim_findings.specs.Outcome.{IsFound}

-- The script was played, and its reports are exactly these.
pub record IsReplayed (text reports : List ℕ) (script : Script) (network : NetworkView) (notices : List Notice) : Type 0 where
  pub ran : IsRan text script network notices
  pub reports_are : reports ≡ settled_text (reports_of network.nodes) script.commands.items

-- Playing the script leads to this finding.
pub record ComesTo (text : List ℕ) (finding : Finding) (marks : List Bool) (slots : ℕ) : Type 0 where
  pub script : Script
  pub network : NetworkView
  pub notices : List Notice
  pub ran : IsRan text script network notices
  pub found : IsFound finding marks slots network.nodes notices
