-- Quorums of a plan's nodes (this project's profile).
use Rattle.std.specs.Prelude.{ℕ, List}
use Rattle.scp_script_hints.specs.scp_script.specs.declared.command.Command.{Command}
use Rattle.scp_notices.specs.scp_script_check.specs.Lines.{IsSaid}
use Rattle.scp_script_hints.specs.Told.{TellsApart, members_in}
use Rattle.scp_sim.specs.Simulated.{first_lines}
use Rattle.scp_sim.specs.scp_sim_options.specs.declared.plan.Plan.{Plan}

-- The text has the line of two quorums of the plan's nodes that have no node in common, or it is empty and each two have one. The nodes
-- have the quorum sets that the first lines of the plan's script give them.
pub record TellsPlanApart (plan : Plan) (text : List ℕ) : Type 0 where
  pub commands : List Command
  pub lines : List ℕ
  pub said : IsSaid (first_lines plan) commands lines
  pub tells : TellsApart (members_in commands) text
