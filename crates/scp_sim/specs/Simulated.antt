-- What is simulated, as a script (this project's profile).
use Rattle.std.specs.Prelude.{ℕ, ◌≡◌, List, ◌++◌, codes, nat_eq, string_bytes, if◌then◌else◌}
use Rattle.std.specs.List.{ends_with}
use Rattle.std.specs.Fmt.{decimal}
use Rattle.scp_sim_options.specs.declared.plan.Plan.{Plan}
use Rattle.scp_line.specs.scp_script.specs.declared.command.Command.{Command}
use Rattle.scp_line.specs.scp_script.specs.Nodes.{set_at}
use Rattle.scp_line.specs.scp_script.specs.Script.{commands_of, node_count}
use Rattle.scp_script_check.specs.Lines.{IsSaid}
use Rattle.scp_sim.specs.Lines.{AreDone, text_of}

-- The text with a line end added, unless it already ends with one.
abbrev pub with_end : List ℕ → List ℕ
with_end text = if ends_with nat_eq text (codes "\n") then text else text ++ codes "\n"

-- The first lines of a plan's script: how many nodes there are, how many of them a quorum set needs, and the plan's own lines, which
-- give other quorum sets.
abbrev pub first_lines : Plan → List ℕ
first_lines plan = with_end (codes "nodes " ++ decimal plan.nodes ++ codes " " ++ decimal plan.need ++ codes "\n" ++ string_bytes plan.sets)

-- The text is a script of the plan. It begins with the plan's first lines, none of which is bad. Each later line is in digits, and
-- neither says how many nodes there are nor gives a quorum set. So the script has as many nodes as the plan, and each has the quorum set
-- that the first lines give it.
pub record IsSimulated (plan : Plan) (text : List ℕ) : Type 0 where
  pub first : List Command
  pub numbers : List ℕ
  pub said : IsSaid (first_lines plan) first numbers
  pub lines : List (List ℕ)
  pub is : text ≡ first_lines plan ++ text_of lines
  pub are : AreDone lines
  pub count : node_count (first ++ commands_of lines) ≡ plan.nodes
  pub sets : (node : ℕ) → set_at node (first ++ commands_of lines) ≡ set_at node first
