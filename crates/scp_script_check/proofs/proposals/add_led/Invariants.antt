use Rattle.std.proofs.Common.{◌≡◌, ◌||◌, ◌&&◌, ℕ, drop}
use Rattle.std.specs.List.{list_any}
use Rattle.std.specs.Ordering.{nat_cmp}
use Rattle.std.specs.BTreeSet.{contains}
use Rattle.scp_script.specs.Nodes.{id_of}
use Rattle.scp_script_check.specs.Nodes.{proposes_at}
use Rattle.scp_script_check.specs.Warnings.{leads_in, rounds_in, leads_own}
use Rattle.scp_script_check.proofs.proposals.add_led.Given as goal

-- with what is left it is all
abbrev pub invariant-loop-command : goal.invariant-loop-command
invariant-loop-command l =
    (q : ℕ) → (contains nat_cmp l.led q || (list_any (proposes_at l.node q) (drop l.command-index l.commands) && leads_in l.nodes q (rounds_in l.commands l.nodes l.node q) (id_of l.node)))
    ≡ (contains nat_cmp l.fn.led q || leads_own l.nodes l.commands q l.node)
