use Rattle.std.proofs.Common.{◌≡◌, true, false, drop, fold}
use Rattle.std.specs.Prelude.{if◌then◌else◌}
use Rattle.scp_stand_slot.specs.scp_script.specs.Script.{opens, closes, is_open}
use Rattle.scp_stand_node.proofs.links.is_open_by.Given as goal

-- what is left leads to all
abbrev pub invariant-loop-command : goal.invariant-loop-command
invariant-loop-command l =
    fold (λ before command. if opens l.from l.to command then true else (if closes l.from l.to command then false else before)) l.open (drop l.command-index l.commands) ≡ is_open l.from l.to l.commands
