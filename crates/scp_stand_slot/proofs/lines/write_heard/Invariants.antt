use Rattle.std.proofs.Common.{◌≡◌, ◌++◌, drop, flat_map, string_bytes}
use Rattle.std.specs.Prelude.{codes}
use Rattle.scp_stand_slot.specs.Machine.{lines_of}
use Rattle.scp_stand_slot.proofs.lines.write_heard.Given as goal

-- with what is left it is all
abbrev pub invariant-loop-node : goal.invariant-loop-node
invariant-loop-node l =
    string_bytes l.out ++ flat_map (lines_of l.names l.me l.slot (codes "heard") l.nominations l.ballots) (drop l.node-index l.nodes)
    ≡ string_bytes l.initial.out ++ flat_map (lines_of l.names l.me l.slot (codes "heard") l.nominations l.ballots) l.nodes
