use Rattle.std.proofs.Common.{◌≡◌, ◌++◌, drop, flat_map, map}
use Rattle.scp_history.specs.scp_judged.specs.Verdicts.{heard_of}
use Rattle.scp_shown.specs.Sides.{against_line}
use Rattle.scp_shown.proofs.sides.add_all_against.Given as goal

-- with those of what is left they are all
abbrev pub invariant-loop-node : goal.invariant-loop-node
invariant-loop-node l =
    l.lines.items ++ flat_map (against_line l.ledger (map heard_of l.joined) l.certified) (drop l.node-index l.nodes)
    ≡ l.fn.lines.items ++ flat_map (against_line l.ledger (map heard_of l.joined) l.certified) l.nodes
