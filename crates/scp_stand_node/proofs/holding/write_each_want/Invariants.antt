use Rattle.std.proofs.Common.{◌≡◌, ◌++◌, drop, map, flat_map, string_bytes}
use Rattle.scp_stand_node.specs.Holding.{want_line}
use Rattle.scp_stand_node.proofs.holding.write_each_want.Given as goal

-- with what is left it is all
abbrev pub invariant-loop-want : goal.invariant-loop-want
invariant-loop-want l =
    string_bytes l.out ++ flat_map (want_line l.names l.node) (map (λ want. want.now) (drop l.want-index l.wants)) ≡ string_bytes l.initial.out ++ flat_map (want_line l.names l.node) (map (λ want. want.now) l.wants)
