use Rattle.std.proofs.Common.{◌≡◌, ◌++◌, take, drop, map}
use Rattle.scp_text.specs.Sets.{nodes_first, sets_after}
use Rattle.scp_text.proofs.set.count_nodes.Given as goal

-- the entries so far are nodes
abbrev pub invariant-loop-index : goal.invariant-loop-index
invariant-loop-index l = record {
  nodes : map (λ e. e.now) (take l.index l.entries) ++ nodes_first (map (λ e. e.now) (drop l.index l.entries)) ≡ nodes_first (map (λ e. e.now) l.entries);
  sets : sets_after (map (λ e. e.now) (drop l.index l.entries)) ≡ sets_after (map (λ e. e.now) l.entries);
}
