use Rattle.std.proofs.Common.{◌≡◌, ◌++◌, string_bytes, flat_map, map}
use Rattle.scp_script_slot.specs.Answers.{node_word}
use Rattle.scp_script_slot.proofs.answers.write_quorum.Given as goal

-- those that are done are written
abbrev pub invariant-loop-node : goal.invariant-loop-node
invariant-loop-node l = string_bytes l.out ≡ string_bytes l.initial.out ++ flat_map node_word (map (λ c. c.now) l.yielded)
