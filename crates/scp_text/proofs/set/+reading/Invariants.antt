use Rattle.std.proofs.Common.{◌≡◌, ◌+◌, ◌*◌, ◌++◌, drop, map, option_map}
use Rattle.scp_text.specs.Pieces.{all_of}
use Rattle.scp_text.specs.Sets.{inner_in, set_with}
use Rattle.scp_text.proofs.set.+reading.Given as goal

abbrev pub decreases-read_set : goal.decreases-read_set
decreases-read_set l = 3 * l.levels + 2

abbrev pub decreases-read_inner : goal.decreases-read_inner
decreases-read_inner l = 3 * l.levels + 1

abbrev pub decreases-read_row : goal.decreases-read_row
decreases-read_row l = 3 * l.levels + 3

-- the sets so far, and those that are left, are all of them
abbrev pub invariant-read_row-loop-text : goal.invariant-read_row-loop-text
invariant-read_row-loop-text l =
    option_map (λ others. l.sets.items ++ others) (all_of (set_with (inner_in l.levels)) (map (λ t. t.now) (drop l.text-index l.texts))) ≡ all_of (set_with (inner_in l.levels)) (map (λ t. t.now) l.texts)
