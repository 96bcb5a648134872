use Rattle.std.proofs.Common.{◌≡◌, ◌++◌, drop, map, string_bytes}
use Rattle.scp_kv.specs.scp_xdr.specs.Tree.{in_a_row}
use Rattle.scp_text.specs.Pieces.{listed}
use Rattle.scp_text.specs.Sets.{set_text}
use Rattle.scp_text.proofs.set.+write_set.Given as goal

abbrev pub decreases-write_set : goal.decreases-write_set
decreases-write_set l = goal.size-write_set l

-- with what is left it is all
abbrev pub invariant-loop-inner : goal.invariant-loop-inner
invariant-loop-inner l =
    record {
      row : in_a_row l.inner-items ≡ l.set.inner;
      text : string_bytes l.out ++ listed 44 l.first (map set_text (drop l.inner-index l.inner-items)) ≡ string_bytes l.initial.out ++ listed 44 l.initial.first (map set_text l.inner-items);
    }
