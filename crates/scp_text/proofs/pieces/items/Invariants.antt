use Rattle.std.proofs.Common.{◌≡◌, ◌≤◌, ◌++◌, drop, map}
use Rattle.std.specs.List.{slice_range}
use Rattle.scp_text.specs.Pieces.{parts}
use Rattle.scp_text.proofs.Items.{prepend}
use Rattle.scp_text.proofs.pieces.items.Given as goal

-- the items so far, and what is left with what stands before it, are all
abbrev pub invariant-loop-index : goal.invariant-loop-index
invariant-loop-index l = record {
  begun : l.start ≤ l.index;
  deep : l.depth ≤ l.index;
  all : map (λ item. item.now) l.items.items ++ prepend (slice_range l.text l.start l.index) (parts l.depth (drop l.index l.text)) ≡ parts 0 l.text;
}
