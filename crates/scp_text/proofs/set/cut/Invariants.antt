use Rattle.std.proofs.Common.{◌≡◌, ℕ, ◌<◌, get_or, false}
use Rattle.std.specs.Prelude.{nat_eq}
use Rattle.scp_text.proofs.set.cut.Given as goal

-- none so far
abbrev pub invariant-loop-index : goal.invariant-loop-index
invariant-loop-index l = (k : ℕ) → k < l.index → nat_eq (get_or l.text k 0) 111 ≡ false
