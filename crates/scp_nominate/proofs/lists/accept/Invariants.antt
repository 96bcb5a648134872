use Rattle.std.proofs.Common.{◌<◌, ℕ, [], get_or, Contains}
use Rattle.scp_vote.specs.declared.claim.Claim.TheVariants.{Nominated}
use Rattle.scp_vote.specs.Board.{Accepted}
use Rattle.scp_nominate.specs.Heard.{heard}
use Rattle.scp_nominate.specs.inside.Steps.{Accepts, IsTaken}
use Rattle.scp_nominate.specs.Steps.{own_lists}
use Rattle.scp_nominate.specs.Taking.{TakesOne}
use Rattle.scp_nominate.proofs.Turns.{GoesOn}
use Rattle.scp_nominate.proofs.lists.accept.Given as goal

abbrev pub invariant-loop-value : goal.invariant-loop-value
invariant-loop-value l = record {
  accepts : Accepts (λ v. Contains l.value-items v) (heard l.board) l.fn.lists l.lists;
  taken : (k : ℕ) → k < l.value-index → Accepted (heard l.board) (Nominated (get_or l.value-items k [])) → IsTaken l.lists (get_or l.value-items k []);
  exact : GoesOn (λ v s t. TakesOne (heard l.board) v s t) l.value-items l.value-index (own_lists l.fn.lists) (own_lists l.lists);
}
