use Rattle.std.proofs.Common.{◌<◌, ℕ, [], get_or, Contains}
use Rattle.scp_vote.specs.declared.claim.Claim.TheVariants.{Nominated}
use Rattle.scp_vote.specs.Board.{Confirmed}
use Rattle.scp_nominate.specs.Heard.{heard}
use Rattle.scp_nominate.specs.Values.{Has}
use Rattle.scp_nominate.specs.inside.Steps.{Confirms}
use Rattle.scp_nominate.proofs.lists.confirm.Given as goal

abbrev pub invariant-loop-value : goal.invariant-loop-value
invariant-loop-value l = record {
  confirms : Confirms (λ v. Contains l.value-items v) (heard l.board) l.fn.candidates l.candidates;
  done : (k : ℕ) → k < l.value-index → Confirmed (heard l.board) (Nominated (get_or l.value-items k [])) → Has l.candidates (get_or l.value-items k []);
}
