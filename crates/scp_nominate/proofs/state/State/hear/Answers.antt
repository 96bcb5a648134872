use Rattle.std.proofs.Common.{refl, sym, subst, Contains}
use Rattle.scp_nominate.proofs.state.State.hear.Goals as goal

pub returns-clause-heard : goal.returns-clause-heard
returns-clause-heard g c = let all = rw c.get.ensures at c.in_ok-values.ensures.all in record {
  lists = refl;
  hash = refl;
  put = c.in_ok-put_nominate.ensures.put;
  learns = record {
    keeps = c.in_ok-know.ensures.learns.keeps;
    learnt = λ v h f. c.in_ok-know.ensures.learns.learnt v (subst (λ vs. Contains vs v) (sym c.as_slice.ensures) (all v h)) f;
    only = c.in_ok-know.ensures.learns.only;
  };
}
