-- There are runs.
use Rattle.std.proofs.Common.{ℕ, List, [], refl, Option}
use Rattle.scp_apply.specs.scp_driver.specs.declared.driver.Level.{Level}
use Rattle.scp_theorem.specs.Runs.{NothingSentRan}

pub nothing_sent_ran : {D : Type 0} (level : D → ℕ → List ℕ → Level) (extracted : D → ℕ → List ℕ → Option (List ℕ)) (combined : D → ℕ → List (List ℕ) → List ℕ) (place : D → ℕ → ℕ → ℕ → ℕ) → NothingSentRan level extracted combined place
nothing_sent_ran level extracted combined place = λ me set peers pending ledger applier local pends journals applies first. record {
  links = λ l peer at. tt;
  read = λ l peer at. refl;
  local = local;
  given = [];
  pends = pends;
  took = [];
  ready = refl;
  onwards = [];
  journals = journals;
  applied = [];
  decided = refl;
  applies = applies;
  first = first;
}
