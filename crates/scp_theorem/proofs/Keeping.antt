-- What ran so keeps the ledger.
use Rattle.std.proofs.Common.{ℕ, List, Option, subst}
use Rattle.scp_outbox.specs.scp_quorum.specs.Sane.{IsSane}
use Rattle.scp_apply.specs.scp_driver.specs.declared.driver.Level.{Level}
use Rattle.scp_theorem.specs.Kept.{RanKeepsLedger}
use Rattle.scp_theorem.proofs.Causes.{by_rules, causes_at, of_links_at, judged_at}
use Rattle.scp_theorem.proofs.Decided.{decided_at, applied_at}
use Rattle.scp_theorem.proofs.Fates.{has_its_fates}
use Rattle.scp_theorem.proofs.StageLaws.{Laws}

pub ran_keeps_ledger : Laws → {D : Type 0} (level : D → ℕ → List ℕ → Level) (extracted : D → ℕ → List ℕ → Option (List ℕ)) (combined : D → ℕ → List (List ℕ) → List ℕ) (place : D → ℕ → ℕ → ℕ → ℕ) → RanKeepsLedger level extracted combined place
ran_keeps_ledger laws level extracted combined place = λ a r. record {
  sane = subst IsSane r.local r.pends.local_is_sane;
  links = r.links;
  read = r.read;
  stands = by_rules a r;
  led = laws.led a.me a.peers a.came r.given a.pending r.pends;
  fates = λ l peer at life. has_its_fates laws a r l peer at life;
  of_links = of_links_at laws a r;
  causes = causes_at laws a r;
  verdicts = judged_at laws a r;
  decisions = decided_at a r;
  applied = applied_at a r;
}
