use Rattle.std.proofs.Common.{◌≡◌, ◌+◌, ◌≤◌, drop, filter, length, nat_eq}
use Rattle.scp_sim_findings.specs.Fates.{place_of}
use Rattle.scp_sim_findings.proofs.fates.count_in.Given as goal

-- with those of what is left they are all
abbrev pub invariant-loop-fate : goal.invariant-loop-fate
invariant-loop-fate l = record {
  within : l.count ≤ l.fate-index;
  all : l.count + length (filter (λ fate. nat_eq (place_of fate) l.place) (drop l.fate-index l.journal)) ≡ length (filter (λ fate. nat_eq (place_of fate) l.place) l.journal);
}
