use Rattle.std.proofs.Common.{◌≡◌, ℕ, take}
use Rattle.scp_account.specs.inside.Spoken.{spoken, spoken_at}
use Rattle.scp_account.proofs.spoken.spoken_in.Given as goal

-- the entries so far
abbrev pub invariant-loop-fate : goal.invariant-loop-fate
invariant-loop-fate l = (slot : ℕ) → spoken_at l.spoken slot ≡ spoken (take l.fate-index l.journal) slot
