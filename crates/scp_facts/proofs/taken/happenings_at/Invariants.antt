use Rattle.std.proofs.Common.{◌≡◌, ◌++◌, drop, map}
use Rattle.scp_facts.specs.Taken.{happenings_at}
use Rattle.scp_facts.proofs.taken.happenings_at.Given as goal

-- with what is left it is all
abbrev pub invariant-loop-one : goal.invariant-loop-one
invariant-loop-one l = map (λ h. h.now) l.happenings.items ++ happenings_at l.number (drop l.one-index l.kept) ≡ happenings_at l.number l.kept
