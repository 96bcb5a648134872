-- What happened, as the code holds it.
-- No public clause reaches these definitions, so nothing here needs to be believed.
use Rattle.std.specs.Prelude.{List, map}
use Rattle.std.proofs.Common.{Bor}
use Rattle.scp_facts.specs.declared.happening.Happening.{Happening}

-- The same list, without the borrows.
abbrev pub happened : List (Bor Happening) → List Happening
happened happenings = map (λ h. h.now) happenings
