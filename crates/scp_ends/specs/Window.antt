-- The law of what goes on to the applier: if it holds of a list, it holds of each beginning of the list.
use Rattle.std.specs.Prelude.{ℕ, List, [], ◌∷◌, ◌++◌}
use Rattle.std.proofs.Common.{subst}
use Rattle.std.proofs.lemmas.List.Concat.{flat_map-append}
use Rattle.scp_ledger.specs.declared.journal.Decision.{Decision}
use Rattle.scp_ledger.specs.declared.took.Onward.{Onward}
use Rattle.scp_ledger.specs.Decisions.{AreInWindow}
use Rattle.scp_ledger.specs.Onwards.{decision_on, decisions_on, KeepsWindow}

-- a beginning of decisions that are in the window is in the window too
in_window-front : (first : ℕ) (earlier ds es : List Decision) → AreInWindow first earlier (ds ++ es) → AreInWindow first earlier ds
in_window-front first earlier [] es h = tt
in_window-front first earlier (d ∷ ds) es h = (h.0, in_window-front first (earlier ++ d ∷ []) ds es h.1)

-- a beginning of what keeps the window from slot 1 on keeps it too
pub keeps_window-front : (xs ys : List Onward) → KeepsWindow 1 (xs ++ ys) → KeepsWindow 1 xs
keeps_window-front xs ys h = in_window-front 1 [] (decisions_on xs) (decisions_on ys) (subst (AreInWindow 1 []) (flat_map-append decision_on xs ys) h)
