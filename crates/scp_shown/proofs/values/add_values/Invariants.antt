use Rattle.std.proofs.Common.{map}
use Rattle.std.specs.BTreeSet.{keys}
use Rattle.scp_history.specs.scp_judged.specs.Verdicts.{heard_of}
use Rattle.scp_shown.specs.ValueLines.{AreValueLines}
use Rattle.scp_shown.specs.Sides.{IsSide}
use Rattle.scp_shown.proofs.Listing.{Leads}
use Rattle.scp_shown.proofs.values.add_values.Given as goal

-- with what is left they are all
abbrev pub invariant-loop-value : goal.invariant-loop-value
invariant-loop-value l =
    Leads (AreValueLines l.ledger (map heard_of l.joined) l.nodes) l.value-iterator l.lines.items (keys l.values) l.fn.lines.items
    × Leads (IsSide (map heard_of l.joined) l.nodes) l.value-iterator l.sides.items (keys l.values) l.fn.sides.items
