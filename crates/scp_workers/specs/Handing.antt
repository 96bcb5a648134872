-- What a stage hands out for its node's links.
use Rattle.std.specs.Prelude.{List, [], ◌∷◌}
use Rattle.scp_theorem.specs.scp_wire.specs.Fitting.{IsFitting}
use Rattle.scp_theorem.specs.scp_ledger.specs.declared.took.Outgoing.{Outgoing}
use Rattle.scp_theorem.specs.scp_ledger.specs.declared.took.Outgoing.TheVariants.{To}
use Rattle.scp_workers.specs.declared.stage.Outs.{Outs}
use Rattle.scp_workers.specs.declared.stage.Outs.TheVariants.{Nothing, Answer, All}

-- a lone message fits a link; the messages of a list do by its type
abbrev pub FitsOuts : Outs → Type 0
FitsOuts Nothing = Unit {0}
FitsOuts (Answer link message) = IsFitting message
FitsOuts (All outgoing) = Unit {0}

-- all that goes out, in order
abbrev pub outgoing_of : Outs → List Outgoing
outgoing_of Nothing = []
outgoing_of (Answer link message) = To link message ∷ []
outgoing_of (All outgoing) = outgoing
