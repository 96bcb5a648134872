use Rattle.std.proofs.Common.{◌≡◌, ◌∙◌, false, ap, arith}
use Rattle.std.specs.Prelude.{replicate}
use Rattle.scp_turn.specs.declared.network.TheConstants.{PLACES}
use Rattle.scp_turn.proofs.network.Network.new.Goals as goal

pub returns-clause-driven : goal.returns-clause-driven
returns-clause-driven c =
    let all : c.loop.counter ≡ PLACES = omega arith in
    c.loop.invariant.made ∙ ap (λ n. replicate n false) all
