use Rattle.std.proofs.Common.{◌≡◌, false}
use Rattle.std.specs.Prelude.{replicate}
use Rattle.scp_turn.proofs.network.Network.new.Given as goal

-- none so far is driven
abbrev pub invariant-loop : goal.invariant-loop
invariant-loop l = record {
  made : l.driven.items ≡ replicate l.counter false;
}
