-- Going over the board: what is left of its entries.
use Rattle.std.proofs.Common.{◌≡◌, Bool, true, false, List, refl, ◌⊎◌, inl, inr}
use Rattle.scp_kv.specs.scp_types.specs.declared.names.NodeId.{NodeId}
use Rattle.scp_ballot_rules.specs.scp_vote.specs.declared.statements.Entry.{Entry}

abbrev pub Entries : Type 0
Entries = List (NodeId × Entry)

pub decided : (b : Bool) → (b ≡ true) ⊎ (b ≡ false)
decided true = inl refl
decided false = inr refl
