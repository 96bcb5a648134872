-- Which statements contradict each other: a node that keeps the rules sends each of a kind and a slot newer than the one before.
use Rattle.std.specs.Prelude.{◌≡◌, ◌≢◌, ℕ, ◌<◌, List, IsSomeAnd, slice_get}
use Rattle.scp_ledger.specs.scp_envelope.specs.declared.statement.Statement.{Statement}
use Rattle.scp_ledger.specs.scp_envelope.specs.Newer.{IsNewer}
use Rattle.scp_ledger.specs.scp_vote.specs.Board.{kind_of_pledges}

-- Two statements of one node, slot and kind, neither equal nor newer than the other.
pub record Contradict (s t : Statement) : Type 0 where
  pub node : s.node ≡ t.node
  pub slot : s.slot ≡ t.slot
  pub kind : kind_of_pledges s.pledges ≡ kind_of_pledges t.pledges
  pub differ : s ≢ t
  pub not_newer : ¬ IsNewer s t
  pub not_older : ¬ IsNewer t s

-- the statements at two places of a list, the earlier first, contradict each other
abbrev pub ContradictAt : List Statement → ℕ → ℕ → Type 0
ContradictAt ss i j = (i < j) × IsSomeAnd (slice_get ss i) (λ s. IsSomeAnd (slice_get ss j) (λ t. Contradict s t))
