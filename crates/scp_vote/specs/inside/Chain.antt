-- Boards that are alike, and the own statements of a board, one after the other.
-- No public clause reaches this: nothing here need be believed.
use Rattle.std.specs.Prelude.{◌≡◌, Option}
use Rattle.scp_quorum.specs.scp_types.specs.declared.names.NodeId.{NodeId}
use Rattle.scp_envelope.specs.declared.statement.Pledges.{Pledges}
use Rattle.scp_vote.specs.Board.{Seen, KeepsOwn}
use Rattle.scp_vote.specs.Licence.{with_own, Licensed}

-- Each node has the same statement and set on both boards.
pub record IsSame (a b : Seen) : Type 0 where
  pub me : b.me ≡ a.me
  pub local : b.local ≡ a.local
  pub statement : (v : NodeId) → b.statement v ≡ a.statement v
  pub counted : (v : NodeId) → b.counted v ≡ a.counted v

-- What holds of a board since its own statement was `first`, if the part of the other nodes is as on `others`.
pub record IsChain (others : Seen) (first : Option Pledges) (now : Seen) : Type 0 where
  pub board : IsSame (with_own others (now.statement now.me)) now
  pub keeps : KeepsOwn now
  pub licensed : Licensed others first (now.statement now.me)
