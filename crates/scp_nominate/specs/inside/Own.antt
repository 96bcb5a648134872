-- The own statement that a node's lists make, and what always holds of the lists.
-- No public clause reaches these definitions: nothing here need be believed.
use Rattle.std.specs.Prelude.{◌≡◌, ◌≢◌, ◌+◌, ℕ, ◌⊎◌, List, length, Option}
use Rattle.scp_vote.specs.declared.claim.Claim.TheVariants.{Nominated}
use Rattle.scp_vote.specs.Board.{Seen, Accepted, Confirmed}
use Rattle.scp_nominate.specs.declared.lists.Lists.{Lists}
use Rattle.scp_nominate.specs.Values.{Has}
use Rattle.scp_nominate.specs.inside.Steps.{More, MoreVotes, IsTried}
use Rattle.scp_nominate.specs.Steps.{AreVoted}
use Rattle.scp_nominate.specs.Owed.{Names}
use Rattle.std.specs.Option.{ForSome}
use Rattle.scp_vote.specs.scp_types.specs.declared.names.NodeId.{NodeId}

-- Steps 1 to 3 together, on one board. The votes grow. What is new in accepted is fully validated and accepted on the
-- board, and what is new among the candidates is accepted, and confirmed on the board.
pub record Passes (full : List ℕ → Type 0) (b : Seen) (old new : Lists) : Type 0 where
  pub votes : MoreVotes old.votes new.votes
  pub accepted : More old.accepted new.accepted
  pub candidates : More old.candidates new.candidates
  pub voted : AreVoted old → AreVoted new
  pub taken : (v : List ℕ) → Has new.accepted v → Has old.accepted v ⊎ (full v × Accepted b (Nominated v))
  pub confirmed : (v : List ℕ) → Has new.candidates v → Has old.candidates v ⊎ (Has new.accepted v × Confirmed b (Nominated v))

-- how many values the votes and the accepted values are together
abbrev pub size : Lists → ℕ
size s = length s.votes.values.items + length s.accepted.values.items

abbrev pub own_same : Lists → Lists → Type 0
own_same s t = (t.votes ≡ s.votes) × (t.accepted ≡ s.accepted)

-- Step 1: the votes grow, and nothing else changes.
pub record IsVoting (old new : Lists) : Type 0 where
  pub votes : MoreVotes old.votes new.votes
  pub accepted : new.accepted ≡ old.accepted
  pub candidates : new.candidates ≡ old.candidates

-- What step 1 leaves if there is no candidate: the proposal, and what other leaders name, is voted for while there is room.
pub record IsVoted (full : List ℕ → Type 0) (leads : NodeId → Type 0) (proposal : Option (List ℕ)) (b : Seen) (s : Lists) : Type 0 where
  pub proposed : leads b.me → ForSome proposal (λ v. IsTried s.votes v)
  pub led : (node : NodeId) → node ≢ b.me → leads node → (v : List ℕ) → full v → Names b node v → IsTried s.votes v
