-- The steps of nomination (the SCP draft, in this project's profile), on what the board shows meanwhile.
-- No public clause reaches these definitions: nothing here need be believed.
use Rattle.std.specs.Prelude.{◌≡◌, ◌<◌, ◌≤◌, ℕ, ◌⊎◌, List, length}
use Rattle.scp_vote.specs.declared.claim.Claim.TheVariants.{Nominated}
use Rattle.scp_vote.specs.Board.{Seen, Accepted, Confirmed}
use Rattle.scp_nominate.specs.declared.values.ValueSet.{ValueSet}
use Rattle.scp_nominate.specs.declared.lists.Lists.{Lists}
use Rattle.scp_nominate.specs.Values.{Has}
use Rattle.scp_nominate.specs.Owed.{HasSevenOthers}
use Rattle.scp_nominate.specs.Steps.{AreVoted}

-- the new set is longer, with all that was there
pub record Grew (old new : ValueSet) : Type 0 where
  pub longer : length old.values.items < length new.values.items
  pub keeps : (v : List ℕ) → Has old v → Has new v

abbrev pub More : ValueSet → ValueSet → Type 0
More old new = (new ≡ old) ⊎ Grew old new

-- votes grow only if there are fewer than 7, and to at most 7
pub record Voted (old new : ValueSet) : Type 0 where
  pub room : length old.values.items < 7
  pub few : length new.values.items ≤ 7
  pub grew : Grew old new

abbrev pub MoreVotes : ValueSet → ValueSet → Type 0
MoreVotes old new = (new ≡ old) ⊎ Voted old new

-- the votes have at least 7 values, and this isn't one of them
abbrev pub IsFilledWithout : ValueSet → List ℕ → Type 0
IsFilledWithout votes v = HasSevenOthers votes.values.items v

abbrev pub IsTried : ValueSet → List ℕ → Type 0
IsTried votes v = Has votes v ⊎ IsFilledWithout votes v

-- the value is voted for, or there is room for one more
abbrev pub HasRoom : ValueSet → List ℕ → Type 0
HasRoom votes v = Has votes v ⊎ (length votes.values.items < 7)

abbrev pub IsTaken : Lists → List ℕ → Type 0
IsTaken s v = Has s.accepted v ⊎ IsFilledWithout s.votes v

-- Step 2: values with P that the board accepts are added to accepted, and to votes.
pub record Accepts (P : List ℕ → Type 0) (b : Seen) (old new : Lists) : Type 0 where
  pub votes : MoreVotes old.votes new.votes
  pub accepted : More old.accepted new.accepted
  pub candidates : new.candidates ≡ old.candidates
  pub only : (v : List ℕ) → Has new.accepted v → Has old.accepted v ⊎ (P v × Accepted b (Nominated v))
  pub voted : AreVoted old → AreVoted new
  pub votes_only : (v : List ℕ) → Has new.votes v → Has old.votes v ⊎ Has new.accepted v

-- Step 3: values with P that the board confirms become candidates.
pub record Confirms (P : List ℕ → Type 0) (b : Seen) (old new : ValueSet) : Type 0 where
  pub more : More old new
  pub only : (v : List ℕ) → Has new v → Has old v ⊎ (P v × Confirmed b (Nominated v))

-- The fully validated values with P are added, and all that is added is fully validated.
pub record Learns (full P : List ℕ → Type 0) (old new : ValueSet) : Type 0 where
  pub keeps : (v : List ℕ) → Has old v → Has new v
  pub learnt : (v : List ℕ) → P v → full v → Has new v
  pub only : (v : List ℕ) → Has new v → Has old v ⊎ full v
