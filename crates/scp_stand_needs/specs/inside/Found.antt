-- What is found on the way to the steps that are due: values, counters, and the need of one value.
-- No public clause reaches these definitions, so nothing here needs to be believed.
use Rattle.std.specs.Prelude.{◌≡◌, ◌≤◌, ◌⊎◌, ◌↔◌, ℕ, Bool, true, false, cond, max, IsTrue, List, Option, Some, None, IsSomeAnd, IfSome, IfNone}
use Rattle.std.specs.Option.{unwrap_or}
use Rattle.std.specs.BTreeMap as tree
use Rattle.std.specs.BTreeMap.{BTreeMap, is_at}
use Rattle.std.specs.BTreeSet.{BTreeSet, contains}
use Rattle.scp_kv.specs.scp_types.specs.declared.names.NodeId.{NodeId}
use Rattle.scp_kv.specs.scp_types.specs.declared.ballot.Ballot.{Ballot}
use Rattle.scp_ballot_rules.specs.scp_envelope.specs.Ballots.{value_cmp}
use Rattle.scp_ballot_rules.specs.scp_vote.specs.declared.board.Board.{Board}
use Rattle.scp_ballot_rules.specs.scp_vote.specs.declared.claim.Claim.{Claim}
use Rattle.scp_ballot_rules.specs.scp_vote.specs.Board.{Seen, Accepted, Confirmed, kind_of}
use Rattle.scp_ballot_rules.specs.scp_vote.specs.Seen.{seen}
use Rattle.scp_stand_needs.specs.declared.steps.Step.{Step}
use Rattle.scp_stand_needs.specs.declared.steps.Need.{Need}
use Rattle.scp_stand_needs.specs.Needs.{confirms, value_of, IsNeed}

-- Exactly the values for which P holds were added to the set.
abbrev pub Adds : (List ℕ → Type 0) → BTreeSet (List ℕ) → BTreeSet (List ℕ) → Type 0
Adds P old new = (v : List ℕ) → IsTrue (contains value_cmp new v) ↔ (IsTrue (contains value_cmp old v) ⊎ P v)

-- The greatest number for which P holds, if there is one.
abbrev pub IsGreatest : (ℕ → Type 0) → Option ℕ → Type 0
IsGreatest P None = (n : ℕ) → ¬ (P n)
IsGreatest P (Some n) = P n × ((m : ℕ) → P m → m ≤ n)

-- For the ballot's value, the map now has the ballot's counter, or the one it had before if that is greater. Other values stay.
abbrev pub Raises : Ballot → BTreeMap (List ℕ) ℕ → BTreeMap (List ℕ) ℕ → Type 0
Raises x old new =
    (v : List ℕ) → tree.get value_cmp new v ≡ cond (is_at (value_cmp x.value) v) (Some (max x.counter (unwrap_or (tree.get value_cmp old x.value) 0))) (tree.get value_cmp old v)

-- The claim is confirmed, or, for a step that accepts, accepted.
abbrev pub IsReached : Bool → Seen → Claim → Type 0
IsReached true b claim = Confirmed b claim
IsReached false b claim = Accepted b claim

-- What the step of the claim needs, or nothing if the board already allows it.
pub record IsNeedOf (board : Board) (members : List NodeId) (step : Step) (claim : Claim) (next : Option Need) : Type 0 where
  pub some : IfSome next (λ need. IsNeed board members need × (need.step ≡ step) × (need.claim ≡ claim) × (¬ (IsReached (confirms step) (seen (kind_of claim) board) claim)))
  pub none : IfNone next (IsReached (confirms step) (seen (kind_of claim) board) claim)

-- What the claim needs to be accepted, or to be confirmed once it is accepted. Nothing if it is confirmed.
pub record IsNext (board : Board) (members : List NodeId) (accept confirm : Step) (claim : Claim) (next : Option Need) : Type 0 where
  pub some : IfSome next (λ need. IsNeed board members need × (need.claim ≡ claim)
      × (((need.step ≡ accept) × (¬ (Accepted (seen (kind_of claim) board) claim)))
      ⊎ ((need.step ≡ confirm) × Accepted (seen (kind_of claim) board) claim × (¬ (Confirmed (seen (kind_of claim) board) claim)))))
  pub none : IfNone next (Confirmed (seen (kind_of claim) board) claim)

-- The need of the step that is due for a value, if one is due. No other step is due for it.
pub record IsNeedFor (board : Board) (members : List NodeId) (IsDue : Step → Claim → Type 0) (value : List ℕ) (next : Option Need) : Type 0 where
  pub sound : IfSome next (λ need. IsNeed board members need × IsDue need.step need.claim × (value_of need.claim ≡ value))
  pub complete : (step : Step) (claim : Claim) → IsDue step claim → value_of claim ≡ value → IsSomeAnd next (λ need. (need.step ≡ step) × (need.claim ≡ claim))
