-- The steps in their order, repeated until they change nothing (this project's profile).
use Rattle.std.specs.Prelude.{◌≡◌, ◌⊎◌, ℕ, zero, suc, List, Option, Some}
use Rattle.scp_vote.specs.scp_types.specs.declared.names.NodeId.{NodeId}
use Rattle.scp_vote.specs.scp_types.specs.declared.names.Hash.{Hash}
use Rattle.scp_vote.specs.scp_envelope.specs.declared.statement.Pledges.TheVariants.{Nominate as Nominating}
use Rattle.scp_vote.specs.Board.{Seen}
use Rattle.scp_vote.specs.Licence.{with_own}
use Rattle.scp_nominate.specs.Owed.{OwnLists}
use Rattle.scp_nominate.specs.Voting.{VotesFirst}
use Rattle.scp_nominate.specs.Taking.{TakesInTurn, FindsAll}

-- what the steps go by: which values are fully validated, what is extracted from the others, who leads, and the own proposal
pub record Rule : Type 1 where
  pub full : List ℕ → Type 0
  pub extracted : List ℕ → Option (List ℕ)
  pub leads : NodeId → Type 0
  pub proposal : Option (List ℕ)

-- Steps 1 to 3 on one board.
pub record StepsOnce (rule : Rule) (b : Seen) (s t : OwnLists) : Type 0 where
  pub voted : OwnLists
  pub votes : VotesFirst rule.full rule.extracted rule.leads rule.proposal b s voted
  pub taken : OwnLists
  pub takes : TakesInTurn rule.full b voted taken
  pub finds : FindsAll b taken t

-- the own statement of the lists is as before
abbrev pub SaysTheSame : OwnLists → OwnLists → Type 0
SaysTheSame s t = (t.votes ≡ s.votes) × (t.accepted ≡ s.accepted)

-- Step 4: the board with the own statement of the lists.
abbrev pub renewed : Hash → Seen → OwnLists → Seen
renewed hash b s = with_own b (Some (Nominating (record { set_hash = hash; votes = s.votes; accepted = s.accepted })))

-- The steps, at most this many times. If they leave the own statement as it is, they end, since they would change nothing
-- more. Else the own statement is renewed on the board, and they begin again.
abbrev pub Repeats : ℕ → Rule → Hash → Seen → OwnLists → Seen → OwnLists → Type 0
Repeats zero rule hash b s c t = ⊥
Repeats (suc n) rule hash b s c t = (mid : OwnLists) × StepsOnce rule b s mid × ((SaysTheSame s mid × (c ≡ b) × (t ≡ mid)) ⊎ ((¬ (SaysTheSame s mid)) × Repeats n rule hash (renewed hash b mid) mid c t))

-- The steps lead from the first board and lists to the second ones.
abbrev pub LeadsTo : Rule → Hash → Seen → OwnLists → Seen → OwnLists → Type 0
LeadsTo rule hash b s c t = (n : ℕ) × Repeats n rule hash b s c t
