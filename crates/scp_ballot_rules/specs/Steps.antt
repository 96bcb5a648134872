-- The rules in their order, and what they come to (this project's profile: the order, and at most 64 of them).
use Rattle.std.specs.Prelude.{◌≡◌, ◌≢◌, ◌⊎◌, ℕ, zero, suc, Bool, true, false, Option, Some, None}
use Rattle.scp_vote.specs.scp_types.specs.declared.names.Hash.{Hash}
use Rattle.scp_vote.specs.Board.{Seen}
use Rattle.scp_vote.specs.Licence.{with_own}
use Rattle.scp_ballot_rules.specs.declared.state.State.{State}
use Rattle.scp_ballot_rules.specs.Own.{own_of}
use Rattle.scp_ballot_rules.specs.AcceptPrepared.{AcceptPrepared}
use Rattle.scp_ballot_rules.specs.ConfirmPrepared.{ConfirmPrepared}
use Rattle.scp_ballot_rules.specs.AcceptCommit.{AcceptCommit}
use Rattle.scp_ballot_rules.specs.ConfirmCommit.{ConfirmCommit}
use Rattle.scp_ballot_rules.specs.RaiseCounter.{RaiseCounter}

-- the first relation if it changes the state, and else the second
abbrev pub OrElse : (State → State → Type 0) → (State → State → Type 0) → State → State → Type 0
OrElse R Q s t = (R s t × (t ≢ s)) ⊎ (R s s × Q s t)

-- The first rule that changes the state is applied; if none does, the state stays.
abbrev pub Step : Seen → State → State → Type 0
Step b s t = OrElse (AcceptPrepared s.phase b) (OrElse (ConfirmPrepared s.phase b) (OrElse (AcceptCommit s.phase b) (OrElse (ConfirmCommit s.phase b) (RaiseCounter b)))) s t

-- a rule's answer: the new state if it changes the state, and none if it doesn't
abbrev pub Answers : (State → State → Type 0) → State → Option State → Type 0
Answers R s None = R s s
Answers R s (Some t) = R s t × (t ≢ s)

-- the board with the state's own statement
abbrev pub renewed : Hash → Seen → State → Seen
renewed hash b s = with_own b (Some (own_of hash s))

-- Rules are applied until none changes the state, or until this many were applied; then `more` is true.
abbrev pub Settles : ℕ → Hash → Seen → State → Seen → State → Bool → Type 0
Settles zero hash b s c t more = (c ≡ b) × (t ≡ s) × (more ≡ true)
Settles (suc n) hash b s c t more = (Step b s s × (c ≡ b) × (t ≡ s) × (more ≡ false)) ⊎ ((next : State) × Step b s next × (next ≢ s) × Settles n hash (renewed hash b next) next c t more)
