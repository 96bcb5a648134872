-- What an input makes of the state, and what the rules then make of it (the SCP draft, in this project's profile).
use Rattle.std.specs.Prelude.{◌≡◌, ◌≢◌, ◌+◌, ◌⊎◌, ℕ, List, Bool, Some, None}
use Rattle.scp_vote.specs.scp_types.specs.declared.names.Hash.{Hash}
use Rattle.scp_vote.specs.Board.{Seen}
use Rattle.scp_ballot_rules.specs.declared.state.State.{State}
use Rattle.scp_ballot_rules.specs.declared.state.Phase.{Phase}
use Rattle.scp_ballot_rules.specs.declared.state.Phase.TheVariants.{Prepare, Confirm, Externalize}
use Rattle.scp_ballot_rules.specs.Own.{counter_of}
use Rattle.scp_ballot_rules.specs.Greatest.{Where, ballot_at}
use Rattle.scp_ballot_rules.specs.RaiseCounter.{RaiseTo}
use Rattle.scp_ballot_rules.specs.Steps.{renewed, Settles}

-- The composite z is kept, and present becomes (1, z) if it is absent. It is kept only in the phase Prepare, since no later rule
-- reads it.
pub record Composed (z : List ℕ) (s t : State) : Type 0 where
  pub frame : t ≡ record s { present = t.present; composite = Some z }
  pub present : Where (s.present ≡ None) (Some (ballot_at 1 z)) s.present t.present

-- what a composite makes of the ballots, by the phase
abbrev pub Compose : Phase → List ℕ → State → State → Type 0
Compose Prepare z s t = Composed z s t
Compose Confirm z s t = t ≡ s
Compose Externalize z s t = t ≡ s

-- A timer raises present's counter by one, if there is a value for it; at the greatest counter nothing changes.
abbrev pub Time : State → State → Type 0
Time s t = ((counter_of s.present ≡ 4294967295) × (t ≡ s)) ⊎ ((counter_of s.present ≢ 4294967295) × RaiseTo (counter_of s.present + 1) s t)

-- After an input that made `mid` of the state: the own statement is renewed if the state changed, and then the rules are tried.
pub record AfterInput (hash : Hash) (b : Seen) (s mid : State) (c : Seen) (t : State) (more : Bool) : Type 0 where
  pub start : Seen
  pub renews : Where (mid ≢ s) (renewed hash b mid) b start
  pub settles : Settles 64 hash start mid c t more
