-- What the rules come to, exactly.
-- No public clause reaches this: nothing here need be believed.
use Rattle.std.specs.Prelude.{◌≡◌, ◌+◌, ℕ, Bool, Option, Some, None}
use Rattle.scp_ballot_rules.specs.scp_vote.specs.Board.{Seen}
use Rattle.scp_ballot_rules.specs.declared.state.State.{State}
use Rattle.scp_ballot_rules.specs.Steps.{renewed, Settles}
use Rattle.scp_ballot.specs.declared.machine.Machine.{Machine}
use Rattle.scp_ballot_rules.specs.Told.{ballots_on}

-- The rules lead here from the state that an input made, with its own statement renewed; or from the state as it was.
abbrev pub ComesTo : Machine → Option State → Seen → State → Bool → Type 0
ComesTo m None c t more = Settles 64 m.hash (ballots_on m.board) m.state c t more
ComesTo m (Some s) c t more = Settles 64 m.hash (renewed m.hash (ballots_on m.board) s) s c t more

-- after this many applications: what the rules come to from here, they come to from the first state
abbrev pub GoesTo : Machine → Option State → Machine → ℕ → Type 0
GoesTo m first now done = (k : ℕ) → done + k ≡ 64 → (c : Seen) (t : State) (more : Bool) → Settles k m.hash (ballots_on now.board) now.state c t more → ComesTo m first c t more
