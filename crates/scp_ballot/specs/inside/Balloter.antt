-- What a balloter keeps; nothing here need be believed.
use Rattle.std.specs.Prelude.{◌≡◌, Bool, false}
use Rattle.std.specs.Option.{option_map}
use Rattle.scp_ballot_rules.specs.scp_envelope.specs.declared.statement.Statement.{Statement}
use Rattle.scp_ballot.specs.View.{BalloterView}
use Rattle.scp_ballot.specs.Balloting.{Ballots, ballots}
use Rattle.scp_ballot.specs.inside.Machine.{IsAtRest}
use Rattle.scp_ballot.specs.declared.machine.Machine.{Machine}
use Rattle.scp_ballot.specs.declared.balloter.Balloter.TheInside as balloter

abbrev pub machine_view : Machine → Bool → BalloterView
machine_view m failed = record { slot = m.slot.0; hash = m.hash; board = m.board; state = m.state; composite = m.state.composite; emitted = option_map (λ (s : Statement). s.pledges) m.emitted; failed = failed }

abbrev pub balloter_view : balloter.Inside → BalloterView
balloter_view a = machine_view a.machine a.failed

-- Between its inputs, while it hasn't failed, its own statement is that of its state, which is ready.
abbrev pub IsWell : balloter.Inside → Type 0
IsWell a = a.failed ≡ false → IsAtRest a.machine

-- what it knows, by its machine
abbrev pub ballots_of : Machine → Bool → Ballots
ballots_of m failed = ballots (machine_view m failed)
