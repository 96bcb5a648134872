-- How an envelope is judged by its values, and compared with the newest one.
use Rattle.std.specs.Prelude.{◌≡◌, ◌⊎◌, ℕ, List, Option, IsSomeAnd}
use Rattle.scp_nominate.specs.scp_envelope.specs.declared.statement.Pledges.{Pledges}
use Rattle.scp_nominate.specs.scp_envelope.specs.declared.statement.Pledges.TheVariants.{Prepare, Confirm, Externalize, Nominate}
use Rattle.scp_nominate.specs.scp_envelope.specs.declared.statement.Statement.{Statement}
use Rattle.scp_nominate.specs.scp_envelope.specs.Newer.{IsNewer}
use Rattle.scp_nominate.specs.scp_driver.specs.declared.driver.Level.{Level}
use Rattle.scp_nominate.specs.scp_driver.specs.declared.driver.Level.TheVariants.{Invalid}
use Rattle.scp_slot.specs.declared.newest.Heard.{Heard}

-- the driver calls the value invalid
abbrev pub IsInvalid : (List ℕ → Level) → List ℕ → Type 0
IsInvalid level value = level value ≡ Invalid

-- the pledges are a ballot statement's, with an invalid value
abbrev pub HasInvalid : (List ℕ → Level) → Pledges → Type 0
HasInvalid level (Prepare p) = IsInvalid level p.ballot.value ⊎ IsSomeAnd p.prepared (λ b. IsInvalid level b.value) ⊎ IsSomeAnd p.prepared_prime (λ b. IsInvalid level b.value)
HasInvalid level (Confirm p) = IsInvalid level p.ballot.value
HasInvalid level (Externalize p) = IsInvalid level p.commit.value
HasInvalid level (Nominate p) = ⊥

-- there is a newest one, and the statement isn't newer than it
abbrev pub IsBehind : Option Heard → Statement → Type 0
IsBehind newest s = IsSomeAnd newest (λ h. ¬ (IsNewer h.statement s))
