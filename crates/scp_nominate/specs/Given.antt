-- What an input gives.
use Rattle.std.specs.Prelude.{◌≡◌, ◌<◌, ◌↔◌, ℕ, List, length, Option, IsSome, IsSomeAnd}
use Rattle.std.specs.Option.{ForSome}
use Rattle.std.specs.List.Sorted.{IsStrictlySortedBy}
use Rattle.scp_vote.specs.scp_envelope.specs.Ballots.{value_cmp}
use Rattle.scp_vote.specs.scp_envelope.specs.Newer.{ArePledgesNewer}
use Rattle.scp_vote.specs.scp_envelope.specs.Sane.{IsSane}
use Rattle.scp_vote.specs.scp_envelope.specs.declared.statement.Pledges.{Pledges}

-- there is a statement now, it is sane, and it is newer than the one before, if there was one
abbrev pub IsWorth : Option Pledges → Option Pledges → Type 0
IsWorth before now = IsSomeAnd now (λ q. IsSane q × ForSome before (λ p. ArePledgesNewer p q))

-- There is a composite exactly where the candidates grew, and it is what all of them, ascending, are combined to.
pub record GivesComposite (combined : List (List ℕ) → List ℕ) (old new : List (List ℕ)) (composite : Option (List ℕ)) : Type 0 where
  pub grew : IsSome composite ↔ (length old < length new)
  pub all : ForSome composite (λ v. v ≡ combined new)
  pub ascending : IsStrictlySortedBy value_cmp new
