-- Which pledges are no EXTERNALIZE.
use Rattle.scp_ledger.specs.scp_envelope.specs.declared.statement.Pledges.{Pledges}
use Rattle.scp_ledger.specs.scp_envelope.specs.declared.statement.Pledges.TheVariants.{Prepare, Confirm, Externalize, Nominate}

-- it is no EXTERNALIZE
abbrev pub IsNoExternalize : Pledges → Type 0
IsNoExternalize (Prepare p) = Unit {0}
IsNoExternalize (Confirm p) = Unit {0}
IsNoExternalize (Externalize p) = ⊥
IsNoExternalize (Nominate p) = Unit {0}
