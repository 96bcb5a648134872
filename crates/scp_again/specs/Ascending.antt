-- Messages for one peer whose statements never go back, also where a message is repeated (this project's profile).
use Rattle.std.specs.Prelude.{◌≡◌, ◌⊎◌, true, List, Option, Some, None, AllPairs}
use Rattle.scp_core.specs.scp_envelope.specs.declared.statement.Statement.{Statement}
use Rattle.scp_core.specs.scp_envelope.specs.Newer.{IsNewer}
use Rattle.scp_core.specs.scp_wire.specs.declared.message.Message.{Message}
use Rattle.scp_core.specs.scp_outbox.specs.Outbox.{are_alike}
use Rattle.scp_core.specs.scp_outbox.specs.Sent.{statement_of}

-- Of two statements of one slot and kind the later one is the same, or newer.
abbrev pub IsNoOlder : Option Statement → Option Statement → Type 0
IsNoOlder (Some s) (Some t) = are_alike s t ≡ true → (s ≡ t) ⊎ IsNewer s t
IsNoOlder (Some s) None = Unit {0}
IsNoOlder None t = Unit {0}

-- Of each two statements of one slot and kind, the later one is the same or newer.
abbrev pub Ascend : List Message → Type 0
Ascend messages = AllPairs (λ m n. IsNoOlder (statement_of m) (statement_of n)) messages
