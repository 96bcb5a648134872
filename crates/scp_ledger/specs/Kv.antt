-- A ledger whose values are operation lists (this project's profile).
use Rattle.scp_slot.specs.scp_driver.specs.declared.kv_driver.KvDriver.{KvDriver}
use Rattle.scp_ledger.specs.Seen.{LedgerView}

-- what contracts see of a ledger whose values are operation lists
abbrev pub KvLedger : Type 0
KvLedger = LedgerView KvDriver
