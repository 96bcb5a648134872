-- What a slot stage took, in order (this project's profile).
use Rattle.std.specs.Prelude.{List}
use Rattle.serde_json.specs.Data.{Data}
use Rattle.scp_line.specs.scp_ledger.specs.declared.journal.Fate.{Fate}
use Rattle.scp_facts.specs.declared.happening.Happening.{Happening}
use Rattle.scp_facts.specs.Taken.{in_order}
use Rattle.scp_account.specs.Entries.{entry_json}
use Rattle.scp_account.specs.Commands.{command_json}

-- What a slot stage took: the entries of its journal and its commands, in the order in which it took them.
abbrev pub taken_json : List Fate → List Happening → List Data
taken_json journal happenings = in_order entry_json command_json happenings journal
