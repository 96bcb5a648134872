use Rattle.scp_shown.proofs.Oneness.{ledger_one}
use Rattle.scp_shown.proofs.laws.entries_have_one_list_of_lines.Goals as goal

pub returns : goal.returns
returns c = ledger_one
