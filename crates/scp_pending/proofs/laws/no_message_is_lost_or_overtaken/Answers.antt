use Rattle.scp_pending.proofs.Accounting.{all_accounts}
use Rattle.scp_pending.proofs.laws.no_message_is_lost_or_overtaken.Goals as goal

pub returns : goal.returns
returns c = record { accounts = all_accounts }
