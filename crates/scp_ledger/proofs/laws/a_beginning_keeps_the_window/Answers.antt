use Rattle.scp_ledger.proofs.Journaling.{window_is_kept}
use Rattle.scp_ledger.proofs.laws.a_beginning_keeps_the_window.Goals as goal

pub returns : goal.returns
returns c = record { kept = window_is_kept }
