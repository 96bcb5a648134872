use Rattle.scp_script_text.proofs.Whole.{none_refused}
use Rattle.scp_script_text.proofs.laws.none_is_refused.Goals as goal

pub returns : goal.returns
returns c =
    let laws = c.what_is_written_says_it.ensures in
    none_refused (record { messages = laws.messages; values = laws.values; sets = laws.sets; read_back = c.what_is_written_is_read_back.ensures.read_back })
