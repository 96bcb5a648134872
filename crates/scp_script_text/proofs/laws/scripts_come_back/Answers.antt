use Rattle.scp_script_text.proofs.Whole.{come_back}
use Rattle.scp_script_text.proofs.laws.scripts_come_back.Goals as goal

pub returns : goal.returns
returns c =
    let laws = c.what_is_written_says_it.ensures in
    come_back (record { messages = laws.messages; values = laws.values; sets = laws.sets; read_back = c.what_is_written_is_read_back.ensures.read_back })
