use Rattle.scp_threaded_script.proofs.Faults.{reader_gone}
use Rattle.scp_threaded_script.proofs.lines.fault_at.Goals as goal

pub returns-in-Refused : goal.returns-in-Refused
returns-in-Refused c = λ count one act tail told. reader_gone count c.args.node act tail c.args.fault _ c.in-Refused.is one told
