use Rattle.scp_notices.proofs.text.write_notice.Goals as goal

pub returns-in-Overwritten : goal.returns-in-Overwritten
returns-in-Overwritten c = rw c.in-Overwritten.is c.write_overwritten.ensures
