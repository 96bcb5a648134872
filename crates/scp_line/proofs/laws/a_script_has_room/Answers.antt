use Rattle.scp_line.proofs.Fits.{lines_have_room}
use Rattle.scp_line.proofs.laws.a_script_has_room.Goals as goal

pub returns : goal.returns
returns c = record { room = lines_have_room }
