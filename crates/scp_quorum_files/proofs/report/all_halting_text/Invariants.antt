use Rattle.std.proofs.Common.{take, string_bytes}
use Rattle.scp_quorum_files.specs.Report.{TellAllHalting}
use Rattle.scp_quorum_files.proofs.report.all_halting_text.Given as goal

abbrev pub invariant-loop-member : goal.invariant-loop-member
invariant-loop-member l = TellAllHalting l.all l.members (take l.member-index l.members) (string_bytes l.out)
