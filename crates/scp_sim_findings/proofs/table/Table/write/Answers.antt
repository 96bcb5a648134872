use Rattle.std.proofs.Common.{◌++◌, codes, string_bytes}
use Rattle.std.specs.Fmt.{decimal}
use Rattle.scp_sim_findings.specs.Sums.{findings_line}
use Rattle.scp_sim_findings.proofs.Texts.{line_after, two_after}
use Rattle.scp_sim_findings.proofs.table.Table.write.Goals as goal

pub returns : goal.returns
returns c =
    let t = c.args.self.now in
    let old = string_bytes c.args.text.now in
    let runs = codes "runs " ++ decimal t.runs ++ codes "\n" in
    let found = runs ++ findings_line t in
    let slots = codes "slots " ++ decimal t.closed ++ codes " in " ++ decimal t.time ++ codes " ms\n" in
    let messages = codes "messages " ++ decimal t.sent ++ codes " lost " ++ decimal t.lost ++ codes "\n" in
    let timers = codes "timers rounds " ++ decimal t.rounds ++ codes " ballots " ++ decimal t.ballots ++ codes "\n" in
    let to_found = line_after _ _ old runs (findings_line t) c.in_ok-write_findings.ensures c.in_ok-writeln.ensures.bytes in
    let to_slots = two_after _ _ old found (codes "slots ") (decimal t.closed) (codes " in ") (decimal t.time) (codes " ms\n") c.in_ok-writeln-2.ensures.bytes to_found in
    let to_messages = two_after _ _ old (found ++ slots) (codes "messages ") (decimal t.sent) (codes " lost ") (decimal t.lost) (codes "\n") c.in_ok-writeln-3.ensures.bytes to_slots in
    let to_timers = two_after _ _ old (found ++ slots ++ messages) (codes "timers rounds ") (decimal t.rounds) (codes " ballots ") (decimal t.ballots) (codes "\n") c.in_ok-writeln-4.ensures.bytes to_messages in
    line_after _ _ old (found ++ slots ++ messages ++ timers) (codes "asked " ++ decimal t.asked ++ codes "\n") c.in_ok-writeln-5.ensures.bytes to_timers
