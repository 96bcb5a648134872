use Rattle.std.proofs.Common.{◌∙◌, ◌++◌, ℕ, List, [], ap, codes, length}
use Rattle.std.specs.Fmt.{decimal}
use Rattle.scp_sim_findings.proofs.Texts.{line_after, two_after, three_after}
use Rattle.scp_sim_findings.proofs.running.counted.Goals as goal

pub returns : goal.returns
returns c =
    let run = c.args.run.now in
    let counts = run.counts in
    let first = codes "seed " ++ decimal c.args.seed ++ codes "\n" in
    let time = codes "time " ++ decimal run.time ++ codes " ms\n" in
    let messages = codes "messages " ++ decimal counts.sent ++ codes " lost " ++ decimal counts.lost ++ codes " doubled " ++ decimal counts.doubled ++ codes "\n" in
    let timers = codes "timers rounds " ++ decimal counts.rounds ++ codes " ballots " ++ decimal counts.ballots ++ codes "\n" in
    let asked = codes "asked " ++ decimal counts.asked ++ codes "\n" in
    let to_time = line_after _ _ [] first time c.in_ok-writeln-2.ensures.bytes (c.in_ok-writeln.ensures.bytes ∙ ap (λ (t : List ℕ). t ++ first) c.new-text.ensures.bytes) in
    let to_messages = three_after _ _ [] (first ++ time) (codes "messages ") (decimal counts.sent) (codes " lost ") (decimal counts.lost) (codes " doubled ") (decimal counts.doubled) (codes "\n") c.in_ok-writeln-3.ensures.bytes to_time in
    let to_timers = two_after _ _ [] (first ++ time ++ messages) (codes "timers rounds ") (decimal counts.rounds) (codes " ballots ") (decimal counts.ballots) (codes "\n") c.in_ok-writeln-4.ensures.bytes to_messages in
    let to_asked = line_after _ _ [] (first ++ time ++ messages ++ timers) asked c.in_ok-writeln-5.ensures.bytes to_timers in
    line_after _ _ [] (first ++ time ++ messages ++ timers ++ asked) (codes "script " ++ decimal (length c.args.script.now) ++ codes " bytes\n") c.in_ok-writeln-6.ensures.bytes to_asked
