use Rattle.std.proofs.Common.{◌≤◌, length, drop, sym}
use Rattle.std.proofs.lemmas.Bool.{ltb-false}
use Rattle.scp_script_check.proofs.Telling.{no_more}
use Rattle.scp_script_check.proofs.warned.of_lines.Goals as goal

pub returns-in_default-clause-found : goal.returns-in_default-clause-found
returns-in_default-clause-found c =
    let w = c.args.whole.now in
    let i = c.loop-index.index in
    let past : length w.commands.now ≤ i = ltb-false i (length w.commands.now) (sym c.in_default.ensures.lookup.0) in
    no_more w.turns.now w.commands.now i (drop i c.args.lines.now) c.loop-index.out.items _ past c.loop-index.invariant.with_rest
