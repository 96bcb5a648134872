use Rattle.std.proofs.Common.{◌≤◌, length, drop, sym}
use Rattle.std.proofs.lemmas.Bool.{ltb-false}
use Rattle.scp_script_hints.proofs.Telling.{no_more}
use Rattle.scp_script_hints.proofs.lines.of_lines.Goals as goal

pub returns-in_default-clause-found : goal.returns-in_default-clause-found
returns-in_default-clause-found c =
    let commands = c.args.commands.now in
    let i = c.loop-index.index in
    let past : length commands ≤ i = ltb-false i (length commands) (sym c.in_default.ensures.lookup.0) in
    no_more commands i (drop i c.args.lines.now) c.loop-index.out.items _ past c.loop-index.invariant.with_rest
