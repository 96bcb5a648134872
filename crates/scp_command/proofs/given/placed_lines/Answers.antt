use Rattle.std.proofs.Common.{arith, ap, ◌∙◌, ◌++◌, ◌∷◌, [], ℕ}
use Rattle.scp_command.specs.Given.{placed}
use Rattle.scp_command.proofs.Placing.{lines_more, lines_end}
use Rattle.scp_command.proofs.given.placed_lines.Goals as goal

pub loop-line-preserved : goal.loop-line-preserved
loop-line-preserved c =
    lines_more (placed c.args.expanded.now.lines) c.loop-line.out.items _ _ c.args.lines.now c.loop-line.line-index _ (omega arith) (c.in_ok-push.ensures.items ∙ ap (λ (n : ℕ). c.loop-line.out.items ++ n ∷ []) c.place_of.ensures) c.loop-line.invariant

pub returns : goal.returns
returns c = lines_end (placed c.args.expanded.now.lines) c.loop-line.out.items _ c.args.lines.now c.loop-line.line-index c.loop-line-test.false c.loop-line.invariant
