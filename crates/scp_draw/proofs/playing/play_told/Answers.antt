use Rattle.std.proofs.Common.{ap}
use Rattle.std.specs.Prelude.{Some, None}
use Rattle.std.proofs.lemmas.Result.{IfOk-weaker}
use Rattle.scp_trace.specs.scp_facts.specs.Watching.{WatchView}
use Rattle.scp_draw.specs.declared.playing.LineFacts.{LineFacts}
use Rattle.scp_draw.specs.Lines.{IsToldTo}
use Rattle.scp_draw.specs.inside.Leaving.{IsLeft}
use Rattle.scp_draw.proofs.Leaving.{all_left, cut_left}
use Rattle.scp_draw.proofs.playing.play_told.Goals as goal

pub returns-in-Ok-clause-told : goal.returns-in-Ok-clause-told
returns-in-Ok-clause-told c =
    let commands = c.args.commands.now in
    let lines = c.args.lines.now in
    let network = c.play_lines.new.network in
    let watch = c.play_lines.new.watch in
    let old : LineFacts = record { facts = c.new.result } in
    let first = ap (λ (w : WatchView). let f : LineFacts = record { facts = w } in f) c.new.ensures in
    IfOk-weaker c.left.result (IsLeft network watch None) (λ run. IsToldTo run.stopped commands lines run.network run.tellings.items) (λ run left. all_left c.a_step_is_told_as_it_happened.ensures commands lines network old watch run first c.in-Ok.ensures.played left) c.left.ensures.left

pub returns-else-is_want-clause-told : goal.returns-else-is_want-clause-told
returns-else-is_want-clause-told c =
    let commands = c.args.commands.now in
    let lines = c.args.lines.now in
    let network = c.play_lines.new.network in
    let watch = c.play_lines.new.watch in
    let old : LineFacts = record { facts = c.new.result } in
    let first = ap (λ (w : WatchView). let f : LineFacts = record { facts = w } in f) c.new.ensures in
    let stopped = c.in-Err.stopped in
    let other = c.is_want.ensures.other c.if-is_want.false in
    IfOk-weaker c.left-in-Err.result (IsLeft network watch (Some stopped)) (λ run. IsToldTo run.stopped commands lines run.network run.tellings.items) (λ run left. cut_left c.a_step_is_told_as_it_happened.ensures commands lines network old watch stopped run first other c.in-Err.ensures.stopped left) c.left-in-Err.ensures.left
