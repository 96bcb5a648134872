use Rattle.std.proofs.Common.{◌++◌, ◌∙◌, ℕ, List, ap, drop}
use Rattle.std.proofs.lemmas.List.{take_rest, drop-drop}
use Rattle.scp_batches.specs.Lines.{front_of}
use Rattle.scp_batches.proofs.Splitting.{fed_none, fed_line, fed_all, held_more}
use Rattle.scp_batches.proofs.lines.feed.Goals as goal

pub loop-end-init : goal.loop-end-init
loop-end-init c = fed_none c.args.held.now.items c.args.bytes.now c.new-lines.result.items c.requires c.new-lines.ensures.items

pub loop-end-preserved : goal.loop-end-preserved
loop-end-preserved c =
    let behind = take_rest c.split_at.result.1.now 1 ∙ ap (drop 1) c.split_at.ensures.back ∙ drop-drop 1 c.in-Some.end c.loop-end.rest.now in
    let line = c.in_ok-line.ensures.line ∙ ap (λ (l : List ℕ). front_of (c.loop-end.held.items ++ l)) c.split_at.ensures.front in
    fed_line c.args.held.now.items c.args.bytes.now c.loop-end.rest.now c.loop-end.lines.items c.loop-end.held.items c.end_line.new.held.items c.in_ok-line.line _ c.push.new.self.items c.in-Some.end
    c.loop-end.invariant c.in-Some.ensures.found line c.in_ok-line.ensures.new c.in_ok-push.ensures.items behind c.in_ok-line.ensures.held

pub returns-clause-gives : goal.returns-clause-gives
returns-clause-gives c = fed_all c.args.held.now.items c.args.bytes.now c.loop-end.rest.now c.loop-end.lines.items c.loop-end.held.items c.add.new.front.items c.loop-end.invariant c.in_default.ensures.none c.in_ok-add.ensures.ok

pub returns-clause-held : goal.returns-clause-held
returns-clause-held c = held_more c.loop-end.held.items c.loop-end.rest.now c.add.new.front.items c.loop-end.invariant.held.line c.in_default.ensures.none c.in_ok-add.ensures.ok
