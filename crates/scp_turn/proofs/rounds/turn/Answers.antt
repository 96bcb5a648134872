use Rattle.std.proofs.Common.{rules, ◌≡◌, ◌+◌, ◌-◌, ℕ, length, subst}
use Rattle.scp_turn.specs.Heard.{InOrder, Noted}
use Rattle.scp_turn.specs.Rounds.{HearsAll, Carries}
use Rattle.scp_turn.specs.Turn.{stage_events}
use Rattle.scp_turn.specs.inside.Carrying.{Acts}
use Rattle.scp_turn.proofs.Hearing.{acts_then}
use Rattle.scp_turn.specs.Watch.{notes}
use Rattle.scp_turn.proofs.rounds.turn.Goals as goal

pub returns : goal.returns
returns g c =
    let Note = notes g.W.Watch.notes_before g.W.Watch.notes_after in
    let w = c.args.watch.now in
    let v = c.work_at-moved.new.watch in
    let z = c.carry_all-sent.new.watch in
    let old = c.args.nodes.now.items in
    let mid = c.work_at-moved.new.nodes.items in
    let new = c.carry_all-sent.new.nodes.items in
    let count : c.len.result ≡ length old = search rules in
    let worked : Acts (Noted Note w v) old mid (HearsAll (c.args.index + 1) (stage_events (length old - 1))) c.work_at-moved.result =
    subst (λ (j : ℕ). Acts (Noted Note w v) old mid (HearsAll (c.args.index + 1) (stage_events (j - 1))) c.work_at-moved.result) count c.work_at-moved.ensures in
    let sent : Acts (Noted Note v z) mid new (InOrder (Carries c.args.driven.now (c.args.index + 1)) (length old)) c.carry_all-sent.result =
    subst (λ (j : ℕ). Acts (Noted Note v z) mid new (InOrder (Carries c.args.driven.now (c.args.index + 1)) j) c.carry_all-sent.result) c.work_at-moved.ensures.count c.carry_all-sent.ensures in
    acts_then Note w v z old mid new (HearsAll (c.args.index + 1) (stage_events (length old - 1))) (InOrder (Carries c.args.driven.now (c.args.index + 1)) (length old)) c.work_at-moved.result c.carry_all-sent.result c.either.result c.either.ensures worked sent
