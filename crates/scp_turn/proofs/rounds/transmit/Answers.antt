use Rattle.std.proofs.Common.{◌+◌, ℕ, subst}
use Rattle.scp_core.specs.declared.event.Event.TheVariants.{Drain, Send}
use Rattle.scp_core.specs.declared.event.Reply.TheVariants.{Sent}
use Rattle.scp_turn.specs.Rounds.{link_of}
use Rattle.scp_turn.specs.Heard.{Noted}
use Rattle.scp_turn.specs.Network.{IsAnswered}
use Rattle.scp_turn.proofs.Acting.{dry, sent}
use Rattle.scp_turn.specs.Watch.{notes}
use Rattle.scp_turn.proofs.rounds.transmit.Goals as goal

pub returns-in-Sent : goal.returns-in-Sent
returns-in-Sent g c =
    let Note = notes g.W.Watch.notes_before g.W.Watch.notes_after in
    let w = c.args.watch.now in
    let v = c.hear.new.watch in
    let z = c.hear-in-Sent.new.watch in
    let old = c.args.nodes.now.items in
    let mid = c.hear.new.nodes.items in
    let new = c.hear-in-Sent.new.nodes.items in
    let from = c.args.from in
    let to = c.args.to in
    let bytes = c.in-Sent.bytes in
    let drained : IsAnswered (Noted Note w v) old (from + 1) (Drain (link_of (to + 1) (from + 1))) (Sent bytes) mid =
    subst (λ (l : ℕ). IsAnswered (Noted Note w v) old (from + 1) (Drain l) (Sent bytes) mid) c.link_at.ensures (rw c.in-Sent.is at c.hear.ensures) in
    let taken : IsAnswered (Noted Note v z) mid (to + 1) (Send (link_of (from + 1) (to + 1)) bytes) c.hear-in-Sent.result new =
    subst (λ (l : ℕ). IsAnswered (Noted Note v z) mid (to + 1) (Send l bytes) c.hear-in-Sent.result new) c.link_at-in-Sent.ensures c.hear-in-Sent.ensures in
    sent Note w v z old mid new from to bytes c.hear-in-Sent.result c.requires.apart c.requires.accepts drained taken

pub returns-in_default : goal.returns-in_default
returns-in_default g c =
    let Note = notes g.W.Watch.notes_before g.W.Watch.notes_after in
    let w = c.args.watch.now in
    let z = c.hear.new.watch in
    let old = c.args.nodes.now.items in
    let new = c.hear.new.nodes.items in
    let from = c.args.from in
    let to = c.args.to in
    dry Note w z old new (from + 1) (to + 1) c.hear.result c.in_default.not-Sent
    (subst (λ (l : ℕ). IsAnswered (Noted Note w z) old (from + 1) (Drain l) c.hear.result new) c.link_at.ensures c.hear.ensures)
