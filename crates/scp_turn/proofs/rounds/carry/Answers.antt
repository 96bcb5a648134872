use Rattle.std.proofs.Common.{inl, inr, ◌≡◌, ◌∙◌, ◌+◌, false, Some, ap, sym}
use Rattle.std.specs.Prelude.{slice_get}
use Rattle.std.proofs.lemmas.Option.{slice_get-get_or}
use Rattle.scp_core.specs.Node.{accepts_at}
use Rattle.scp_turn.specs.Rounds.{link_of}
use Rattle.scp_turn.proofs.Acting.{shut_at, carries_nothing}
use Rattle.scp_turn.specs.Watch.{notes}
use Rattle.scp_turn.proofs.rounds.carry.Goals.{then-from-to-via-then-from-to, then-from-to-via-else-from-to+then-drives, then-from-to-via-else-from-to+else-drives+then-not-accepts}
use Rattle.scp_turn.proofs.rounds.carry.Goals as goal

pub returns-then-from-to : goal.returns-then-from-to
returns-then-from-to g c =
    let nodes = c.args.nodes.now.items in
    let from = c.args.from in
    let to = c.args.to in
    carries_nothing (notes g.W.Watch.notes_before g.W.Watch.notes_after) c.args.watch.now nodes c.args.driven.now (from + 1) (to + 1) (elim c.then-from-to.branch [
      | then-from-to-via-then-from-to w ↦ inl (ap (λ k. k + 1) w.if-from-to.true)
      | then-from-to-via-else-from-to+then-drives w ↦ inr (inl (sym w.drives.ensures ∙ w.if-drives.true))
      | then-from-to-via-else-from-to+else-drives+then-not-accepts w ↦
          let is : slice_get nodes to ≡ Some w.index.result.now = slice_get-get_or nodes to w.index.result.now c.requires.to ∙ ap (λ v. Some v) (sym w.index.ensures) in
          let calm : accepts_at w.index.result.now (link_of (from + 1) (to + 1)) ≡ false = ap (λ l. accepts_at w.index.result.now l) (sym w.link_at.ensures) ∙ sym w.accepts.ensures ∙ w.if-not-accepts.true in
          inr (inr (shut_at nodes to w.index.result.now (link_of (from + 1) (to + 1)) is calm))
    ])

pub transmit-requires-clause-accepts : goal.transmit-requires-clause-accepts
transmit-requires-clause-accepts g c =
    let nodes = c.args.nodes.now.items in
    let from = c.args.from in
    let to = c.args.to in
    let is : slice_get nodes to ≡ Some c.index.result.now = slice_get-get_or nodes to c.index.result.now c.requires.to ∙ ap (λ v. Some v) (sym c.index.ensures) in
    (c.index.result.now, is, ap (λ l. accepts_at c.index.result.now l) (sym c.link_at.ensures) ∙ sym c.accepts.ensures ∙ c.if-not-accepts.false)
