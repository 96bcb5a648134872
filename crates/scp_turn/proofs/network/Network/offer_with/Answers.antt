use Rattle.std.proofs.Common.{◌≡◌, ◌+◌, ℕ, ap, subst, arith}
use Rattle.scp_turn.specs.Watch.{notes}
use Rattle.scp_turn.specs.Heard.{Nodes, Noted}
use Rattle.scp_turn.specs.Network.{IsAnswered}
use Rattle.scp_turn.proofs.network.Network.offer_with.Goals as goal

pub returns-clause-offered : goal.returns-clause-offered
returns-clause-offered g c =
    let Also = Noted (notes g.W.Watch.notes_before g.W.Watch.notes_after) c.args.watch.now c.hear.new.watch in
    let number : c.from-index.result + 1 ≡ c.args.number = omega arith in
    let new = c.hear.new.nodes.items in (
      subst (λ (n : ℕ). IsAnswered Also c.args.self.now.nodes n c.args.event c.hear.result new) number
          (subst (λ (old : Nodes). IsAnswered Also old (c.from-index.result + 1) c.args.event c.hear.result new) (ap (λ v. v.nodes) c.self.view_is) c.hear.ensures),
      ap (λ v. v.driven) c.self.view_is,
    )
