use Rattle.std.proofs.Common.{List, [], ◌∷◌, ◌++◌, refl, subst}
use Rattle.scp_core.specs.scp_types.specs.declared.fault.Fault.TheVariants.{NoMemory}
use Rattle.scp_core.specs.declared.event.Event.TheVariants.{Drain}
use Rattle.scp_core.specs.declared.event.Reply.{Reply}
use Rattle.scp_core.specs.History.{Exchange}
use Rattle.scp_core.specs.Node.{Step}
use Rattle.scp_core.specs.Theorem.{LedgerTheorem}
use Rattle.scp_turn.specs.Watch.{notes}
use Rattle.scp_turn.specs.inside.Draining.{Drained}
use Rattle.scp_turn.proofs.Draws.{draw_sent, draw_refused, others_stay, on_ok_any}
use Rattle.scp_turn.proofs.draining.draw.Goals as goal

pub returns-in-Sent-clause-drawn : goal.returns-in-Sent-clause-drawn
returns-in-Sent-clause-drawn g c =
    let a = c.args.node.now in
    let b = c.step_with.new.node in
    let l = c.args.link in
    let w = c.args.watch.now in
    let z = c.step_with.new.watch in
    draw_sent g.A.Driver.says (notes g.W.Watch.notes_before g.W.Watch.notes_after) c.add.result w z a b l c.in-Sent.bytes c.args.sent.now.items c.add.new.sent.items
    (subst (λ (r : Reply). Step g.A.Driver.says a (Drain l) r b) c.in-Sent.is c.step_with.ensures.step)
    (subst (λ (r : Reply). (past : List Exchange) → LedgerTheorem g.A.Driver.says past a → LedgerTheorem g.A.Driver.says (past ++ (Drain l, r) ∷ []) b) c.in-Sent.is c.step_with.ensures.theorem)
    (subst (λ (r : Reply). notes g.W.Watch.notes_before g.W.Watch.notes_after w 1 (Drain l) r a b z) c.in-Sent.is c.step_with.ensures.noted)
    c.add.ensures.added

pub returns-in-Sent-clause-others : goal.returns-in-Sent-clause-others
returns-in-Sent-clause-others g c =
    on_ok_any c.add.result (others_stay g.A.Driver.says c.args.node.now c.step_with.new.node c.args.link c.in-Sent.bytes (subst (λ (r : Reply). Step g.A.Driver.says c.args.node.now (Drain c.args.link) r c.step_with.new.node) c.in-Sent.is c.step_with.ensures.step))

pub returns-in_default : goal.returns-in_default
returns-in_default g c = record {
  drawn = draw_refused g.A.Driver.says (notes g.W.Watch.notes_before g.W.Watch.notes_after) c.args.watch.now c.step_with.new.watch c.args.node.now c.step_with.new.node c.args.link c.step_with.result NoMemory (λ heard. Drained (Drain c.args.link ∷ []) c.args.sent.now.items c.args.sent.now.items heard) c.step_with.ensures.step c.step_with.ensures.theorem c.step_with.ensures.noted;
  others = tt;
  runs = tt;
  only_memory = refl;
}
