use Rattle.std.proofs.Common.{◌≡◌, true, List, [], ◌∷◌, ◌++◌, ℕ, refl, sym, ◌∙◌, ap, subst, append_assoc, arith, rules}
use Rattle.std.proofs.lemmas.List.{append-nil, nil_from_length}
use Rattle.scp_stand_node.specs.scp_types.specs.declared.fault.Fault.TheVariants.{BadConfig}
use Rattle.scp_stand_node.specs.scp_turn.specs.Episode.{finds_full}
use Rattle.scp_stand_node.specs.scp_turn.specs.Watch.{notes}
use Rattle.scp_live_process.specs.Closing.{IsNoEventLine, close_line}
use Rattle.scp_live_process.specs.inside.Replaying.{AddsCloses}
use Rattle.scp_live_process.proofs.Going.{seen_nothing, seen_as, seen_then, seen_running}
use Rattle.scp_live_process.proofs.Acts.{err_as, full_behind}
use Rattle.scp_live_process.proofs.Started.{none_closed, one_closed}
use Rattle.scp_live_process.proofs.starting.close_all.Goals as goal

pub loop-link-init : goal.loop-link-init
loop-link-init g c = record {
  closed = seen_nothing (notes g.V.Watch.notes_before g.V.Watch.notes_after) c.args.watch.now c.args.live.now.node (λ heard. AddsCloses [] c.args.live.now heard c.args.live.now c.args.batch.now c.args.batch.now) (none_closed c.args.live.now c.args.batch.now);
  live = c.requires.live;
  names = refl;
  all = search rules;
}

pub returns-in-Err-clause-closed : goal.returns-in-Err-clause-closed
returns-in-Err-clause-closed g c =
    seen_then (notes g.V.Watch.notes_before g.V.Watch.notes_after) c.args.watch.now c.loop-link.watch c.close.new.watch c.args.live.now.node c.loop-link.live.node c.close.new.live.node
    (λ heard. AddsCloses c.loop-link.yielded c.args.live.now heard c.loop-link.live c.args.batch.now c.loop-link.batch × (finds_full heard ≡ true → ⊥)) _ _
    (λ x y p q. (tt, full_behind c.in-Err.fault x y p.1 q.1))
    (seen_running (notes g.V.Watch.notes_before g.V.Watch.notes_after) c.args.watch.now c.loop-link.watch c.args.live.now.node c.loop-link.live.node (λ heard. AddsCloses c.loop-link.yielded c.args.live.now heard c.loop-link.live c.args.batch.now c.loop-link.batch) c.loop-link.invariant.live.runs c.loop-link.invariant.closed)
    c.in-Err.ensures.closed

pub returns-clause-closed : goal.returns-clause-closed
returns-clause-closed g c =
    let links = c.loop-link.yielded in
    let none : c.loop-link.link-iterator.rest.items ≡ [] = nil_from_length c.loop-link.link-iterator.rest.items (omega (arith, c.loop-link.link-iterator.rest.ok, c.in-None.ensures.steps.0)) in
    let all : c.args.links.items ≡ links = c.loop-link.invariant.all ∙ ap (λ (l : List ℕ). links ++ l) none ∙ append-nil links in
    seen_as (notes g.V.Watch.notes_before g.V.Watch.notes_after) c.args.watch.now c.loop-link.watch c.args.live.now.node c.loop-link.live.node _ _
    (λ heard p. (
      subst (λ (l : List ℕ). AddsCloses l c.args.live.now heard c.loop-link.live c.args.batch.now c.loop-link.batch) (sym all) p.0,
      (λ full. absurd cc, λ found. absurd (p.1 found)),
    ))
    (seen_running (notes g.V.Watch.notes_before g.V.Watch.notes_after) c.args.watch.now c.loop-link.watch c.args.live.now.node c.loop-link.live.node (λ heard. AddsCloses c.loop-link.yielded c.args.live.now heard c.loop-link.live c.args.batch.now c.loop-link.batch) c.loop-link.invariant.live.runs c.loop-link.invariant.closed)

pub returns-in-Err-clause-unsaid : goal.returns-in-Err-clause-unsaid
returns-in-Err-clause-unsaid g c e = record {
  front = c.loop-link.yielded;
  link = c.in-Some.link;
  rest = c.next.new.self.rest.items;
  among = c.loop-link.invariant.all ∙ ap (λ (l : List ℕ). c.loop-link.yielded ++ l) c.in-Some.ensures.steps.0;
  none = subst (λ (ns : List (List ℕ)). IsNoEventLine ns (close_line ns c.in-Some.link)) c.loop-link.invariant.names (c.in-Err.ensures.unsaid (err_as c.in-Err.fault BadConfig e));
}

pub loop-link-preserved : goal.loop-link-preserved
loop-link-preserved g c =
    let links = c.loop-link.yielded in
    let link = c.in-Some.link in
    record {
      closed = seen_then (notes g.V.Watch.notes_before g.V.Watch.notes_after) c.args.watch.now c.loop-link.watch c.close.new.watch c.args.live.now.node c.loop-link.live.node c.close.new.live.node
          (λ heard. AddsCloses links c.args.live.now heard c.loop-link.live c.args.batch.now c.loop-link.batch) _
          (λ heard. AddsCloses (links ++ link ∷ []) c.args.live.now heard c.close.new.live c.args.batch.now c.close.new.batch)
          (λ x y p q. one_closed links link c.args.live.now c.loop-link.live c.close.new.live x y c.args.batch.now c.loop-link.batch c.close.new.batch p c.loop-link.invariant.names q.0.0)
          c.loop-link.invariant.closed c.in-Ok.ensures.closed;
      live = c.in-Ok.ensures.live;
      names = c.in-Ok.ensures.closed.is.1.0.1 ∙ c.loop-link.invariant.names;
      all = c.loop-link.invariant.all ∙ ap (λ (l : List ℕ). links ++ l) c.in-Some.ensures.steps.0 ∙ sym (append_assoc links (link ∷ []) c.next.new.self.rest.items);
    }
