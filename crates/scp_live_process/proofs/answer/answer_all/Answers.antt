use Rattle.std.proofs.Common.{◌≡◌, true, List, [], ◌∷◌, ◌++◌, sym, ◌∙◌, ap, subst, append_assoc, ℕ, arith}
use Rattle.std.proofs.lemmas.List.{append-nil, nil_from_length}
use Rattle.scp_stand_node.specs.scp_turn.specs.Episode.{finds_full}
use Rattle.scp_stand_node.specs.scp_turn.specs.Watch.{notes}
use Rattle.scp_live_process.specs.Answers.{IsAnswered, AreAnswered, next_number}
use Rattle.scp_live_process.specs.Adding.{Adds}
use Rattle.scp_live_process.proofs.Going.{seen_as, seen_then, seen_running}
use Rattle.scp_live_process.proofs.Acts.{full_behind}
use Rattle.scp_live_process.proofs.Answering.{one_added, number_on}
use Rattle.scp_live_process.proofs.answer.answer_all.Goals as goal

pub returns-in-Err-clause-answered : goal.returns-in-Err-clause-answered
returns-in-Err-clause-answered g c =
    seen_then (notes g.V.Watch.notes_before g.V.Watch.notes_after) c.args.watch.now c.loop-line.watch c.answer.new.watch c.args.live.now.node c.loop-line.live.node c.answer.new.live.node
    (λ heard. Adds (AreAnswered c.args.number c.loop-line.yielded) c.args.live.now heard c.loop-line.live c.args.batch.now c.loop-line.batch × (finds_full heard ≡ true → ⊥)) _ _
    (λ x y p q. (tt, full_behind c.in-Err.fault x y p.1 q.1))
    (seen_running (notes g.V.Watch.notes_before g.V.Watch.notes_after) c.args.watch.now c.loop-line.watch c.args.live.now.node c.loop-line.live.node (λ heard. Adds (AreAnswered c.args.number c.loop-line.yielded) c.args.live.now heard c.loop-line.live c.args.batch.now c.loop-line.batch) c.loop-line.invariant.live.runs c.loop-line.invariant.answered)
    c.in-Err.ensures.answered

pub returns-clause-answered : goal.returns-clause-answered
returns-clause-answered g c =
    let lines = c.loop-line.yielded in
    let none : c.loop-line.line-iterator.rest.items ≡ [] = nil_from_length c.loop-line.line-iterator.rest.items (omega (arith, c.loop-line.line-iterator.rest.ok, c.in-None.ensures.steps.0)) in
    let all : c.args.lines.items ≡ lines = c.loop-line.invariant.all ∙ ap (λ (l : List (List ℕ)). lines ++ l) none ∙ append-nil lines in
    seen_as (notes g.V.Watch.notes_before g.V.Watch.notes_after) c.args.watch.now c.loop-line.watch c.args.live.now.node c.loop-line.live.node _ _
    (λ heard p. (
      subst (λ (l : List (List ℕ)). Adds (AreAnswered c.args.number l) c.args.live.now heard c.loop-line.live c.args.batch.now c.loop-line.batch) (sym all) p.0,
      (λ full. absurd cc, λ found. absurd (p.1 found)),
    ))
    (seen_running (notes g.V.Watch.notes_before g.V.Watch.notes_after) c.args.watch.now c.loop-line.watch c.args.live.now.node c.loop-line.live.node (λ heard. Adds (AreAnswered c.args.number c.loop-line.yielded) c.args.live.now heard c.loop-line.live c.args.batch.now c.loop-line.batch) c.loop-line.invariant.live.runs c.loop-line.invariant.answered)

pub loop-line-preserved : goal.loop-line-preserved
loop-line-preserved g c =
    let number = c.args.number in
    let lines = c.loop-line.yielded in
    let line = c.in-Some.line in
    record {
      answered = seen_then (notes g.V.Watch.notes_before g.V.Watch.notes_after) c.args.watch.now c.loop-line.watch c.answer.new.watch c.args.live.now.node c.loop-line.live.node c.answer.new.live.node
          (λ heard. Adds (AreAnswered number lines) c.args.live.now heard c.loop-line.live c.args.batch.now c.loop-line.batch) _
          (λ heard. Adds (AreAnswered number (lines ++ line ∷ [])) c.args.live.now heard c.answer.new.live c.args.batch.now c.answer.new.batch)
          (λ x y p q. one_added number lines line c.args.live.now c.loop-line.live c.answer.new.live x y c.args.batch.now c.loop-line.batch c.answer.new.batch p
          (subst (λ (n : ℕ). Adds (IsAnswered n line) c.loop-line.live y c.answer.new.live c.loop-line.batch c.answer.new.batch) c.loop-line.invariant.number q.0))
          c.loop-line.invariant.answered c.in-Ok.ensures.answered;
      live = c.in-Ok.ensures.live;
      number = c.next-number.ensures ∙ ap next_number c.loop-line.invariant.number ∙ sym (number_on lines (line ∷ []) number);
      all = c.loop-line.invariant.all ∙ ap (λ (l : List (List ℕ)). lines ++ l) c.in-Some.ensures.steps.0 ∙ sym (append_assoc lines (line ∷ []) c.next.new.self.rest.items);
    }
