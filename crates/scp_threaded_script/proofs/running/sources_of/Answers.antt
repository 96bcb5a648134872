use Rattle.std.proofs.Common.{◌≡◌, ◌∙◌, ℕ, List, [], ◌∷◌, ◌++◌, length, Option, ap, sym, subst, append_assoc, arith}
use Rattle.std.specs.Prelude.{is_none}
use Rattle.std.proofs.lemmas.List.{length-append, nil_from_length, append-nil}
use Rattle.scp_threaded_node.specs.scp_shared_outbox.specs.Ends.{TakerView}
use Rattle.scp_threaded_node.specs.scp_shared_outbox.specs.Places.{peer_at}
use Rattle.scp_threaded_node.specs.declared.node.Source.{Source}
use Rattle.scp_threaded_script.specs.Lines.{is_driven}
use Rattle.scp_threaded_script.specs.inside.Outlets.{AreTakenFrom}
use Rattle.scp_threaded_node.specs.scp_shared_outbox.proofs.Each.{each_push}
use Rattle.scp_threaded_script.proofs.Seating.{taken_more}
use Rattle.scp_threaded_script.proofs.running.sources_of.Goals as goal

pub loop-taker-preserved : goal.loop-taker-preserved
loop-taker-preserved c =
    let i = c.loop-taker.invariant in
    let sources = c.loop-taker.sources.items in
    let new = c.push_reserved.new.self.items in
    let source = c.source_of.result in
    let taker = c.in-Some.taker in
    let is = c.push_reserved.ensures.items ∙ ap (λ (xs : List (Option Source)). xs ++ source ∷ []) c.in_ok-reserve.ensures.items in
    let place : c.len.result ≡ length sources = omega (arith, c.len.ensures) in (
      i.0 ∙ ap (λ (xs : List TakerView). c.loop-taker.yielded ++ xs) c.in-Some.ensures.steps.0 ∙ sym (append_assoc c.loop-taker.yielded (taker ∷ []) c.next.new.self.rest.items),
      omega (arith, ap (λ (xs : List (Option Source)). length xs) is, length-append sources (source ∷ []), length-append c.loop-taker.yielded (taker ∷ []), i.1),
      each_push (λ l s. is_none s ≡ is_driven c.args.commands.now (peer_at l c.args.to) c.args.to) sources new source is i.2
          (c.source_of.ensures.driven ∙ ap (λ (n : ℕ). is_driven c.args.commands.now n c.args.to) (c.peer_at-from.ensures ∙ ap (λ (n : ℕ). peer_at n c.args.to) place)),
      taken_more c.loop-taker.yielded sources new taker source is i.1 c.source_of.ensures.taker i.3,
    )
