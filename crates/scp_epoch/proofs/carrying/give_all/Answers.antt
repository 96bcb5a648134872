use Rattle.std.proofs.Common.{◌≡◌, List, [], ◌∷◌, ◌++◌, sym, ◌∙◌, ap, subst, append_assoc, map, rules, arith}
use Rattle.std.proofs.lemmas.List.{append-nil, map-append, nil_from_length}
use Rattle.std.proofs.lemmas.Result.{err_from_is_err_and}
use Rattle.scp_again.specs.scp_core.specs.declared.event.Event.{Event}
use Rattle.scp_epoch.specs.declared.input.Input.{Input}
use Rattle.scp_epoch.specs.Played.{event_of}
use Rattle.scp_epoch.specs.inside.Playing.{Plays}
use Rattle.scp_epoch.proofs.Playing.{done, plays_none, plays_then, plays_stop}
use Rattle.scp_epoch.proofs.carrying.give_all.Goals as goal

pub loop-input-init : goal.loop-input-init
loop-input-init g c = record { played = plays_none g.A.Driver.says c.args.node.now; runs = c.requires.runs; all = search rules }

pub returns-in_err-play_one-clause-played : goal.returns-in_err-play_one-clause-played
returns-in_err-play_one-clause-played g c =
    let p = err_from_is_err_and c.from_residual.result c.from_residual.ensures.1 in
    rw (p.1, p.2) (plays_stop g.A.Driver.says c.in_err-play_one.field-0.0 (map event_of c.loop-input.yielded) (c.event_of_input.result ∷ []) (map event_of c.args.carried.items) c.args.node.now c.loop-input.node c.play_one.new.node c.loop-input.invariant.played c.in_err-play_one.ensures.played)

pub loop-input-preserved : goal.loop-input-preserved
loop-input-preserved g c =
    let says = g.A.Driver.says in
    let inputs = c.loop-input.yielded in
    let input = c.in-Some.input in
    let a = c.args.node.now in
    let m = c.loop-input.node in
    let b = c.play_one.new.node in
    record {
      played = subst (λ (es : List Event). Plays says es done a b) (sym (map-append event_of inputs (input ∷ [])))
          (plays_then says done (map event_of inputs) (event_of input ∷ []) a m b c.loop-input.invariant.played (subst (λ (e : Event). Plays says (e ∷ []) done m b) c.event_of_input.ensures.event c.in_ok-play_one.ensures.played));
      runs = c.in_ok-play_one.ensures.runs;
      all = c.loop-input.invariant.all ∙ ap (λ (l : List Input). inputs ++ l) c.in-Some.ensures.steps.0 ∙ sym (append_assoc inputs (input ∷ []) c.next.new.self.rest.items);
    }

pub returns-clause-played : goal.returns-clause-played
returns-clause-played g c =
    let inputs = c.loop-input.yielded in
    let none : c.loop-input.input-iterator.rest.items ≡ [] = nil_from_length c.loop-input.input-iterator.rest.items (omega (arith, c.loop-input.input-iterator.rest.ok, c.in-None.ensures.steps.0)) in
    let all : c.args.carried.items ≡ inputs = c.loop-input.invariant.all ∙ ap (λ (l : List Input). inputs ++ l) none ∙ append-nil inputs in
    subst (λ (l : List Input). Plays g.A.Driver.says (map event_of l) done c.args.node.now c.loop-input.node) (sym all) c.loop-input.invariant.played
