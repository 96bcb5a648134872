use Rattle.std.proofs.Common.{◌≡◌, ◌∙◌, List, [], ◌∷◌, ◌++◌, map, sym, ap, subst, append_assoc, arith}
use Rattle.std.proofs.lemmas.List.{append-nil, nil_from_length}
use Rattle.scp_ledger.specs.scp_envelope.specs.declared.statement.Envelope.{Envelope}
use Rattle.scp_judged.specs.Named.{set_in}
use Rattle.scp_judged.specs.Verdicts.{AreVerdicts, heard_of}
use Rattle.scp_judged.specs.inside.Judging.{verdicts_of}
use Rattle.scp_judged.proofs.Judging.{judged_more, verdicts_sane}
use Rattle.scp_judged.proofs.messages.judge.Goals as goal

pub loop-envelope-preserved : goal.loop-envelope-preserved
loop-envelope-preserved c =
    let more = judged_more (set_in c.args.sets.now) c.args.slot.0 c.loop-envelope.judged c.take.new.judged c.loop-envelope.yielded c.in-Some.envelope c.in_ok-take.ensures.takes c.loop-envelope.invariant.same c.loop-envelope.invariant.verdicts in
    record {
      keeps = c.in_ok-take.ensures.keeps;
      same = more.0;
      verdicts = more.1;
      rest = c.loop-envelope.invariant.rest ∙ ap (λ (l : List Envelope). c.loop-envelope.yielded ++ l) c.in-Some.ensures.steps.0 ∙ sym (append_assoc c.loop-envelope.yielded (c.in-Some.envelope ∷ []) c.next.new.self.rest.items);
    }

pub returns-clause-same : goal.returns-clause-same
returns-clause-same c =
    let none : c.loop-envelope.envelope-iterator.rest.items ≡ [] = nil_from_length c.loop-envelope.envelope-iterator.rest.items (omega (arith, c.loop-envelope.envelope-iterator.rest.ok, c.in-None.ensures.steps.0)) in
    let all : c.args.messages.items ≡ c.loop-envelope.yielded = c.loop-envelope.invariant.rest ∙ ap (λ (l : List Envelope). c.loop-envelope.yielded ++ l) none ∙ append-nil c.loop-envelope.yielded in
    c.loop-envelope.invariant.same ∙ sym all

pub returns-clause-exact : goal.returns-clause-exact
returns-clause-exact c =
    let none : c.loop-envelope.envelope-iterator.rest.items ≡ [] = nil_from_length c.loop-envelope.envelope-iterator.rest.items (omega (arith, c.loop-envelope.envelope-iterator.rest.ok, c.in-None.ensures.steps.0)) in
    let all : c.args.messages.items ≡ c.loop-envelope.yielded = c.loop-envelope.invariant.rest ∙ ap (λ (l : List Envelope). c.loop-envelope.yielded ++ l) none ∙ append-nil c.loop-envelope.yielded in
    let judged = c.loop-envelope.judged in
    subst (λ (l : List Envelope). AreVerdicts (set_in c.args.sets.now) c.args.slot.0 [] (map (λ (e : Envelope). e.statement) l) (verdicts_of judged) (map heard_of judged.counting.items)) (sym all) c.loop-envelope.invariant.verdicts

pub returns-clause-sane : goal.returns-clause-sane
returns-clause-sane c =
    let judged = c.loop-envelope.judged in
    verdicts_sane (set_in c.args.sets.now) c.args.slot.0 [] (map (λ (e : Envelope). e.statement) c.loop-envelope.yielded) (verdicts_of judged) (map heard_of judged.counting.items) tt c.loop-envelope.invariant.verdicts
