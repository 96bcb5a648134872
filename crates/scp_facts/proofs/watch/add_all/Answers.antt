use Rattle.std.proofs.Common.{arith, ◌≡◌, List, [], ◌∷◌, ◌++◌, sym, ap, ◌∙◌, subst, append_assoc, map, rules}
use Rattle.std.proofs.lemmas.List.{append-nil, nil_from_length}
use Rattle.scp_facts.specs.declared.fact.Fact.{Fact}
use Rattle.scp_facts.specs.Telling.{of_node}
use Rattle.scp_facts.proofs.Added.{mapped_more}
use Rattle.scp_facts.proofs.watch.add_all.Goals as goal

pub loop-fact-preserved : goal.loop-fact-preserved
loop-fact-preserved c = (
  mapped_more (of_node c.args.number) c.args.tellings.now.items c.loop-fact.tellings.items c.push.new.self.items c.loop-fact.yielded c.in-Some.fact c.loop-fact.invariant.0 (search rules),
  c.loop-fact.invariant.1 ∙ ap (λ (l : List Fact). c.loop-fact.yielded ++ l) c.in-Some.ensures.steps.0 ∙ sym (append_assoc c.loop-fact.yielded (c.in-Some.fact ∷ []) c.next.new.self.rest.items),
)

pub returns : goal.returns
returns c =
    let none : c.loop-fact.fact-iterator.rest.items ≡ [] = nil_from_length c.loop-fact.fact-iterator.rest.items (omega (arith, c.loop-fact.fact-iterator.rest.ok, c.in-None.ensures.steps.0)) in
    let all : c.args.facts.items ≡ c.loop-fact.yielded = c.loop-fact.invariant.1 ∙ ap (λ (l : List Fact). c.loop-fact.yielded ++ l) none ∙ append-nil c.loop-fact.yielded in
    c.loop-fact.invariant.0 ∙ ap (λ (l : List Fact). c.args.tellings.now.items ++ map (of_node c.args.number) l) (sym all)
