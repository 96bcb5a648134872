use Rattle.std.proofs.Common.{◌≡◌, ◌∙◌, List, [], ◌∷◌, ◌++◌, sym, ap, subst, append_assoc, arith, rules}
use Rattle.std.proofs.lemmas.Grind.{common_steps}
use Rattle.std.proofs.lemmas.List.{append-nil, nil_from_length}
use Rattle.scp_archive.specs.scp_quorum.specs.QuorumTree.{QuorumTree}
use Rattle.scp_judged.specs.Named.{set_in}
use Rattle.scp_audit.specs.Judging.{NamesAll}
use Rattle.scp_audit.proofs.Auditing.{names_none, names_more}
use Rattle.scp_audit.proofs.ledger.name_all.Goals as goal

pub loop-set-init : goal.loop-set-init
loop-set-init c =
    let rest : c.args.more.items ≡ c.into_iter-set-iterator.result.rest.items = first_of (search rules, grind (arith, common_steps)) in
    record { named = names_none (set_in c.args.sets.now); rest = rest }

pub loop-set-preserved : goal.loop-set-preserved
loop-set-preserved c = record {
  named = names_more (set_in c.args.sets.now) (set_in c.loop-set.sets) (set_in c.add.new.self) c.loop-set.yielded c.in-Some.set c.loop-set.invariant.named c.in_ok-add.ensures.named;
  rest = c.loop-set.invariant.rest ∙ ap (λ (l : List QuorumTree). c.loop-set.yielded ++ l) c.in-Some.ensures.steps.0 ∙ sym (append_assoc c.loop-set.yielded (c.in-Some.set ∷ []) c.next.new.self.rest.items);
}

pub returns-clause-named : goal.returns-clause-named
returns-clause-named c =
    let none : c.loop-set.set-iterator.rest.items ≡ [] = nil_from_length c.loop-set.set-iterator.rest.items (omega (arith, c.loop-set.set-iterator.rest.ok, c.in-None.ensures.steps.0)) in
    let all : c.args.more.items ≡ c.loop-set.yielded = c.loop-set.invariant.rest ∙ ap (λ (l : List QuorumTree). c.loop-set.yielded ++ l) none ∙ append-nil c.loop-set.yielded in
    subst (λ (l : List QuorumTree). NamesAll (set_in c.args.sets.now) l (set_in c.loop-set.sets)) (sym all) c.loop-set.invariant.named
