use Rattle.std.proofs.Common.{◌≡◌, true, false, refl, sym, ◌∙◌, arith}
use Rattle.scp_quorum.specs.NodeSet.{is_in}
use Rattle.scp_quorum_search.proofs.Settling.{removed_within, removed_keeps}
use Rattle.scp_quorum_search.proofs.settle.remove_if_unsatisfied.Goals as goal

pub returns-clause-within : goal.returns-clause-within
returns-clause-within c = removed_within c.args.member.now.node (is_in c.args.nodes.now) (is_in c.remove.new.self) c.remove.ensures.updates.0

pub returns-clause-kept : goal.returns-clause-kept
returns-clause-kept c us content within =
    removed_keeps c.args.member.now.node (is_in c.args.nodes.now) (is_in c.remove.new.self) c.remove.ensures.updates.0 (is_in c.args.liars.now) us c.args.member.now refl
    (λ h. apart (sym (c.is_satisfied.ensures.1 h) ∙ c.if-is_satisfied.false)) content within
  where
    apart : true ≡ false → ⊥
    apart e = cc

pub returns-clause-fewer : goal.returns-clause-fewer
returns-clause-fewer c =
    let was : c.remove.result ≡ true = c.remove.ensures.test ∙ sym c.contains.ensures ∙ c.if-not-contains.false in
    omega (arith, rw was at c.remove.ensures.len)
