use Rattle.std.proofs.Common.{List, [], map, subst, ap, arith}
use Rattle.std.proofs.lemmas.List.{take_all}
use Rattle.scp_history.specs.scp_judged.specs.Verdicts.{heard_of}
use Rattle.scp_history.specs.scp_judged.specs.declared.verdict.Said.{Said}
use Rattle.scp_shown.specs.Parts.{entry_of, all_counting}
use Rattle.scp_shown.specs.declared.part.Part.{Part}
use Rattle.scp_shown.specs.Joined.{Joins}
use Rattle.scp_shown.proofs.Joining.{entries_more, heard_is_sane}
use Rattle.scp_shown.proofs.joined.joined_of.Goals as goal

pub loop-part-init : goal.loop-part-init
loop-part-init c = ap (map heard_of) c.new-joined.ensures.items

pub loop-part-preserved : goal.loop-part-preserved
loop-part-preserved c =
    entries_more c.args.parts.now c.loop-part.part-index c.part-item.result (map heard_of c.loop-part.joined.items) (map heard_of c.join.new.joined.items) (omega arith) c.part-item.is c.loop-part.invariant
    (subst (λ (l : List Said). Joins (map heard_of c.loop-part.joined.items) (map heard_of l) (map heard_of c.join.new.joined.items)) c.deref.ensures.value c.in_ok-join.ensures.joins)

pub returns-clause-joins : goal.returns-clause-joins
returns-clause-joins c =
    subst (λ (l : List Part). Joins [] (all_counting (map entry_of l)) (map heard_of c.loop-part.joined.items)) (take_all c.loop-part.part-index c.args.parts.now (omega arith)) c.loop-part.invariant

pub returns-clause-sane : goal.returns-clause-sane
returns-clause-sane c =
    heard_is_sane (map entry_of c.args.parts.now) (map heard_of c.loop-part.joined.items)
    (subst (λ (l : List Part). Joins [] (all_counting (map entry_of l)) (map heard_of c.loop-part.joined.items)) (take_all c.loop-part.part-index c.args.parts.now (omega arith)) c.loop-part.invariant)
