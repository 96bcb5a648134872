use Rattle.std.proofs.Common.{◌≡◌, ◌∙◌, sym, ap, subst}
use Rattle.std.specs.Prelude.{◌↔◌, ◌⊎◌, Option, Some, None, Result, Ok, Err, IfErr, MatchResult, IsErrOf}
use Rattle.std.specs.Option.{option_or}
use Rattle.std.proofs.lemmas.List.{length-map}
use Rattle.std.proofs.lemmas.Result.{err_from_is_err_and}
use Rattle.scp_gather.specs.scp_types.specs.declared.fault.Fault.{Fault}
use Rattle.scp_gather.specs.scp_types.specs.declared.fault.Fault.TheVariants.{NoMemory, Refused}
use Rattle.scp_gather.specs.scp_types.specs.declared.fault.Stage.{Stage}
use Rattle.scp_gather.specs.scp_wire.specs.declared.link.Inbound.{Inbound}
use Rattle.scp_gather.specs.scp_ends.specs.Ends.{Sender}
use Rattle.scp_gather.specs.declared.gathering.Gathering.{Gathering}
use Rattle.scp_gather.specs.Node.{IsNode}
use Rattle.scp_gather.specs.Report.{first_failed}
use Rattle.scp_threaded_node.specs.Faults.{NodeEnd, IsTold, fault_of, links_fault, local_fault, stage_failed}
use Rattle.scp_threaded_node.proofs.Told.{gathered_told}
use Rattle.scp_threaded_node.specs.Outlets.{taker_in}
use Rattle.scp_threaded_node.proofs.Leaving.{joined, is_node, sized, handed_back, keep_as_given}
use Rattle.scp_threaded_node.proofs.ending.end.Goals as goal

pub gather-requires : goal.gather-requires
gather-requires g c = let r = c.requires.runs in record { joined = joined r.0 r.1 r.2 r.3 c.args.node c.in_ok-ends.ends c.in_ok-ends.takers.items r.4 c.in_ok-ends.ensures.left }

pub returns-clause-ended : goal.returns-clause-ended
returns-clause-ended g c = λ me set peers caps apart runs driven sent all.
    let e = c.in_ok-ends.ends in
    let takers = c.in_ok-ends.takers.items in
    let left = c.in_ok-ends.ensures.left in
    let node : IsNode me set peers e = is_node me set peers caps c.args.node e takers apart runs left in (
      e,
      record {
        report = c.in_ok-report.ensures.theorem me set peers node;
        headline = c.in_ok-report.ensures.headline me set peers node;
        sized = sized me set peers caps c.args.node e takers runs left;
        commands_are = ap (λ (s : Sender Inbound). s.sent) left.local;
        fates_are = c.in_ok-report.ensures.commands me set peers node;
        links_count = node.links_count;
        links_are = c.in_ok-ends.ensures.sent driven sent all;
        came_are = c.in_ok-report.ensures.came me set peers node;
        kept_are = c.in_ok-report.ensures.kept me set peers node;
      },
      record {
        takers_count = left.lanes.takers_count ∙ sym (length-map c.args.node.lanes.items taker_in);
        takers_are = handed_back c.args.node.lanes.items e.readers e.links takers left.lanes;
        outlets_are = c.in_ok-report.ensures.outlets;
        replies = left.pend.outlets;
        said = left.slot.outlets;
        answers = left.apply.outlets;
        put = c.in_ok-report.ensures.put me set peers node;
        keeps = keep_as_given c.args.node.lanes.items e.readers e.links takers left.lanes;
      },
    )

-- what is reported of what was gathered, by how the node's threads ended
told_by : {A T : Type 0} (x : NodeEnd A) (stage : Option Stage) (r : Result T Fault) → stage ≡ stage_failed x → option_or (links_fault x.lanes) (local_fault x.local) ≡ None
    → ((s : Stage) → IsErrOf r (Refused s) ↔ (stage ≡ Some s)) → IfErr r (λ f. (f ≡ NoMemory) ⊎ ((s : Stage) × (f ≡ Refused s))) → MatchResult r (λ _. fault_of x ≡ None) (IsTold (fault_of x))
told_by x stage r is none refused only =
    gathered_told r (stage_failed x) (option_or (links_fault x.lanes) (local_fault x.local)) none
    (subst (λ (o : Option Stage). (s : Stage) → IsErrOf r (Refused s) ↔ (o ≡ Some s)) is refused) only

pub returns-clause-fault : goal.returns-clause-fault
returns-clause-fault g c =
    let x = c.in_ok-ends.ensures.ended in
    let r : Result (Gathering _ _) Fault = Ok c.in_ok-report.field-0 in
    (x.0, x.1, told_by x.0 (first_failed c.in_ok-ends.ends) r x.2.0 x.2.1 c.in_ok-report.ensures.refused c.in_ok-report.ensures.only)

pub returns-in_err-ends-clause-fault : goal.returns-in_err-ends-clause-fault
returns-in_err-ends-clause-fault g c =
    let x = c.in_err-ends.ensures.ended in
    let p = err_from_is_err_and c.from_residual.result c.from_residual.ensures.1 in
    (x.0, x.1, rw (p.1, p.2) x.2)

pub returns-in_err-report-clause-fault : goal.returns-in_err-report-clause-fault
returns-in_err-report-clause-fault g c =
    let x = c.in_ok-ends.ensures.ended in
    let r : Result (Gathering _ _) Fault = Err c.in_err-report.field-0.0 in
    let p = err_from_is_err_and c.from_residual-in_err-report.result c.from_residual-in_err-report.ensures.1 in
    (x.0, x.1, rw (p.1, p.2) (told_by x.0 (first_failed c.in_ok-ends.ends) r x.2.0 x.2.1 c.in_err-report.ensures.refused c.in_err-report.ensures.only))
