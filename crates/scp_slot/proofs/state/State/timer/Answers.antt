use Rattle.std.proofs.Common.{◌≡◌, ◌≢◌, Bool, true, false, Option, Some, None, refl, sym, ◌∙◌, ap, subst, inl, inr, rules}
use Rattle.scp_nominate.specs.Nomination as nominate
use Rattle.scp_ballot.specs.Balloting as ballot
use Rattle.scp_slot.specs.declared.output.SlotOutput.{SlotOutput}
use Rattle.scp_slot.specs.declared.output.Verdict.TheVariants.{Fresh, Idle}
use Rattle.scp_slot.specs.Slot.{SlotView, view_of}
use Rattle.scp_slot.specs.Takes.{Cases, ballots_given}
use Rattle.std.specs.Prelude.{IsSome}
use Rattle.scp_ballot.specs.Outcome.{TimesExactly}
use Rattle.scp_slot.proofs.Making.{after, moves_by, exact_by, kept_by}
use Rattle.scp_slot.proofs.state.State.timer.Goals as goal

pub returns-clause-takes : goal.returns-clause-takes
returns-clause-takes g c =
    let old : SlotView = view_of c.args.self.now false in
    let new : SlotView = view_of c.balloted.new.self false in
    let e = after _ _ c.balloted.ensures.new in
    let b : ballot.Ballots = ballot.ballots c.timer.new.self in
    let is : new.ballots ≡ b = ap (λ (v : SlotView). v.ballots) e in
    record {
      machine = record { me = ap (λ (v : SlotView). v.me) e; slot = ap (λ (v : SlotView). v.slot) e };
      ballots = moves_by old b c.balloted.result new c.in_ok-given.given (ap (λ (o : SlotOutput). ballots_given o) c.balloted.ensures.out) is (ap (λ (v : SlotView). v.more) e) (ap (λ (v : SlotView). v.decided) e) c.in_ok-given.ensures.advances c.in_ok-given.ensures.ballot c.in_ok-given.ensures.working.1;
      composite = ap (λ (x : ballot.Ballots). x.composite) is ∙ c.in_ok-given.ensures.composite;
      raises = subst (λ (x : ballot.Ballots). ballot.RaisesCounter old.ballots x) (sym is) c.in_ok-given.ensures.raises;
      exact = exact_by (λ x g. TimesExactly old.ballots x g) b new.ballots c.balloted.result c.in_ok-given.given (ap (λ (o : SlotOutput). ballots_given o) c.balloted.ensures.out) is c.in_ok-given.ensures.exact;
      others = kept_by old.ballots new.ballots b is c.in_ok-given.ensures.others;
      nomination = ap (λ (v : SlotView). v.nomination) e;
      emitted = ap (λ (o : SlotOutput). o.emitted.nomination) c.balloted.ensures.out;
      newest = ap (λ (v : SlotView). v.newest) e;
      verdict = subst (λ (o : SlotOutput). Cases (IsSome o.emitted.ballot) (o.verdict ≡ Fresh) (o.verdict ≡ Idle)) (sym c.balloted.ensures.out) c.changed-verdict.ensures;
    }
