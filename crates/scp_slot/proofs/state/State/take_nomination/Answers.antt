use Rattle.std.proofs.Common.{◌≡◌, ◌≢◌, Bool, true, false, Option, Some, None, refl, sym, ◌∙◌, ap, subst, inl, inr, rules}
use Rattle.scp_nominate.specs.Nomination as nominate
use Rattle.scp_ballot.specs.Balloting as ballot
use Rattle.scp_slot.specs.declared.output.SlotOutput.{SlotOutput}
use Rattle.scp_slot.specs.declared.output.Verdict.TheVariants.{Fresh, Idle}
use Rattle.scp_slot.specs.declared.state.State.{State}
use Rattle.scp_slot.specs.Slot.{SlotView, view_of}
use Rattle.scp_slot.specs.Takes.{Cases, ballots_given}
use Rattle.std.specs.Prelude.{IsSome}
use Rattle.scp_slot.proofs.Making.{after, same_nominator, nominated_by}
use Rattle.scp_slot.specs.declared.output.SlotInput.TheVariants.{Envelope}
use Rattle.scp_slot.specs.Takes.{NominatesBy}
use Rattle.scp_slot.proofs.state.State.take_nomination.Goals as goal

pub returns-clause-takes : goal.returns-clause-takes
returns-clause-takes g c =
    let old : SlotView = view_of c.args.self.now false in
    let noted : SlotView = view_of c.note.new.self false in
    let mid : SlotView = view_of (record c.note.new.self { nominator = c.take.new.self }) false in
    let new : SlotView = view_of c.pass_on.new.self false in
    let e = after _ _ c.in_ok-out.ensures.rest in
    let is : new.nomination ≡ mid.nomination = ap (λ (v : SlotView). v.nomination) e in
    let e1 = after _ _ c.in_ok-note.ensures.rest in
    nominated_by _ c.args.envelope c.args.set old noted mid c.in_ok-out.out new c.in_ok-given.given
    (ap (λ (v : SlotView). v.me) e1) (ap (λ (v : SlotView). v.slot) e1) (ap (λ (v : SlotView). v.nomination) e1) (ap (λ (v : SlotView). v.ballots) e1) (ap (λ (v : SlotView). v.more) e1) (ap (λ (v : SlotView). v.decided) e1) c.in_ok-note.ensures.enters
    (ap (λ (v : SlotView). v.me) e) (ap (λ (v : SlotView). v.slot) e) is (ap (λ (v : SlotView). v.newest) e)
    (subst (λ x. nominate.Advances (g.D.Driver.says.combined (nominate.driver_of x) (nominate.nomination x).slot) (nominate.own noted.nomination) noted.nomination.lists mid.nomination c.in_ok-given.given) (same_nominator _ _ c.in_ok-note.ensures.rest) c.in_ok-given.ensures.advances)
    c.in_ok-given.ensures.making c.in_ok-given.ensures.working.1 c.in_ok-given.ensures.proposal c.in_ok-given.ensures.rounds c.in_ok-given.ensures.others c.in_ok-out.ensures.passes c.in_ok-out.ensures.emitted c.in_ok-out.ensures.verdict

pub returns-clause-votes : goal.returns-clause-votes
returns-clause-votes g c =
    subst (λ m. nominate.VotesWell g.D.Driver.says.level g.D.Driver.says.extracted g.D.Driver.says.place (nominate.nomination c.args.self.now.nominator).lists m) (sym (ap (λ (s : State _). s.nominator) c.in_ok-out.ensures.rest))
    (subst (λ m. nominate.VotesWell g.D.Driver.says.level g.D.Driver.says.extracted g.D.Driver.says.place (nominate.nomination m).lists c.take.new.self) (ap (λ (s : State _). s.nominator) c.in_ok-note.ensures.rest) c.in_ok-given.ensures.votes)

pub returns-clause-nominates : goal.returns-clause-nominates
returns-clause-nominates g c =
    subst (λ m. NominatesBy g.D.Driver.says.level g.D.Driver.says.extracted g.D.Driver.says.place (nominate.nomination c.args.self.now.nominator) (Envelope c.args.envelope c.args.set) m) (sym (ap (λ (s : State _). s.nominator) c.in_ok-out.ensures.rest))
    (inr (subst (λ m. nominate.ComesFromHearing g.D.Driver.says.level g.D.Driver.says.extracted g.D.Driver.says.place (nominate.nomination m) c.args.envelope c.args.set.value c.take.new.self) (ap (λ (s : State _). s.nominator) c.in_ok-note.ensures.rest) c.in_ok-given.ensures.exact))
