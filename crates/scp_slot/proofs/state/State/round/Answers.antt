use Rattle.std.proofs.Common.{◌≡◌, ◌≢◌, Bool, true, false, Option, Some, None, refl, sym, ◌∙◌, ap, subst, inl, inr, rules}
use Rattle.scp_nominate.specs.Nomination as nominate
use Rattle.scp_ballot.specs.Balloting as ballot
use Rattle.scp_slot.specs.declared.output.SlotOutput.{SlotOutput}
use Rattle.scp_slot.specs.declared.output.Verdict.TheVariants.{Fresh, Idle}
use Rattle.scp_slot.specs.declared.state.State.{State}
use Rattle.scp_slot.specs.Slot.{SlotView, view_of}
use Rattle.scp_slot.specs.Takes.{Cases, ballots_given}
use Rattle.std.specs.Prelude.{IsSome}
use Rattle.std.proofs.Common.{◌≤◌, length}
use Rattle.scp_slot.proofs.Making.{after, nominates_by, round_left}
use Rattle.scp_slot.specs.declared.output.SlotInput.TheVariants.{Round}
use Rattle.scp_slot.specs.Takes.{NominatesBy}
use Rattle.scp_slot.proofs.state.State.round.Goals as goal

pub returns-clause-takes : goal.returns-clause-takes
returns-clause-takes g c =
    let old : SlotView = view_of c.args.self.now false in
    let mid : SlotView = view_of (record c.args.self.now { nominator = c.round.new.self }) false in
    let new : SlotView = view_of c.pass_on.new.self false in
    let e = after _ _ c.in_ok-out.ensures.rest in
    let is : new.nomination ≡ mid.nomination = ap (λ (v : SlotView). v.nomination) e in
    let left : ¬ (length old.nomination.nodes ≤ old.nomination.rounds) = λ all. let t = c.is_last_round.ensures.exact.1 all in cc (t, c.if-is_last_round.false) in
    inr (
      left,
      record {
        machine = record { me = ap (λ (v : SlotView). v.me) e; slot = ap (λ (v : SlotView). v.slot) e };
        nominates = nominates_by _ old mid c.in_ok-out.out new c.in_ok-given.given c.in_ok-given.ensures.advances c.in_ok-given.ensures.making c.in_ok-given.ensures.working.1 refl refl refl is c.in_ok-out.ensures.passes c.in_ok-out.ensures.emitted c.in_ok-out.ensures.verdict;
        proposal = ap (λ (n : nominate.Nomination). n.proposal) is ∙ c.in_ok-given.ensures.proposal;
        rounds = ap (λ (n : nominate.Nomination). n.rounds) is ∙ c.in_ok-given.ensures.more (round_left old.nomination.rounds (length old.nomination.nodes) left);
        others = subst (λ (n : nominate.Nomination). nominate.KeepsOthers old.nomination.board n.board) (sym is) c.in_ok-given.ensures.others;
        newest = ap (λ (v : SlotView). v.newest) e;
      },
    )

pub returns-clause-votes : goal.returns-clause-votes
returns-clause-votes g c = subst (λ m. nominate.VotesWell g.D.Driver.says.level g.D.Driver.says.extracted g.D.Driver.says.place (nominate.nomination c.args.self.now.nominator).lists m) (sym (ap (λ (s : State _). s.nominator) c.in_ok-out.ensures.rest)) c.in_ok-given.ensures.votes

pub returns-clause-nominates : goal.returns-clause-nominates
returns-clause-nominates g c =
    let old : SlotView = view_of c.args.self.now false in
    let left : ¬ (length old.nomination.nodes ≤ old.nomination.rounds) = λ all. let t = c.is_last_round.ensures.exact.1 all in cc (t, c.if-is_last_round.false) in
    subst (λ m. NominatesBy g.D.Driver.says.level g.D.Driver.says.extracted g.D.Driver.says.place (nominate.nomination c.args.self.now.nominator) Round m) (sym (ap (λ (s : State _). s.nominator) c.in_ok-out.ensures.rest)) (inr (c.in_ok-given.ensures.exact (round_left old.nomination.rounds (length old.nomination.nodes) left)))
