use Rattle.std.proofs.Common.{◌≡◌, ◌≢◌, Bool, true, false, Option, Some, None, refl, sym, ◌∙◌, ap, subst, inl, inr, rules}
use Rattle.scp_nominate.specs.Nomination as nominate
use Rattle.scp_ballot.specs.Balloting as ballot
use Rattle.scp_slot.specs.declared.output.SlotOutput.{SlotOutput}
use Rattle.scp_slot.specs.declared.output.Verdict.TheVariants.{Fresh, Idle}
use Rattle.scp_slot.specs.Slot.{SlotView, view_of}
use Rattle.scp_slot.specs.Takes.{Cases, ballots_given}
use Rattle.std.specs.Prelude.{IsSome}
use Rattle.scp_slot.proofs.Making.{after, heard_by}
use Rattle.scp_slot.proofs.state.State.take_ballot.Goals as goal

pub returns-clause-takes : goal.returns-clause-takes
returns-clause-takes g c =
    let old : SlotView = view_of c.args.self.now false in
    let mid : SlotView = view_of c.note.new.self false in
    let new : SlotView = view_of c.balloted.new.self false in
    let e1 = after _ _ c.in_ok-note.ensures.rest in
    let e2 = after _ _ c.balloted.ensures.new in
    let b : ballot.Ballots = ballot.ballots c.take.new.self in
    heard_by c.args.envelope c.args.set old mid b c.balloted.result new c.in_ok-given.given c.requires.working.running c.requires.undecided c.requires.other c.requires.of_slot c.requires.kind
    (ap (λ (v : SlotView). v.me) e1) (ap (λ (v : SlotView). v.slot) e1) (ap (λ (v : SlotView). v.nomination) e1) (ap (λ (v : SlotView). v.ballots) e1) c.in_ok-note.ensures.enters
    (ap (λ (v : SlotView). v.me) e2) (ap (λ (v : SlotView). v.slot) e2) (ap (λ (v : SlotView). v.nomination) e2) (ap (λ (v : SlotView). v.newest) e2) (ap (λ (v : SlotView). v.ballots) e2) (ap (λ (v : SlotView). v.more) e2) (ap (λ (v : SlotView). v.decided) e2)
    (ap (λ (o : SlotOutput). ballots_given o) c.balloted.ensures.out) (ap (λ (o : SlotOutput). o.emitted.nomination) c.balloted.ensures.out) (ap (λ (o : SlotOutput). o.verdict) c.balloted.ensures.out)
    c.in_ok-given.ensures.advances c.in_ok-given.ensures.ballot c.in_ok-given.ensures.working.1 c.in_ok-given.ensures.composite c.in_ok-given.ensures.others c.in_ok-given.ensures.exact
