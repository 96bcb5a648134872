use Rattle.std.proofs.Common.{◌≡◌, ◌≢◌, Bool, true, false, Option, Some, None, refl, sym, ◌∙◌, ap, subst, inl, inr, rules}
use Rattle.scp_nominate.specs.Nomination as nominate
use Rattle.scp_ballot.specs.Balloting as ballot
use Rattle.scp_slot.specs.declared.output.SlotOutput.{SlotOutput}
use Rattle.scp_slot.specs.declared.output.Verdict.TheVariants.{Fresh, Idle}
use Rattle.scp_slot.specs.Slot.{SlotView, view_of}
use Rattle.scp_slot.specs.Takes.{Cases, ballots_given}
use Rattle.std.specs.Prelude.{IsSome}
use Rattle.scp_slot.proofs.Making.{judged_rests, judged_fresh}
use Rattle.scp_slot.proofs.state.State.hear.Goals as goal

pub returns-then-not-is_fresh-clause-takes : goal.returns-then-not-is_fresh-clause-takes
returns-then-not-is_fresh-clause-takes g c =
    let old : SlotView = view_of c.args.self.now false in
    let stale : c.judge-verdict.result ≢ Fresh = λ e. let t = c.is_fresh.ensures.1 e in cc (t, c.if-not-is_fresh.true) in
    judged_rests _ _ c.args.envelope c.args.set c.judge-verdict.result old c.quiet.result old (rw c.get.ensures at c.judge-verdict.ensures) stale (record { same = refl; quiet = c.quiet.ensures })

pub returns-clause-takes : goal.returns-clause-takes
returns-clause-takes g c = judged_fresh _ _ c.args.envelope c.args.set c.judge-verdict.result (view_of c.args.self.now false) c.in_ok-out.out (view_of c.take.new.self false) (rw c.get.ensures at c.judge-verdict.ensures) (c.is_fresh.ensures.0 c.if-not-is_fresh.false) c.in_ok-out.ensures.takes
