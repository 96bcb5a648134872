use Rattle.std.proofs.Common.{◌≡◌, ◌≢◌, Bool, true, false, Option, Some, None, refl, sym, ◌∙◌, ap, subst, inl, inr, rules}
use Rattle.scp_nominate.specs.scp_envelope.specs.Sane.{IsSane}
use Rattle.scp_nominate.specs.Nomination as nominate
use Rattle.scp_nominate.specs.scp_vote.specs.Board.{kind_of_pledges}
use Rattle.scp_slot.specs.Judged.{HasInvalid, IsBehind}
use Rattle.scp_slot.specs.Newest.{newest_of}
use Rattle.scp_slot.proofs.state.State.judge.Goals as goal

pub returns-else-is_behind : goal.returns-else-is_behind
returns-else-is_behind g c =
    let s = c.args.statement.now in
    let not_own : ¬ (s.node ≡ c.args.self.now.me) = λ own. let t = c.is_own.ensures.1 own in cc (t, c.if-is_own.false) in
    let sane : ¬ (¬ (IsSane s.pledges)) = λ bad. bad (c.sane.ensures.0 c.if-not-sane.false) in
    let good : ¬ (HasInvalid (g.D.Driver.says.level (nominate.driver_of c.args.self.now.nominator) c.args.self.now.slot.0) s.pledges) = λ bad. let t = c.has_invalid.ensures.1 bad in cc (t, c.if-has_invalid.false) in
    let ahead : ¬ (IsBehind (newest_of c.args.self.now.newest (kind_of_pledges s.pledges) s.node) s) = λ behind. let t = c.is_behind.ensures.1 behind in cc (t, c.if-is_behind.false) in
    inr (not_own, inr (sane, inr (good, inr (ahead, refl))))
