use Rattle.std.proofs.Common.{sym}
use Rattle.std.proofs.lemmas.List.Quantifiers.{position-Some}
use Rattle.scp_ledger.specs.Decisions.{is_at}
use Rattle.scp_apply.specs.inside.Slots.{next_in}
use Rattle.scp_apply.proofs.Applying.{begins, goes_on, ends}
use Rattle.scp_apply.proofs.slots.Slots.advance.Goals as goal

pub loop-place-init : goal.loop-place-init
loop-place-init g c = begins g.A.Application.after c.args.self.now c.args.state.now c.requires.is_applied

pub loop-place-preserved : goal.loop-place-preserved
loop-place-preserved g c =
    let buffer = c.loop-place.self.buffer.items in
    let next = is_at (next_in c.loop-place.self) in
    goes_on g.A.Application.after c.args.self.now c.args.state.now c.loop-place.self c.loop-place.state c.in-Some.place c.apply_at.new.self c.apply_at.new.state (position-Some next buffer c.in-Some.place c.in_ok-apply_at.ensures.ok.decision (sym c.in-Some.ensures)).0 (λ d. (position-Some next buffer c.in-Some.place d (sym c.in-Some.ensures)).1) c.in_ok-apply_at.ensures.ok c.apply_at.ensures.before c.apply_at.ensures.base c.loop-place.invariant

pub returns-clause-ok : goal.returns-clause-ok
returns-clause-ok g c = ends g.A.Application.after c.args.self.now c.args.state.now c.loop-place.self c.loop-place.state (sym c.in_default.ensures) c.loop-place.invariant
