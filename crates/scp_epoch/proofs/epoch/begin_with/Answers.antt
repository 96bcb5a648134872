use Rattle.std.proofs.Common.{◌≡◌, ap, refl}
use Rattle.std.proofs.lemmas.Result.{err_from_is_err_and}
use Rattle.scp_again.specs.scp_types.specs.declared.fault.Fault.TheVariants.{JournalFull}
use Rattle.scp_again.specs.scp_core.specs.Node.{NodeView}
use Rattle.scp_epoch.proofs.Beginning.{begins_behind, finds_full_behind, not_bad, not_long, also_those}
use Rattle.scp_epoch.proofs.epoch.begin_with.Goals as goal

pub carry-requires : goal.carry-requires
carry-requires g c = record { runs = ap (λ (v : NodeView g.row.A.Denot). v.failed) c.in_ok-node.ensures.began.is }

pub returns-in_err-carry-clause-full : goal.returns-in_err-carry-clause-full
returns-in_err-carry-clause-full g c =
    let p = err_from_is_err_and c.from_residual-in_err-carry.result c.from_residual-in_err-carry.ensures.1 in
    let f = c.in_err-carry.field-0.0 in
    rw (p.1, p.2) (λ e. let same : f ≡ JournalFull = cc in finds_full_behind g.A.Driver.says g.A.Application.begins g.A.Application.after g.A.Application.written f same c.args.application c.args.config c.args.before c.args.old.now c.in_ok-node.node c.carry.new.node c.args.carried.items c.requires.next c.in_ok-node.ensures.began c.in_err-carry.ensures.played)

pub returns-clause-begins : goal.returns-clause-begins
returns-clause-begins g c =
    (begins_behind g.A.Driver.says g.A.Application.begins g.A.Application.after g.A.Application.written c.what_holds_of_a_past_holds_with_one_step_more.ensures.from c.args.application c.args.config c.args.before c.args.old.now c.in_ok-node.node c.carry.new.node c.args.carried.items c.requires.runs c.requires.next c.in_ok-node.ensures.began c.in_ok-carry.ensures.played c.in_ok-carry.ensures.runs).0

pub returns-clause-base : goal.returns-clause-base
returns-clause-base g c =
    (begins_behind g.A.Driver.says g.A.Application.begins g.A.Application.after g.A.Application.written c.what_holds_of_a_past_holds_with_one_step_more.ensures.from c.args.application c.args.config c.args.before c.args.old.now c.in_ok-node.node c.carry.new.node c.args.carried.items c.requires.runs c.requires.next c.in_ok-node.ensures.began c.in_ok-carry.ensures.played c.in_ok-carry.ensures.runs).1

pub returns-in_err-carry-clause-bad_config : goal.returns-in_err-carry-clause-bad_config
returns-in_err-carry-clause-bad_config g c =
    let p = err_from_is_err_and c.from_residual-in_err-carry.result c.from_residual-in_err-carry.ensures.1 in
    rw (p.1, p.2) (λ e. not_bad c.in_err-carry.field-0.0 c.in_err-carry.ensures.only e)

pub returns-in_err-carry-clause-too_long : goal.returns-in_err-carry-clause-too_long
returns-in_err-carry-clause-too_long g c =
    let p = err_from_is_err_and c.from_residual-in_err-carry.result c.from_residual-in_err-carry.ensures.1 in
    rw (p.1, p.2) (λ e. not_long c.in_err-carry.field-0.0 c.in_err-carry.ensures.only e)

pub returns-in_err-carry-clause-only : goal.returns-in_err-carry-clause-only
returns-in_err-carry-clause-only g c =
    let p = err_from_is_err_and c.from_residual-in_err-carry.result c.from_residual-in_err-carry.ensures.1 in
    rw (p.1, p.2) (also_those c.in_err-carry.field-0.0 c.in_err-carry.ensures.only)
