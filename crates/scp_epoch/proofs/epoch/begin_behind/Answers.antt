use Rattle.std.proofs.Common.{◌≡◌, sym, ◌∙◌, ap}
use Rattle.std.specs.Prelude.{option_copied}
use Rattle.scp_again.specs.scp_driver.specs.Driver.{IsBase}
use Rattle.scp_epoch.specs.Epoch.{IsUnwritten}
use Rattle.scp_epoch.proofs.Beginning.{shown_is, begun_by, is_base, begin_only, begin_not_too_long, made_by}
use Rattle.scp_epoch.proofs.epoch.begin_behind.Goals as goal

pub returns-clause-began : goal.returns-clause-began
returns-clause-began g c =
    let begins = g.A.Application.begins in
    let after' = g.A.Application.after in
    let s = shown_is begins after' c.args.old.now c.in-Some.state.now (sym c.state.ensures ∙ ap option_copied c.in-Some.is) in
    begun_by g.A.Driver.says begins g.A.Application.written c.begin.result c.args.application c.args.config _ c.in_ok-base.base.items (made_by g.A.Driver.says begins after' g.A.Application.written c.args.old.now)
    (c.in_ok-base.ensures.written ∙ ap g.A.Application.written s.1) (c.in_ok-base.ensures.read_back ∙ s.1) c.begin.ensures.theorem c.begin.ensures.config c.begin.ensures.application

pub returns-clause-only : goal.returns-clause-only
returns-clause-only g c =
    let begins = g.A.Application.begins in
    let written = g.A.Application.written in
    begin_only (IsBase begins written c.in_ok-base.base.items) c.begin.result (is_base begins written c.in_ok-base.base.items c.in-Some.state.now c.in_ok-base.ensures.written c.in_ok-base.ensures.read_back) c.begin.ensures.no_state c.begin.ensures.only

pub returns-clause-too_long : goal.returns-clause-too_long
returns-clause-too_long g c =
    let begins = g.A.Application.begins in
    let written = g.A.Application.written in
    begin_not_too_long (IsBase begins written c.in_ok-base.base.items) (IsUnwritten begins _) c.begin.result (is_base begins written c.in_ok-base.base.items c.in-Some.state.now c.in_ok-base.ensures.written c.in_ok-base.ensures.read_back) c.begin.ensures.no_state
