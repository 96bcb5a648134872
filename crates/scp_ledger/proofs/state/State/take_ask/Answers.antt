use Rattle.std.proofs.Common.{sym, subst}
use Rattle.std.specs.Prelude.{Some, IsSomeAnd, false}
use Rattle.scp_ledger.specs.declared.took.CommandFate.TheVariants as fate
use Rattle.scp_ledger.specs.declared.took.Took.{Took}
use Rattle.scp_ledger.specs.CommandFates.{IsAskFate}
use Rattle.scp_ledger.specs.Takes.{TakesAsk}
use Rattle.scp_ledger.specs.inside.FateBy.{fate_by}
use Rattle.scp_ledger.specs.inside.State.{state_view}
use Rattle.scp_ledger.proofs.Telling.{ask_told, asked_told}
use Rattle.scp_ledger.proofs.state.State.take_ask.Goals as goal

pub returns-clause-takes : goal.returns-clause-takes
returns-clause-takes g c =
    let v = state_view false c.args.self.now in
    let w = state_view false c.ask_or_pass.new.self in
    let took = c.in_ok-took.took in
    subst (λ (t : Took). TakesAsk v c.args.link c.args.slot t w) (sym c.told.ensures)
    (ask_told g.D.Driver.says.level g.D.Driver.says.extracted g.D.Driver.says.combined g.D.Driver.says.place v w c.args.link c.args.slot took (Some (fate_by took.verdict fate.AskedBefore fate.Asked)) c.in_ok-took.ensures.takes)

pub returns-clause-tells : goal.returns-clause-tells
returns-clause-tells g c =
    let v = state_view false c.args.self.now in
    let w = state_view false c.ask_or_pass.new.self in
    let took = c.in_ok-took.took in
    subst (λ (t : Took). IsSomeAnd t.command (IsAskFate v c.args.link c.args.slot)) (sym c.told.ensures)
    (asked_told g.D.Driver.says.level g.D.Driver.says.extracted g.D.Driver.says.combined g.D.Driver.says.place v w c.args.slot took c.requires.sound.machines c.args.link c.in_ok-took.ensures.takes)
