use Rattle.std.proofs.Common.{sym, subst}
use Rattle.std.specs.Prelude.{Some, IsSomeAnd, false}
use Rattle.scp_slot.specs.declared.output.SlotInput.TheVariants.{Propose}
use Rattle.scp_ledger.specs.declared.took.CommandFate.TheVariants as fate
use Rattle.scp_ledger.specs.declared.took.Took.{Took}
use Rattle.scp_ledger.specs.CommandFates.{IsProposalFate}
use Rattle.scp_ledger.specs.Takes.{Commands}
use Rattle.scp_ledger.specs.inside.FateBy.{fate_by}
use Rattle.scp_ledger.specs.inside.State.{state_view}
use Rattle.scp_ledger.proofs.Telling.{commands_told, proposal_told}
use Rattle.scp_ledger.proofs.state.State.take_proposal.Goals as goal

pub returns-clause-takes : goal.returns-clause-takes
returns-clause-takes g c =
    let v = state_view false c.args.self.now in
    let w = state_view false c.take_command.new.self in
    let took = c.in_ok-took.took in
    subst (λ (t : Took). Commands g.D.Driver.says.level g.D.Driver.says.extracted g.D.Driver.says.combined g.D.Driver.says.place v c.args.slot (Propose c.args.value) t w) (sym c.told.ensures)
    (commands_told g.D.Driver.says.level g.D.Driver.says.extracted g.D.Driver.says.combined g.D.Driver.says.place v w c.args.slot (Propose c.args.value) took (Some (fate_by took.verdict fate.ProposedBefore fate.Proposed)) c.in_ok-took.ensures.takes)

pub returns-clause-tells : goal.returns-clause-tells
returns-clause-tells g c =
    let v = state_view false c.args.self.now in
    let w = state_view false c.take_command.new.self in
    let took = c.in_ok-took.took in
    subst (λ (t : Took). IsSomeAnd t.command (IsProposalFate g.D.Driver.says.level v c.args.slot c.args.value)) (sym c.told.ensures)
    (proposal_told g.D.Driver.says.level g.D.Driver.says.extracted g.D.Driver.says.combined g.D.Driver.says.place v w c.args.slot took c.requires.sound.machines c.args.value c.in_ok-took.ensures.takes)
