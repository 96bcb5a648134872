use Rattle.std.proofs.Common.{◌≡◌, ◌↔◌, None, ◌∙◌, ap, subst}
use Rattle.std.specs.Prelude.{IsTrue}
use Rattle.scp_slot.specs.scp_types.specs.declared.names.NodeId.{NodeId}
use Rattle.scp_slot.specs.scp_vote.specs.declared.board.Board.{Board}
use Rattle.scp_slot.specs.scp_vote.specs.declared.claim.StatementKind.TheVariants.{Balloting}
use Rattle.scp_slot.specs.scp_vote.specs.Board.{Seen}
use Rattle.scp_slot.specs.scp_vote.specs.Seen.{seen}
use Rattle.scp_slot.specs.scp_nominate.specs.Nomination.{Nomination}
use Rattle.scp_slot.specs.scp_ballot.specs.Balloting.{Ballots}
use Rattle.scp_stand_slot.proofs.Ways.{is_both, is_neither, told_false}
use Rattle.scp_stand_slot.proofs.machine.is_unheard.Goals as goal

pub returns-then-not-is_empty : goal.returns-then-not-is_empty
returns-then-not-is_empty c =
    let told = subst (λ (b : Seen). IsTrue c.is_empty.result ↔ ((v : NodeId) → b.statement v ≡ None)) (c.board.ensures.view ∙ ap (λ (n : Nomination). n.board) c.nominator.ensures.view) c.is_empty.ensures in
    is_neither (told_false c.is_empty.result told c.if-not-is_empty.true)

pub returns : goal.returns
returns c =
    let told = subst (λ (b : Seen). IsTrue c.is_empty.result ↔ ((v : NodeId) → b.statement v ≡ None)) (c.board.ensures.view ∙ ap (λ (n : Nomination). n.board) c.nominator.ensures.view) c.is_empty.ensures in
    let others = subst (λ (b : Seen). IsTrue c.is_empty-2.result ↔ ((v : NodeId) → b.statement v ≡ None)) (ap (λ (b : Board). seen Balloting b) c.board-2.ensures ∙ ap (λ (b : Ballots). b.board) c.balloter.ensures.view) c.is_empty-2.ensures in
    is_both c.is_empty-2.result (told.0 c.if-not-is_empty.false) others
