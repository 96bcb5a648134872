use Rattle.std.proofs.Common.{◌≡◌, ◌++◌, subst}
use Rattle.std.specs.Prelude.{Option, OnOk}
use Rattle.std.proofs.lemmas.Result.{on_ok_weaker}
use Rattle.scp_core.specs.scp_envelope.specs.declared.statement.Pledges.{Pledges}
use Rattle.scp_core.specs.scp_nominate.specs.Nomination.{own}
use Rattle.scp_core.specs.scp_slot.specs.Slot.{slot_view}
use Rattle.scp_again.specs.Again.{own_messages}
use Rattle.scp_again.proofs.Adding.{added_on}
use Rattle.scp_again.proofs.again.add_machine.Goals as goal

pub returns-clause-added : goal.returns-clause-added
returns-clause-added g c =
    let m = slot_view c.args.machine.now in
    let a = c.args.out.now.items in
    let b = c.add_own.new.out.items in
    let d = c.add_own-2.new.out.items in
    let said = λ (o : Option Pledges). own_messages c.args.me c.args.slot.0 o in
    let first = subst (λ (o : Option Pledges). b ≡ a ++ said o) c.nominated.ensures c.in_ok-add_own.ensures.added in
    on_ok_weaker c.add_own-2.result
    (λ (q : d ≡ b ++ said m.ballots.emitted). added_on a b d (said (own m.nomination)) (said m.ballots.emitted) first q)
    (subst (λ (o : Option Pledges). OnOk c.add_own-2.result (d ≡ b ++ said o)) c.balloted.ensures c.add_own-2.ensures.added)
