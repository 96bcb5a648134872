use Rattle.std.proofs.Common.{◌≡◌, sym, ap, ◌∙◌, subst}
use Rattle.std.specs.Prelude.{Some, None}
use Rattle.std.proofs.lemmas.Result.{err_from_is_err_and}
use Rattle.scp_workers.specs.scp_wire.specs.declared.link.Inbound.{Inbound}
use Rattle.scp_workers.specs.scp_pending.specs.declared.ready.Ready.{Ready}
use Rattle.scp_workers.specs.scp_ledger.specs.declared.took.Onward.{Onward}
use Rattle.scp_workers.specs.scp_ends.specs.Ends.{Sender, Receiver, IsQueued}
use Rattle.scp_gather.specs.Node.{IsReadOut, EndWell}
use Rattle.scp_gather.specs.Report.{IsJoined, AreJoined}
use Rattle.scp_gather.proofs.Settling.{AllWell, none_failed}
use Rattle.scp_gather.proofs.gathering.settle.Goals as goal

pub take_each_back-requires-clause-joined : goal.take_each_back-requires-clause-joined
take_each_back-requires-clause-joined g c =
    let joined = subst AreJoined (sym c.ends.view_is) c.requires.joined in
    λ l k there r there'. subst (λ (x : Receiver Inbound). IsJoined x.line k r) (sym c.into_parts-inbox.ensures.parts.0) (joined.links l k there r there')

pub take_each_back-requires-clause-well : goal.take_each_back-requires-clause-well
take_each_back-requires-clause-well g c = (subst AllWell (sym c.ends.view_is) (none_failed c.args.ends c.requires.well)).readers

pub returns-clause-ended : goal.returns-clause-ended
returns-clause-ended g c =
    let all = subst AllWell (sym c.ends.view_is) (none_failed c.args.ends c.requires.well) in
    subst (EndWell g.A.Driver.says) c.ends.view_is (record {
      lanes = λ l k there r there'. subst (λ (x : Receiver Inbound). IsReadOut x k r) c.into_parts-inbox.ensures.parts.0 (c.in_ok-came.ensures.read_out l k there r there');
      commands = c.return_to.ensures.commands;
      told = subst (λ (x : Receiver Inbound). IsQueued x c.ends.inside.local) (c.take_each_back.ensures.same ∙ c.into_parts-inbox.ensures.parts.0) c.return_to.ensures.queued;
      given = c.in-Some.given;
      pend_ended = sym c.into_parts-inbox.ensures.parts.1 ∙ c.in-Some.is;
      pends = c.into_parts-inbox.ensures.well all.pend;
      ready = subst (λ (x : Receiver Ready). IsQueued x c.in-Some.given) c.into_parts-ready.ensures.parts.0 c.take_back.ensures.queued;
      onward = c.in-Some-onward.onward;
      slot_ended = sym c.into_parts-ready.ensures.parts.1 ∙ c.in-Some-onward.is;
      journals = c.into_parts-ready.ensures.well all.slot;
      decided = subst (λ (x : Receiver Onward). IsQueued x c.in-Some-onward.onward) c.into_parts-decided.ensures.parts.0 c.take_back-2.ensures.queued;
      applies = c.into_parts-decided.ensures.well all.apply;
    })

pub unreachable-requires-in_default-onward : goal.unreachable-requires-in_default-onward
unreachable-requires-in_default-onward g c =
    let all = subst AllWell (sym c.ends.view_is) (none_failed c.args.ends c.requires.well) in
    let joined = subst AreJoined (sym c.ends.view_is) c.requires.joined in
    let there = joined.decided (c.into_parts-ready.ensures.well all.slot).ended in
    let none : None ≡ Some there.0 = sym c.in_default-onward.is ∙ (c.into_parts-ready.ensures.parts.1 ∙ there.1) in
    cc

pub take_back-requires-2 : goal.take_back-requires-2
take_back-requires-2 g c =
    let all = subst AllWell (sym c.ends.view_is) (none_failed c.args.ends c.requires.well) in
    let joined = subst AreJoined (sym c.ends.view_is) c.requires.joined in
    let there = joined.decided (c.into_parts-ready.ensures.well all.slot).ended in
    let same : Some c.in-Some-onward.onward ≡ Some there.0 = sym c.in-Some-onward.is ∙ (c.into_parts-ready.ensures.parts.1 ∙ there.1) in
    ap (λ (s : Sender Onward). s.line) (some_is _ _ same) ∙ (there.2 ∙ sym (ap (λ (r : Receiver Onward). r.line) c.into_parts-decided.ensures.parts.0))
  where
    some_is : (x y : Sender Onward) → Some x ≡ Some y → x ≡ y
    some_is x y e = cc

pub returns-in_err-came-clause-only_memory : goal.returns-in_err-came-clause-only_memory
returns-in_err-came-clause-only_memory g c =
    let p = err_from_is_err_and c.from_residual.result c.from_residual.ensures.1 in
    rw (p.1, p.2) c.in_err-came.ensures.only_memory

pub take_back-requires : goal.take_back-requires
take_back-requires g c =
    let all = subst AllWell (sym c.ends.view_is) (none_failed c.args.ends c.requires.well) in
    let joined = subst AreJoined (sym c.ends.view_is) c.requires.joined in
    let there = joined.ready (c.into_parts-inbox.ensures.well all.pend).ended in
    let same : Some c.in-Some.given ≡ Some there.0 = sym c.in-Some.is ∙ (c.into_parts-inbox.ensures.parts.1 ∙ there.1) in
    ap (λ (s : Sender Ready). s.line) (some_is _ _ same) ∙ (there.2 ∙ sym (ap (λ (r : Receiver Ready). r.line) c.into_parts-ready.ensures.parts.0))
  where
    some_is : (x y : Sender Ready) → Some x ≡ Some y → x ≡ y
    some_is x y e = cc
