use Rattle.std.proofs.Common.{◌≡◌, ◌∷◌, [], sym, ◌∙◌, ap, subst, inl, inr, ℕ, List}
use Rattle.std.specs.Prelude.{Some, false}
use Rattle.scp_slot.specs.scp_types.specs.declared.names.NodeId.{NodeId}
use Rattle.scp_pending.specs.scp_wire.specs.declared.message.Message.TheVariants.{Record}
use Rattle.scp_ledger.specs.declared.journal.Verdict.TheVariants.{Decided}
use Rattle.scp_ledger.specs.declared.journal.Fate.TheVariants.{Taken}
use Rattle.scp_ledger.specs.inside.State.{state_view}
use Rattle.scp_ledger.specs.Verdicts.{link_of}
use Rattle.scp_ledger.specs.Verdicts.{IsRecordVerdict}
use Rattle.scp_ledger.specs.Takes.{TakesRecord, Passes, Decides}
use Rattle.scp_ledger.proofs.Outcomes.{if_ok, if_ok2, was_asked}
use Rattle.scp_ledger.proofs.state.State.take_record.Goals as goal

pub decide_by_record-requires-clause-asked : goal.decide_by_record-requires-clause-asked
decide_by_record-requires-clause-asked g c =
    let v = state_view false c.args.self.now in
    let link : c.link_of-link.result ≡ link_of v.peers c.args.conn = c.link_of-link.ensures ∙ ap (λ (ps : List NodeId). link_of ps c.args.conn) c.as_slice.ensures.value in
    let right : IsRecordVerdict v (link_of v.peers c.args.conn) c.args.slot c.record_verdict-verdict.result = subst (λ (l : ℕ). IsRecordVerdict v l c.args.slot c.record_verdict-verdict.result) link c.record_verdict-verdict.ensures.right in
    was_asked v (link_of v.peers c.args.conn) c.args.slot c.record_verdict-verdict.result right (c.is_deciding.ensures.0 c.if-is_deciding.true)

pub returns-then-is_deciding-clause-takes : goal.returns-then-is_deciding-clause-takes
returns-then-is_deciding-clause-takes g c =
    let v = state_view false c.args.self.now in
    let w = state_view false c.decide_by_record.new.self in
    let verdict = c.record_verdict-verdict.result in
    let is : verdict ≡ Decided = c.is_deciding.ensures.0 c.if-is_deciding.true in
    let link : c.link_of-link.result ≡ link_of v.peers c.args.conn = c.link_of-link.ensures ∙ ap (λ (ps : List NodeId). link_of ps c.args.conn) c.as_slice.ensures.value in
    let right : IsRecordVerdict v (link_of v.peers c.args.conn) c.args.slot verdict = subst (λ (l : ℕ). IsRecordVerdict v l c.args.slot verdict) link c.record_verdict-verdict.ensures.right in
    if_ok2 c.decide_by_record.result
    (λ took. took.verdict ≡ Some Decided)
    (λ took. Decides v c.args.conn c.args.seq c.args.slot c.args.value c.args.set took w)
    (λ took. TakesRecord v c.args.conn c.args.seq c.args.slot c.args.value c.args.set took w)
    (λ took said decides. (verdict, right, said ∙ ap (λ x. Some x) (sym is), inr (is, decides)))
    c.decide_by_record.ensures.verdict c.decide_by_record.ensures.decides

pub returns-clause-takes : goal.returns-clause-takes
returns-clause-takes g c =
    let v = state_view false c.args.self.now in
    let w = state_view false c.pass_entry.new.self in
    let verdict = c.record_verdict-verdict.result in
    let not_deciding : ¬ (verdict ≡ Decided) = λ is. let t = c.is_deciding.ensures.1 is in cc (t, c.if-is_deciding.false) in
    let link : c.link_of-link.result ≡ link_of v.peers c.args.conn = c.link_of-link.ensures ∙ ap (λ (ps : List NodeId). link_of ps c.args.conn) c.as_slice.ensures.value in
    let right : IsRecordVerdict v (link_of v.peers c.args.conn) c.args.slot verdict = subst (λ (l : ℕ). IsRecordVerdict v l c.args.slot verdict) link c.record_verdict-verdict.ensures.right in
    if_ok c.pass_entry.result
    (λ took. Passes v (Some verdict) (Taken c.args.conn c.args.seq (Record c.args.slot c.args.value) c.args.set verdict ∷ []) took w)
    (λ took. TakesRecord v c.args.conn c.args.seq c.args.slot c.args.value c.args.set took w)
    (λ took passes. (verdict, right, passes.verdict, inl (not_deciding, passes)))
    c.pass_entry.ensures.passes
