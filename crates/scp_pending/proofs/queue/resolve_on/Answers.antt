use Rattle.std.proofs.Common.{◌≡◌, sym, ◌∙◌, ap, false}
use Rattle.scp_wire.specs.scp_types.specs.declared.names.ConnId.{ConnId}
use Rattle.scp_fetch.specs.Wants.{has_conn}
use Rattle.scp_pending.specs.Queues.{is_hash}
use Rattle.scp_pending.specs.inside.Outcome.{outcome_of}
use Rattle.std.specs.Prelude.{◌++◌}
use Rattle.scp_pending.proofs.Basics.{append_nil}
use Rattle.scp_pending.proofs.Keeping.{quiet_stays, quiet_leaves}
use Rattle.scp_pending.proofs.queue.resolve_on.Goals as goal

pub returns-then-not-is_among-clause-stays : goal.returns-then-not-is_among-clause-stays
returns-then-not-is_among-clause-stays c =
    let none : has_conn c.args.queue.now.conn c.args.conns.now ≡ false = ap (λ (k : ConnId). has_conn k c.args.conns.now) (sym c.conn.ensures) ∙ sym c.is_among.ensures ∙ c.if-not-is_among.true in
    quiet_stays (is_hash c.args.hash.now) (outcome_of c.args.outcome.now) c.args.queue.now (c.requires.quiet none)

pub returns-then-not-is_among-clause-leaves : goal.returns-then-not-is_among-clause-leaves
returns-then-not-is_among-clause-leaves c =
    let none : has_conn c.args.queue.now.conn c.args.conns.now ≡ false = ap (λ (k : ConnId). has_conn k c.args.conns.now) (sym c.conn.ensures) ∙ sym c.is_among.ensures ∙ c.if-not-is_among.true in
    sym (ap (λ zs. c.args.leaving.now.items ++ zs) (quiet_leaves (is_hash c.args.hash.now) (outcome_of c.args.outcome.now) c.args.queue.now (c.requires.quiet none)) ∙ append_nil c.args.leaving.now.items)
