use Rattle.std.proofs.Common.{◌≡◌, sym, ◌∙◌, ap, false}
use Rattle.std.specs.Prelude.{◌++◌}
use Rattle.std.specs.List.{list_any}
use Rattle.scp_wire.specs.scp_types.specs.declared.names.ConnId.{ConnId}
use Rattle.scp_wire.specs.scp_types.specs.declared.names.Hash.{Hash}
use Rattle.scp_fetch.specs.Wants.{has_conn, waiting_for}
use Rattle.scp_pending.specs.Queues.{lost_by}
use Rattle.scp_pending.specs.Rules.{is_given_up}
use Rattle.scp_pending.specs.declared.ready.DropCause.TheVariants.{GaveUp}
use Rattle.scp_pending.proofs.Basics.{append_nil}
use Rattle.scp_pending.proofs.Keeping.{quiet_stays, quiet_leaves}
use Rattle.scp_pending.proofs.queue.give_up_on.Goals as goal

pub returns-then-not-waits_for_any-clause-stays : goal.returns-then-not-waits_for_any-clause-stays
returns-then-not-waits_for_any-clause-stays c =
    let none : list_any (λ (hash : Hash). has_conn c.args.queue.now.conn (waiting_for hash c.args.fetcher.now)) c.args.hashes.now ≡ false = ap (λ (k : ConnId). list_any (λ (hash : Hash). has_conn k (waiting_for hash c.args.fetcher.now)) c.args.hashes.now) (sym c.conn.ensures) ∙ sym c.waits_for_any.ensures ∙ c.if-not-waits_for_any.true in
    quiet_stays (is_given_up c.args.fetcher.now) (lost_by GaveUp) c.args.queue.now (c.requires.quiet none)

pub returns-then-not-waits_for_any-clause-leaves : goal.returns-then-not-waits_for_any-clause-leaves
returns-then-not-waits_for_any-clause-leaves c =
    let none : list_any (λ (hash : Hash). has_conn c.args.queue.now.conn (waiting_for hash c.args.fetcher.now)) c.args.hashes.now ≡ false = ap (λ (k : ConnId). list_any (λ (hash : Hash). has_conn k (waiting_for hash c.args.fetcher.now)) c.args.hashes.now) (sym c.conn.ensures) ∙ sym c.waits_for_any.ensures ∙ c.if-not-waits_for_any.true in
    sym (ap (λ zs. c.args.leaving.now.items ++ zs) (quiet_leaves (is_given_up c.args.fetcher.now) (lost_by GaveUp) c.args.queue.now (c.requires.quiet none)) ∙ append_nil c.args.leaving.now.items)
