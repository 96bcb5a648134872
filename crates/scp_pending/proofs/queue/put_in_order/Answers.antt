use Rattle.std.proofs.Common.{◌≡◌, List, sym, ◌∙◌, ap, subst, false}
use Rattle.std.specs.List.{AllByRecursion}
use Rattle.scp_wire.specs.scp_types.specs.declared.names.ConnId.{ConnId}
use Rattle.scp_wire.specs.scp_types.specs.declared.names.Hash.{Hash}
use Rattle.scp_fetch.specs.Wants.{has_conn, waiting_for}
use Rattle.scp_pending.specs.Queues.{QueueView, in_order_of, is_hash}
use Rattle.scp_pending.specs.inside.Kept.{IsQuiet}
use Rattle.scp_pending.proofs.Freeing.{order_push}
use Rattle.scp_pending.proofs.Serving.{all_first}
use Rattle.scp_pending.proofs.queue.put_in_order.Goals as goal

pub put_first-requires : goal.put_first-requires
put_first-requires c = record { quiet = subst (λ (conns : List ConnId). AllByRecursion (λ (q : QueueView). has_conn q.conn conns ≡ false → IsQuiet (is_hash c.in-Some.hash) q) c.loop-hash.queues.items) (sym c.waiting.ensures) (c.loop-hash.invariant.quiet c.in-Some.hash) }

pub loop-hash-preserved : goal.loop-hash-preserved
loop-hash-preserved c = record {
  order = ap (in_order_of c.pop.new.self.items) c.in_ok-put_first.ensures ∙ sym (order_push c.pop.new.self.items c.in-Some.hash c.loop-hash.queues.items) ∙ ap (λ (hashes : List Hash). in_order_of hashes c.loop-hash.queues.items) (sym c.in-Some.ensures.items) ∙ c.loop-hash.invariant.order;
  quiet = λ hash. subst (λ (qs : List QueueView). AllByRecursion (λ (q : QueueView). has_conn q.conn (waiting_for hash c.args.fetcher.now) ≡ false → IsQuiet (is_hash hash) q) qs) (sym c.in_ok-put_first.ensures) (all_first (λ (q : QueueView). has_conn q.conn (waiting_for hash c.args.fetcher.now) ≡ false → IsQuiet (is_hash hash) q) c.in-Some.hash c.loop-hash.queues.items (c.loop-hash.invariant.quiet hash));
}
