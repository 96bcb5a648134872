-- What may be sent may be sent where more was taken, written, decided and applied.
use Rattle.std.proofs.Common.{◌≡◌, ℕ, true, List, ◌∷◌, ◌++◌, sym, ◌∙◌, ap, subst, append_assoc}
use Rattle.scp_outbox.specs.scp_types.specs.declared.names.Hash.{Hash}
use Rattle.scp_outbox.specs.scp_envelope.specs.declared.statement.Envelope.{Envelope as Enveloped}
use Rattle.scp_outbox.specs.scp_envelope.specs.declared.statement.Pledges.{Pledges}
use Rattle.scp_outbox.specs.scp_envelope.specs.declared.statement.Pledges.TheVariants.{Prepare, Confirm, Externalize, Nominate}
use Rattle.scp_outbox.specs.scp_wire.specs.declared.link.Inbound.{Inbound}
use Rattle.scp_outbox.specs.scp_wire.specs.declared.link.Inbound.TheVariants as inbound
use Rattle.scp_outbox.specs.scp_wire.specs.declared.message.Message.{Message}
use Rattle.scp_outbox.specs.scp_wire.specs.declared.message.Message.TheVariants as message
use Rattle.scp_outbox.specs.scp_wire.specs.declared.side.SideMessage.TheVariants as side
use Rattle.scp_apply.specs.scp_pending.specs.Queues.{is_open, hash_of}
use Rattle.scp_apply.specs.scp_pending.specs.Rules.{settled_by}
use Rattle.scp_apply.specs.scp_ledger.specs.declared.journal.Decision.{Decision}
use Rattle.scp_apply.specs.scp_ledger.specs.declared.journal.Fate.TheVariants.{Taken}
use Rattle.scp_theorem.specs.Grounds.{Who, Grounds, start_of, IsLifeOf, IsOwn, IsOwnOf, IsDecided, NamesSet, AsksForSet, TellsToAsk, MaySend}
use Rattle.scp_theorem.proofs.Basics.{IsMore, any_more, contains_more}

-- the same node, and maybe more of each
pub record Grows (g h : Grounds) : Type 0 where
  pub who : h.who ≡ g.who
  pub taken : IsMore g.taken h.taken
  pub journal : IsMore g.journal h.journal
  pub decisions : IsMore g.decisions h.decisions
  pub applied : IsMore g.applied h.applied

pub decided_more : (old new : List Decision) (e : Enveloped) (p : Pledges) → IsMore old new → IsDecided old e p → IsDecided new e p
decided_more old new e (Prepare p) m h = tt
decided_more old new e (Confirm p) m h = tt
decided_more old new e (Externalize p) m h = any_more (λ (d : Decision). IsOwnOf e d.origin) old new m h
decided_more old new e (Nominate p) m h = tt

set_more : (g h : Grounds) (link : ℕ) (hash : Hash) → Grows g h → AsksForSet g link hash → AsksForSet h link hash
set_more g h link hash k a = record {
  conn = a.conn;
  of_link = subst (λ (who : Who). IsLifeOf who link a.conn) (sym k.who) a.of_link;
  before = a.before;
  rest = a.rest ++ k.taken.more;
  at = k.taken.is ∙ ap (λ (xs : List Inbound). xs ++ k.taken.more) a.at ∙ append_assoc a.before (inbound.Side a.conn (side.GetSet hash) ∷ a.rest) k.taken.more;
  live = subst (λ (who : Who). is_open a.conn (settled_by (start_of who) a.before).queues ≡ true) (sym k.who) a.live;
}

pub may_more : (g h : Grounds) (link : ℕ) (m : Message) → Grows g h → MaySend g link m → MaySend h link m
may_more g h link (message.Envelope e) k a = (subst (λ (who : Who). IsOwn who e.value) (sym k.who) a.0, decided_more g.decisions h.decisions e.value e.value.statement.pledges k.decisions a.1)
may_more g h link (message.GetSet hash) k a = any_more (NamesSet hash) g.taken h.taken k.taken a
may_more g h link (message.Set set) k a = set_more g h link (hash_of set) k a
may_more g h link (message.NoSet hash) k a = set_more g h link hash k a
may_more g h link (message.GetRecord slot) k a = any_more (TellsToAsk link slot) g.taken h.taken k.taken a
may_more g h link (message.Records first values) k a = absurd a
may_more g h link (message.Record slot value) k a = (
  any_more (λ (d : Decision). (d.slot ≡ slot) × (d.value ≡ value)) g.applied h.applied k.applied a.0,
  record {
    conn = a.1.conn;
    of_link = subst (λ (who : Who). IsLifeOf who link a.1.conn) (sym k.who) a.1.of_link;
    seq = a.1.seq;
    set = a.1.set;
    verdict = a.1.verdict;
    taken = contains_more g.journal h.journal (Taken a.1.conn a.1.seq (message.GetRecord slot) a.1.set a.1.verdict) k.journal a.1.taken;
  },
)
