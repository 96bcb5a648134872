-- How a node's books are read off its account, and that the headline follows from the ledger theorem.
use Rattle.std.specs.Prelude.{ℕ, List, ◌++◌, Option, map, is_some}
use Rattle.scp_outbox.specs.scp_types.specs.declared.limits.TheConstants.{CARRIED_LIMIT}
use Rattle.scp_apply.specs.scp_driver.specs.declared.driver.Level.{Level}
use Rattle.scp_outbox.specs.scp_wire.specs.declared.message.Message.{Message}
use Rattle.scp_outbox.specs.scp_wire.specs.Marks.{marks_in}
use Rattle.scp_outbox.specs.scp_wire.specs.Sent.{sent, is_closed, carried_of, end_of}
use Rattle.scp_apply.specs.scp_fetch.specs.Store.{lookup}
use Rattle.scp_apply.specs.scp_pending.specs.declared.parked.Parked.{Parked}
use Rattle.scp_apply.specs.scp_pending.specs.declared.parked.Parked.TheVariants.{Waits, Free, Lost}
use Rattle.scp_apply.specs.scp_pending.specs.Line.{marks_of}
use Rattle.scp_apply.specs.scp_pending.specs.Queues.{parked_of, seq_of}
use Rattle.scp_theorem.specs.Account.{Account}
use Rattle.scp_theorem.specs.Kept.{KeepsLedger}
use Rattle.scp_theorem.specs.Headline.{Waiter, Books, Headline}

-- the message of what is parked
abbrev pub message_of : Parked → Message
message_of (Waits x) = x.message
message_of (Free delivery) = delivery.message
message_of (Lost x cause) = x.message

-- what is parked, as a message that waits
abbrev pub waiter_of : Parked → Waiter
waiter_of p = record { place = (seq_of p).0; message = message_of p }

-- the messages that were sent are those that the bytes read as, up to the limit of carried messages of a connection
abbrev pub books_of : {D : Type 0} → Account D → Books
books_of a = record {
  me = a.me;
  set = a.set;
  peers = a.peers;
  messages = λ l c. carried_of CARRIED_LIMIT (sent c (a.sent l));
  end = λ l c. end_of CARRIED_LIMIT (sent c (a.sent l)) (is_closed c (a.sent l));
  ahead = λ c. marks_of c a.on_way ++ marks_of c a.pending.leaving;
  waiting = λ c. map waiter_of (parked_of c a.pending.settled.queues);
  behind = λ l c. marks_in c a.inbox ++ marks_in c (a.upcoming l);
  has_set = λ hash. is_some (lookup hash a.pending.settled.store);
  first = a.ledger.first;
  journal = a.ledger.journal;
  decisions = a.ledger.decisions;
  applied = a.applier.applied;
}

-- the headline follows from the ledger theorem
abbrev pub LedgerKeepsHeadline : {D : Type 0} → (D → ℕ → List ℕ → Level) → (D → ℕ → List ℕ → Option (List ℕ)) → (D → ℕ → List (List ℕ) → List ℕ) → (D → ℕ → ℕ → ℕ → ℕ) → Type 0
LedgerKeepsHeadline {D} level extracted combined place = (a : Account D) → KeepsLedger level extracted combined place a → Headline (books_of a)
