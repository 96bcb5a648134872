-- Each connection's messages have one fate each, in order, and nothing is lost.
use Rattle.std.proofs.Common.{◌≡◌, ℕ, List, ◌++◌, sym, ◌∙◌, ap, subst, append_assoc, inl, inr}
use Rattle.std.specs.Prelude.{Option, Some, slice_get}
use Rattle.std.specs.List.{AllByRecursion}
use Rattle.std.proofs.lemmas.Grind.{flat_map-append}
use Rattle.std.proofs.lemmas.List.Elements.{filter-append}
use Rattle.scp_outbox.specs.scp_types.specs.declared.names.ConnId.{ConnId}
use Rattle.scp_outbox.specs.scp_types.specs.declared.names.NodeId.{NodeId}
use Rattle.scp_apply.specs.scp_driver.specs.declared.driver.Level.{Level}
use Rattle.scp_outbox.specs.scp_wire.specs.declared.message.Message.{Message}
use Rattle.scp_outbox.specs.scp_wire.specs.declared.link.Cause.{Cause}
use Rattle.scp_outbox.specs.scp_wire.specs.declared.link.Inbound.{Inbound}
use Rattle.scp_outbox.specs.scp_wire.specs.Connections.{conn_at}
use Rattle.scp_outbox.specs.scp_wire.specs.LinkReading.{unread, readings}
use Rattle.scp_outbox.specs.scp_wire.specs.ReaderLaws.{IsSent}
use Rattle.scp_outbox.specs.scp_wire.specs.Shape.{HasShape, AreInOrder, nothing_came, of_peer, is_from}
use Rattle.scp_outbox.specs.scp_wire.specs.Marks.{Mark, marks_in, messages_in, IsWhole}
use Rattle.scp_outbox.specs.scp_wire.specs.Lanes.{slots_of, in_lane, lane_numbers, EndsLast, HaveSlots}
use Rattle.scp_outbox.specs.scp_wire.specs.Sent.{sent, is_closed, carried_of, end_of}
use Rattle.scp_apply.specs.scp_pending.specs.declared.ready.Ready.{Ready}
use Rattle.scp_apply.specs.scp_pending.specs.Endings.{Way, Exits, ways}
use Rattle.scp_apply.specs.scp_pending.specs.Line.{ready_mark, marks_of, HaveMessages, HasItsMessage, Accounts, held}
use Rattle.scp_apply.specs.scp_pending.specs.Queues.{is_open}
use Rattle.scp_apply.specs.scp_pending.specs.Rules.{Settled, settled_by}
use Rattle.scp_apply.specs.scp_ledger.specs.Marks.{marks_of as marks_on}
use Rattle.scp_theorem.specs.Account.{Account, Ran}
use Rattle.scp_theorem.specs.Fates.{Fates, HasItsNumber, ways_on}
use Rattle.scp_theorem.specs.Kept.{start_of, leaving, slots_sent, line_sent, line_held, HasItsFates}
use Rattle.scp_theorem.proofs.Entries.{same_marks, journal_right}
use Rattle.scp_theorem.proofs.Holding.{held_are_messages, is_live_by_place}
use Rattle.scp_theorem.proofs.StageLaws.{Laws}
use Rattle.scp_theorem.proofs.Causes.{start_is, by_rules, ways_are, all_front}

-- ---- plain lists

whole-append : (sent line more : List Mark) → IsWhole sent line → IsWhole (sent ++ more) (line ++ more)
whole-append sent line more w = elim w [
  | inl e ↦ inl (ap (λ xs. xs ++ more) e)
  | inr cut ↦ inr (record { front = cut.front; rest = cut.rest ++ more; later = cut.later ++ more; sent_is = ap (λ xs. xs ++ more) cut.sent_is ∙ append_assoc cut.front cut.rest more; line_is = ap (λ xs. xs ++ more) cut.line_is ∙ append_assoc cut.front _ more })
]

regroup : {X : Type 0} (a b c d : List X) → ((a ++ b) ++ c) ++ d ≡ a ++ (b ++ (c ++ d))
regroup a b c d = simp append_assoc

-- what a test that is of one peer's things finds, part by part
by_parts : {X : Type 0} (f : List Inbound → List X) (peer : NodeId) (came inbox upcoming : List Inbound) → ((xs ys : List Inbound) → f (xs ++ ys) ≡ f xs ++ f ys) → ((xs : List Inbound) → f (of_peer peer xs) ≡ f xs) → f (of_peer peer came ++ (of_peer peer inbox ++ upcoming)) ≡ f came ++ (f inbox ++ f upcoming)
by_parts f peer came inbox upcoming append of =
    append (of_peer peer came) (of_peer peer inbox ++ upcoming)
    ∙ ap (λ ys. f (of_peer peer came) ++ ys) (append (of_peer peer inbox) upcoming ∙ ap (λ ys. ys ++ f upcoming) (of inbox))
    ∙ ap (λ ys. ys ++ (f inbox ++ f upcoming)) (of came)

-- ---- what came

module _ (laws : Laws) {D : Type 0} {level : D → ℕ → List ℕ → Level} {extracted : D → ℕ → List ℕ → Option (List ℕ)} {combined : D → ℕ → List (List ℕ) → List ℕ} {place : D → ℕ → ℕ → ℕ → ℕ} (a : Account D) (r : Ran level extracted combined place a) where
  -- what is read of a link, by where it is
  read_is : (l : ℕ) (peer : NodeId) → slice_get a.peers l ≡ Some peer → readings unread (a.sent l) ≡ of_peer peer a.came ++ (of_peer peer a.inbox ++ a.upcoming l)
  read_is l peer at = r.read l peer at ∙ ap (λ xs. xs ++ a.upcoming l) (filter-append (is_from peer) a.came a.inbox) ∙ append_assoc (of_peer peer a.came) (of_peer peer a.inbox) (a.upcoming l)

  in_order : (l : ℕ) (peer : NodeId) → slice_get a.peers l ≡ Some peer → AreInOrder peer a.me nothing_came (readings unread (a.sent l))
  in_order l peer at = laws.in_order peer a.me (a.sent l) (r.links l peer at)

  shape : HasShape a.me a.peers a.came
  shape l peer at = laws.front peer a.me nothing_came (of_peer peer a.came) (of_peer peer a.inbox ++ a.upcoming l) (subst (λ (xs : List Inbound). AreInOrder peer a.me nothing_came xs) (read_is l peer at) (in_order l peer at))

  given_marks : (c : ConnId) → marks_of c r.given ≡ marks_on c a.ledger.journal ++ marks_of c a.on_way
  given_marks c = ap (marks_of c) r.ready ∙ flat_map-append (ready_mark c) r.took a.on_way ∙ ap (λ ms. ms ++ marks_of c a.on_way) (sym (same_marks c r.took a.ledger.journal r.journals.entries))

-- ---- one connection

module _ (laws : Laws) {D : Type 0} {level : D → ℕ → List ℕ → Level} {extracted : D → ℕ → List ℕ → Option (List ℕ)} {combined : D → ℕ → List (List ℕ) → List ℕ} {place : D → ℕ → ℕ → ℕ → ℕ} (a : Account D) (r : Ran level extracted combined place a) (l : ℕ) (peer : NodeId) (at : slice_get a.peers l ≡ Some peer) (life : ℕ) where
  abbrev it : ConnId
  it = conn_at peer a.me life

  -- its messages, and the slots that they name
  abbrev messages : List Message
  messages = carried_of 1000000 (sent it (a.sent l))

  abbrev slots : ℕ → ℕ
  slots = slots_sent a l it

  -- what came of it to the inbox and isn't taken, or is still to come
  abbrev behind : List Mark
  behind = marks_in it a.inbox ++ marks_in it (a.upcoming l)

  abbrev messages_behind : List Message
  messages_behind = messages_in it a.inbox ++ messages_in it (a.upcoming l)

  told : IsSent it (a.sent l)
  told = laws.sent_is peer a.me (a.sent l) (r.links l peer at) life

  line_is : line_sent a l it ≡ marks_in it a.came ++ behind
  line_is = sym told.line ∙ ap (marks_in it) (read_is laws a r l peer at) ∙ by_parts (marks_in it) peer a.came a.inbox (a.upcoming l) (λ xs ys. (laws.parts it xs ys).marks) (λ xs. (laws.peers it xs).marks)

  messages_are : messages ≡ messages_in it a.came ++ messages_behind
  messages_are = sym told.messages ∙ ap (messages_in it) (read_is laws a r l peer at) ∙ by_parts (messages_in it) peer a.came a.inbox (a.upcoming l) (λ xs ys. (laws.parts it xs ys).messages) (λ xs. (laws.peers it xs).messages)

  slots_fit : HaveSlots it slots a.came
  slots_fit = subst (λ (ms : List Message). HaveSlots it (slots_of ms) a.came) (sym messages_are) (laws.numbers peer a.me a.came (shape laws a r l peer at) life messages_behind).slots

  accounts : Accounts it slots a.came r.given (held it a.pending)
  accounts = laws.accounts a.me a.peers a.came r.given a.pending r.pends (shape laws a r) l peer at life slots slots_fit

  -- ---- nothing is lost

  sent_lane : (s : ℕ) → in_lane slots s (line_sent a l it) ≡ in_lane slots s (marks_in it a.came) ++ in_lane slots s behind
  sent_lane s = ap (in_lane slots s) line_is ∙ laws.lanes slots s (marks_in it a.came) behind

  held_lane : (s : ℕ) → in_lane slots s (marks_of it r.given ++ held it a.pending) ++ in_lane slots s behind ≡ in_lane slots s (marks_on it a.ledger.journal ++ line_held a l it)
  held_lane s =
      sym (laws.lanes slots s (marks_of it r.given ++ held it a.pending) behind)
      ∙ ap (λ ms. in_lane slots s ((ms ++ held it a.pending) ++ behind)) (given_marks laws a r it)
      ∙ ap (in_lane slots s) (regroup (marks_on it a.ledger.journal) (marks_of it a.on_way) (held it a.pending) behind)

  whole_at : (s : ℕ) → IsWhole (in_lane slots s (line_sent a l it)) (in_lane slots s (marks_on it a.ledger.journal ++ line_held a l it))
  whole_at s =
      subst (λ (ms : List Mark). IsWhole ms (in_lane slots s (marks_on it a.ledger.journal ++ line_held a l it))) (sym (sent_lane s))
      (subst (λ (ms : List Mark). IsWhole (in_lane slots s (marks_in it a.came) ++ in_lane slots s behind) ms) (held_lane s)
      (whole-append (in_lane slots s (marks_in it a.came)) (in_lane slots s (marks_of it r.given ++ held it a.pending)) (in_lane slots s behind) (accounts.whole s)))

  -- ---- the fates

  -- what comes after the entries, of what was given and is held
  abbrev beyond : List Mark
  beyond = marks_of it a.on_way ++ held it a.pending

  apart : (s : ℕ) → in_lane slots s (marks_of it r.given ++ held it a.pending) ≡ in_lane slots s (marks_on it a.ledger.journal) ++ in_lane slots s beyond
  apart s =
      ap (λ ms. in_lane slots s (ms ++ held it a.pending)) (given_marks laws a r it)
      ∙ ap (in_lane slots s) (append_assoc (marks_on it a.ledger.journal) (marks_of it a.on_way) (held it a.pending))
      ∙ laws.lanes slots s (marks_on it a.ledger.journal) beyond

  took_messages : HaveMessages it (messages_in it a.came) r.took
  took_messages = all_front (HasItsMessage it (messages_in it a.came)) r.took a.on_way (subst (λ (rs : List Ready). HaveMessages it (messages_in it a.came) rs) r.ready accounts.messages)

  fates_at : Fates it messages a.ledger.journal
  fates_at =
      let end : Option Cause = end_of 1000000 (sent it (a.sent l)) (is_closed it (a.sent l)) in
      record {
        follows = λ s. laws.follows (lane_numbers s 0 messages) end (in_lane slots s (marks_in it a.came)) (in_lane slots s behind) (in_lane slots s (marks_on it a.ledger.journal)) (in_lane slots s beyond) (sym (laws.lanes_sent messages end s) ∙ sent_lane s) (subst (IsWhole (in_lane slots s (marks_in it a.came))) (apart s) (accounts.whole s)) (subst EndsLast (apart s) (accounts.ends s));
        messages_are = subst (λ (ms : List Message). AllByRecursion (HasItsNumber it ms) a.ledger.journal) (sym messages_are) (journal_right it (messages_in it a.came) messages_behind r.took a.ledger.journal r.journals.entries took_messages);
      }

  ends_at : Exits (start_of a) slots a.came it (is_open it (settled_by (start_of a) a.came).queues) (ways_on it a.ledger.journal ++ ways it (leaving a))
  ends_at =
      subst (λ (ws : List Way). Exits (start_of a) slots a.came it (is_open it (settled_by (start_of a) a.came).queues) ws) (ways_are a r it)
      (subst (λ (s : Settled). Exits (start_of a) slots a.came it (is_open it s.queues) (ways it (r.given ++ a.pending.leaving))) (by_rules a r)
      (subst (λ (s : Settled). Exits s slots a.came it (is_open it a.pending.settled.queues) (ways it (r.given ++ a.pending.leaving))) (start_is a r)
      (laws.exits a.me a.peers a.came r.given a.pending r.pends (shape laws a r) l peer at life slots slots_fit)))

  pub has_its_fates : HasItsFates a l it
  has_its_fates = record {
    fates = fates_at;
    whole = whole_at;
    ends = ends_at;
    held_are = held_are_messages laws a r l peer at life (read_is laws a r l peer at) (in_order laws a r l peer at) (shape laws a r);
    live = is_live_by_place laws a r l peer at life (read_is laws a r l peer at) (in_order laws a r l peer at) (shape laws a r);
  }
