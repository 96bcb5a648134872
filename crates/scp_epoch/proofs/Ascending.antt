-- What a life sends never goes back.
use Rattle.std.proofs.Common.{◌≡◌, ◌+◌, ◌<◌, ◌≤◌, ℕ, Bool, true, false, List, [], ◌∷◌, ◌++◌, length, get_or, zero, suc, refl, sym, ◌∙◌, ap, subst, inl, inr, ◌⊎◌, arith, All, append_assoc, append-nil}
use Rattle.std.specs.Prelude.{Option, Some, None, Contains, replicate, slice_get}
use Rattle.std.specs.Option.{ForSome}
use Rattle.std.proofs.lemmas.Bool.{cases_lt}
use Rattle.std.proofs.lemmas.List.Elements.{All-nil, All-append, All-contains}
use Rattle.scp_again.specs.scp_driver.specs.Driver.{Says}
use Rattle.scp_again.specs.scp_envelope.specs.declared.statement.Statement.{Statement}
use Rattle.scp_again.specs.scp_wire.specs.Boxed.{Boxed}
use Rattle.scp_again.specs.scp_wire.specs.declared.message.Message.{Message}
use Rattle.scp_again.specs.scp_wire.specs.Message.{message_value, SpellsMessage}
use Rattle.scp_again.specs.scp_outbox.specs.Outbox.{OutboxView, are_alike}
use Rattle.scp_again.specs.scp_outbox.specs.Handing.{empty_outbox, waiting_in}
use Rattle.scp_again.specs.scp_outbox.specs.Sending.{EmptyOwes, PutsKeepOwes, GivesKeepOwes}
use Rattle.scp_again.specs.scp_outbox.specs.Sent.{statement_of, IsStep, AreNewer}
use Rattle.scp_again.specs.scp_outbox.specs.Waiting.{Owes}
use Rattle.scp_again.specs.scp_ledger.specs.declared.journal.Decision.{Decision}
use Rattle.scp_again.specs.scp_ledger.specs.Seen.{LedgerView}
use Rattle.scp_again.specs.scp_theorem.specs.Grounds.{Who}
use Rattle.scp_again.specs.scp_theorem.proofs.Basics.{none_some}
use Rattle.scp_again.specs.scp_theorem.proofs.Telling.{none_newer}
use Rattle.scp_again.specs.scp_core.specs.declared.config.Config.{Config}
use Rattle.scp_again.specs.scp_core.specs.History.{Exchange}
use Rattle.scp_again.specs.scp_core.specs.Node.{NodeView}
use Rattle.scp_again.specs.scp_core.specs.Sent.{sent_by, sent_to, who_of}
use Rattle.scp_again.specs.scp_core.specs.Theorem.{begun}
use Rattle.scp_turn.specs.Turn.{Does}
use Rattle.scp_again.specs.Again.{again_of}
use Rattle.scp_again.specs.Ascending.{IsNoOlder, Ascend}
use Rattle.scp_again.specs.Laws.{AreEncoded}
use Rattle.scp_again.proofs.Lists.{all_split, pairs_append, pairs_split, all_with, zip_append}
use Rattle.scp_again.proofs.Current.{slots_are, IsWell, IsSaid, IsCurrent, IsLast, no_older, current_said}
use Rattle.scp_again.proofs.Repeated.{again_current}
use Rattle.scp_again.proofs.Holding.{Holds, no_older_by}
use Rattle.scp_again.proofs.Stepping.{one_step}
use Rattle.scp_epoch.proofs.Windows.{does_ran}

-- ---- orders

abbrev pub Ordered : Message → Message → Type 0
Ordered m n = IsNoOlder (statement_of m) (statement_of n)

step_no_older : (o p : Option Statement) → IsStep o p → IsNoOlder o p
step_no_older (Some s) (Some t) h = λ like. inr (h like)
step_no_older (Some s) None h = tt
step_no_older None (Some t) h = tt
step_no_older None None h = tt

newer_ascends : (messages : List Message) → AreNewer messages → Ascend messages
newer_ascends messages h i j d lt below = step_no_older (statement_of (get_or messages i d)) (statement_of (get_or messages j d)) (h i j d lt below)

-- nothing is older than no statement
for_some : (o p : Option Statement) → ForSome o (λ s. IsNoOlder (Some s) p) → IsNoOlder o p
for_some (Some s) p f = f s refl
for_some None (Some t) f = tt
for_some None None f = tt

ordered_by : (P Q : Statement → Type 0) → ((s t : Statement) → P s → Q t → IsNoOlder (Some s) (Some t)) → (xs ys : List Message) → All (λ m. ForSome (statement_of m) P) xs → All (λ m. ForSome (statement_of m) Q) ys → All (λ m. All (Ordered m) ys) xs
ordered_by P Q f xs ys p q = all_with (λ m. ForSome (statement_of m) P) (λ m. ForSome (statement_of m) Q) Ordered xs ys (λ m n x y. no_older_by P Q (statement_of m) (statement_of n) f x y) p q

-- ---- steps

module _ {D : Type 0} (says : Says D) (puts : PutsKeepOwes) (gives : GivesKeepOwes) (who : Who) (picked : Statement → Type 0) (before : List Message) (link : ℕ) where
  abbrev Stands : NodeView D → List Message → Type 0
  Stands v sent = Holds who picked before v.ledger (slice_get v.outboxes link) sent

  pub along : (heard : List Exchange) (a b : NodeView D) (sent : List Message) → Does says a heard b → b.failed ≡ false → Stands a sent → (more : List Message) × AreEncoded (sent_to link heard) more × Stands b (sent ++ more)
  along [] a b sent d runs h = ([], tt, subst (λ (w : NodeView D). Stands w (sent ++ [])) (sym d) (subst (λ (ms : List Message). Stands a ms) (sym (append-nil sent)) h))
  along (x ∷ heard) a b sent d runs h =
      let one = one_step says puts gives who picked before link a d.0 sent x.0 x.1 d.1 (does_ran says heard d.0 b d.2 runs) h in
      let rest = along heard d.0 b (sent ++ one.0) d.2 runs one.2 in (
        one.0 ++ rest.0,
        zip_append (λ (bytes : List ℕ) (m : Message). SpellsMessage bytes (message_value m)) (sent_by link x.0 x.1) one.0 (sent_to link heard) rest.0 one.1 rest.1,
        subst (λ (ms : List Message). Stands b ms) (append_assoc sent one.0 rest.0) rest.2,
      )

-- ---- a node as it begins

replicated : (n : ℕ) (x : OutboxView) (l : ℕ) (y : OutboxView) → slice_get (replicate n x) l ≡ Some y → x ≡ y
replicated zero x l y e = absurd cc
replicated (suc n) x zero y e = cc
replicated (suc n) x (suc l) y e = replicated n x l y e

-- no statement waits
abbrev pub IsQuietBox : Option OutboxView → Type 0
IsQuietBox box = ForSome box (λ o. length o.statements ≡ 0)

module _ {D : Type 0} where
  pub begins : EmptyOwes → (driver : D) (c : Config) (first : ℕ) (base : List ℕ) (link : ℕ) → Holds (who_of c) (λ s. ⊥) [] (begun driver c first base).ledger (slice_get (begun driver c first base).outboxes link) []
  begins empty driver c first base link = record {
    well = record {
      me_is = refl;
      set_is = refl;
      machines = λ at m e. none_some None m refl e;
      kinds = λ at m e. none_some None m refl e;
      undecided = λ at m e. none_some None m refl e;
      own = λ d there. nothing_there d there;
      one = λ d e there b slots. nothing_there d there;
    };
    handed = [];
    said = All-nil (λ m. ForSome (statement_of m) (IsSaid (who_of c) (begun driver c first base).ledger));
    were_handed = All-nil (Contains []);
    newer = none_newer;
    owes = λ o is. subst (λ (b : OutboxView). Owes [] [] b) (replicated (length c.peers) empty_outbox link o is) (empty empty_outbox refl refl);
    last = λ o is. subst (λ (b : OutboxView). All (λ (held : Boxed). IsLast (begun driver c first base).ledger held.value.statement) b.statements) (replicated (length c.peers) empty_outbox link o is) (All-nil (λ (held : Boxed). IsLast (begun driver c first base).ledger held.value.statement));
    known = λ s p. absurd p;
    since = λ s p. absurd p;
    waits = λ s p. absurd p;
  }
    where
      nothing_there : {A : Type 0} (d : Decision) → Contains [] d → A
      nothing_there d there = (let below = there.1 in absurd (omega (arith, below)))

  pub begins_quiet : (driver : D) (c : Config) (first : ℕ) (base : List ℕ) (link : ℕ) → IsQuietBox (slice_get (begun driver c first base).outboxes link)
  begins_quiet driver c first base link o is = subst (λ (b : OutboxView). length b.statements ≡ 0) (replicated (length c.peers) empty_outbox link o is) refl

pub quiet_box : (box : Option OutboxView) → waiting_in box ≡ 0 → IsQuietBox box
quiet_box None e o is = none_some None o refl is
quiet_box (Some b) e o is = let same : b ≡ o = cc in subst (λ (x : OutboxView). length x.statements ≡ 0) same (omega arith)

-- ---- one epoch

module _ {D : Type 0} (who : Who) where
  -- what the ledger knows of, from here on
  from_here : (none : Statement → Type 0) (v : LedgerView D) (box : Option OutboxView) (sent : List Message) → IsQuietBox box → Holds who none [] v box sent → Holds who (IsSaid who v) sent v box []
  from_here none v box sent quiet h = record {
    well = h.well;
    handed = h.handed;
    said = h.said;
    were_handed = subst (All (Contains h.handed)) (sym (append-nil sent)) h.were_handed;
    newer = subst AreNewer (sym (append-nil sent)) h.newer;
    owes = subst (λ (ms : List Message). ForSome box (Owes h.handed ms)) (sym (append-nil sent)) h.owes;
    last = h.last;
    known = λ s c. c;
    since = λ s c. All-nil (λ m. IsNoOlder (Some s) (statement_of m));
    waits = λ s c o is k d below. let none_waits = quiet o is in absurd (omega arith);
  }

  -- what is sent is what the ledger knows of
  sent_said : (picked : Statement → Type 0) (before : List Message) (v : LedgerView D) (box : Option OutboxView) (sent : List Message) → Holds who picked before v box sent → All (λ m. ForSome (statement_of m) (IsSaid who v)) (before ++ sent)
  sent_said picked before v box sent h k d below = All-contains (λ m. ForSome (statement_of m) (IsSaid who v)) h.handed (get_or (before ++ sent) k d) h.said (h.were_handed k d below)

  -- of an epoch: what was sent in it, and what would be sent once more at its end
  pub record Sends (start end : LedgerView D) (messages : List Message) : Type 0 where
    pub ascend : Ascend messages
    pub knows : (s : Statement) → IsSaid who start s → IsSaid who end s
    pub since : (s : Statement) → IsSaid who start s → All (λ m. IsNoOlder (Some s) (statement_of m)) messages
    pub said : All (λ m. ForSome (statement_of m) (IsSaid who end)) messages
    pub well : IsWell who end

  sends : (start end : LedgerView D) (box : Option OutboxView) (before sent : List Message) (link : ℕ) → Holds who (IsSaid who start) before end box sent → Sends start end (sent ++ again_of end link)
  sends start end box before sent link h = record {
    ascend = pairs_append Ordered sent again (pairs_split Ordered before sent (newer_ascends (before ++ sent) h.newer)).1 again_ascends (ordered_by (IsSaid who end) (IsCurrent who end) (λ s t x y like. no_older who end h.well s t x y like) sent again sent_known current);
    knows = λ s c. h.known s c;
    since = λ s c. All-append (λ m. IsNoOlder (Some s) (statement_of m)) sent again (h.since s c) (λ k d below. later s c (statement_of (get_or again k d)) (current k d below));
    said = All-append (λ m. ForSome (statement_of m) (IsSaid who end)) sent again sent_known (λ k d below s is. current_said who end h.well s (current k d below s is));
    well = h.well;
  }
    where
      again : List Message
      again = again_of end link

      current : All (λ m. ForSome (statement_of m) (IsCurrent who end)) again
      current = again_current who end h.well link

      sent_known : All (λ m. ForSome (statement_of m) (IsSaid who end)) sent
      sent_known = (all_split (λ m. ForSome (statement_of m) (IsSaid who end)) before sent (sent_said (IsSaid who start) before end box sent h)).1

      again_ascends : Ascend again
      again_ascends i j d lt below =
          no_older_by (IsCurrent who end) (IsCurrent who end) (statement_of (get_or again i d)) (statement_of (get_or again j d)) (λ s t x y like. no_older who end h.well s t (current_said who end h.well s x) y like) (current i d (omega (arith, lt, below))) (current j d below)

      later : (s : Statement) → IsSaid who start s → (o : Option Statement) → ForSome o (IsCurrent who end) → IsNoOlder (Some s) o
      later s c (Some t) f = λ like. no_older who end h.well s t (h.known s c) (f t refl) like
      later s c None f = tt

module _ {D : Type 0} (says : Says D) (puts : PutsKeepOwes) (gives : GivesKeepOwes) (who : Who) (link : ℕ) where
  -- an epoch, from a start at which no statement waits
  pub epoch_sends : (heard : List Exchange) (start end : NodeView D) (before : List Message) → Does says start heard end → end.failed ≡ false → IsQuietBox (slice_get start.outboxes link) → Holds who (λ s. ⊥) [] start.ledger (slice_get start.outboxes link) before
      → (sent : List Message) × AreEncoded (sent_to link heard) sent × Sends who start.ledger end.ledger (sent ++ again_of end.ledger link)
  epoch_sends heard start end before d runs quiet h =
      let from : Holds who (IsSaid who start.ledger) before start.ledger (slice_get start.outboxes link) [] = from_here who (λ s. ⊥) start.ledger (slice_get start.outboxes link) before quiet h in
      let all = along says puts gives who (IsSaid who start.ledger) before link heard start end [] d runs from in
      (all.0, all.1, sends who start.ledger end.ledger (slice_get end.outboxes link) before all.0 link all.2)
