-- All that is sent, and what is sent once more: it never goes back.
use Rattle.std.proofs.Common.{◌≡◌, ℕ, false, List, [], ◌∷◌, ◌++◌, refl, sym, ◌∙◌, ap, subst, arith, All, get_or, inl, inr, append_assoc, append-nil, zero, suc}
use Rattle.std.specs.Prelude.{Option, Some, None, Contains, length, replicate, slice_get}
use Rattle.std.specs.Option.{ForSome}
use Rattle.std.proofs.lemmas.List.Elements.{All-nil, All-append, All-contains}
use Rattle.scp_core.specs.scp_driver.specs.Driver.{Says}
use Rattle.scp_core.specs.scp_envelope.specs.declared.statement.Statement.{Statement}
use Rattle.scp_core.specs.scp_wire.specs.Boxed.{Boxed}
use Rattle.scp_core.specs.scp_wire.specs.declared.message.Message.{Message}
use Rattle.scp_core.specs.scp_wire.specs.Message.{message_value, SpellsMessage}
use Rattle.scp_core.specs.scp_outbox.specs.Outbox.{OutboxView}
use Rattle.scp_core.specs.scp_outbox.specs.Handing.{empty_outbox}
use Rattle.scp_core.specs.scp_outbox.specs.Sending.{EmptyOwes, PutsKeepOwes, GivesKeepOwes}
use Rattle.scp_core.specs.scp_outbox.specs.Sent.{statement_of, IsStep, AreNewer}
use Rattle.scp_core.specs.scp_outbox.specs.Waiting.{Owes}
use Rattle.scp_core.specs.scp_ledger.specs.declared.journal.Decision.{Decision}
use Rattle.scp_core.specs.scp_ledger.specs.Seen.{LedgerView}
use Rattle.scp_core.specs.scp_theorem.specs.Grounds.{Who}
use Rattle.scp_core.specs.scp_theorem.proofs.Basics.{none_some}
use Rattle.scp_core.specs.scp_theorem.proofs.Telling.{none_newer}
use Rattle.scp_core.specs.declared.config.Config.{Config}
use Rattle.scp_core.specs.declared.event.Reply.{Reply}
use Rattle.scp_core.specs.declared.event.Reply.TheVariants.{Failed}
use Rattle.scp_core.specs.History.{Exchange, Past, hears, past_of, nothing_heard}
use Rattle.scp_core.specs.Node.{NodeView}
use Rattle.scp_core.specs.Sent.{sent_by, sent_to, who_of}
use Rattle.scp_core.specs.Theorem.{begun, AreSteps, IsReply}
use Rattle.scp_again.specs.Again.{again_of}
use Rattle.scp_again.specs.Ascending.{IsNoOlder, Ascend}
use Rattle.scp_again.specs.Laws.{AreEncoded, NeverGoesBack, NodesNeverGoBack, LateNodesNeverGoBack}
use Rattle.scp_again.proofs.Lists.{all_split, pairs_append, pairs_split, all_with, zip_append}
use Rattle.scp_again.proofs.Current.{IsWell, IsSaid, IsCurrent, IsLast, no_older, current_said}
use Rattle.scp_again.proofs.Repeated.{again_current}
use Rattle.scp_again.proofs.Holding.{Holds, holds_from, no_older_by}
use Rattle.scp_again.proofs.Stepping.{and_quiet, one_step}

-- ---- every list of exchanges

module _ {D : Type 0} (says : Says D) where
  -- a node that runs ran before
  ran_before : (c : Config) (p : Past) (xs : List Exchange) (v last : NodeView D) → AreSteps says c p v xs last → last.failed ≡ false → v.failed ≡ false
  ran_before c p [] v last a runs = ap (λ (w : NodeView D). w.failed) (sym a) ∙ runs
  ran_before c p (x ∷ xs) v last a runs = elim a.1 [
    | inl w ↦ ap (λ (u : NodeView D). u.failed) (sym w.2) ∙ ran_before c (hears c p x.0 x.1) xs a.0 last a.2 runs
    | inr w ↦ w.1.flows.runs
  ]

  module _ (puts : PutsKeepOwes) (gives : GivesKeepOwes) (c : Config) (picked : Statement → Type 0) (before : List Message) (link : ℕ) where
    abbrev Stands : NodeView D → List Message → Type 0
    Stands v sent = Holds (who_of c) picked before v.ledger (slice_get v.outboxes link) sent

    abbrev Sends : NodeView D → List Message → List (List ℕ) → Type 0
    Sends v sent bytes = (more : List Message) × AreEncoded bytes more × Stands v (sent ++ more)

    replied : (p : Past) (old new : NodeView D) (sent : List Message) (x : Exchange) → IsReply says c p old x.0 x.1 new → new.failed ≡ false → Stands old sent → Sends new sent (sent_by link x.0 x.1)
    replied p old new sent x r runs h = elim r [
      | inl w ↦ subst (λ (reply : Reply). Sends new sent (sent_by link x.0 reply)) (sym w.1) (subst (λ (v : NodeView D). Sends v sent (sent_by link x.0 Failed)) (sym w.2) (and_quiet says puts gives (who_of c) picked before link old sent x.0 Failed (λ bytes e. cc) h))
      | inr w ↦ one_step says puts gives (who_of c) picked before link old new sent x.0 x.1 w.1.step runs h
    ]

    along : (xs : List Exchange) (p : Past) (v last : NodeView D) (sent : List Message) → AreSteps says c p v xs last → last.failed ≡ false → Stands v sent → Sends last sent (sent_to link xs)
    along [] p v last sent a runs h = ([], tt, subst (λ (w : NodeView D). Stands w (sent ++ [])) (sym a) (subst (λ (ms : List Message). Stands v ms) (sym (append-nil sent)) h))
    along (x ∷ xs) p v last sent a runs h =
        let one = replied p v a.0 sent x a.1 (ran_before c (hears c p x.0 x.1) xs a.0 last a.2 runs) h in
        let rest = along xs (hears c p x.0 x.1) a.0 last (sent ++ one.0) a.2 runs one.2 in (
          one.0 ++ rest.0,
          zip_append (λ (bytes : List ℕ) (m : Message). SpellsMessage bytes (message_value m)) (sent_by link x.0 x.1) one.0 (sent_to link xs) rest.0 one.1 rest.1,
          subst (λ (ms : List Message). Stands last ms) (append_assoc sent one.0 rest.0) rest.2,
        )

-- ---- a node as it begins

replicated : (n : ℕ) (x : OutboxView) (l : ℕ) (y : OutboxView) → slice_get (replicate n x) l ≡ Some y → x ≡ y
replicated zero x l y e = absurd cc
replicated (suc n) x zero y e = cc
replicated (suc n) x (suc l) y e = replicated n x l y e

module _ {D : Type 0} where
  begins : EmptyOwes → (driver : D) (c : Config) (first : ℕ) (base : List ℕ) (link : ℕ) → Holds (who_of c) (λ s. ⊥) [] (begun driver c first base).ledger (slice_get (begun driver c first base).outboxes link) []
  begins empty driver c first base link = record {
    well = record {
      me_is = refl;
      set_is = refl;
      machines = λ at m e. none_some None m refl e;
      kinds = λ at m e. none_some None m refl e;
      undecided = λ at m e. none_some None m refl e;
      own = λ d there. nothing_there d there;
      one = λ d e there b slots. nothing_there d there;
    };
    handed = [];
    said = All-nil (λ m. ForSome (statement_of m) (IsSaid (who_of c) (begun driver c first base).ledger));
    were_handed = All-nil (Contains []);
    newer = none_newer;
    owes = λ o is. subst (λ (b : OutboxView). Owes [] [] b) (replicated (length c.peers) empty_outbox link o is) (empty empty_outbox refl refl);
    last = λ o is. subst (λ (b : OutboxView). All (λ (held : Boxed). IsLast (begun driver c first base).ledger held.value.statement) b.statements) (replicated (length c.peers) empty_outbox link o is) (All-nil (λ (held : Boxed). IsLast (begun driver c first base).ledger held.value.statement));
    known = λ s p. absurd p;
    since = λ s p. absurd p;
    waits = λ s p. absurd p;
  }
    where
      nothing_there : {A : Type 0} (d : Decision) → Contains [] d → A
      nothing_there d there = (let below = there.1 in absurd (omega (arith, below)))

-- ---- all together

-- one statement, or what is newer
abbrev Ordered : Message → Message → Type 0
Ordered m n = IsNoOlder (statement_of m) (statement_of n)

step_no_older : (o p : Option Statement) → IsStep o p → IsNoOlder o p
step_no_older (Some s) (Some t) h = λ like. inr (h like)
step_no_older (Some s) None h = tt
step_no_older None (Some t) h = tt
step_no_older None None h = tt

nothing_older : (p : Option Statement) → IsNoOlder None p
nothing_older (Some t) = tt
nothing_older None = tt

newer_ascends : (messages : List Message) → AreNewer messages → Ascend messages
newer_ascends messages h i j d lt below = step_no_older (statement_of (get_or messages i d)) (statement_of (get_or messages j d)) (h i j d lt below)

ordered_by : (P Q : Statement → Type 0) → ((s t : Statement) → P s → Q t → IsNoOlder (Some s) (Some t)) → (xs ys : List Message) → All (λ m. ForSome (statement_of m) P) xs → All (λ m. ForSome (statement_of m) Q) ys → All (λ m. All (Ordered m) ys) xs
ordered_by P Q f xs ys p q = all_with (λ m. ForSome (statement_of m) P) (λ m. ForSome (statement_of m) Q) Ordered xs ys (λ m n x y. no_older_by P Q (statement_of m) (statement_of n) f x y) p q

module _ {D : Type 0} (who : Who) where
  -- what a ledger says, with itself
  current_ascends : (v : LedgerView D) → IsWell who v → (messages : List Message) → All (λ m. ForSome (statement_of m) (IsCurrent who v)) messages → Ascend messages
  current_ascends v well messages all i j d lt below =
      no_older_by (IsCurrent who v) (IsCurrent who v) (statement_of (get_or messages i d)) (statement_of (get_or messages j d)) (λ s t x y like. no_older who v well s t (current_said who v well s x) y like) (all i d (omega (arith, lt, below))) (all j d below)

  -- what was said, and what a ledger says then
  said_before : (v : LedgerView D) → IsWell who v → (xs ys : List Message) → All (λ m. ForSome (statement_of m) (IsSaid who v)) xs → All (λ m. ForSome (statement_of m) (IsCurrent who v)) ys → All (λ m. All (Ordered m) ys) xs
  said_before v well xs ys p q = ordered_by (IsSaid who v) (IsCurrent who v) (λ s t x y like. no_older who v well s t x y like) xs ys p q

  -- what was sent is what the ledger knows of
  sent_said : (picked : Statement → Type 0) (before : List Message) (v : LedgerView D) (box : Option OutboxView) (sent : List Message) → Holds who picked before v box sent → All (λ m. ForSome (statement_of m) (IsSaid who v)) (before ++ sent)
  sent_said picked before v box sent h k d below = All-contains (λ m. ForSome (statement_of m) (IsSaid who v)) h.handed (get_or (before ++ sent) k d) h.said (h.were_handed k d below)

  -- what is sent once more, and what is sent after it
  then_sent : (moment v : LedgerView D) (box : Option OutboxView) (before behind again : List Message) → Holds who (IsCurrent who moment) before v box behind → All (λ m. ForSome (statement_of m) (IsCurrent who moment)) again → All (λ m. All (Ordered m) behind) again
  then_sent moment v box before behind again h all k d below = by_statement (statement_of (get_or again k d)) (all k d below)
    where
      by_statement : (o : Option Statement) → ForSome o (IsCurrent who moment) → All (λ n. IsNoOlder o (statement_of n)) behind
      by_statement (Some s) c = h.since s (c s refl)
      by_statement None c = λ i e within. nothing_older (statement_of (get_or behind i e))

  all_ascend : (moment v : LedgerView D) (box_then box_now : Option OutboxView) (none : Statement → Type 0) (before behind first second : List Message)
      → Holds who none [] moment box_then before → Holds who (IsCurrent who moment) before v box_now behind
      → All (λ m. ForSome (statement_of m) (IsCurrent who moment)) first → All (λ m. ForSome (statement_of m) (IsCurrent who v)) second
      → Ascend (before ++ first ++ behind ++ second)
  all_ascend moment v box_then box_now none before behind first second h k a b =
      let sent = pairs_split Ordered before behind (newer_ascends (before ++ behind) k.newer) in
      let said = all_split (λ m. ForSome (statement_of m) (IsSaid who v)) before behind (sent_said (IsCurrent who moment) before v box_now behind k) in
      let known : All (λ m. ForSome (statement_of m) (IsSaid who v)) first = λ i d below s is. k.known s (a i d below s is) in
      let later : List Message → Type 0 = λ xs. All (λ m. All (Ordered m) second) xs in
      let one : Ascend (before ++ first) = pairs_append Ordered before first sent.0 (current_ascends moment h.well first a) (said_before moment h.well before first (sent_said none [] moment box_then before h) a) in
      let two : Ascend ((before ++ first) ++ behind) = pairs_append Ordered (before ++ first) behind one sent.1 (All-append (λ m. All (Ordered m) behind) before first sent.2 (then_sent moment v box_now before behind first k a)) in
      let from_before : later before = said_before v k.well before second said.0 b in
      let from_first : later first = said_before v k.well first second known b in
      let from_behind : later behind = said_before v k.well behind second said.1 b in
      pairs_append Ordered ((before ++ first) ++ behind) second two (current_ascends v k.well second b)
      (All-append (λ m. All (Ordered m) second) (before ++ first) behind (All-append (λ m. All (Ordered m) second) before first from_before from_first) from_behind)

module _ {D : Type 0} (says : Says D) where
  pub late_never_back : EmptyOwes → PutsKeepOwes → GivesKeepOwes → LateNodesNeverGoBack says
  late_never_back empty puts gives = λ first base driver c past rest moment v steps more runs_then runs link. whole driver c first base past rest moment v steps more runs_then runs link
    where
      whole : (driver : D) (c : Config) (first : ℕ) (base : List ℕ) (past rest : List Exchange) (moment v : NodeView D) → AreSteps says c nothing_heard (begun driver c first base) past moment → AreSteps says c (past_of c past) moment rest v → moment.failed ≡ false → v.failed ≡ false → (link : ℕ) → NeverGoesBack link past rest moment v
      whole driver c first base past rest moment v steps more runs_then runs link =
          let who = who_of c in
          let one = along says puts gives c (λ s. ⊥) [] link past nothing_heard (begun driver c first base) moment [] steps runs_then (begins empty driver c first base link) in
          let from : Holds who (IsCurrent who moment.ledger) one.0 moment.ledger (slice_get moment.outboxes link) [] = holds_from who (λ s. ⊥) moment.ledger (slice_get moment.outboxes link) one.0 one.2 in
          let two = along says puts gives c (IsCurrent who moment.ledger) one.0 link rest (past_of c past) moment v [] more runs from in
          record {
            before = one.0;
            sent_before = one.1;
            behind = two.0;
            sent_behind = two.1;
            ascend = all_ascend who moment.ledger v.ledger (slice_get moment.outboxes link) (slice_get v.outboxes link) (λ s. ⊥) one.0 two.0 (again_of moment.ledger link) (again_of v.ledger link) one.2 two.2
                (again_current who moment.ledger one.2.well link) (again_current who v.ledger two.2.well link);
          }

  pub never_back : EmptyOwes → PutsKeepOwes → GivesKeepOwes → NodesNeverGoBack says
  never_back empty puts gives = late_never_back empty puts gives 1 []
