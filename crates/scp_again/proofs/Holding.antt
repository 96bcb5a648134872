-- One link of a node: what was sent over it, what waits for it, and how both stand to what the ledger says.
use Rattle.std.proofs.Common.{◌≡◌, List, [], ◌∷◌, ◌++◌, refl, sym, subst, All, get_or, inl, inr, append-nil, append_assoc}
use Rattle.std.specs.Prelude.{Option, Some, None, Contains}
use Rattle.std.specs.Option.{ForSome}
use Rattle.std.proofs.lemmas.List.Elements.{All-nil, All-append, All-push, All-contains, Contains-append_left}
use Rattle.scp_core.specs.scp_envelope.specs.declared.statement.Statement.{Statement}
use Rattle.scp_core.specs.scp_wire.specs.Boxed.{Boxed}
use Rattle.scp_core.specs.scp_wire.specs.declared.message.Message.{Message}
use Rattle.scp_core.specs.scp_wire.specs.declared.message.Message.TheVariants.{Envelope}
use Rattle.scp_core.specs.scp_outbox.specs.Outbox.{OutboxView, Gives}
use Rattle.scp_core.specs.scp_outbox.specs.declared.mark.Out.TheVariants as out
use Rattle.scp_core.specs.scp_outbox.specs.Handing.{PutsAll}
use Rattle.scp_core.specs.scp_outbox.specs.Sent.{statement_of, IsStep, AreNewer}
use Rattle.scp_core.specs.scp_outbox.specs.Waiting.{Owes}
use Rattle.scp_core.specs.scp_outbox.specs.Sending.{PutsKeepOwes, GivesKeepOwes}
use Rattle.scp_core.specs.scp_ledger.specs.Seen.{LedgerView}
use Rattle.scp_core.specs.scp_theorem.specs.Grounds.{Who}
use Rattle.scp_core.specs.scp_theorem.proofs.Basics.{some_same}
use Rattle.scp_again.specs.Ascending.{IsNoOlder}
use Rattle.scp_again.proofs.Current.{IsWell, IsSaid, IsCurrent, IsLast, current_said, last_is_current}
use Rattle.scp_again.proofs.Put.{ArePut, IsFresh}
use Rattle.scp_again.proofs.Boxes.{WaitsThen, AllHold, all_put, all_given}

-- ---- statements that may be there

step_by : (P Q : Statement → Type 0) (o p : Option Statement) → ((s t : Statement) → P s → Q t → IsStep (Some s) (Some t)) → ForSome o P → ForSome p Q → IsStep o p
step_by P Q (Some s) (Some t) f x y = f s t (x s refl) (y t refl)
step_by P Q (Some s) None f x y = tt
step_by P Q None (Some t) f x y = tt
step_by P Q None None f x y = tt

pub no_older_by : (P Q : Statement → Type 0) (o p : Option Statement) → ((s t : Statement) → P s → Q t → IsNoOlder (Some s) (Some t)) → ForSome o P → ForSome p Q → IsNoOlder o p
no_older_by P Q (Some s) (Some t) f x y = f s t (x s refl) (y t refl)
no_older_by P Q (Some s) None f x y = tt
no_older_by P Q None (Some t) f x y = tt
no_older_by P Q None None f x y = tt

-- of one statement, and one that may be there
no_older_for : (s : Statement) (p : Option Statement) → ForSome p (λ t. IsNoOlder (Some s) (Some t)) → IsNoOlder (Some s) p
no_older_for s (Some t) f = f t refl
no_older_for s None f = tt

-- ---- one link

-- each of these is put into the link's outbox, in order
abbrev pub IsPutInto : Option OutboxView → List Message → Option OutboxView → Type 0
IsPutInto old messages new = (o : OutboxView) → new ≡ Some o → (was : OutboxView) × (old ≡ Some was) × PutsAll was messages o

module _ {D : Type 0} where
  -- Behind what was sent before, this was sent. Of statements that are picked: each is one that the ledger knows of, and nothing older was sent since or waits.
  pub record Holds (who : Who) (picked : Statement → Type 0) (before : List Message) (v : LedgerView D) (box : Option OutboxView) (sent : List Message) : Type 0 where
    pub well : IsWell who v
    -- what was handed out for the link
    pub handed : List Message
    pub said : All (λ m. ForSome (statement_of m) (IsSaid who v)) handed
    pub were_handed : All (Contains handed) (before ++ sent)
    pub newer : AreNewer (before ++ sent)
    pub owes : ForSome box (Owes handed (before ++ sent))
    -- what waits is the last of its slot and kind that was handed out
    pub last : ForSome box (λ o. All (λ (held : Boxed). IsLast v held.value.statement) o.statements)
    pub known : (s : Statement) → picked s → IsSaid who v s
    pub since : (s : Statement) → picked s → All (λ m. IsNoOlder (Some s) (statement_of m)) sent
    pub waits : (s : Statement) → picked s → ForSome box (λ o. All (λ (held : Boxed). IsNoOlder (Some s) (Some held.value.statement)) o.statements)

  module _ (who : Who) (picked : Statement → Type 0) (before : List Message) where
    -- more is put
    pub holds_put : PutsKeepOwes → (old new : LedgerView D) (box next : Option OutboxView) (sent more : List Message) → IsWell who new → ((s : Statement) → IsSaid who old s → IsSaid who new s) → ArePut who old new more → IsPutInto box more next → Holds who picked before old box sent → Holds who picked before new next sent
    holds_put puts old new box next sent more well said put into h = record {
      well = well;
      handed = h.handed ++ more;
      said = All-append (λ m. ForSome (statement_of m) (IsSaid who new)) h.handed more (λ k d below s is. said s (h.said k d below s is)) (λ k d below s is. (put.fresh k d below s is).said);
      were_handed = λ k d below. Contains-append_left h.handed more (get_or (before ++ sent) k d) (h.were_handed k d below);
      newer = h.newer;
      owes = λ o is. (all_of o is).0;
      last = λ o is k d below. last_then o is (get_or o.statements k d) ((all_of o is).1 k d below);
      known = λ s p. said s (h.known s p);
      since = h.since;
      waits = λ s p o is k d below. wait_then s p o is (get_or o.statements k d) ((all_of o is).1 k d below);
    }
      where
        ahead : All (λ m. All (λ n. IsStep (statement_of n) (statement_of m)) h.handed) more
        ahead k d below i e within = step_by (IsSaid who old) (IsFresh who old new) (statement_of (get_or h.handed i e)) (statement_of (get_or more k d)) (λ s t x y like. y.ahead s x like) (h.said i e within) (put.fresh k d below)

        all_of : (o : OutboxView) → (is : next ≡ Some o) → Owes (h.handed ++ more) (before ++ sent) o × All (WaitsThen (into o is).0.statements more) o.statements
        all_of o is = all_put puts h.handed (before ++ sent) more (into o is).0 o ahead put.apart (into o is).2 (h.owes (into o is).0 (into o is).1)

        -- a statement that was put
        put_fresh : (held : Boxed) → Contains more (Envelope held) → IsFresh who old new held.value.statement
        put_fresh held there = All-contains (λ m. ForSome (statement_of m) (IsFresh who old new)) more (Envelope held) put.fresh there held.value.statement refl

        last_then : (o : OutboxView) → (is : next ≡ Some o) → (held : Boxed) → WaitsThen (into o is).0.statements more held → IsLast new held.value.statement
        last_then o is held w = elim w [
          | inl there ↦ (put_fresh held there).last
          | inr x ↦ put.stays held.value.statement (All-contains (λ (b : Boxed). IsLast old b.value.statement) (into o is).0.statements held (h.last (into o is).0 (into o is).1) x.0) x.1
        ]

        wait_then : (s : Statement) → picked s → (o : OutboxView) → (is : next ≡ Some o) → (held : Boxed) → WaitsThen (into o is).0.statements more held → IsNoOlder (Some s) (Some held.value.statement)
        wait_then s p o is held w = elim w [
          | inl there ↦ λ like. inr ((put_fresh held there).ahead s (h.known s p) like)
          | inr x ↦ All-contains (λ (b : Boxed). IsNoOlder (Some s) (Some b.value.statement)) (into o is).0.statements held (h.waits s p (into o is).0 (into o is).1) x.0
        ]

    -- what is next is sent
    pub holds_given : GivesKeepOwes → (v : LedgerView D) (old new : OutboxView) (sent : List Message) (m : Message) → Gives old (out.Message m) new → Holds who picked before v (Some old) sent → Holds who picked before v (Some new) (sent ++ m ∷ [])
    holds_given gives v old new sent m given h = record {
      well = h.well;
      handed = h.handed;
      said = h.said;
      were_handed = subst (All (Contains h.handed)) more owed.were_handed;
      newer = subst AreNewer more owed.newer;
      owes = λ o is. subst (λ (b : OutboxView). Owes h.handed (before ++ (sent ++ m ∷ [])) b) (same o is) (subst (λ (ms : List Message). Owes h.handed ms new) more owed);
      last = λ o is. subst (λ (b : OutboxView). AllHold (IsLast v) b) (same o is) (all_given (IsLast v) old m new given quiet (h.last old refl)).1;
      known = h.known;
      since = λ s p. All-push (λ n. IsNoOlder (Some s) (statement_of n)) sent m (h.since s p) (no_older_for s (statement_of m) (all_given (λ t. IsNoOlder (Some s) (Some t)) old m new given quiet (h.waits s p old refl)).0);
      waits = λ s p o is. subst (λ (b : OutboxView). AllHold (λ t. IsNoOlder (Some s) (Some t)) b) (same o is) (all_given (λ t. IsNoOlder (Some s) (Some t)) old m new given quiet (h.waits s p old refl)).1;
    }
      where
        more : (before ++ sent) ++ m ∷ [] ≡ before ++ (sent ++ m ∷ [])
        more = append_assoc before sent (m ∷ [])

        owed : Owes h.handed ((before ++ sent) ++ m ∷ []) new
        owed = gives h.handed (before ++ sent) old (out.Message m) new given (h.owes old refl)

        quiet : All (λ n. statement_of n ≡ None) old.ring
        quiet k d below = ((h.owes old refl).ring k d below).0

        same : (o : OutboxView) → Some new ≡ Some o → new ≡ o
        same o is = some_same (Some new) new o refl is

    -- the same link
    pub holds_same : (v w : LedgerView D) (box next : Option OutboxView) (sent : List Message) → w ≡ v → next ≡ box → Holds who picked before v box sent → Holds who picked before w next sent
    holds_same v w box next sent is same h = subst (λ (x : LedgerView D). Holds who picked before x next sent) (sym is) (subst (λ (o : Option OutboxView). Holds who picked before v o sent) (sym same) h)

  -- ---- what the ledger says at a moment, from there on

  pub holds_from : (who : Who) (none : Statement → Type 0) (v : LedgerView D) (box : Option OutboxView) (sent : List Message) → Holds who none [] v box sent → Holds who (IsCurrent who v) sent v box []
  holds_from who none v box sent h = record {
    well = h.well;
    handed = h.handed;
    said = h.said;
    were_handed = subst (All (Contains h.handed)) (sym (append-nil sent)) h.were_handed;
    newer = subst AreNewer (sym (append-nil sent)) h.newer;
    owes = subst (λ (ms : List Message). ForSome box (Owes h.handed ms)) (sym (append-nil sent)) h.owes;
    last = h.last;
    known = λ s c. current_said who v h.well s c;
    since = λ s c. All-nil (λ m. IsNoOlder (Some s) (statement_of m));
    waits = λ s c o is k d below like. inl (last_is_current who v h.well s (get_or o.statements k d).value.statement c (node_of o is k d below) (h.last o is k d below) like);
  }
    where
      node_of : (o : OutboxView) → box ≡ Some o → All (λ (held : Boxed). held.value.statement.node ≡ who.me) o.statements
      node_of o is k d below = (All-contains (λ m. ForSome (statement_of m) (IsSaid who v)) h.handed (Envelope (get_or o.statements k d)) h.said ((h.owes o is).statements k d below) (get_or o.statements k d).value.statement refl).node
