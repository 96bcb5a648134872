-- The headline of a node: of one that runs, and of one that failed.
use Rattle.std.specs.Prelude.{ℕ, ◌≡◌, true, false, List, [], ◌∷◌, ◌++◌, ◌⊎◌, Option, Some, None, drop, if◌then◌else◌}
use Rattle.std.specs.List.{AllByRecursion}
use Rattle.scp_theorem.specs.scp_driver.specs.Driver.{Says}
use Rattle.scp_theorem.specs.scp_apply.specs.Applied.{made_of}
use Rattle.scp_theorem.specs.Books.{books_of}
use Rattle.scp_theorem.specs.Headline.{Books, HeadlineWithState}
use Rattle.scp_core.specs.declared.event.Event.{Event}
use Rattle.scp_core.specs.declared.event.Reply.{Reply}
use Rattle.scp_core.specs.declared.event.Reply.TheVariants.{Failed}
use Rattle.scp_core.specs.History.{Exchange}
use Rattle.scp_core.specs.Ledger.{account_of, HoldsLedgerFrom}
use Rattle.scp_core.specs.Node.{NodeView, Step}
use Rattle.scp_core.specs.Theorem.{begun}

module _ {D : Type 0} where
  -- the node's books, from the exchanges: what its events sent over its links, what it holds, and what it shows
  abbrev pub books_at : List Exchange → NodeView D → Books
  books_at past v = books_of (account_of past v [])

  -- The state that a node shows: what the application makes of the applied values, one after another, from the state on with which the node
  -- began. A failed node shows none.
  abbrev pub state_shown : {S : Type 0} → S → (S → List ℕ → S) → NodeView D → Option S
  state_shown start after' v = if v.failed then None else Some (made_of start after' v.applier.applied)

  -- The node failed at the first of these exchanges, and answered Failed to all others. It still shows the journal, the decisions and the
  -- applied list of the moment before.
  pub record ShowsStill (later : List Exchange) (moment v : NodeView D) : Type 0 where
    pub failed : v.failed ≡ true
    pub silent : AllByRecursion (λ x. x.1 ≡ Failed) (drop 1 later)
    pub journal : v.ledger.journal ≡ moment.ledger.journal
    pub decisions : v.ledger.decisions ≡ moment.ledger.decisions
    pub applied : v.applier.applied ≡ moment.applier.applied

module _ {D : Type 0} (IsStep : NodeView D → Event → Reply → NodeView D → Type 0) where
  -- the exchanges are steps from the one node to the other, each from what the one before it left
  abbrev pub StepsTo : NodeView D → List Exchange → NodeView D → Type 0
  StepsTo old [] new = new ≡ old
  StepsTo old (x ∷ xs) new = (next : NodeView D) × IsStep old x.0 x.1 next × StepsTo next xs new

module _ {D S : Type 0} (IsStep : NodeView D → Event → Reply → NodeView D → Type 0) (said : List ℕ → S) (after' : S → List ℕ → S) where
  -- The headline holds of a node's books at a moment. The node began with this first slot, and with the state that these bytes say. The earlier
  -- exchanges led to that moment, step by step, from the node as it began; the later ones led from there to the node. The moment is now; or, if
  -- the node failed, it is before the step that failed it.
  pub record HoldsHeadlineFrom (slot : ℕ) (bytes : List ℕ) (past : List Exchange) (v : NodeView D) : Type 0 where
    pub earlier : List Exchange
    pub later : List Exchange
    pub past_is : past ≡ earlier ++ later
    pub driver : D
    pub moment : NodeView D
    pub before : StepsTo IsStep (begun driver v.config slot bytes) earlier moment
    pub since : StepsTo IsStep moment later v
    pub runs : moment.failed ≡ false
    pub is : (later ≡ []) ⊎ ShowsStill later moment v
    -- it has the node's configuration, that first slot, and those bytes
    pub config : moment.config ≡ v.config
    pub first : (books_at earlier moment).first ≡ slot
    pub base : moment.applier.base ≡ bytes
    -- the state is the one that the node shows now
    pub headline : HeadlineWithState (said bytes) after' (books_at earlier moment) (state_shown (said v.applier.base) after' v)

module _ {D S : Type 0} (IsStep : NodeView D → Event → Reply → NodeView D → Type 0) (start : S) (after' : S → List ℕ → S) where
  -- the headline of a node that began with slot 1, and with the application's first state, `start`
  abbrev pub HoldsHeadline : List Exchange → NodeView D → Type 0
  HoldsHeadline past v = HoldsHeadlineFrom IsStep (λ bytes. start) after' 1 [] past v

module _ {D S : Type 0} (says : Says D) (said : List ℕ → S) (after' : S → List ℕ → S) where
  -- a node that holds its ledger holds its headline
  abbrev pub LedgerGivesHeadlineFrom : ℕ → List ℕ → Type 0
  LedgerGivesHeadlineFrom first base = (past : List Exchange) (v : NodeView D) → HoldsLedgerFrom says first base past v → HoldsHeadlineFrom (Step says) said after' first base past v

module _ {D S : Type 0} (says : Says D) (start : S) (after' : S → List ℕ → S) where
  -- the same from slot 1, and from the application's first state
  abbrev pub LedgerGivesHeadline : Type 0
  LedgerGivesHeadline = LedgerGivesHeadlineFrom says (λ bytes. start) after' 1 []
