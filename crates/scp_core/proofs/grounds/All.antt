-- Every list of exchanges.
use Rattle.std.proofs.Common.{◌≡◌, ℕ, List, [], ◌∷◌, ◌++◌, refl, sym, ◌∙◌, ap, subst, append_assoc, append-nil}
use Rattle.std.specs.Prelude.{None, fold, length}
use Rattle.std.specs.List.{AllByRecursion}
use Rattle.std.proofs.lemmas.Grind.{flat_map-append}
use Rattle.scp_theorem.specs.scp_driver.specs.Driver.{Says}
use Rattle.scp_theorem.specs.Grounds.{IsSentOut}
use Rattle.scp_theorem.proofs.Basics.{none_some}
use Rattle.scp_theorem.proofs.Fit.{first_fit}
use Rattle.scp_core.specs.declared.config.Config.{Config}
use Rattle.scp_core.specs.declared.event.Event.{Event}
use Rattle.scp_core.specs.declared.event.Reply.{Reply}
use Rattle.scp_core.specs.declared.event.Reply.TheVariants.{Failed, Sent, JournalFull, NoMemory}
use Rattle.scp_core.specs.Flow.{Flows}
use Rattle.scp_core.specs.History.{Exchange, Past, hears, past_of, nothing_heard}
use Rattle.scp_core.specs.Ledger.{IsFailure}
use Rattle.scp_core.specs.Node.{NodeView}
use Rattle.scp_core.specs.Theorem.{begun, AreSteps, LedgerTheoremFrom}
use Rattle.scp_core.specs.Sent.{sent_by, sent_to, grounds_of}
use Rattle.scp_core.proofs.StageLaws.{Laws}
use Rattle.scp_core.proofs.grounds.Handing.{stands_sent, first_boxes, sent_out}
use Rattle.scp_core.proofs.grounds.Stepping.{State, state_of, at_arrived, state_step, quiet}

-- ---- the node as it began

module _ {D : Type 0} (says : Says D) (first : ℕ) (base : List ℕ) where
  begun_stands : Laws says → (driver : D) (c : Config) → State nothing_heard (λ link. []) (begun driver c first base)
  begun_stands law driver c = state_of nothing_heard (λ link. []) (begun driver c first base) [] refl (record {
    handed = [];
    boxes = first_boxes law.empty (length c.peers);
    fit = first_fit (grounds_of (begun driver c first base) []) (begun driver c first base).ledger;
    machines = λ at machine e. none_some None machine refl e;
  })

-- ---- each exchange after it

module _ {D : Type 0} where
  -- the same bytes
  same_bytes : (p : Past) (sent same : ℕ → List (List ℕ)) (v : NodeView D) → ((link : ℕ) → same link ≡ sent link) → State p sent v → State p same v
  same_bytes p sent same v e s = record {
    taken = s.taken;
    waiting = s.waiting;
    came = s.came;
    out = λ link. subst (λ (bytes : List (List ℕ)). IsSentOut (grounds_of v s.taken) link bytes) (sym (e link)) (s.out link);
    now = λ runs. ((s.now runs).0, stands_sent sent same (grounds_of v s.taken) v.ledger v.outboxes e (s.now runs).1);
  }

module _ {D : Type 0} (says : Says D) where
  along : Laws says → (c : Config) (xs : List Exchange) (p : Past) (sent : ℕ → List (List ℕ)) (v last : NodeView D) → AreSteps says c p v xs last → State p sent v → State (fold (λ q x. hears c q x.0 x.1) p xs) (λ link. sent link ++ sent_to link xs) last
  along law c [] p sent v last a s = subst (λ (w : NodeView D). State p (λ link. sent link ++ []) w) (sym a) (same_bytes p sent (λ link. sent link ++ []) v (λ link. append-nil (sent link)) s)
  along law c (x ∷ xs) p sent v last a s =
      let next : State (hears c p x.0 x.1) (λ link. sent link ++ sent_by link x.0 x.1) a.0 = state_step says law c p sent v x.0 x.1 a.0 a.1 s in
      let all = along law c xs (hears c p x.0 x.1) (λ link. sent link ++ sent_by link x.0 x.1) a.0 last a.2 next in
      same_bytes (fold (λ q y. hears c q y.0 y.1) (hears c p x.0 x.1) xs) (λ link. (sent link ++ sent_by link x.0 x.1) ++ sent_to link xs) (λ link. sent link ++ sent_to link (x ∷ xs)) last (λ link. sym (append_assoc (sent link) (sent_by link x.0 x.1) (sent_to link xs))) all

module _ {D : Type 0} (says : Says D) (first : ℕ) (base : List ℕ) where
  -- ---- all that was sent

  -- by the exchanges and the node that they left, while it runs
  pub sent_at : Laws says → (past : List Exchange) (v : NodeView D) → LedgerTheoremFrom says first base past v → (f : Flows says (past_of v.config past) v) → (link : ℕ) → IsSentOut (grounds_of v f.arrived) link (sent_to link past)
  sent_at law past v h f =
      let s : State (past_of v.config past) (λ link. sent_to link past) v = along says law v.config past nothing_heard (λ link. []) (begun h.driver v.config first base) v h.replies (begun_stands says first base law h.driver v.config) in
      let st = at_arrived says (past_of v.config past) (λ link. sent_to link past) v f s in
      sent_out (λ link. sent_to link past) (grounds_of v f.arrived) v.ledger v.outboxes st

-- nothing was sent by a step that failed the node
none_sent : (link : ℕ) (event : Event) (reply : Reply) → IsFailure reply → sent_by link event reply ≡ []
none_sent link event NoMemory f = quiet link event NoMemory (λ bytes e. cc)
none_sent link event JournalFull f = quiet link event JournalFull (λ bytes e. cc)
none_sent link event reply f = absurd f

-- nor after it
silence : (link : ℕ) (later : List Exchange) → AllByRecursion (λ (x : Exchange). x.1 ≡ Failed) later → sent_to link later ≡ []
silence link [] a = refl
silence link (x ∷ later) a = ap (λ (bytes : List (List ℕ)). bytes ++ sent_to link later) (quiet link x.0 x.1 (λ bytes e. failed_isnt bytes (sym a.0 ∙ e))) ∙ silence link later a.1
  where
    failed_isnt : (bytes : List ℕ) → Failed ≡ Sent bytes → ⊥
    failed_isnt bytes e = cc

pub sent_before : (link : ℕ) (earlier later : List Exchange) (event : Event) (reply : Reply) → IsFailure reply → AllByRecursion (λ (x : Exchange). x.1 ≡ Failed) later → sent_to link (earlier ++ (event, reply) ∷ later) ≡ sent_to link earlier
sent_before link earlier later event reply fails silent =
    flat_map-append (λ (x : Exchange). sent_by link x.0 x.1) earlier ((event, reply) ∷ later)
    ∙ ap (λ (bytes : List (List ℕ)). sent_to link earlier ++ (bytes ++ sent_to link later)) (none_sent link event reply fails)
    ∙ ap (λ (bytes : List (List ℕ)). sent_to link earlier ++ bytes) (silence link later silent)
    ∙ append-nil (sent_to link earlier)
