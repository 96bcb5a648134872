-- The outboxes of a node: what was handed out for each link, and what was sent of it.
use Rattle.std.proofs.Common.{◌≡◌, ◌≢◌, ℕ, ◌<◌, true, false, List, [], ◌∷◌, ◌++◌, refl, sym, ◌∙◌, subst, arith, append-nil, append_assoc, length-append, All, get_or, inl, inr, ◌⊎◌, nat_eq, Bool}
use Rattle.std.specs.Prelude.{Option, Some, None, slice_get, slice_set, replicate}
use Rattle.std.proofs.lemmas.List.{get_or_append_left}
use Rattle.std.proofs.lemmas.List.Elements.{All-contains, All-nil}
use Rattle.std.proofs.lemmas.Bool.{eqb-true, eqb-false}
use Rattle.scp_theorem.specs.scp_wire.specs.declared.message.Message.{Message}
use Rattle.scp_theorem.specs.scp_wire.specs.Message.{message_value, SpellsMessage}
use Rattle.scp_theorem.specs.scp_outbox.specs.Outbox.{OutboxView}
use Rattle.scp_theorem.specs.scp_outbox.specs.Handing.{PutsAll, GivesThere, empty_outbox}
use Rattle.scp_theorem.specs.scp_outbox.specs.Sent.{statement_of, IsStep, AreNewer, AreSent}
use Rattle.scp_theorem.specs.scp_outbox.specs.Waiting.{Sends}
use Rattle.scp_theorem.specs.scp_outbox.specs.Sending.{EmptySends, PutsKeepSends, GivesKeepSends}
use Rattle.scp_theorem.specs.scp_pending.specs.Queues.{hash_of}
use Rattle.scp_theorem.specs.scp_ledger.specs.declared.took.Outgoing.{Outgoing}
use Rattle.scp_theorem.specs.scp_ledger.specs.Seen.{LedgerView}
use Rattle.scp_theorem.specs.Grounds.{Grounds, MaySend, IsSentOut}
use Rattle.scp_theorem.specs.Handed.{messages_for, handed_by}
use Rattle.scp_theorem.proofs.Basics.{set_else, set_there, there_is, none_some, some_same}
use Rattle.scp_theorem.proofs.Fit.{NewerOut, handed_append, handed_push, AreFit}
use Rattle.scp_theorem.proofs.Machines.{AreMine}
use Rattle.scp_theorem.proofs.Telling.{none_newer}
use Rattle.scp_core.specs.Node.{HandsOne, HandsEach}
use Rattle.scp_core.proofs.Queues.{get_set, in_replicate, within}

-- of each link: what was sent and waits was handed out
pub record Boxes (sent : ℕ → List (List ℕ)) (boxes : List OutboxView) (handed : List Outgoing) : Type 0 where
  pub sends : (link : ℕ) (o : OutboxView) → slice_get boxes link ≡ Some o → Sends (handed_by handed link) (sent link) o
  pub none : (link : ℕ) → slice_get boxes link ≡ None → sent link ≡ []

module _ {D : Type 0} where
  -- of a node that runs: its outboxes, its machines, and what was handed out
  pub record Stands (sent : ℕ → List (List ℕ)) (g : Grounds) (v : LedgerView D) (outboxes : List OutboxView) : Type 0 where
    pub handed : List Outgoing
    pub boxes : Boxes sent outboxes handed
    pub fit : AreFit g v handed
    pub machines : AreMine g.who.me (hash_of g.who.set) v

-- ---- at first, and with nothing more sent

-- each of this many is the same
pub first_boxes : EmptySends → (n : ℕ) → Boxes (λ link. []) (replicate n empty_outbox) []
first_boxes empty n = record {
  sends = λ link o there. subst (λ (b : OutboxView). Sends [] [] b) (sym (in_replicate n empty_outbox link o there)) empty;
  none = λ link there. refl;
}

boxes_sent : (sent same : ℕ → List (List ℕ)) (boxes : List OutboxView) (handed : List Outgoing) → ((link : ℕ) → same link ≡ sent link) → Boxes sent boxes handed → Boxes same boxes handed
boxes_sent sent same boxes handed e b = record {
  sends = λ link o there. subst (λ (s : List (List ℕ)). Sends (handed_by handed link) s o) (sym (e link)) (b.sends link o there);
  none = λ link there. e link ∙ b.none link there;
}

module _ {D : Type 0} where
  pub stands_sent : (sent same : ℕ → List (List ℕ)) (g : Grounds) (v : LedgerView D) (outboxes : List OutboxView) → ((link : ℕ) → same link ≡ sent link) → Stands sent g v outboxes → Stands same g v outboxes
  stands_sent sent same g v outboxes e st = record { handed = st.handed; boxes = boxes_sent sent same outboxes st.handed e st.boxes; fit = st.fit; machines = st.machines }

-- ---- what was sent

sent_of : (g : Grounds) (link : ℕ) (handed : List Message) (sent : List (List ℕ)) → All (MaySend g link) handed → AreSent handed sent → IsSentOut g link sent
sent_of g link handed sent allowed s = record {
  messages = s.messages;
  spelt = s.spelt;
  allowed = λ i d below. All-contains (MaySend g link) handed (get_or s.messages i d) allowed (s.were_handed i d below);
  newer = s.newer;
}

module _ {D : Type 0} where
  pub sent_out : (sent : ℕ → List (List ℕ)) (g : Grounds) (v : LedgerView D) (outboxes : List OutboxView) → Stands sent g v outboxes → (link : ℕ) → IsSentOut g link (sent link)
  sent_out sent g v outboxes st link = by_there (slice_get outboxes link) refl
    where
      nothing_sent : IsSentOut g link []
      nothing_sent = record { messages = []; spelt = tt; allowed = All-nil (MaySend g link); newer = none_newer }

      by_there : (o : Option OutboxView) → slice_get outboxes link ≡ o → IsSentOut g link (sent link)
      by_there None e = subst (λ (s : List (List ℕ)). IsSentOut g link s) (sym (st.boxes.none link e)) nothing_sent
      by_there (Some o) e = sent_of g link (handed_by st.handed link) (sent link) (st.fit.allowed link) (st.boxes.sends link o e).sent

-- ---- one thing is handed out

-- a beginning is newer and newer too
newer_front : (xs ys : List Message) → AreNewer (xs ++ ys) → AreNewer xs
newer_front xs ys newer i j d lt below =
    let long = length-append xs ys in
    let whole : IsStep (statement_of (get_or (xs ++ ys) i d)) (statement_of (get_or (xs ++ ys) j d)) = newer i j d lt (omega (arith, below, long)) in
    subst (λ (m : Message). IsStep (statement_of m) (statement_of (get_or xs j d))) (get_or_append_left xs ys d i (omega (arith, lt, below)))
    (subst (λ (m : Message). IsStep (statement_of (get_or (xs ++ ys) i d)) (statement_of m)) (get_or_append_left xs ys d j below) whole)

puts_one : PutsKeepSends → (sent : ℕ → List (List ℕ)) (old : List OutboxView) (handed : List Outgoing) (one : Outgoing) (new : List OutboxView) → Boxes sent old handed → HandsOne old one new → NewerOut (handed ++ one ∷ []) → Boxes sent new (handed ++ one ∷ [])
puts_one puts sent old handed one new b out newer = record {
  sends = λ link o there. subst (λ (ms : List Message). Sends ms (sent link) o) (sym (handed_push handed one link)) (sends_there link o there (there_is old link (subst (λ (n : ℕ). link < n) out.count (within new link o there))));
  none = λ link there. none_there link there (slice_get old link) refl;
}
  where
    sends_there : (link : ℕ) (o : OutboxView) → slice_get new link ≡ Some o → (before : OutboxView) × (slice_get old link ≡ Some before) → Sends (handed_by handed link ++ messages_for link one) (sent link) o
    sends_there link o there before =
        let p = out.puts link before.0 before.1 in
        let same : p.0 ≡ o = some_same (slice_get new link) p.0 o p.1 there in
        let put : PutsAll before.0 (messages_for link one) o = subst (λ (q : OutboxView). PutsAll before.0 (messages_for link one) q) same (subst (λ (ms : List Message). PutsAll before.0 ms p.0) (append-nil (messages_for link one)) p.2) in
        puts (handed_by handed link) (messages_for link one) (sent link) before.0 o (subst AreNewer (handed_push handed one link) (newer link)) put (b.sends link before.0 before.1)

    none_there : (link : ℕ) → slice_get new link ≡ None → (o : Option OutboxView) → slice_get old link ≡ o → sent link ≡ []
    none_there link there None e = b.none link e
    none_there link there (Some o) e = (let p = out.puts link o e in none_some (slice_get new link) p.0 there p.1)

-- so each of these, in order
pub puts_each : PutsKeepSends → (sent : ℕ → List (List ℕ)) (old : List OutboxView) (handed more : List Outgoing) (new : List OutboxView) → Boxes sent old handed → HandsEach old more new → NewerOut (handed ++ more) → Boxes sent new (handed ++ more)
puts_each puts sent old handed [] new b out newer = subst (λ (o : List OutboxView). Boxes sent o (handed ++ [])) (sym out) (subst (λ (h : List Outgoing). Boxes sent old h) (sym (append-nil handed)) b)
puts_each puts sent old handed (one ∷ more) new b out newer =
    let whole : (handed ++ one ∷ []) ++ more ≡ handed ++ one ∷ more = append_assoc handed (one ∷ []) more in
    let all : NewerOut ((handed ++ one ∷ []) ++ more) = subst NewerOut (sym whole) newer in
    let front : NewerOut (handed ++ one ∷ []) = λ link. newer_front (handed_by (handed ++ one ∷ []) link) (handed_by more link) (subst AreNewer (handed_append (handed ++ one ∷ []) more link) (all link)) in
    subst (λ (h : List Outgoing). Boxes sent new h) whole (puts_each puts sent out.0 (handed ++ one ∷ []) more new (puts_one puts sent old handed one out.0 b out.1 front) out.2 all)

-- ---- one link's outbox gives what is next

pub gives_one : GivesKeepSends → (sent same : ℕ → List (List ℕ)) (old : List OutboxView) (handed : List Outgoing) (link : ℕ) (message : Message) (bytes : List ℕ) (new : List OutboxView) → Boxes sent old handed → GivesThere old link (Some message) new → SpellsMessage bytes (message_value message)
    → (same link ≡ sent link ++ bytes ∷ []) → ((m : ℕ) → m ≢ link → same m ≡ sent m) → Boxes same new handed
gives_one gives_next sent same old handed link message bytes new b gives spells here others = subst (λ (o : List OutboxView). Boxes same o handed) (sym gives.is) (record {
  sends = λ m o there. by_link m o (get_set old link gives.after' m o there);
  none = λ m there. by_none m there (which_link m);
})
  where
    next : Sends (handed_by handed link) (same link) gives.after'
    next = subst (λ (s : List (List ℕ)). Sends (handed_by handed link) s gives.after') (sym here) (gives_next (handed_by handed link) (sent link) gives.before gives.after' message bytes gives.gives spells (b.sends link gives.before gives.there))

    by_link : (m : ℕ) (o : OutboxView) → ((m ≡ link) × (gives.after' ≡ o)) ⊎ ((m ≢ link) × (slice_get old m ≡ Some o)) → Sends (handed_by handed m) (same m) o
    by_link m o h = elim h [
      | inl w ↦ subst (λ (n : ℕ). Sends (handed_by handed n) (same n) o) (sym w.0) (subst (λ (q : OutboxView). Sends (handed_by handed link) (same link) q) w.1 next)
      | inr w ↦ subst (λ (s : List (List ℕ)). Sends (handed_by handed m) s o) (sym (others m w.0)) (b.sends m o w.1)
    ]

    which_link : (m : ℕ) → (m ≡ link) ⊎ (m ≢ link)
    which_link m = by_order m link
      where
        by_order : (a c : ℕ) → (a ≡ c) ⊎ (a ≢ c)
        by_order a c = by_test (nat_eq a c) refl
          where
            by_test : (t : Bool) → nat_eq a c ≡ t → (a ≡ c) ⊎ (a ≢ c)
            by_test true e = inl (eqb-true a c e)
            by_test false e = inr (eqb-false a c e)

    by_none : (m : ℕ) → slice_get (slice_set old link gives.after') m ≡ None → (m ≡ link) ⊎ (m ≢ link) → same m ≡ []
    by_none m there h = elim h [
      | inl w ↦ none_some (slice_get (slice_set old link gives.after') link) gives.after' (subst (λ (n : ℕ). slice_get (slice_set old link gives.after') n ≡ None) w there) (set_there old link gives.before gives.after' gives.there)
      | inr w ↦ others m w ∙ b.none m (sym (set_else old link m gives.after' w) ∙ there)
    ]
