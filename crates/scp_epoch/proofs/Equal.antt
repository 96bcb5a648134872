-- The tests of whether two statements are equal pass exactly what is equal.
use Rattle.std.proofs.Common.{◌≡◌, ◌+◌, ◌<◌, ◌≤◌, ℕ, Bool, true, false, ◌&&◌, List, [], ◌∷◌, refl, sym, ap, subst, inl, inr, arith, Decides, nat_eq}
use Rattle.std.specs.Prelude.{Option, Some, None}
use Rattle.std.specs.Cmp.Lexicographic.{pointwise, bytes_decides}
use Rattle.std.proofs.lemmas.Bool.{cases_lt}
use Rattle.std.proofs.lemmas.Bool.Decides.{Decides-and, Decides-like, Decides-eqb}
use Rattle.std.proofs.lemmas.Slice.Eq.{slice_eq-Decides}
use Rattle.scp_again.specs.scp_types.specs.declared.ballot.Ballot.{Ballot}
use Rattle.scp_again.specs.scp_types.specs.declared.names.Hash.{Hash}
use Rattle.scp_again.specs.scp_types.specs.declared.names.NodeId.{NodeId}
use Rattle.scp_again.specs.scp_types.specs.declared.names.Slot.{Slot}
use Rattle.scp_again.specs.scp_types.specs.Same.{same_hash, same_node}
use Rattle.scp_again.specs.scp_envelope.specs.declared.statement.Prepare.{Prepare}
use Rattle.scp_again.specs.scp_envelope.specs.declared.statement.Confirm.{Confirm}
use Rattle.scp_again.specs.scp_envelope.specs.declared.statement.Externalize.{Externalize}
use Rattle.scp_again.specs.scp_envelope.specs.declared.statement.Nominate.{Nominate}
use Rattle.scp_again.specs.scp_envelope.specs.declared.statement.Pledges.{Pledges}
use Rattle.scp_again.specs.scp_envelope.specs.declared.statement.Pledges.TheVariants.{Prepare as Preparing, Confirm as Confirming, Externalize as Externalizing, Nominate as Nominating}
use Rattle.scp_again.specs.scp_envelope.specs.declared.statement.Statement.{Statement}
use Rattle.scp_again.specs.scp_envelope.specs.declared.statement.Envelope.{Envelope}
use Rattle.scp_again.specs.scp_wire.specs.declared.message.Message.{Message}
use Rattle.scp_again.specs.scp_wire.specs.declared.message.Message.TheVariants.{Envelope as Enveloping}
use Rattle.scp_again.specs.scp_slot.specs.declared.machine.SlotMachine.{SlotMachine}
use Rattle.scp_again.specs.scp_ledger.specs.declared.journal.Decision.{Decision}
use Rattle.scp_again.specs.scp_ledger.specs.declared.journal.Origin.{Origin}
use Rattle.scp_again.specs.scp_ledger.specs.declared.journal.Origin.TheVariants.{Machine, Named}
use Rattle.scp_again.specs.scp_ledger.specs.Seen.{LedgerView, machine_at}
use Rattle.scp_again.specs.Again.{own_of}
use Rattle.scp_again.proofs.Current.{true_false}
use Rattle.scp_epoch.specs.Saying.{Saying, decided_by, externalized_by, nominated_by, balloted_by, decision_at, saying_at, SaySame}
use Rattle.scp_epoch.specs.inside.Alike.{same_ballot, same_ballots, same_values, same_prepare, same_confirm, same_externalize, same_nominate, same_pledges, same_statement, same_envelope, same_own, same_said, same_decision, same_decisions, same_machine, same_at}

yes : {P : Type 0} → P → Decides true P
yes {P} p = (λ e. p, λ q. refl)

no : {P : Type 0} → (P → ⊥) → Decides false P
no {P} n = (λ e. absurd cc, λ q. absurd (n q))

-- the envelope of a message
abbrev boxed_in : Envelope → Message → Envelope
boxed_in e (Enveloping b) = b.value
boxed_in e m = e

-- the envelope of the first message, or this one
abbrev pub first_in : Envelope → List Message → Envelope
first_in e [] = e
first_in e (m ∷ ms) = boxed_in e m

-- ---- names and values

hash_same : (a b : Hash) → Decides (same_hash a b) (a ≡ b)
hash_same a b = Decides-like {P = a.0 ≡ b.0} {Q = a ≡ b} (same_hash a b) (λ e. let h : a ≡ b = λ i. record { 0 = e i } in h) (λ e. ap (λ (x : Hash). x.0) e) (bytes_decides a.0 b.0)

node_same : (a b : NodeId) → Decides (same_node a b) (a ≡ b)
node_same a b = Decides-like {P = a.0 ≡ b.0} {Q = a ≡ b} (same_node a b) (λ e. let h : a ≡ b = λ i. record { 0 = e i } in h) (λ e. ap (λ (x : NodeId). x.0) e) (bytes_decides a.0 b.0)

slot_same : (a b : Slot) → Decides (nat_eq a.0 b.0) (a ≡ b)
slot_same a b = Decides-like {P = a.0 ≡ b.0} {Q = a ≡ b} (nat_eq a.0 b.0) (λ e. let h : a ≡ b = λ i. record { 0 = e i } in h) (λ e. ap (λ (x : Slot). x.0) e) (Decides-eqb a.0 b.0)

values_same : (a b : List (List ℕ)) → Decides (same_values a b) (a ≡ b)
values_same a b = slice_eq-Decides bytes_decides a b (same_values a b) refl

ballot_same : (a b : Ballot) → Decides (same_ballot a b) (a ≡ b)
ballot_same a b = Decides-like {P = (a.counter ≡ b.counter) × (a.value ≡ b.value)} {Q = a ≡ b} (same_ballot a b)
    (λ e. let h : a ≡ b = λ i. record { counter = e.0 i; value = e.1 i } in h)
    (λ e. (ap (λ (x : Ballot). x.counter) e, ap (λ (x : Ballot). x.value) e))
    (Decides-and (nat_eq a.counter b.counter) (pointwise nat_eq a.value b.value) (Decides-eqb a.counter b.counter) (bytes_decides a.value b.value))

ballots_same : (a b : Option Ballot) → Decides (same_ballots a b) (a ≡ b)
ballots_same None None = yes refl
ballots_same None (Some b) = no (λ e. cc)
ballots_same (Some a) None = no (λ e. cc)
ballots_same (Some a) (Some b) = Decides-like {P = a ≡ b} {Q = Some a ≡ Some b} (same_ballot a b) (λ e. ap (λ (x : Ballot). Some x) e) (λ e. cc) (ballot_same a b)

-- ---- pledges

prepare_same : (a b : Prepare) → Decides (same_prepare a b) (a ≡ b)
prepare_same a b = Decides-like {P = (((((a.set_hash ≡ b.set_hash) × (a.ballot ≡ b.ballot)) × (a.prepared ≡ b.prepared)) × (a.prepared_prime ≡ b.prepared_prime)) × (a.n_commit ≡ b.n_commit)) × (a.n_high ≡ b.n_high)} {Q = a ≡ b} (same_prepare a b)
    (λ e. let h : a ≡ b = λ i. record { set_hash = e.0.0.0.0.0 i; ballot = e.0.0.0.0.1 i; prepared = e.0.0.0.1 i; prepared_prime = e.0.0.1 i; n_commit = e.0.1 i; n_high = e.1 i } in h)
    (λ e. (((((ap (λ (x : Prepare). x.set_hash) e, ap (λ (x : Prepare). x.ballot) e), ap (λ (x : Prepare). x.prepared) e), ap (λ (x : Prepare). x.prepared_prime) e), ap (λ (x : Prepare). x.n_commit) e), ap (λ (x : Prepare). x.n_high) e))
    (Decides-and _ (nat_eq a.n_high b.n_high)
    (Decides-and _ (nat_eq a.n_commit b.n_commit)
    (Decides-and _ (same_ballots a.prepared_prime b.prepared_prime)
    (Decides-and _ (same_ballots a.prepared b.prepared)
    (Decides-and (same_hash a.set_hash b.set_hash) (same_ballot a.ballot b.ballot) (hash_same a.set_hash b.set_hash) (ballot_same a.ballot b.ballot))
    (ballots_same a.prepared b.prepared))
    (ballots_same a.prepared_prime b.prepared_prime))
    (Decides-eqb a.n_commit b.n_commit))
    (Decides-eqb a.n_high b.n_high))

confirm_same : (a b : Confirm) → Decides (same_confirm a b) (a ≡ b)
confirm_same a b = Decides-like {P = ((((a.ballot ≡ b.ballot) × (a.n_prepared ≡ b.n_prepared)) × (a.n_commit ≡ b.n_commit)) × (a.n_high ≡ b.n_high)) × (a.set_hash ≡ b.set_hash)} {Q = a ≡ b} (same_confirm a b)
    (λ e. let h : a ≡ b = λ i. record { ballot = e.0.0.0.0 i; n_prepared = e.0.0.0.1 i; n_commit = e.0.0.1 i; n_high = e.0.1 i; set_hash = e.1 i } in h)
    (λ e. ((((ap (λ (x : Confirm). x.ballot) e, ap (λ (x : Confirm). x.n_prepared) e), ap (λ (x : Confirm). x.n_commit) e), ap (λ (x : Confirm). x.n_high) e), ap (λ (x : Confirm). x.set_hash) e))
    (Decides-and _ (same_hash a.set_hash b.set_hash)
    (Decides-and _ (nat_eq a.n_high b.n_high)
    (Decides-and _ (nat_eq a.n_commit b.n_commit)
    (Decides-and (same_ballot a.ballot b.ballot) (nat_eq a.n_prepared b.n_prepared) (ballot_same a.ballot b.ballot) (Decides-eqb a.n_prepared b.n_prepared))
    (Decides-eqb a.n_commit b.n_commit))
    (Decides-eqb a.n_high b.n_high))
    (hash_same a.set_hash b.set_hash))

externalize_same : (a b : Externalize) → Decides (same_externalize a b) (a ≡ b)
externalize_same a b = Decides-like {P = ((a.commit ≡ b.commit) × (a.n_high ≡ b.n_high)) × (a.set_hash ≡ b.set_hash)} {Q = a ≡ b} (same_externalize a b)
    (λ e. let h : a ≡ b = λ i. record { commit = e.0.0 i; n_high = e.0.1 i; set_hash = e.1 i } in h)
    (λ e. ((ap (λ (x : Externalize). x.commit) e, ap (λ (x : Externalize). x.n_high) e), ap (λ (x : Externalize). x.set_hash) e))
    (Decides-and _ (same_hash a.set_hash b.set_hash)
    (Decides-and (same_ballot a.commit b.commit) (nat_eq a.n_high b.n_high) (ballot_same a.commit b.commit) (Decides-eqb a.n_high b.n_high))
    (hash_same a.set_hash b.set_hash))

nominate_same : (a b : Nominate) → Decides (same_nominate a b) (a ≡ b)
nominate_same a b = Decides-like {P = ((a.set_hash ≡ b.set_hash) × (a.votes ≡ b.votes)) × (a.accepted ≡ b.accepted)} {Q = a ≡ b} (same_nominate a b)
    (λ e. let h : a ≡ b = λ i. record { set_hash = e.0.0 i; votes = e.0.1 i; accepted = e.1 i } in h)
    (λ e. ((ap (λ (x : Nominate). x.set_hash) e, ap (λ (x : Nominate). x.votes) e), ap (λ (x : Nominate). x.accepted) e))
    (Decides-and _ (same_values a.accepted b.accepted)
    (Decides-and (same_hash a.set_hash b.set_hash) (same_values a.votes b.votes) (hash_same a.set_hash b.set_hash) (values_same a.votes b.votes))
    (values_same a.accepted b.accepted))

pledges_same : (p q : Pledges) → Decides (same_pledges p q) (p ≡ q)
pledges_same (Preparing a) (Preparing b) = Decides-like {P = a ≡ b} {Q = Preparing a ≡ Preparing b} (same_prepare a b) (λ e. ap (λ (x : Prepare). Preparing x) e) (λ e. cc) (prepare_same a b)
pledges_same (Preparing a) (Confirming b) = no (λ e. cc)
pledges_same (Preparing a) (Externalizing b) = no (λ e. cc)
pledges_same (Preparing a) (Nominating b) = no (λ e. cc)
pledges_same (Confirming a) (Preparing b) = no (λ e. cc)
pledges_same (Confirming a) (Confirming b) = Decides-like {P = a ≡ b} {Q = Confirming a ≡ Confirming b} (same_confirm a b) (λ e. ap (λ (x : Confirm). Confirming x) e) (λ e. cc) (confirm_same a b)
pledges_same (Confirming a) (Externalizing b) = no (λ e. cc)
pledges_same (Confirming a) (Nominating b) = no (λ e. cc)
pledges_same (Externalizing a) (Preparing b) = no (λ e. cc)
pledges_same (Externalizing a) (Confirming b) = no (λ e. cc)
pledges_same (Externalizing a) (Externalizing b) = Decides-like {P = a ≡ b} {Q = Externalizing a ≡ Externalizing b} (same_externalize a b) (λ e. ap (λ (x : Externalize). Externalizing x) e) (λ e. cc) (externalize_same a b)
pledges_same (Externalizing a) (Nominating b) = no (λ e. cc)
pledges_same (Nominating a) (Preparing b) = no (λ e. cc)
pledges_same (Nominating a) (Confirming b) = no (λ e. cc)
pledges_same (Nominating a) (Externalizing b) = no (λ e. cc)
pledges_same (Nominating a) (Nominating b) = Decides-like {P = a ≡ b} {Q = Nominating a ≡ Nominating b} (same_nominate a b) (λ e. ap (λ (x : Nominate). Nominating x) e) (λ e. cc) (nominate_same a b)

-- ---- statements

statement_same : (s t : Statement) → Decides (same_statement s t) (s ≡ t)
statement_same s t = Decides-like {P = ((s.node ≡ t.node) × (s.slot ≡ t.slot)) × (s.pledges ≡ t.pledges)} {Q = s ≡ t} (same_statement s t)
    (λ e. let h : s ≡ t = λ i. record { node = e.0.0 i; slot = e.0.1 i; pledges = e.1 i } in h)
    (λ e. ((ap (λ (x : Statement). x.node) e, ap (λ (x : Statement). x.slot) e), ap (λ (x : Statement). x.pledges) e))
    (Decides-and _ (same_pledges s.pledges t.pledges) (Decides-and (same_node s.node t.node) (nat_eq s.slot.0 t.slot.0) (node_same s.node t.node) (slot_same s.slot t.slot)) (pledges_same s.pledges t.pledges))

envelope_same : (e f : Envelope) → Decides (same_envelope e f) (e ≡ f)
envelope_same e f = Decides-like {P = (e.statement ≡ f.statement) × (e.signature ≡ f.signature)} {Q = e ≡ f} (same_envelope e f)
    (λ h. let k : e ≡ f = λ i. record { statement = h.0 i; signature = h.1 i } in k)
    (λ h. (ap (λ (x : Envelope). x.statement) h, ap (λ (x : Envelope). x.signature) h))
    (Decides-and (same_statement e.statement f.statement) (pointwise nat_eq e.signature f.signature) (statement_same e.statement f.statement) (bytes_decides e.signature f.signature))

pub own_same : (o p : Origin) → Decides (same_own o p) (own_of o ≡ own_of p)
own_same (Named c s) (Named d t) = yes refl
own_same (Machine n quorum own) (Machine m other theirs) = Decides-like {P = own ≡ theirs} {Q = own_of (Machine n quorum own) ≡ own_of (Machine m other theirs)} (same_envelope own theirs) (λ e. ap (λ (x : Envelope). own_of (Machine n quorum x)) e) (λ e. ap (first_in own) e) (envelope_same own theirs)
own_same (Named c s) (Machine m other theirs) = no (λ e. cc)
own_same (Machine n quorum own) (Named d t) = no (λ e. cc)

pub said_same : (o p : Option Pledges) → Decides (same_said o p) (o ≡ p)
said_same None None = yes refl
said_same (Some p) (Some q) = Decides-like {P = p ≡ q} {Q = Some p ≡ Some q} (same_pledges p q) (λ e. ap (λ (x : Pledges). Some x) e) (λ e. cc) (pledges_same p q)
said_same None (Some q) = no (λ e. cc)
said_same (Some p) None = no (λ e. cc)

-- ---- what is said of a slot

decision_same : (d e : Decision) → Decides (same_decision d e) ((d.value ≡ e.value) × (own_of d.origin ≡ own_of e.origin))
decision_same d e = Decides-and (pointwise nat_eq d.value e.value) (same_own d.origin e.origin) (bytes_decides d.value e.value) (own_same d.origin e.origin)

decisions_same : (o p : Option Decision) → Decides (same_decisions o p) ((decided_by o ≡ decided_by p) × (externalized_by o ≡ externalized_by p))
decisions_same None None = yes (refl, refl)
decisions_same (Some d) (Some e) = Decides-like {P = (d.value ≡ e.value) × (own_of d.origin ≡ own_of e.origin)} {Q = (Some d.value ≡ Some e.value) × (own_of d.origin ≡ own_of e.origin)} (same_decision d e)
    (λ h. (ap (λ (x : List ℕ). Some x) h.0, h.1)) (λ h. let value : d.value ≡ e.value = cc in (value, h.1)) (decision_same d e)
decisions_same None (Some e) = no (λ h. let none = h.0 in cc)
decisions_same (Some d) None = no (λ h. let none = h.0 in cc)

module _ {D : Type 0} where
  machine_same : (o p : Option (SlotMachine D)) → Decides (same_machine o p) ((nominated_by o ≡ nominated_by p) × (balloted_by o ≡ balloted_by p))
  machine_same o p = Decides-and (same_said (nominated_by o) (nominated_by p)) (same_said (balloted_by o) (balloted_by p)) (said_same (nominated_by o) (nominated_by p)) (said_same (balloted_by o) (balloted_by p))

  pub at_same : (old new : LedgerView D) (slot : ℕ) → Decides (same_at old new slot) (saying_at old slot ≡ saying_at new slot)
  at_same old new slot =
      let one = decision_at old.decisions slot in
      let other = decision_at new.decisions slot in
      let was = machine_at old.machines slot in
      let is = machine_at new.machines slot in
      Decides-like {P = ((decided_by one ≡ decided_by other) × (externalized_by one ≡ externalized_by other)) × ((nominated_by was ≡ nominated_by is) × (balloted_by was ≡ balloted_by is))} {Q = saying_at old slot ≡ saying_at new slot} (same_at old new slot)
      (λ e. let h : saying_at old slot ≡ saying_at new slot = λ i. record { decided = e.0.0 i; externalized = e.0.1 i; nominated = e.1.0 i; balloted = e.1.1 i } in h)
      (λ e. ((ap (λ (x : Saying). x.decided) e, ap (λ (x : Saying). x.externalized) e), (ap (λ (x : Saying). x.nominated) e, ap (λ (x : Saying). x.balloted) e)))
      (Decides-and (same_decisions one other) (same_machine was is) (decisions_same one other) (machine_same was is))

  -- ---- of many slots

  pub none_said : (first : ℕ) (old new : LedgerView D) → SaySame 0 first old new
  none_said first old new slot from near = absurd (omega arith)

  -- one slot more
  pub one_more : (count first : ℕ) (old new : LedgerView D) → SaySame count first old new → same_at old new (first + count) ≡ true → SaySame (count + 1) first old new
  one_more count first old new before same slot from near = elim (cases_lt slot (first + count)) [
    | inl less ↦ before slot from less
    | inr more ↦ (let at : first + count ≡ slot = omega arith in subst (λ (n : ℕ). saying_at old n ≡ saying_at new n) at ((at_same old new (first + count)).0 same))
  ]

  -- one that differs is among them
  pub one_differs : (count all first : ℕ) (old new : LedgerView D) → count < all → same_at old new (first + count) ≡ false → SaySame all first old new → ⊥
  one_differs count all first old new within differs same = true_false (same_at old new (first + count)) ((at_same old new (first + count)).1 (same (first + count) (omega arith) (omega arith))) differs

pub both_true : (a b : Bool) → a ≡ true → b ≡ true → (a && b) ≡ true
both_true true b x y = y
both_true false b x y = absurd cc
