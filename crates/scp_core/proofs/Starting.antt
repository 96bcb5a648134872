-- A node that has heard nothing.
use Rattle.std.proofs.Common.{◌≡◌, ◌≢◌, ℕ, Bool, true, false, List, [], ◌∷◌, ◌++◌, refl, sym, ◌∙◌, ap, subst, arith, length, zero, suc, ◌⊎◌, inl, inr}
use Rattle.std.specs.Prelude.{Result, Ok, Err, IfOk, IfErr, ◌+◌, Some, slice_get, replicate, not, ◌&&◌, ◌||◌}
use Rattle.scp_theorem.specs.scp_driver.specs.Driver.{Says}
use Rattle.scp_theorem.specs.scp_types.specs.declared.fault.Fault.{Fault}
use Rattle.scp_theorem.specs.scp_types.specs.declared.fault.Fault.TheVariants.{BadConfig, NoMemory}
use Rattle.scp_theorem.specs.scp_types.specs.declared.names.NodeId.{NodeId}
use Rattle.scp_theorem.specs.scp_xdr.specs.Words.{IsReadingFault}
use Rattle.scp_theorem.specs.scp_ledger.specs.Runs.{nothing_taken}
use Rattle.scp_theorem.specs.scp_ledger.specs.Seen.{LedgerView}
use Rattle.scp_theorem.specs.scp_apply.specs.Applier.{ApplierView}
use Rattle.scp_theorem.specs.scp_wire.specs.Connections.{same_node}
use Rattle.scp_theorem.specs.Fates.{is_among}
use Rattle.scp_core.specs.Config.{are_apart}
use Rattle.scp_core.specs.History.{nothing_heard, unused}
use Rattle.scp_core.specs.Node.{LinkView, NodeView, new_link}
use Rattle.scp_core.specs.Flow.{LinkFlows, Flows}
use Rattle.scp_theorem.specs.scp_pending.specs.Peers.{AreApart}
use Rattle.scp_theorem.specs.scp_pending.specs.Rules.{Settled}
use Rattle.scp_core.specs.Theorem.{begun, LedgerTheorem, LedgerTheoremFrom}
use Rattle.scp_core.specs.inside.Starting.{IsNew}
use Rattle.scp_core.proofs.Deciding.{PassBy, journals_begin}
use Rattle.scp_core.proofs.Queues.{in_replicate}
use Rattle.scp_core.proofs.Steps.{same_node-refl}

pub replicate-push : {X : Type 0} (n : ℕ) (x : X) → replicate n x ++ x ∷ [] ≡ replicate (suc n) x
replicate-push zero x = refl
replicate-push (suc n) x = ap (λ xs. x ∷ xs) (replicate-push n x)

length-replicate' : {X : Type 0} (n : ℕ) (x : X) → length (replicate n x) ≡ n
length-replicate' zero x = refl
length-replicate' (suc n) x = omega (arith, length-replicate' n x)

new-flows : (me peer : NodeId) (room : ℕ) → LinkFlows me peer room unused (new_link room)
new-flows me peer room = record { tail = refl; shape = tt; room_is = refl; within = omega arith; queue = refl; reader = refl; given = omega arith; hand = refl }

some_is : (a b : NodeId) → Some a ≡ Some b → a ≡ b
some_is a b e = cc

or_true : (b : Bool) → (b || true) ≡ true
or_true true = refl
or_true false = refl

among : (peers : List NodeId) (m : ℕ) (peer : NodeId) → slice_get peers m ≡ Some peer → is_among peer peers ≡ true
among [] m peer e = absurd cc
among (p ∷ ps) zero peer e = rw (ap (λ (q : NodeId). same_node q peer) (some_is p peer e) ∙ same_node-refl peer) refl
among (p ∷ ps) (suc m) peer e = rw (among ps m peer e) (or_true (same_node p peer))

first_and : (a b : Bool) → (a && b) ≡ true → a ≡ true
first_and true b e = refl
first_and false b e = absurd cc

last_and : (a b : Bool) → (a && b) ≡ true → b ≡ true
last_and true b e = e
last_and false b e = absurd cc

never : (a : Bool) → not a ≡ true → a ≡ true → ⊥
never true n y = cc
never false n y = cc

twice : (p : NodeId) (ps : List NodeId) (m : ℕ) (peer : NodeId) → are_apart (p ∷ ps) ≡ true → Some p ≡ Some peer → slice_get ps m ≡ Some peer → ⊥
twice p ps m peer e here there = never (is_among p ps) (first_and (not (is_among p ps)) (are_apart ps) e) (subst (λ (q : NodeId). is_among q ps ≡ true) (sym (some_is p peer here)) (among ps m peer there))

by_places : (p : NodeId) (ps : List NodeId) → are_apart (p ∷ ps) ≡ true → AreApart ps → AreApart (p ∷ ps)
by_places p ps e rest zero zero peer a b = refl
by_places p ps e rest zero (suc m) peer a b = absurd (twice p ps m peer e a b)
by_places p ps e rest (suc l) zero peer a b = absurd (twice p ps l peer e b a)
by_places p ps e rest (suc l) (suc m) peer a b = ap suc (rest l m peer a b)

apart : (peers : List NodeId) → are_apart peers ≡ true → AreApart peers
apart [] e = λ l m peer a b. absurd cc
apart (p ∷ ps) e = λ l m peer a b. by_places p ps e (apart ps (last_and (not (is_among p ps)) (are_apart ps) e)) l m peer a b

module _ {D : Type 0} (says : Says D) (first : ℕ) (base : List ℕ) where
  from_first : (v : NodeView D) → IsNew says first base v → v.ledger.first ≡ first
  from_first v n = ap (λ (w : LedgerView D). w.first) n.ledger

  starts : PassBy says → (v : NodeView D) → IsNew says first base v → Flows says nothing_heard v
  starts law v n = record {
    runs = n.runs;
    whole = n.fault;
    rooms = (n.inbox.1, n.ready.1, n.decided.1);
    count = ap length n.links ∙ length-replicate' (length v.config.peers) (new_link v.config.capacities.link);
    apart = apart v.config.peers n.apart;
    links = λ l k there peer at. subst (λ (w : LinkView). LinkFlows v.config.me peer v.config.capacities.link unused w) (sym (in_replicate (length v.config.peers) (new_link v.config.capacities.link) l k (rw (← n.links) there))) (new-flows v.config.me peer v.config.capacities.link);
    came = λ l peer at. refl;
    local = ap (λ (s : Settled). s.store.local) n.settled;
    arrived = [];
    inbox = sym n.inbox.0;
    given = [];
    pending = n.pending;
    took = [];
    ready = rw (n.ready.0, n.hands.0) refl;
    onwards = [];
    journal = journals_begin says law v.config.me v.config.set v.config.peers v.ledger (subst (λ (k : ℕ). v.ledger ≡ nothing_taken v.config.me v.config.set v.ledger.driver v.config.peers k) (sym (from_first v n)) n.ledger) n.known n.deciding;
    applied = [];
    decided = rw (n.decided.0, n.hands.1) refl;
    applier = n.applier;
    first = ap (λ (a : ApplierView). a.first) n.applier_is ∙ sym (from_first v n);
    ready_count = omega (arith, ap length n.ready.0);
    decided_count = omega (arith, ap length n.decided.0);
  }

  -- such a node is the one that begins so
  made_is : (v : NodeView D) → IsNew says first base v → v ≡ begun v.ledger.driver v.config first base
  made_is v n = λ i. record {
    config = v.config;
    failed = n.runs i;
    fault = n.fault i;
    links = n.links i;
    inbox = n.inbox.0 i;
    inbox_room = n.inbox.1 i;
    pending = record { failed = n.pending.runs i; settled = n.settled i; leaving = n.leaving i };
    pend_hand = n.hands.0 i;
    ready = n.ready.0 i;
    ready_room = n.ready.1 i;
    ledger = n.ledger i;
    slot_hand = n.hands.1 i;
    last_command = n.told i;
    last_said = n.said i;
    decided = n.decided.0 i;
    decided_room = n.decided.1 i;
    applier = n.applier_is i;
    outboxes = n.outboxes i;
  }

  pub new_holds : PassBy says → (v : NodeView D) → IsNew says first base v → LedgerTheoremFrom says first base [] v
  new_holds law v n = record { driver = v.ledger.driver; replies = made_is v n; failed = n.runs; moment = v; began = (ap (λ (a : ApplierView). a.first) n.applier_is, ap (λ (a : ApplierView). a.base) n.applier_is); flows = starts law v n; now = λ _. refl; keeps = record { config = refl; journal = refl; decisions = refl; asked = refl; command = refl; said = refl; applied = refl; lives = refl } }

pub if_ok : {X Y : Type 0} (P Q : X → Type 0) (r : Result X Y) → ((x : X) → P x → Q x) → IfOk r P → IfOk r Q
if_ok P Q (Ok x) f h = f x h
if_ok P Q (Err y) f h = tt

-- a node that was made to begin with slot 1 and no bytes began so
pub begun_at_1 : {D Y : Type 0} (says : Says D) (before : ℕ) (bytes : List ℕ) (r : Result (NodeView D) Y) → before ≡ 0 → bytes ≡ [] → IfOk r (LedgerTheoremFrom says (before + 1) bytes []) → IfOk r (LedgerTheorem says [])
begun_at_1 {D} says before bytes r slot none h = subst (λ (n : ℕ). IfOk r (LedgerTheoremFrom says (n + 1) [] [])) slot (subst (λ (b : List ℕ). IfOk r (LedgerTheoremFrom says (before + 1) b [])) none h)

-- where no fault of bytes can come, none does
pub refusals : {X : Type 0} {B : Type 0} (r : Result X Fault) → B → IfErr r (λ f. IsReadingFault f → ¬ B) → IfErr r (λ f. (f ≡ BadConfig) ⊎ ((f ≡ NoMemory) ⊎ IsReadingFault f)) → IfErr r (λ f. (f ≡ BadConfig) ⊎ (f ≡ NoMemory))
refusals (Ok x) b none only = tt
refusals (Err f) b none only = elim only [ inl bad ↦ inl bad | inr rest ↦ elim rest [ inl memory ↦ inr memory | inr reading ↦ absurd (none reading b) ] ]

bad_isnt : (f : Fault) → (f ≢ NoMemory → IsReadingFault f) → f ≡ BadConfig → ⊥
bad_isnt f faults e = subst IsReadingFault e (faults (λ is. bad (sym e ∙ is)))
  where
    bad : BadConfig ≡ NoMemory → ⊥
    bad e = cc

fault_of : {X : Type 0} → Result X Fault → Fault
fault_of (Ok x) = NoMemory
fault_of (Err f) = f

-- what is refused for its bytes, or for lack of memory, isn't a bad configuration
pub not_bad : {X : Type 0} (f : Fault) (r : Result X Fault) → r ≡ Err f → (f ≢ NoMemory → IsReadingFault f) → r ≢ Err BadConfig
unfolding fault_of
not_bad f r is faults e = bad_isnt f faults (ap fault_of (sym is ∙ e))

-- a fault of bytes comes only where they say no state
pub states_none : {X : Type 0} (B : Type 0) (r : Result X Fault) → IfErr r (λ f. f ≢ NoMemory → ¬ B) → IfErr r (λ f. IsReadingFault f → ¬ B)
states_none B (Ok x) h = tt
states_none B (Err f) h = λ reading. h (λ e. subst IsReadingFault e reading)

fault_is : (f : Fault) → (f ≢ NoMemory → IsReadingFault f) → (f ≡ BadConfig) ⊎ ((f ≡ NoMemory) ⊎ IsReadingFault f)
fault_is NoMemory h = inr (inl refl)
fault_is f h = inr (inr (h (λ e. cc)))

-- each fault is one of these
pub faults_are : {X : Type 0} (r : Result X Fault) → IfErr r (λ f. f ≢ NoMemory → IsReadingFault f) → IfErr r (λ f. (f ≡ BadConfig) ⊎ ((f ≡ NoMemory) ⊎ IsReadingFault f))
faults_are (Ok x) h = tt
faults_are (Err f) h = fault_is f h
