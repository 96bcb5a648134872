-- What ballots know and give is one.
use Rattle.std.proofs.Common.{◌≡◌, ◌≢◌, ℕ, false, List, refl, sym, ◌∙◌, ap, subst, inl, inr}
use Rattle.std.specs.Prelude.{◌↔◌, ◌⊎◌, Option, None, IsSome}
use Rattle.std.specs.Option.{ForSome}
use Rattle.std.specs.BTreeSet as tree_set
use Rattle.std.specs.List.Sorted.{IsStrictlySortedBy}
use Rattle.scp_theorem.specs.scp_types.specs.declared.names.Hash.{Hash}
use Rattle.scp_theorem.specs.scp_types.specs.declared.names.NodeId.{NodeId}
use Rattle.scp_theorem.specs.scp_quorum.specs.NodeSet.{node_cmp, is_in}
use Rattle.scp_theorem.specs.scp_quorum.specs.QuorumTree.{QuorumTree}
use Rattle.scp_theorem.specs.scp_envelope.specs.Newer.{ArePledgesNewer}
use Rattle.scp_theorem.specs.scp_envelope.specs.declared.statement.Envelope.{Envelope}
use Rattle.scp_theorem.specs.scp_envelope.specs.declared.statement.Pledges.{Pledges}
use Rattle.scp_theorem.specs.scp_envelope.specs.declared.statement.Pledges.TheVariants.{Prepare as Preparing, Confirm as Confirming, Externalize as Externalizing, Nominate as Nominating}
use Rattle.scp_theorem.specs.scp_vote.specs.declared.claim.Claim.TheVariants.{Committed}
use Rattle.scp_theorem.specs.scp_vote.specs.Board.{Seen, Certificate}
use Rattle.scp_theorem.specs.scp_ballot_rules.specs.declared.state.State.{State}
use Rattle.scp_theorem.specs.scp_ballot_rules.specs.declared.state.Phase.TheVariants.{Prepare}
use Rattle.scp_theorem.specs.scp_ballot_rules.specs.Own.{own_of, IsBlank}
use Rattle.scp_theorem.specs.scp_ballot_rules.specs.Inputs.{AfterInput}
use Rattle.scp_theorem.specs.scp_ballot_rules.specs.Laws.{InputIsAFunction}
use Rattle.scp_theorem.specs.scp_ballot.specs.Balloting.{Ballots, IsDecided, IsOwnEnvelope, Advances, IsCertified, Externalizes, last_emitted, Begins}
use Rattle.scp_theorem.specs.scp_ballot.specs.Outcome.{BeginsBlank, ComesOut, IsToEmit, HearsOn}
use Rattle.scp_theorem.specs.scp_ballot.specs.declared.balloted.Balloted.{Balloted}
use Rattle.scp_theorem.specs.scp_ballot.specs.declared.balloted.Certified.{Certified}
use Rattle.scp_core.proofs.same.Ones.{bool_one, option_one, some_one, sets_one}
use Rattle.scp_core.proofs.same.Nominating.{seen_one, puts_one}

pub envelope_one : (b c : Ballots) (e f : Envelope) → b.board ≡ c.board → b.slot ≡ c.slot → IsOwnEnvelope b e → IsOwnEnvelope c f → e ≡ f
envelope_one b c e f board slot x y =
    let pledges : e.statement.pledges ≡ f.statement.pledges = some_one e.statement.pledges f.statement.pledges (sym x.stands ∙ ap (λ (s : Seen). s.statement s.me) board ∙ y.stands) in
    λ i. record {
      statement = record { node = (x.node ∙ ap (λ (s : Seen). s.me) board ∙ sym y.node) i; slot = record { 0 = (x.slot ∙ slot ∙ sym y.slot) i }; pledges = pledges i };
      signature = (x.unsigned ∙ sym y.unsigned) i;
    }

-- a state's statement is to be emitted, by the state and the hash
abbrev IsDue : Option Pledges → Hash → State → Type 0
IsDue last hash s = (IsSome s.present ⊎ (s.phase ≢ Prepare)) × ForSome last (λ p. ArePledgesNewer p (own_of hash s))

due : (last : Option Pledges) (hash other : Hash) (s t : State) → hash ≡ other → s ≡ t → IsDue last hash s → IsDue last other t
due last hash other s t e f h = subst (λ (k : Hash). IsDue last k t) e (subst (λ (u : State). IsDue last hash u) f h)

-- what two inputs come to that make one state
pub record IsOne (b c : Ballots) (g h : Balloted) : Type 0 where
  pub ballots : b ≡ c
  pub statement : g.statement ≡ h.statement
  pub more : g.more ≡ h.more

pub comes_one : InputIsAFunction → (makes : State → State → Type 0) → ((s t u : State) → makes s t → makes s u → t ≡ u) → (board other : Seen) (old b c : Ballots) (g h : Balloted)
    → board ≡ other → ComesOut makes board old b g → ComesOut makes other old c h → Advances old b g → Advances old c h → b.failed ≡ false → c.failed ≡ false → IsOne b c g h
comes_one law makes one board other old b c g h same x y a d runs works =
    let mid : x.mid ≡ y.mid = one old.state x.mid y.mid x.made y.made in
    let after' : AfterInput old.hash board old.state x.mid c.board c.state h.more = subst (λ (s : Seen). AfterInput old.hash s old.state x.mid c.board c.state h.more) (sym same) (subst (λ (m : State). AfterInput old.hash other old.state m c.board c.state h.more) (sym mid) y.after) in
    let r = law old.hash board old.state x.mid b.board c.board b.state c.state g.more h.more x.after after' in
    let hash : b.hash ≡ c.hash = a.making.hash ∙ sym d.making.hash in
    let slot : b.slot ≡ c.slot = a.making.slot ∙ sym d.making.slot in
    let statement : g.statement ≡ h.statement = option_one (IsToEmit old.emitted b) (IsToEmit old.emitted c) (IsOwnEnvelope b) (IsOwnEnvelope c) g.statement h.statement x.emitted y.emitted (due old.emitted b.hash c.hash b.state c.state hash r.1) (due old.emitted c.hash b.hash c.state b.state (sym hash) (sym r.1)) a.statement d.statement (λ e f. envelope_one b c e f r.0 slot) in
    record {
      ballots = λ i. record {
        slot = slot i;
        hash = hash i;
        board = r.0 i;
        state = r.1 i;
        composite = (sym x.composite ∙ ap (λ (s : State). s.composite) r.1 ∙ y.composite) i;
        emitted = (a.last ∙ ap (λ (o : Option Envelope). last_emitted o old.emitted) statement ∙ sym d.last) i;
        failed = (runs ∙ sym works) i;
      };
      statement = statement;
      more = r.2;
    }

-- the board with one statement, if it is heard
pub hears_one : (old : Ballots) (e : Envelope) (delivered other : QuorumTree) (b c : Seen) → delivered ≡ other → HearsOn old e delivered b → HearsOn old e other c → b ≡ c
hears_one old e delivered other b c same x y = elim x [
  | inl p ↦ elim y [
    | inl q ↦ puts_one old.board b c e.statement.node e.statement.pledges delivered other same p.0.0 p.1 q.1
    | inr q ↦ absurd (q.0 p.0)
  ]
  | inr p ↦ elim y [
    | inl q ↦ absurd (p.0 q.0)
    | inr q ↦ p.1 ∙ sym q.1
  ]
]

-- ---- decisions

said : (p : Pledges) (d e : Certified) → Externalizes p d → Externalizes p e → (d.value ≡ e.value) × (d.n ≡ e.n)
said (Preparing p) d e x y = absurd x
said (Confirming p) d e x y = absurd x
said (Externalizing p) d e x y = (sym x.0 ∙ y.0, sym x.1 ∙ y.1)
said (Nominating p) d e x y = absurd x

abbrev pub Ascends : Certified → Type 0
Ascends d = IsStrictlySortedBy node_cmp (tree_set.keys d.quorum)

certified_here : (b : Ballots) (d e : Certified) → IsCertified b d → IsCertified b e → Ascends d → Ascends e → d ≡ e
certified_here b d e x y up ascends =
    let own' : d.own ≡ e.own = envelope_one b b d.own e.own refl refl x.own y.own in
    let told = said d.own.statement.pledges d e x.externalizes (subst (λ (f : Envelope). Externalizes f.statement.pledges e) (sym own') y.externalizes) in
    let other : Certificate b.board (Committed d.n d.n d.value) (is_in e.quorum) = subst (λ (v : List ℕ). Certificate b.board (Committed d.n d.n v) (is_in e.quorum)) (sym told.0) (subst (λ (n : ℕ). Certificate b.board (Committed n n e.value) (is_in e.quorum)) (sym told.1) y.quorum) in
    let nodes = sets_one d.quorum e.quorum up ascends (λ v. bool_one (is_in d.quorum v) (is_in e.quorum v) (other.others (is_in d.quorum) x.quorum.quorum x.quorum.all_have v) (x.quorum.others (is_in e.quorum) other.quorum other.all_have v)) in
    λ i. record { value = told.0 i; n = told.1 i; quorum = nodes i; own = own' i }

-- a decision that is given alike is one
pub decided_one : (old b c : Ballots) (d e : Option Certified) → b ≡ c → (IsSome d ↔ ((IsDecided old → ⊥) × IsDecided b)) → (IsSome e ↔ ((IsDecided old → ⊥) × IsDecided c)) → ForSome d (IsCertified b) → ForSome e (IsCertified c) → ForSome d Ascends → ForSome e Ascends → d ≡ e
decided_one old b c d e same x y r s up ascends = option_one _ _ (λ f. IsCertified b f × Ascends f) (λ f. IsCertified c f × Ascends f) d e x y
    (λ w. (w.0, subst IsDecided same w.1))
    (λ w. (w.0, subst IsDecided (sym same) w.1))
    (λ f is. (r f is, up f is))
    (λ f is. (s f is, ascends f is))
    (λ f g p q. certified_here b f g p.0 (subst (λ (z : Ballots). IsCertified z g) (sym same) q.0) p.1 q.1)

-- ---- ballots that have heard nothing

blank_one : (s t : State) → IsBlank s → IsBlank t → s.composite ≡ None → t.composite ≡ None → s ≡ t
blank_one s t x y p q = λ i. record {
  phase = (x.phase ∙ sym y.phase) i;
  present = (x.present ∙ sym y.present) i;
  prepared = (x.prepared ∙ sym y.prepared) i;
  prime = (x.prime ∙ sym y.prime) i;
  confirmed = (x.confirmed ∙ sym y.confirmed) i;
  high = (x.high ∙ sym y.high) i;
  low = (x.low ∙ sym y.low) i;
  composite = (p ∙ sym q) i;
}

pub ballots_begin : (node : NodeId) (number : ℕ) (set : QuorumTree) (b c : Ballots) → Begins node number set b → Begins node number set c → BeginsBlank b → BeginsBlank c → b ≡ c
ballots_begin node number set b c x y p q =
    let board : b.board ≡ c.board = seen_one b.board c.board (x.me ∙ sym y.me) (x.local ∙ sym y.local) (λ v. x.statements v ∙ sym (y.statements v)) (λ v. x.sets v ∙ sym (y.sets v)) in
    λ i. record {
      slot = (x.slot ∙ sym y.slot) i;
      hash = record { 0 = (x.hash ∙ sym y.hash) i };
      board = board i;
      state = blank_one b.state c.state p.blank q.blank p.composite q.composite i;
      composite = (x.composite ∙ sym y.composite) i;
      emitted = (x.emitted ∙ sym y.emitted) i;
      failed = (x.failed ∙ sym y.failed) i;
    }
