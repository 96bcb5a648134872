-- For whom a value is backed: it is enough to try the low ends.
use Rattle.std.proofs.Common.{◌≡◌, ◌⊎◌, ◌≤◌, ℕ, Bool, true, false, cond, nat_eq, List, [], ◌∷◌, ◌++◌, refl, sym, ap, subst, ◌∙◌, inl, inr, arith}
use Rattle.std.specs.Prelude.{Option, Some, None, IfNone, IsSomeAnd, Result, Ok, Err, OnOk, IsTrue, ◌↔◌}
use Rattle.scp_ledger.specs.scp_types.specs.declared.fault.Fault.{Fault}
use Rattle.std.specs.List.{AllByRecursion}
use Rattle.std.specs.Option.{option_map}
use Rattle.std.specs.BTreeMap.{is_at}
use Rattle.std.specs.Cmp.Lexicographic.{pointwise, bytes_decides}
use Rattle.std.proofs.lemmas.Bool.{cases_lt}
use Rattle.scp_ledger.specs.scp_types.specs.declared.names.NodeId.{NodeId}
use Rattle.scp_ledger.specs.scp_quorum.specs.NodeSet.{node_cmp}
use Rattle.scp_ledger.specs.scp_quorum.specs.Quorum.{IsQuorum, HasNoQuorum}
use Rattle.scp_ledger.specs.scp_quorum.specs.QuorumTree.{QuorumTree}
use Rattle.scp_ledger.specs.scp_quorum.specs.Satisfies.{Satisfies}
use Rattle.scp_ledger.specs.scp_envelope.specs.Claims.{AcceptsCommit}
use Rattle.scp_ledger.specs.scp_envelope.specs.declared.statement.Pledges.{Pledges}
use Rattle.scp_ledger.specs.scp_envelope.specs.declared.statement.Pledges.TheVariants.{Prepare, Confirm, Externalize, Nominate}
use Rattle.scp_ledger.specs.scp_vote.specs.Board.{kind_of_pledges}
use Rattle.scp_ledger.specs.scp_vote.specs.declared.claim.StatementKind.TheVariants.{Nomination, Balloting}
use Rattle.scp_ledger.specs.Journal.{Heard}
use Rattle.scp_judged.specs.Verdicts.{heard_by}
use Rattle.scp_judged.specs.Backed.{set_named, AllAccept, IsBacked}
use Rattle.scp_judged.specs.inside.Backed.{IsWeighed, AreAccepting, IsLowEnd, HasNoneAt, Weighs}
use Rattle.scp_judged.proofs.Boards.{which, heard_ballot, heard_nomination}
use Rattle.scp_judged.proofs.Saying.{said_has}

-- ---- which nodes accept

abbrev Accepts : ℕ → List ℕ → Heard → Type 0
Accepts n x h = AcceptsCommit h.statement.pledges n x

weighed_in : (P : Heard → Type 0) (t : Bool) (h : Heard) (o : Option Heard) (s : Option QuorumTree) → P h → IsWeighed P o s → IsWeighed P (cond t (Some h) o) (cond t (Some h.set) s)
weighed_in P true h o s p w = record { accepting = λ _. refl; otherwise = inl p }
weighed_in P false h o s p w = w

weighed_out : (P : Heard → Type 0) (t : Bool) (h : Heard) (o : Option Heard) (s : Option QuorumTree) → (P h → ⊥) → IsWeighed P o s → IsWeighed P (cond t (Some h) o) (cond t None s)
weighed_out P true h o s isnt w = record { accepting = λ a. absurd (isnt a); otherwise = inr refl }
weighed_out P false h o s isnt w = w

weighed_same : (P : Heard → Type 0) (o p : Option Heard) (s t : Option QuorumTree) → p ≡ o → t ≡ s → IsWeighed P o s → IsWeighed P p t
weighed_same P o p s t e f w = subst (λ (q : Option Heard). IsWeighed P q t) (sym e) (subst (λ (q : Option QuorumTree). IsWeighed P o q) (sym f) w)

pub accepting_none : (n : ℕ) (x : List ℕ) (sets : NodeId → Option QuorumTree) → ((v : NodeId) → sets v ≡ None) → AreAccepting (heard_by []) n x sets
accepting_none n x sets none = λ v. record { accepting = λ a. absurd a; otherwise = inr (none v) }

pub accepting_more : (hs : List Heard) (h : Heard) (n : ℕ) (x : List ℕ) (old new : NodeId → Option QuorumTree) → AreAccepting (heard_by hs) n x old → Weighs old new h n x → AreAccepting (heard_by (hs ++ h ∷ [])) n x new
accepting_more hs h n x old new are (inl w) = λ v. weighed_same (Accepts n x) (heard_by hs v) (heard_by (hs ++ h ∷ []) v) (old v) (new v) (heard_nomination hs h v w.0) (ap (λ (f : NodeId → Option QuorumTree). f v) w.1) (are v)
accepting_more hs h n x old new are (inr (inl w)) = λ v.
    weighed_same (Accepts n x) (cond (is_at (node_cmp h.statement.node) v) (Some h) (heard_by hs v)) (heard_by (hs ++ h ∷ []) v) (cond (is_at (node_cmp h.statement.node) v) (Some h.set) (old v)) (new v) (heard_ballot hs h v w.0) (w.2 v)
    (weighed_in (Accepts n x) (is_at (node_cmp h.statement.node) v) h (heard_by hs v) (old v) w.1 (are v))
accepting_more hs h n x old new are (inr (inr w)) = λ v.
    weighed_same (Accepts n x) (cond (is_at (node_cmp h.statement.node) v) (Some h) (heard_by hs v)) (heard_by (hs ++ h ∷ []) v) (cond (is_at (node_cmp h.statement.node) v) None (old v)) (new v) (heard_ballot hs h v w.0) (w.2 v)
    (weighed_out (Accepts n x) (is_at (node_cmp h.statement.node) v) h (heard_by hs v) (old v) w.1 (are v))

-- ---- quorums of those that accept

member : (P : Heard → Type 0) (Q : QuorumTree → Type 0) (o : Option Heard) (s : Option QuorumTree) → IsWeighed P o s → IsSomeAnd s Q → IsSomeAnd o P × IsSomeAnd (option_map (λ (h : Heard). h.set) o) Q
member P Q o s w q = elim w.otherwise as (λ _. IsSomeAnd o P × IsSomeAnd (option_map (λ (h : Heard). h.set) o) Q) [
  | inl a ↦ (a, subst (λ (t : Option QuorumTree). IsSomeAnd t Q) (w.accepting a) q)
  | inr none ↦ (let isnt : IsSomeAnd None Q = subst (λ (t : Option QuorumTree). IsSomeAnd t Q) none q in absurd isnt)
]

pub backed_by : (heard : NodeId → Option Heard) (n : ℕ) (x : List ℕ) (sets : NodeId → Option QuorumTree) (v : NodeId) (nodes : NodeId → Bool) → AreAccepting heard n x sets → IsQuorum sets v nodes → IsBacked heard x v
backed_by heard n x sets v nodes are q = (
  n,
  nodes,
  record { has = q.has; satisfied = λ w has. (member (Accepts n x) (Satisfies nodes) (heard w) (sets w) (are w) (q.satisfied w has)).1 },
  λ w has. (member (Accepts n x) (Satisfies nodes) (heard w) (sets w) (are w) (q.satisfied w has)).0,
)

pub none_at : (heard : NodeId → Option Heard) (x : List ℕ) (v : NodeId) (p : Pledges) (n : ℕ) (sets : NodeId → Option QuorumTree) → AreAccepting heard n x sets → HasNoQuorum sets v → (m : ℕ) → m ≡ n → (nodes : NodeId → Bool) → IsQuorum (set_named heard) v nodes → AllAccept heard m x nodes → ⊥
none_at heard x v p n sets are none m same nodes q all =
    none nodes (record {
      has = q.has;
      satisfied = λ w has.
          (let here : AllAccept heard n x nodes = subst (λ (k : ℕ). AllAccept heard k x nodes) same all in
          subst (λ (t : Option QuorumTree). IsSomeAnd t (Satisfies nodes)) (sym ((are w).accepting (here w has))) (q.satisfied w has));
    })

-- ---- low ends

pub one_low_end : (p : Pledges) (x : List ℕ) (n m : ℕ) → IsLowEnd p x n → IsLowEnd p x m → n ≡ m
one_low_end (Prepare p) x n m h k = absurd h
one_low_end (Confirm p) x n m h k = h.1 ∙ sym k.1
one_low_end (Externalize p) x n m h k = h.1 ∙ sym k.1
one_low_end (Nominate p) x n m h k = absurd h

-- it has a low end of the value that is at most n, or none
abbrev HasLow : Pledges → List ℕ → ℕ → Type 0
HasLow p x n = ((m : ℕ) × IsLowEnd p x m × (m ≤ n)) ⊎ ((m : ℕ) → IsLowEnd p x m → m ≤ n → ⊥)

low_value : (p : Pledges) (value x : List ℕ) (low n : ℕ) → (x ≡ value → IsLowEnd p x low) → ((m : ℕ) → IsLowEnd p x m → (x ≡ value) × (m ≡ low)) → HasLow p x n
low_value p value x low n makes tells = elim (which (pointwise nat_eq x value)) as (λ _. HasLow p x n) [
  | inl same ↦ (elim (cases_lt n low) as (λ _. HasLow p x n) [
    | inl lt ↦ inr (λ m h le. (let e = (tells m h).1 in omega (arith, e, lt, le)))
    | inr ge ↦ inl (low, makes ((bytes_decides x value).0 same), ge)
  ])
  | inr differ ↦ inr (λ m h le. (let t : true ≡ false = sym ((bytes_decides x value).1 (tells m h).0) ∙ differ in cc))
]

low_case : (p : Pledges) (x : List ℕ) (n : ℕ) → HasLow p x n
low_case (Prepare p) x n = inr (λ m h le. h)
low_case (Confirm p) x n = low_value (Confirm p) p.ballot.value x p.n_commit n (λ e. (e, refl)) (λ m h. (h.0, h.1))
low_case (Externalize p) x n = low_value (Externalize p) p.commit.value x p.commit.counter n (λ e. (e, refl)) (λ m h. (h.0, h.1))
low_case (Nominate p) x n = inr (λ m h le. h)

abbrev NoLow : List ℕ → ℕ → Heard → Type 0
NoLow x n h = (m : ℕ) → IsLowEnd h.statement.pledges x m → m ≤ n → ⊥

abbrev LowUpTo : List ℕ → ℕ → ℕ → Heard → Type 0
LowUpTo x n top h = (m : ℕ) → IsLowEnd h.statement.pledges x m → m ≤ n → m ≤ top

-- the greatest low end up to n, of a statement of which Q holds
record Greatest (Q : Heard → Type 0) (x : List ℕ) (n : ℕ) (hs : List Heard) : Type 0 where
  pub said : Heard
  pub holds : Q said
  pub top : ℕ
  pub low : IsLowEnd said.statement.pledges x top
  pub below : top ≤ n
  pub all : AllByRecursion (LowUpTo x n top) hs

up_to_none : (x : List ℕ) (n top : ℕ) (hs : List Heard) → AllByRecursion (NoLow x n) hs → AllByRecursion (LowUpTo x n top) hs
up_to_none x n top [] h = tt
up_to_none x n top (g ∷ gs) h = (λ m low le. absurd (h.0 m low le), up_to_none x n top gs h.1)

up_to_more : (x : List ℕ) (n top more : ℕ) (hs : List Heard) → top ≤ more → AllByRecursion (LowUpTo x n top) hs → AllByRecursion (LowUpTo x n more) hs
up_to_more x n top more [] le h = tt
up_to_more x n top more (g ∷ gs) le h = (λ m low few. (let less = h.0 m low few in omega (arith, less, le)), up_to_more x n top more gs le h.1)

own_low : (x : List ℕ) (n top : ℕ) (h : Heard) → IsLowEnd h.statement.pledges x top → LowUpTo x n top h
own_low x n top h low = λ m other le. (let e = one_low_end h.statement.pledges x m top other low in omega (arith, e))

greatest : (Q : Heard → Type 0) (x : List ℕ) (n : ℕ) (hs : List Heard) → AllByRecursion Q hs → AllByRecursion (NoLow x n) hs ⊎ Greatest Q x n hs
greatest Q x n [] q = inl tt
greatest Q x n (h ∷ hs) q = elim (low_case h.statement.pledges x n) as (λ _. AllByRecursion (NoLow x n) (h ∷ hs) ⊎ Greatest Q x n (h ∷ hs)) [
  | inr isnt ↦ (elim (greatest Q x n hs q.1) as (λ _. AllByRecursion (NoLow x n) (h ∷ hs) ⊎ Greatest Q x n (h ∷ hs)) [
    | inl none ↦ inl (isnt, none)
    | inr g ↦ inr (record { said = g.said; holds = g.holds; top = g.top; low = g.low; below = g.below; all = (λ m low le. absurd (isnt m low le), g.all) })
  ])
  | inl low ↦ (elim (greatest Q x n hs q.1) as (λ _. AllByRecursion (NoLow x n) (h ∷ hs) ⊎ Greatest Q x n (h ∷ hs)) [
    | inl none ↦ inr (record { said = h; holds = q.0; top = low.0; low = low.1; below = low.2; all = (own_low x n low.0 h low.1, up_to_none x n low.0 hs none) })
    | inr g ↦ (elim (cases_lt g.top low.0) as (λ _. AllByRecursion (NoLow x n) (h ∷ hs) ⊎ Greatest Q x n (h ∷ hs)) [
      | inl lt ↦ inr (record { said = h; holds = q.0; top = low.0; low = low.1; below = low.2; all = (own_low x n low.0 h low.1, up_to_more x n g.top low.0 hs (omega (arith, lt)) g.all) })
      | inr ge ↦ inr (record { said = g.said; holds = g.holds; top = g.top; low = g.low; below = g.below; all = (λ m other le. (let e = own_low x n low.0 h low.1 m other le in omega (arith, e, ge)), g.all) })
    ])
  ])
]

-- who accepts at n has a low end up to n
low_of : (p : Pledges) (n : ℕ) (x : List ℕ) → AcceptsCommit p n x → (m : ℕ) × IsLowEnd p x m × (m ≤ n)
low_of (Prepare p) n x h = absurd h
low_of (Confirm p) n x h = (p.n_commit, (h.0, refl), h.1)
low_of (Externalize p) n x h = (p.commit.counter, (h.0, refl), h.1)
low_of (Nominate p) n x h = absurd h

-- who accepts at n accepts down to its low end
accepts_lower : (p : Pledges) (n m : ℕ) (x : List ℕ) → m ≤ n → ((l : ℕ) → IsLowEnd p x l → l ≤ n → l ≤ m) → AcceptsCommit p n x → AcceptsCommit p m x
accepts_lower (Prepare p) n m x le low h = h
accepts_lower (Confirm p) n m x le low h = (let few = low p.n_commit (h.0, refl) h.1 in (h.0, few, omega (arith, h.2, le)))
accepts_lower (Externalize p) n m x le low h = (h.0, low p.commit.counter (h.0, refl) h.1)
accepts_lower (Nominate p) n m x le low h = h

heard_some : (o : Option Heard) (P : Heard → Type 0) → IsSomeAnd o P → (h : Heard) × (o ≡ Some h) × P h
heard_some None P h = absurd h
heard_some (Some k) P h = (k, refl, h)

some_and : (o : Option Heard) (k : Heard) (P : Heard → Type 0) → o ≡ Some k → P k → IsSomeAnd o P
some_and o k P e p = subst (λ (q : Option Heard). IsSomeAnd q P) (sym e) p

-- what all accept at n, all accept at the greatest low end up to n
all_lower : (hs : List Heard) (x : List ℕ) (n top : ℕ) (nodes : NodeId → Bool) → top ≤ n → AllByRecursion (LowUpTo x n top) hs → AllAccept (heard_by hs) n x nodes → AllAccept (heard_by hs) top x nodes
all_lower hs x n top nodes le all accept v has =
    let s = heard_some (heard_by hs v) (Accepts n x) (accept v has) in
    some_and (heard_by hs v) s.0 (Accepts top x) s.1 (accepts_lower s.0.statement.pledges n top x le (said_has (LowUpTo x n top) Balloting v hs s.0 all s.1) s.2)

-- a value that is backed at no low end isn't backed
pub unbacked : (hs : List Heard) (x : List ℕ) (v : NodeId) → AllByRecursion (HasNoneAt (heard_by hs) x v) hs → IsBacked (heard_by hs) x v → ⊥
unbacked hs x v none b = elim (greatest (HasNoneAt (heard_by hs) x v) x b.0 hs none) as (λ _. ⊥) [
  | inl isnt ↦ (
      let s = heard_some (heard_by hs v) (Accepts b.0 x) (b.3 v b.2.has) in
      let low = low_of s.0.statement.pledges b.0 x s.2 in
      said_has (NoLow x b.0) Balloting v hs s.0 isnt s.1 low.0 low.1 low.2)
  | inr g ↦ g.holds g.top g.low b.1 b.2 (all_lower hs x b.0 g.top b.1 g.below g.all b.3)
]

pub none_more : (Q : Heard → Type 0) (hs : List Heard) (h : Heard) → AllByRecursion Q hs → Q h → AllByRecursion Q (hs ++ h ∷ [])
none_more Q [] h all q = (q, tt)
none_more Q (g ∷ gs) h all q = (all.0, none_more Q gs h all.1 q)

pub weighs_nomination : (sets : NodeId → Option QuorumTree) (h : Heard) (n : ℕ) (x : List ℕ) → kind_of_pledges h.statement.pledges ≡ Nomination → Weighs sets sets h n x
weighs_nomination sets h n x e = inl (e, refl)

pub weighs_ballot : {X : Type 0} (r : Result X Fault) (old new : NodeId → Option QuorumTree) (h : Heard) (n : ℕ) (x : List ℕ) (b : Bool) → kind_of_pledges h.statement.pledges ≡ Balloting → IsTrue b ↔ AcceptsCommit h.statement.pledges n x
    → OnOk r ((v : NodeId) → new v ≡ cond (is_at (node_cmp h.statement.node) v) (cond b (Some h.set) None) (old v)) → OnOk r (Weighs old new h n x)
weighs_ballot (Ok v) old new h n x true e tells kept = inr (inl (e, tells.0 refl, kept))
weighs_ballot (Ok v) old new h n x false e tells kept = inr (inr (e, (λ a. (let t : false ≡ true = tells.1 a in cc)), kept))
weighs_ballot (Err f) old new h n x b e tells kept = tt

pub backed_none : (heard : NodeId → Option Heard) (x : List ℕ) (v : NodeId) (h : Heard) (n : ℕ) (sets : NodeId → Option QuorumTree) → IsLowEnd h.statement.pledges x n → AreAccepting heard n x sets → HasNoQuorum sets v → HasNoneAt heard x v h
backed_none heard x v h n sets low are none = λ m other nodes q all. none_at heard x v h.statement.pledges n sets are none m (one_low_end h.statement.pledges x m n other low) nodes q all

-- no quorum is found
pub if_none : {X : Type 0} (o : Option X) (P : Type 0) → o ≡ None → IfNone o P → P
if_none {X = X} o P e h = subst (λ (p : Option X). IfNone p P) e h

pub backed_nowhere : (heard : NodeId → Option Heard) (x : List ℕ) (v : NodeId) (h : Heard) → ((n : ℕ) → IsLowEnd h.statement.pledges x n → ⊥) → HasNoneAt heard x v h
backed_nowhere heard x v h isnt = λ m low nodes q all. isnt m low
