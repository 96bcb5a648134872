-- The greatest counter of each value.
use Rattle.std.proofs.Common.{◌≡◌, ◌↔◌, ℕ, ◌+◌, ◌<◌, ◌≤◌, max, length, take, get_or, Bool, true, false, cond, List, [], ◌∷◌, ◌++◌, Option, Some, None, Contains, refl, sym, ◌∙◌, ap, subst, ◌⊎◌, inl, inr, arith}
use Rattle.std.specs.Option.{unwrap_or}
use Rattle.std.specs.BTreeMap as tree
use Rattle.std.specs.BTreeMap.{BTreeMap, is_at}
use Rattle.std.proofs.lemmas.Bool.{cases_lt}
use Rattle.std.proofs.lemmas.List.{take_more, take_all}
use Rattle.std.proofs.lemmas.List.Elements.{Contains-append_left, Contains-push, Contains-push_cases}
use Rattle.scp_kv.specs.scp_types.specs.declared.ballot.Ballot.{Ballot}
use Rattle.scp_ballot_rules.specs.scp_envelope.specs.Ballots.{value_cmp}
use Rattle.scp_ballot_rules.specs.Greatest.{ballot_at}
use Rattle.scp_ballot_rules.specs.Owed.{IsCandidate, IsBoundary}
use Rattle.scp_ballot_rules.specs.scp_vote.specs.Board.{Seen}
use Rattle.scp_stand_needs.specs.Needs.{IsTopBallot, IsTopBoundary}
use Rattle.scp_stand_needs.specs.inside.Found.{IsGreatest, Raises}
use Rattle.scp_stand_needs.proofs.Visiting.{decided}
use Rattle.scp_stand_needs.proofs.Naming.{same_value, value_itself}

abbrev pub Counters : Type 0
Counters = BTreeMap (List ℕ) ℕ

abbrev pub At : List Ballot → List ℕ → ℕ → Type 0
At list v n = Contains list (ballot_at n v)

greater : (P Q : ℕ → Type 0) (n : ℕ) (o : Option ℕ) → IsGreatest P o → Q n → ((m : ℕ) → P m → Q m) → ((m : ℕ) → Q m → P m ⊎ (n ≡ m)) → IsGreatest Q (Some (max n (unwrap_or o 0)))
greater P Q n None none q more cases = (
  (let e : max n 0 ≡ n = omega arith in subst Q (sym e) q),
  λ m h. elim (cases m h) [ inl was ↦ absurd (none m was) | inr same ↦ omega arith ],
)
greater P Q n (Some k) top q more cases = (
  (elim (either n k) [ inl e ↦ subst Q (sym e) q | inr e ↦ subst Q (sym e) (more k top.0) ]),
  λ m h. elim (cases m h) [ inl was ↦ let le : m ≤ k = top.1 m was in omega arith | inr same ↦ omega arith ],
)
  where
    either : (n k : ℕ) → (max n k ≡ n) ⊎ (max n k ≡ k)
    either n k = elim (cases_lt n k) [ inl below ↦ inr (omega arith) | inr above ↦ inl (omega arith) ]

-- what holds of the same numbers
pub greatest_as : (P Q : ℕ → Type 0) (o : Option ℕ) → ((n : ℕ) → P n ↔ Q n) → IsGreatest P o → IsGreatest Q o
greatest_as P Q None same none = λ n h. none n ((same n).1 h)
greatest_as P Q (Some k) same top = ((same k).0 top.0, λ m h. top.1 m ((same m).1 h))

-- one ballot more
greatest_push : (front : List Ballot) (x : Ballot) (old new : Counters) → Raises x old new → ((v : List ℕ) → IsGreatest (At front v) (tree.get value_cmp old v)) → (v : List ℕ) → IsGreatest (At (front ++ x ∷ []) v) (tree.get value_cmp new v)
greatest_push front x old new raises before v = elim (decided (is_at (value_cmp x.value) v)) [
  | inl here ↦
      let same : x.value ≡ v = same_value x.value v here in
      subst (λ (w : List ℕ). IsGreatest (At (front ++ x ∷ []) w) (tree.get value_cmp new w)) same
      (subst (λ (o : Option ℕ). IsGreatest (At (front ++ x ∷ []) x.value) o)
      (sym (raises x.value ∙ ap (λ (t : Bool). cond t (Some (max x.counter (unwrap_or (tree.get value_cmp old x.value) 0))) (tree.get value_cmp old x.value)) (value_itself x.value)))
      (greater (At front x.value) (At (front ++ x ∷ []) x.value) x.counter (tree.get value_cmp old x.value) (before x.value) (Contains-push front x)
      (λ m h. Contains-append_left front (x ∷ []) (ballot_at m x.value) h)
      (λ m h. elim (Contains-push_cases front x (ballot_at m x.value) h) [ inl was ↦ inl was | inr is ↦ inr (ap (λ (y : Ballot). y.counter) is) ])))
  | inr apart ↦
      subst (λ (o : Option ℕ). IsGreatest (At (front ++ x ∷ []) v) o)
      (sym (raises v ∙ ap (λ (t : Bool). cond t (Some (max x.counter (unwrap_or (tree.get value_cmp old x.value) 0))) (tree.get value_cmp old v)) apart))
      (greatest_as (At front v) (At (front ++ x ∷ []) v) (tree.get value_cmp old v)
      (λ n. (
        (λ h. Contains-append_left front (x ∷ []) (ballot_at n v) h),
        λ h. elim (Contains-push_cases front x (ballot_at n v) h) [
          | inl was ↦ was
          | inr is ↦ let e : x.value ≡ v = ap (λ (y : Ballot). y.value) is in let wrong : true ≡ false = sym (subst (λ (w : List ℕ). is_at (value_cmp x.value) w ≡ true) e (value_itself x.value)) ∙ apart in absurd cc
        ],
      ))
      (before v))
]

pub greatest_at : (xs : List Ballot) (old new : Counters) (i : ℕ) (d x : Ballot) → i < length xs → get_or xs i d ≡ x → Raises x old new → ((v : List ℕ) → IsGreatest (At (take i xs) v) (tree.get value_cmp old v))
    → (v : List ℕ) → IsGreatest (At (take (i + 1) xs) v) (tree.get value_cmp new v)
greatest_at xs old new i d x lt is raises before =
    subst (λ (front : List Ballot). (v : List ℕ) → IsGreatest (At front v) (tree.get value_cmp new v)) (sym (take_more xs i d lt ∙ ap (λ (y : Ballot). take i xs ++ y ∷ []) is)) (greatest_push (take i xs) x old new raises before)

pub greatest_all : (xs : List Ballot) (counters : Counters) (i : ℕ) → length xs ≤ i → ((v : List ℕ) → IsGreatest (At (take i xs) v) (tree.get value_cmp counters v)) → (v : List ℕ) → IsGreatest (At xs v) (tree.get value_cmp counters v)
greatest_all xs counters i long all = subst (λ (front : List Ballot). (v : List ℕ) → IsGreatest (At front v) (tree.get value_cmp counters v)) (take_all i xs long) all

ballot_same : (x y : Ballot) → x.counter ≡ y.counter → x.value ≡ y.value → x ≡ y
ballot_same x y e f = ap (λ (k : ℕ). ballot_at k x.value) e ∙ ap (λ (w : List ℕ). ballot_at y.counter w) f

-- the ballots of greatest counter, and the greatest boundaries
module _ (b : Seen) where
  as_at : (y : Ballot) (v : List ℕ) → y.value ≡ v → IsCandidate b y → IsCandidate b (ballot_at y.counter v)
  as_at y v e h = subst (λ (x : Ballot). IsCandidate b x) (ballot_same y (ballot_at y.counter v) refl e) h

  pub top_ballot : (n : ℕ) (v : List ℕ) (o : Option ℕ) → o ≡ Some n → IsGreatest (λ k. IsCandidate b (ballot_at k v)) o → IsTopBallot b (ballot_at n v)
  top_ballot n v o is all =
      let top : IsGreatest (λ k. IsCandidate b (ballot_at k v)) (Some n) = subst (λ (p : Option ℕ). IsGreatest (λ k. IsCandidate b (ballot_at k v)) p) is all in
      record { candidate = top.0; greatest = λ y h e. top.1 y.counter (as_at y v e h) }

  pub has_counter : (x : Ballot) (o : Option ℕ) → IsCandidate b x → IsGreatest (λ k. IsCandidate b (ballot_at k x.value)) o → (n : ℕ) × (o ≡ Some n)
  has_counter x None h none = absurd (none x.counter h)
  has_counter x (Some n) h top = (n, refl)

  pub top_boundary : (v : List ℕ) (n : ℕ) → IsGreatest (IsBoundary b v) (Some n) → IsTopBoundary b v n
  top_boundary v n top = record { boundary = top.0; greatest = top.1 }

  pub same_top : (x y : Ballot) → IsTopBallot b x → IsTopBallot b y → y.value ≡ x.value → y ≡ x
  same_top x y tx ty e =
      let up : y.counter ≤ x.counter = tx.greatest y ty.candidate e in
      let down : x.counter ≤ y.counter = ty.greatest x tx.candidate (sym e) in
      let same : y.counter ≡ x.counter = omega arith in
      ballot_same y x same e

  pub same_boundary : (v : List ℕ) (n m : ℕ) → IsTopBoundary b v n → IsTopBoundary b v m → m ≡ n
  same_boundary v n m tn tm =
      let up : m ≤ n = tn.greatest m tm.boundary in
      let down : n ≤ m = tm.greatest n tn.boundary in
      omega arith
