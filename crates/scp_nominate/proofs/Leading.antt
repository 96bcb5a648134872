-- One more leader is heard.
use Rattle.std.proofs.Common.{◌≡◌, ◌≢◌, ◌+◌, ◌<◌, ◌≤◌, ℕ, List, length, get_or, sym, ◌∙◌, ap, subst, ◌⊎◌, inl, inr, arith, Contains}
use Rattle.std.proofs.Common.{Option, Some, None}
use Rattle.std.specs.Option.{ForSome}
use Rattle.scp_nominate.proofs.Options.{some_same, none_some}
use Rattle.std.proofs.lemmas.Bool.{cases_lt}
use Rattle.std.proofs.lemmas.List.{get_or_default}
use Rattle.scp_vote.specs.scp_types.specs.declared.names.NodeId.{NodeId}
use Rattle.scp_vote.specs.Board.{Seen}
use Rattle.scp_nominate.specs.declared.values.ValueSet.{ValueSet}
use Rattle.scp_nominate.specs.inside.Steps.{MoreVotes, IsTried}
use Rattle.scp_nominate.specs.Owed.{Names}
use Rattle.scp_nominate.proofs.Growing.{votes_trans, tried_stays}

-- what another node names is tried
abbrev pub IsHeard : (List ℕ → Type 0) → Seen → ValueSet → NodeId → Type 0
IsHeard full b x node = node ≢ b.me → (v : List ℕ) → full v → Names b node v → IsTried x v

last_or_before : (i k : ℕ) → k < i + 1 → (k < i) ⊎ (k ≡ i)
last_or_before i k lt = elim (cases_lt k i) [ inl l ↦ inl l | inr g ↦ inr (omega arith) ]

pub leading : (full : List ℕ → Type 0) (b : Seen) (vs : List NodeId) (i : ℕ) (n : NodeId) → i < length vs → n ≡ get_or vs i n → (x y z : ValueSet) → MoreVotes x y → MoreVotes y z
    → ((k : ℕ) (d : NodeId) → k < i → IsHeard full b y (get_or vs k d)) → IsHeard full b z n
    → record { more : MoreVotes x z; heard : (k : ℕ) (d : NodeId) → k < i + 1 → IsHeard full b z (get_or vs k d) }
leading full b vs i n lt is x y z before one heard here = record {
  more = votes_trans x y z before one;
  heard = λ k d l. elim (last_or_before i k l) [
    | inl lt ↦ λ other v f names. tried_stays y z v one (heard k d lt other v f names)
    | inr e ↦ let same : n ≡ get_or vs k d = is ∙ get_or_default vs i n d lt ∙ ap (λ j. get_or vs j d) (sym e) in subst (λ m. IsHeard full b z m) same here
  ];
}

pub each_node : (full : List ℕ → Type 0) (b : Seen) (x : ValueSet) (vs : List NodeId) (i : ℕ) → length vs ≤ i → ((k : ℕ) (d : NodeId) → k < i → IsHeard full b x (get_or vs k d)) → (n : NodeId) → Contains vs n → IsHeard full b x n
each_node full b x vs i le all n has = subst (λ m. IsHeard full b x m) has.2 (all has.0 n (omega (arith, has.1)))

pub tried_some : (o : Option (List ℕ)) (x : ValueSet) (v : List ℕ) → o ≡ Some v → IsTried x v → ForSome o (λ w. IsTried x w)
tried_some o x v e h w f = subst (λ u. IsTried x u) (some_same o v w e f) h

pub tried_none : (o : Option (List ℕ)) (x : ValueSet) → o ≡ None → ForSome o (λ w. IsTried x w)
tried_none o x e w f = none_some o w e f
