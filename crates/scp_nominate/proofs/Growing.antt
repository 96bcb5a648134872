-- Own lists grow.
use Rattle.std.proofs.Common.{◌≡◌, ◌+◌, ◌<◌, ◌≤◌, ℕ, List, [], length, get_or, refl, sym, ◌∙◌, ap, subst, ◌⊎◌, inl, inr, arith, Contains}
use Rattle.std.proofs.lemmas.Bool.{cases_lt}
use Rattle.std.proofs.lemmas.List.{get_or_default}
use Rattle.scp_vote.specs.declared.claim.Claim.TheVariants.{Nominated}
use Rattle.scp_vote.specs.Board.{Seen, Accepted, Confirmed}
use Rattle.scp_nominate.specs.declared.values.ValueSet.{ValueSet}
use Rattle.scp_nominate.specs.declared.lists.Lists.{Lists}
use Rattle.scp_nominate.specs.Values.{Has}
use Rattle.scp_nominate.specs.inside.Values.{Adds, AddsNew}
use Rattle.scp_nominate.specs.inside.Steps.{Grew, More, Voted, MoreVotes, IsFilledWithout, IsTried, HasRoom, IsTaken, Accepts, Confirms}

grew_new : (x y : ValueSet) (v : List ℕ) → AddsNew x y v → Grew x y
grew_new x y v a = record { longer = omega (arith, a.longer); keeps = a.keeps }

pub more_added : (x y : ValueSet) (v : List ℕ) → Adds x y v → More x y
more_added x y v (inl same) = inl same.0
more_added x y v (inr a) = inr (grew_new x y v a)

pub voted : (x y : ValueSet) (v : List ℕ) → length x.values.items < 7 → Adds x y v → MoreVotes x y
voted x y v room (inl same) = inl same.0
voted x y v room (inr a) = inr (record { room = room; few = omega (arith, a.longer); grew = grew_new x y v a })

pub added_has : (x y : ValueSet) (v : List ℕ) → Adds x y v → Has y v
added_has x y v (inl same) = subst (λ z. Has z v) (sym same.0) same.1
added_has x y v (inr a) = a.has

pub added_only : (x y : ValueSet) (v : List ℕ) → Adds x y v → (w : List ℕ) → Has y w → Has x w ⊎ (v ≡ w)
added_only x y v (inl same) w h = inl (subst (λ z. Has z w) same.0 h)
added_only x y v (inr a) w h = a.only w h

pub grew_trans : (x y z : ValueSet) → Grew x y → Grew y z → Grew x z
grew_trans x y z g h = record { longer = omega (arith, g.longer, h.longer); keeps = λ v has. h.keeps v (g.keeps v has) }

pub more_trans : (x y z : ValueSet) → More x y → More y z → More x z
more_trans x y z (inl e) m = subst (λ w. More w z) e m
more_trans x y z (inr g) (inl f) = inr (subst (λ w. Grew x w) (sym f) g)
more_trans x y z (inr g) (inr h) = inr (grew_trans x y z g h)

pub votes_trans : (x y z : ValueSet) → MoreVotes x y → MoreVotes y z → MoreVotes x z
votes_trans x y z (inl e) m = subst (λ w. MoreVotes w z) e m
votes_trans x y z (inr g) (inl f) = inr (subst (λ w. Voted x w) (sym f) g)
votes_trans x y z (inr g) (inr h) = inr (record { room = g.room; few = h.few; grew = grew_trans x y z g.grew h.grew })

pub more_has : (x y : ValueSet) (v : List ℕ) → More x y → Has x v → Has y v
more_has x y v (inl e) h = subst (λ z. Has z v) (sym e) h
more_has x y v (inr g) h = g.keeps v h

pub votes_more : (x y : ValueSet) → MoreVotes x y → More x y
votes_more x y (inl e) = inl e
votes_more x y (inr g) = inr g.grew

filled_stays : (x y : ValueSet) (v : List ℕ) → MoreVotes x y → IsFilledWithout x v → IsFilledWithout y v
filled_stays x y v (inl e) f = subst (λ z. IsFilledWithout z v) (sym e) f
filled_stays x y v (inr g) f = absurd (omega (arith, g.room, f.1))

pub tried_stays : (x y : ValueSet) (v : List ℕ) → MoreVotes x y → IsTried x v → IsTried y v
tried_stays x y v m (inl h) = inl (more_has x y v (votes_more x y m) h)
tried_stays x y v m (inr f) = inr (filled_stays x y v m f)

pub few_stays : (x y : ValueSet) → MoreVotes x y → length x.values.items ≤ 7 → length y.values.items ≤ 7
few_stays x y (inl e) few = subst (λ z. length z.values.items ≤ 7) (sym e) few
few_stays x y (inr g) few = g.few

pub taken_stays : (P : List ℕ → Type 0) (b : Seen) (x y : Lists) (v : List ℕ) → Accepts P b x y → IsTaken x v → IsTaken y v
taken_stays P b x y v a (inl h) = inl (more_has x.accepted y.accepted v a.accepted h)
taken_stays P b x y v a (inr f) = inr (filled_stays x.votes y.votes v a.votes f)

pub accepts_none : (P : List ℕ → Type 0) (b : Seen) (x : Lists) → Accepts P b x x
accepts_none P b x = record { votes = inl refl; accepted = inl refl; candidates = refl; only = λ v h. inl h; voted = λ h. h; votes_only = λ v h. inl h }

pub accepts_trans : (P : List ℕ → Type 0) (b : Seen) (x y z : Lists) → Accepts P b x y → Accepts P b y z → Accepts P b x z
accepts_trans P b x y z g h = record {
  votes = votes_trans x.votes y.votes z.votes g.votes h.votes;
  accepted = more_trans x.accepted y.accepted z.accepted g.accepted h.accepted;
  candidates = h.candidates ∙ g.candidates;
  only = λ v has. elim (h.only v has) [ inl had ↦ g.only v had | inr now ↦ inr now ];
  voted = λ v. h.voted (g.voted v);
  votes_only = λ v has. elim (h.votes_only v has) [
    | inl had ↦ elim (g.votes_only v had) [ inl old ↦ inl old | inr acc ↦ inr (more_has y.accepted z.accepted v h.accepted acc) ]
    | inr now ↦ inr now
  ];
}

pub accepts_weaker : (P Q : List ℕ → Type 0) (b : Seen) (x y : Lists) → ((v : List ℕ) → P v → Q v) → Accepts P b x y → Accepts Q b x y
accepts_weaker P Q b x y w g = record { votes = g.votes; accepted = g.accepted; candidates = g.candidates; only = λ v has. elim (g.only v has) [ inl had ↦ inl had | inr now ↦ inr (w v now.0, now.1) ]; voted = g.voted; votes_only = g.votes_only }

-- a value that is Accepted is voted for, and taken
pub accepts_one : (b : Seen) (x y : Lists) (v : List ℕ) → Accepted b (Nominated v) → MoreVotes x.votes y.votes → Has y.votes v → ((w : List ℕ) → Has y.votes w → Has x.votes w ⊎ (v ≡ w)) → Adds x.accepted y.accepted v → y.candidates ≡ x.candidates
    → Accepts (λ w. v ≡ w) b x y × IsTaken y v
accepts_one b x y v acc votes has voted_only adds same = (
  record {
    votes = votes;
    accepted = more_added x.accepted y.accepted v adds;
    candidates = same;
    only = λ w h. new w adds h;
    voted = λ had w h. elim (new w adds h) [ inl old ↦ more_has x.votes y.votes w (votes_more x.votes y.votes votes) (had w old) | inr k ↦ subst (λ u. Has y.votes u) k.0 has ];
    votes_only = λ w h. elim (voted_only w h) [ inl old ↦ inl old | inr e ↦ inr (subst (λ u. Has y.accepted u) e (has_it adds)) ];
  },
  inl (has_it adds),
)
  where
    new : (w : List ℕ) → Adds x.accepted y.accepted v → Has y.accepted w → Has x.accepted w ⊎ ((v ≡ w) × Accepted b (Nominated w))
    new w (inl s) h = inl (subst (λ z. Has z w) s.0 h)
    new w (inr a) h = elim (a.only w h) [ inl old ↦ inl old | inr e ↦ inr (e, subst (λ u. Accepted b (Nominated u)) e acc) ]

    has_it : Adds x.accepted y.accepted v → Has y.accepted v
    has_it (inl s) = subst (λ z. Has z v) (sym s.0) s.1
    has_it (inr a) = a.has

pub confirms_none : (P : List ℕ → Type 0) (b : Seen) (x : ValueSet) → Confirms P b x x
confirms_none P b x = record { more = inl refl; only = λ v h. inl h }

pub confirms_trans : (P : List ℕ → Type 0) (b : Seen) (x y z : ValueSet) → Confirms P b x y → Confirms P b y z → Confirms P b x z
confirms_trans P b x y z g h = record {
  more = more_trans x y z g.more h.more;
  only = λ v has. elim (h.only v has) [ inl had ↦ g.only v had | inr now ↦ inr now ];
}

pub confirms_weaker : (P Q : List ℕ → Type 0) (b : Seen) (x y : ValueSet) → ((v : List ℕ) → P v → Q v) → Confirms P b x y → Confirms Q b x y
confirms_weaker P Q b x y w g = record { more = g.more; only = λ v has. elim (g.only v has) [ inl had ↦ inl had | inr now ↦ inr (w v now.0, now.1) ] }

pub confirms_one : (b : Seen) (x y : ValueSet) (v : List ℕ) → Confirmed b (Nominated v) → Adds x y v → Confirms (λ w. v ≡ w) b x y × Has y v
confirms_one b x y v con (inl s) = (record { more = inl s.0; only = λ w h. inl (subst (λ z. Has z w) s.0 h) }, subst (λ z. Has z v) (sym s.0) s.1)
confirms_one b x y v con (inr a) = (
  record { more = more_added x y v (inr a); only = λ w h. elim (a.only w h) [ inl old ↦ inl old | inr e ↦ inr (e, subst (λ u. Confirmed b (Nominated u)) e con) ] },
  a.has,
)

pub no_room : (x : Lists) (v : List ℕ) → (HasRoom x.votes v → ⊥) → IsTaken x v
no_room x v none = inr (λ has. none (inl has), omega (arith, not_less))
  where
    not_less : length x.votes.values.items < 7 → ⊥
    not_less lt = none (inr lt)

pub last_or_before : (i k : ℕ) → k < i + 1 → (k < i) ⊎ (k ≡ i)
last_or_before i k lt = elim (cases_lt k i) [ inl l ↦ inl l | inr g ↦ inr (omega arith) ]

module _ (b : Seen) (vs : List (List ℕ)) (i : ℕ) (v : List ℕ) (lt : i < length vs) (is : v ≡ get_or vs i []) where
  has_here : (w : List ℕ) → v ≡ w → Contains vs w
  has_here w e = (i, lt, get_or_default vs i w [] lt ∙ sym is ∙ e)

  pub accepting : (x y z : Lists) → Accepts (λ w. Contains vs w) b x y → Accepts (λ w. v ≡ w) b y z → Accepts (λ w. Contains vs w) b x z
  accepting x y z before one = accepts_trans (λ w. Contains vs w) b x y z before (accepts_weaker (λ w. v ≡ w) (λ w. Contains vs w) b y z has_here one)

  pub taking : (y z : Lists) → Accepts (λ w. v ≡ w) b y z → ((k : ℕ) → k < i → Accepted b (Nominated (get_or vs k [])) → IsTaken y (get_or vs k [])) → (Accepted b (Nominated v) → IsTaken z v)
      → (k : ℕ) → k < i + 1 → Accepted b (Nominated (get_or vs k [])) → IsTaken z (get_or vs k [])
  taking y z one before here k l acc = elim (last_or_before i k l) [
    | inl lt ↦ taken_stays (λ w. v ≡ w) b y z (get_or vs k []) one (before k lt acc)
    | inr e ↦ let same : v ≡ get_or vs k [] = is ∙ ap (λ j. get_or vs j []) (sym e) in subst (λ w. IsTaken z w) same (here (subst (λ w. Accepted b (Nominated w)) (sym same) acc))
  ]

  pub confirming : (x y z : ValueSet) → Confirms (λ w. Contains vs w) b x y → Confirms (λ w. v ≡ w) b y z → Confirms (λ w. Contains vs w) b x z
  confirming x y z before one = confirms_trans (λ w. Contains vs w) b x y z before (confirms_weaker (λ w. v ≡ w) (λ w. Contains vs w) b y z has_here one)

  pub doing : (y z : ValueSet) → Confirms (λ w. v ≡ w) b y z → ((k : ℕ) → k < i → Confirmed b (Nominated (get_or vs k [])) → Has y (get_or vs k [])) → (Confirmed b (Nominated v) → Has z v)
      → (k : ℕ) → k < i + 1 → Confirmed b (Nominated (get_or vs k [])) → Has z (get_or vs k [])
  doing y z one before here k l con = elim (last_or_before i k l) [
    | inl lt ↦ more_has y z (get_or vs k []) one.more (before k lt con)
    | inr e ↦ let same : v ≡ get_or vs k [] = is ∙ ap (λ j. get_or vs j []) (sym e) in subst (λ w. Has z w) same (here (subst (λ w. Confirmed b (Nominated w)) (sym same) con))
  ]

-- from each place to each value
pub each_value : (Q R : List ℕ → Type 0) (vs : List (List ℕ)) (i : ℕ) → length vs ≤ i → ((k : ℕ) → k < i → Q (get_or vs k []) → R (get_or vs k [])) → (v : List ℕ) → Contains vs v → Q v → R v
each_value Q R vs i le all v has q =
    let same : get_or vs has.0 [] ≡ v = get_or_default vs has.0 [] v has.1 ∙ has.2 in
    subst R same (all has.0 (omega (arith, has.1)) (subst Q (sym same) q))

-- one more value is tried, or added
module _ (vs : List (List ℕ)) (i : ℕ) (v : List ℕ) (lt : i < length vs) (is : v ≡ get_or vs i v) where
  pub trying : (Q : List ℕ → Type 0) (x y z : ValueSet) → MoreVotes x y → MoreVotes y z → ((k : ℕ) → k < i → Q (get_or vs k []) → IsTried y (get_or vs k [])) → (Q v → IsTried z v)
      → record { more : MoreVotes x z; tried : (k : ℕ) → k < i + 1 → Q (get_or vs k []) → IsTried z (get_or vs k []) }
  trying Q x y z before one tried here = record {
    more = votes_trans x y z before one;
    tried = λ k l q. elim (last_or_before i k l) [
      | inl lt ↦ tried_stays y z (get_or vs k []) one (tried k lt q)
      | inr e ↦ let same : v ≡ get_or vs k [] = is ∙ get_or_default vs i v [] lt ∙ ap (λ j. get_or vs j []) (sym e) in subst (λ w. IsTried z w) same (here (subst Q (sym same) q))
    ];
  }

  pub adding : (x y z : ValueSet) → More x y → More y z → ((k : ℕ) → k < i → Has y (get_or vs k [])) → Has z v
      → record { more : More x z; added : (k : ℕ) → k < i + 1 → Has z (get_or vs k []) }
  adding x y z before one added here = record {
    more = more_trans x y z before one;
    added = λ k l. elim (last_or_before i k l) [
      | inl lt ↦ more_has y z (get_or vs k []) one (added k lt)
      | inr e ↦ let same : v ≡ get_or vs k [] = is ∙ get_or_default vs i v [] lt ∙ ap (λ j. get_or vs j []) (sym e) in subst (λ w. Has z w) same here
    ];
  }
