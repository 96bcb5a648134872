-- One pass of the steps gives one link, keeps the lists ready, and owes nothing on the board that it saw.
use Rattle.std.proofs.Common.{◌≡◌, ◌<◌, ◌≤◌, ℕ, List, [], Option, IsSomeAnd, length, sym, ◌∙◌, ap, subst, ◌⊎◌, inl, inr, arith, get_or}
use Rattle.scp_vote.specs.scp_types.specs.declared.names.Hash.{Hash}
use Rattle.scp_vote.specs.scp_envelope.specs.Claims.{AcceptsValue}
use Rattle.scp_vote.specs.scp_envelope.specs.Sane.{IsSane}
use Rattle.scp_vote.specs.scp_envelope.specs.Newer.{ArePledgesNewer, ContainsAll}
use Rattle.scp_vote.specs.declared.claim.Claim.TheVariants.{Nominated}
use Rattle.scp_vote.specs.Board.{Seen, Accepted, Confirmed}
use Rattle.scp_vote.specs.Licence.{Follows}
use Rattle.scp_nominate.specs.declared.values.ValueSet.{ValueSet}
use Rattle.scp_nominate.specs.declared.lists.Lists.{Lists}
use Rattle.scp_nominate.specs.Values.{Has}
use Rattle.scp_nominate.specs.Steps.{own_lists, AreVoted}
use Rattle.scp_nominate.specs.inside.Steps.{More, MoreVotes, IsTried, IsTaken, Accepts, Confirms}
use Rattle.scp_nominate.specs.Owed.{OwesNothing, Names}
use Rattle.scp_nominate.specs.Own.{own_of, StandsFor, IsReady}
use Rattle.scp_nominate.specs.inside.Own.{Passes, own_same, size, IsVoting, IsVoted}
use Rattle.scp_nominate.proofs.Growing.{more_has, votes_more, votes_trans, few_stays, tried_stays}
use Rattle.scp_vote.specs.scp_envelope.proofs.Longer.{larger_is_longer}
use Rattle.std.proofs.lemmas.Bool.{cases_lt}
use Rattle.std.proofs.lemmas.List.Elements.{Contains-get_or}
use Rattle.scp_vote.specs.scp_types.specs.declared.names.NodeId.{NodeId}

-- the own statement follows the one before it
pub pass_follows : (full : List ℕ → Type 0) (b : Seen) (hash : Hash) (s t : Lists) → StandsFor (b.statement b.me) hash s → IsReady full s → Passes full b s t → Follows b (b.statement b.me) (own_of hash t)
pass_follows full b hash s t stands ready pass = record {
  values = λ v has. elim (pass.taken v has) [ inl had ↦ inl (stood stands v had) | inr now ↦ inr now.1 ];
  prepared = λ x none. absurd none;
  votes = tt;
  accepts = tt;
  externalizes = tt;
}
  where
    stood : StandsFor (b.statement b.me) hash s → (v : List ℕ) → Has s.accepted v → IsSomeAnd (b.statement b.me) (λ p. AcceptsValue p v)
    stood (inl e) v had = subst (λ o. IsSomeAnd o (λ p. AcceptsValue p v)) (sym e) had
    stood (inr e) v had = absurd (none_has s.votes v e.1 (ready.voted v had))
      where
        none_has : (x : ValueSet) (v : List ℕ) → x.values.items ≡ [] → Has x v → ⊥
        none_has x v e h = let l : length x.values.items ≡ 0 = ap length e in omega (arith, h.1)

pub pass_keeps : (full : List ℕ → Type 0) (b : Seen) (s t : Lists) → IsReady full s → Passes full b s t → IsReady full t
pass_keeps full b s t ready pass = record {
  few = few_stays s.votes t.votes pass.votes ready.few;
  voted = pass.voted ready.voted;
  candidates = λ v has. elim (pass.confirmed v has) [ inl had ↦ more_has s.accepted t.accepted v pass.accepted (ready.candidates v had) | inr now ↦ now.0 ];
  valid = λ v has. elim (pass.taken v has) [ inl had ↦ ready.valid v had | inr now ↦ now.0 ];
}

-- the three steps make one pass
pub pass_of_steps : (full : List ℕ → Type 0) (b : Seen) (known : ValueSet) (s y z t : Lists) → ((v : List ℕ) → Has known v → full v) → IsVoting s y → Accepts (λ v. Has known v) b y z → t ≡ record z { candidates = t.candidates } → Confirms (λ v. Has z.accepted v) b z.candidates t.candidates → Passes full b s t
pass_of_steps full b known s y z t knows voting accepts frame confirms = record {
  votes = subst (λ w. MoreVotes s.votes w) (sym (ap (λ (l : Lists). l.votes) frame)) (votes_trans s.votes y.votes z.votes voting.votes accepts.votes);
  accepted = subst (λ w. More s.accepted w) (sym same_accepted) (subst (λ w. More w z.accepted) voting.accepted accepts.accepted);
  candidates = subst (λ w. More w t.candidates) (accepts.candidates ∙ voting.candidates) confirms.more;
  voted = λ had. subst (λ l. AreVoted l) (sym frame) (accepts.voted (voted_y had));
  taken = λ v has. elim (accepts.only v (subst (λ w. Has w v) same_accepted has)) [
    | inl had ↦ inl (subst (λ w. Has w v) voting.accepted had)
    | inr now ↦ inr (knows v now.0, now.1)
  ];
  confirmed = λ v has. elim (confirms.only v has) [
    | inl had ↦ inl (subst (λ w. Has w v) (accepts.candidates ∙ voting.candidates) had)
    | inr now ↦ inr (subst (λ w. Has w v) (sym same_accepted) now.0, now.1)
  ];
}
  where
    same_accepted : t.accepted ≡ z.accepted
    same_accepted = ap (λ (l : Lists). l.accepted) frame

    voted_y : AreVoted s → AreVoted y
    voted_y had v has = more_has s.votes y.votes v (votes_more s.votes y.votes voting.votes) (had v (subst (λ w. Has w v) voting.accepted has))

longer : (x y : ValueSet) → More x y → (y ≡ x) ⊎ (length x.values.items < length y.values.items)
longer x y (inl e) = inl e
longer x y (inr g) = inr g.longer

at_least : (x y : ValueSet) → More x y → length x.values.items ≤ length y.values.items
at_least x y (inl e) = let l : length y.values.items ≡ length x.values.items = ap (λ (z : ValueSet). length z.values.items) e in omega arith
at_least x y (inr g) = omega (arith, g.longer)

-- of own lists that hold no more, both are as they were
pub unchanged : (full : List ℕ → Type 0) (b : Seen) (s t : Lists) → Passes full b s t → size t ≡ size s → own_same s t
unchanged full b s t pass same = (
  elim (longer s.votes t.votes (votes_more s.votes t.votes pass.votes)) [ inl e ↦ e | inr lt ↦ absurd (omega (arith, at_least s.accepted t.accepted pass.accepted)) ],
  elim (longer s.accepted t.accepted pass.accepted) [ inl e ↦ e | inr lt ↦ absurd (omega (arith, at_least s.votes t.votes (votes_more s.votes t.votes pass.votes))) ],
)

pub grows : (full : List ℕ → Type 0) (b : Seen) (s t : Lists) → Passes full b s t → size s ≤ size t
grows full b s t pass = omega (arith, at_least s.accepted t.accepted pass.accepted, at_least s.votes t.votes (votes_more s.votes t.votes pass.votes))

pub own_of_same : (hash : Hash) (s t : Lists) → own_same s t → own_of hash t ≡ own_of hash s
own_of_same hash s t e = cc (e.0, e.1)

contains_all : (x y : ValueSet) → More x y → ContainsAll y.values.items x.values.items
unfolding ContainsAll
contains_all x y m k d lt = more_has x y (get_or x.values.items k d) m (Contains-get_or x.values.items k d lt)

-- the own statement is sane where there is a vote
pub own_sane : (hash : Hash) (s : Lists) → (s.votes.values.items ≡ [] → ⊥) → IsSane (own_of hash s)
own_sane hash s some = record { some = λ none. some none.0; votes_ascend = s.votes.ascending; accepted_ascend = s.accepted.ascending }

not_back : (x y : ValueSet) → More x y → length x.values.items < length y.values.items → ¬ (ContainsAll x.values.items y.values.items)
not_back x y m lt = (larger_is_longer x.values.items y.values.items x.ascending y.ascending (contains_all x y m)).1 lt

-- where the own lists hold more, the own statement is newer
pub own_newer : (full : List ℕ → Type 0) (b : Seen) (hash : Hash) (s t : Lists) → Passes full b s t → size s < size t → ArePledgesNewer (own_of hash s) (own_of hash t)
own_newer full b hash s t pass lt = record {
  votes = contains_all s.votes t.votes votes;
  accepted = contains_all s.accepted t.accepted pass.accepted;
  larger = elim (longer s.votes t.votes votes) [
    | inr more ↦ inl (not_back s.votes t.votes votes more)
    | inl e ↦ elim (longer s.accepted t.accepted pass.accepted) [
      | inr more ↦ inr (not_back s.accepted t.accepted pass.accepted more)
      | inl f ↦ absurd (omega (arith, lt, ap (λ (z : ValueSet). length z.values.items) e, ap (λ (z : ValueSet). length z.values.items) f))
    ]
  ];
}
  where
    votes : More s.votes t.votes
    votes = votes_more s.votes t.votes pass.votes

all_of : (x y : ValueSet) → ((v : List ℕ) → Has x v → Has y v) → ContainsAll y.values.items x.values.items
unfolding ContainsAll
all_of x y h k d lt = h (get_or x.values.items k d) (Contains-get_or x.values.items k d lt)

-- accepted values are votes, so there are no more of them
pub within : (x y : ValueSet) → ((v : List ℕ) → Has x v → Has y v) → length x.values.items ≤ length y.values.items
within x y h = elim (cases_lt (length y.values.items) (length x.values.items)) [
  | inr le ↦ le
  | inl gt ↦
      let not : ¬ (ContainsAll x.values.items y.values.items) = λ back. (larger_is_longer y.values.items x.values.items y.ascending x.ascending back).1 gt (all_of x y h) in
      let lt : length x.values.items < length y.values.items = (larger_is_longer x.values.items y.values.items x.ascending y.ascending (all_of x y h)).0 not in
      omega arith
]

-- the own lists hold at most 14, so that the loop ends
pub size_bounded : (full : List ℕ → Type 0) (s : Lists) → IsReady full s → size s ≤ 14
size_bounded full s ready = omega (arith, ready.few, within s.accepted s.votes ready.voted)

-- what the three steps leave owes nothing on the board that they saw
pub owes_nothing : (full : List ℕ → Type 0) (leads : NodeId → Type 0) (proposal : Option (List ℕ)) (b : Seen) (known : ValueSet) (s y z t : Lists)
    → ((node : NodeId) (v : List ℕ) → full v → Names b node v → Has known v)
    → (s.candidates.values.items ≡ [] → IsVoted full leads proposal b y) → y.candidates ≡ s.candidates → Accepts (λ v. Has known v) b y z → ((v : List ℕ) → Has known v → Accepted b (Nominated v) → IsTaken z v)
    → t ≡ record z { candidates = t.candidates } → More z.candidates t.candidates → ((v : List ℕ) → Has z.accepted v → Confirmed b (Nominated v) → Has t.candidates v) → OwesNothing full leads proposal b (own_lists t)
owes_nothing full leads proposal b known s y z t knows voted same accepts taken frame more done = record {
  accepted = λ node v f names acc. subst (λ l. IsTaken l v) (sym frame) (taken v (knows node v f names) acc);
  candidates = λ v has con. done v (subst (λ w. Has w v) (ap (λ (l : Lists). l.accepted) frame) has) con;
  proposed = λ none leads v e. still v ((voted (was none)).proposed leads v e);
  led = λ none node other leads v f names. still v ((voted (was none)).led node other leads v f names);
}
  where
    was : t.candidates.values.items ≡ [] → s.candidates.values.items ≡ []
    was none = none_before s.candidates t.candidates (subst (λ w. More w t.candidates) (accepts.candidates ∙ same) more) none
      where
        none_before : (x y : ValueSet) → More x y → y.values.items ≡ [] → x.values.items ≡ []
        none_before x y (inl e) n = subst (λ (w : ValueSet). w.values.items ≡ []) e n
        none_before x y (inr g) n = let l : length y.values.items ≡ 0 = ap length n in absurd (omega (arith, g.longer))

    still : (v : List ℕ) → IsTried y.votes v → IsTried t.votes v
    still v h = subst (λ w. IsTried w v) (sym (ap (λ (l : Lists). l.votes) frame)) (tried_stays y.votes z.votes v accepts.votes h)
