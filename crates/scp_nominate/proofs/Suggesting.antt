-- What new votes are for.
use Rattle.std.proofs.Common.{◌≡◌, ◌≢◌, ◌<◌, ◌↔◌, ℕ, Bool, true, false, List, [], ◌∷◌, length, get_or, Option, Some, cond, refl, sym, ◌∙◌, ap, subst, ◌⊎◌, inl, inr, arith, Contains}
use Rattle.std.specs.BTreeMap.{is_at}
use Rattle.scp_vote.specs.scp_types.specs.declared.names.NodeId.{NodeId}
use Rattle.scp_vote.specs.scp_quorum.specs.NodeSet.{node_cmp}
use Rattle.scp_vote.specs.scp_quorum.specs.QuorumTree.{QuorumTree}
use Rattle.scp_vote.specs.scp_envelope.specs.declared.statement.Pledges.{Pledges}
use Rattle.scp_vote.specs.declared.claim.Claim.TheVariants.{Nominated}
use Rattle.scp_vote.specs.declared.claim.Support.TheVariants.{VotesOrAccepts}
use Rattle.scp_vote.specs.Claims.{Stands}
use Rattle.scp_vote.specs.Board.{Seen, Puts}
use Rattle.scp_vote.proofs.Chain.{same_at}
use Rattle.scp_nominate.specs.declared.values.ValueSet.{ValueSet}
use Rattle.scp_nominate.specs.declared.lists.Lists.{Lists}
use Rattle.scp_nominate.specs.Values.{Has}
use Rattle.scp_nominate.specs.inside.Steps.{More, Accepts}
use Rattle.scp_nominate.specs.Steps.{own_lists}
use Rattle.scp_nominate.specs.Owed.{AreOwn, MayVote, VotesFor}
use Rattle.scp_nominate.specs.Own.{IsReady}
use Rattle.scp_nominate.proofs.Options.{same_some_and}
use Rattle.scp_nominate.proofs.Growing.{more_has}
use Rattle.scp_nominate.proofs.Passing.{within}

pub decided : (b : Bool) → (b ≡ true) ⊎ (b ≡ false)
decided true = inl refl
decided false = inr refl

pub apart : (v w : NodeId) → v ≢ w → is_at (node_cmp v) w ≡ false
apart v w differ = elim (decided (is_at (node_cmp v) w)) [ inl here ↦ absurd (differ (same_at v w here)) | inr e ↦ e ]

-- one more item of a list gives new values
pub one_more : {A : Type 0} (vs : List A) (i : ℕ) (v : A) → i < length vs → v ≡ get_or vs i v → (G : A → List ℕ → Type 0) (x y z : ValueSet)
    → ((u : List ℕ) → Has y u → Has x u ⊎ ((w : A) × Contains vs w × G w u)) → ((u : List ℕ) → Has z u → Has y u ⊎ G v u)
    → (u : List ℕ) → Has z u → Has x u ⊎ ((w : A) × Contains vs w × G w u)
one_more vs i v lt is G x y z before here u has = elim (here u has) [ inl had ↦ before u had | inr g ↦ inr (v, (i, lt, sym is), g) ]

pub one_added : (vs : List (List ℕ)) (i : ℕ) (v : List ℕ) → i < length vs → v ≡ get_or vs i v → (x y z : ValueSet)
    → ((u : List ℕ) → Has y u → Has x u ⊎ Contains vs u) → ((u : List ℕ) → Has z u → Has y u ⊎ (v ≡ u)) → (u : List ℕ) → Has z u → Has x u ⊎ Contains vs u
one_added vs i v lt is x y z before here u has = elim (here u has) [ inl had ↦ before u had | inr e ↦ inr (subst (λ w. Contains vs w) e (i, lt, sym is)) ]

module _ (full : List ℕ → Type 0) (extracted : List ℕ → Option (List ℕ)) (proposal : Option (List ℕ)) where
  -- what others suggest doesn't change with the own statement
  pub may_stays : (leads : NodeId → Type 0) (b new : Seen) (q : Pledges) (set : QuorumTree) → Puts b new b.me q set → (v : List ℕ) → MayVote full extracted leads proposal b v → MayVote full extracted leads proposal new v
  may_stays leads b new q set puts v (inl own) = inl (subst leads (sym puts.me) own.0, own.1)
  may_stays leads b new q set puts v (inr led) =
      let node = led.0 in
      let other : node ≢ b.me = led.2.0 in
      let same : b.statement node ≡ new.statement node = sym (puts.statements node ∙ ap (λ t. cond t (Some q) (b.statement node)) (apart b.me node (λ e. other (sym e)))) in
      let named = led.2.1.0 in
      inr (node, led.1, ((λ e. other (e ∙ puts.me)), (named, same_some_and (Stands VotesOrAccepts (Nominated named)) (b.statement node) (new.statement node) same led.2.1.1, led.2.1.2)))

  pub may_lead : (P Q : NodeId → Type 0) (b : Seen) → ((node : NodeId) → P node → Q node) → (v : List ℕ) → MayVote full extracted P proposal b v → MayVote full extracted Q proposal b v
  may_lead P Q b weaker v (inl own) = inl (weaker b.me own.0, own.1)
  may_lead P Q b weaker v (inr led) = inr (led.0, weaker led.0 led.1, led.2)

pub votes_weaker : (P Q : List ℕ → Type 0) (s t : Lists) → ((v : List ℕ) → P v → Q v) → VotesFor P (own_lists s) (own_lists t) → VotesFor Q (own_lists s) (own_lists t)
votes_weaker P Q s t weaker h v has = elim (h v has) [
  | inl old ↦ inl old
  | inr new ↦ elim new [ inl acc ↦ inr (inl acc) | inr may ↦ inr (inr (may.0, weaker v may.1)) ]
]

none_before : (x y : ValueSet) → More x y → y.values.items ≡ [] → x.values.items ≡ []
none_before x y (inl e) n = subst (λ (w : ValueSet). w.values.items ≡ []) e n
none_before x y (inr g) n = let l : length y.values.items ≡ 0 = ap length n in absurd (omega (arith, g.longer))

pub votes_then : (P : List ℕ → Type 0) (s x t : Lists) → More s.candidates x.candidates → More x.accepted t.accepted → VotesFor P (own_lists s) (own_lists x) → VotesFor P (own_lists x) (own_lists t) → VotesFor P (own_lists s) (own_lists t)
votes_then P s x t candidates accepted before here v has = elim (here v has) [
  | inl had ↦ elim (before v had) [
    | inl old ↦ inl old
    | inr new ↦ elim new [ inl acc ↦ inr (inl (more_has x.accepted t.accepted v accepted acc)) | inr may ↦ inr (inr may) ]
  ]
  | inr new ↦ elim new [ inl acc ↦ inr (inl acc) | inr may ↦ inr (inr (none_before s.candidates x.candidates candidates may.0, may.1)) ]
]

-- the votes of step 1, and then those of step 2
pub votes_of_steps : (P K : List ℕ → Type 0) (b : Seen) (s y z : Lists) → VotesFor P (own_lists s) (own_lists y) → Accepts K b y z → VotesFor P (own_lists s) (own_lists z)
votes_of_steps P K b s y z voted accepts v has = elim (accepts.votes_only v has) [
  | inl had ↦ elim (voted v had) [
    | inl old ↦ inl old
    | inr new ↦ elim new [ inl acc ↦ inr (inl (more_has y.accepted z.accepted v accepts.accepted acc)) | inr may ↦ inr (inr may) ]
  ]
  | inr acc ↦ inr (inl acc)
]

-- leaders named in two ways
pub votes_led : (full : List ℕ → Type 0) (extracted : List ℕ → Option (List ℕ)) (proposal : Option (List ℕ)) (P Q : NodeId → Type 0) (b : Seen) (s t : Lists) → ((node : NodeId) → P node ↔ Q node)
    → VotesFor (MayVote full extracted P proposal b) (own_lists s) (own_lists t) → VotesFor (MayVote full extracted Q proposal b) (own_lists s) (own_lists t)
votes_led full extracted proposal P Q b s t same votes =
    votes_weaker (MayVote full extracted P proposal b) (MayVote full extracted Q proposal b) s t (may_lead full extracted proposal P Q b (λ node. (same node).0)) votes

pub none_of : (xs : List (List ℕ)) → (0 < length xs → ⊥) → xs ≡ []
none_of [] not = refl
none_of (x ∷ xs) not = absurd (not (omega arith))

pub own_lists_of : (full : List ℕ → Type 0) (s : Lists) → IsReady full s → AreOwn full (own_lists s)
own_lists_of full s ready = record {
  few_votes = ready.few;
  few_accepted = omega (arith, ready.few, within s.accepted s.votes ready.voted);
  votes_ascend = s.votes.ascending;
  accepted_ascend = s.accepted.ascending;
  candidates_ascend = s.candidates.ascending;
  voted = ready.voted;
  valid = ready.valid;
  candidates = ready.candidates;
}
