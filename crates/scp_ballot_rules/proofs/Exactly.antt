-- What each rule builds is what the protocol says, and it answers none exactly where that is the state itself.
use Rattle.std.proofs.Common.{Bool, true, false, IsTrue, ◌≡◌, ◌↔◌, List, Option, Some, None, Contains, refl, sym, ◌∙◌, ap, subst, ◌⊎◌, inl, inr}
use Rattle.scp_vote.specs.scp_types.specs.declared.ballot.Ballot.{Ballot}
use Rattle.scp_vote.specs.declared.claim.Claim.TheVariants.{Prepared}
use Rattle.scp_vote.specs.Board.{Seen, Accepted}
use Rattle.scp_ballot_rules.specs.declared.state.State.{State}
use Rattle.scp_ballot_rules.specs.declared.state.Phase.TheVariants.{Prepare, Confirm}
use Rattle.scp_ballot_rules.specs.Order.{AtMost, IsOver, IsAbove}
use Rattle.scp_ballot_rules.specs.Greatest.{IsGreatestOf, Where}
use Rattle.scp_ballot_rules.specs.AcceptPrepared.{IsInA, IsOvertaken, AcceptsInPrepare, AcceptsInConfirm}
use Rattle.scp_ballot_rules.specs.Steps.{Answers}
use Rattle.scp_ballot_rules.proofs.Options.{some_of, some_and, at_some, none_some}
use Rattle.scp_ballot_rules.specs.Finding.{AreCandidates}
use Rattle.scp_ballot_rules.specs.inside.Finding.{IsGreatest, IsPrimeOf, Clears}
use Rattle.scp_ballot_rules.proofs.Primes.{not_above, greatest_rises}

pub greatest_of : (P A : Ballot → Type 0) (list : List Ballot) (floor best : Option Ballot) → ((x : Ballot) → Contains list x → P x → A x) → ((x : Ballot) → A x → Contains list x × P x)
    → IsGreatest P list floor best → IsGreatestOf (λ x. A x ⊎ (floor ≡ Some x)) best
greatest_of P A list floor best to from g = record {
  among = λ x e. elim g.found [
    | inl same ↦ inr (sym same ∙ e)
    | inr more ↦ let y = at_some (λ x. P x × IsAbove x floor × Contains list x) best x e more in inl (to x y.2 y.0)
  ];
  greatest = λ x h. elim h [ inl a ↦ (let k = from x a in not_above x best (g.others x k.0 k.1)) | inr e ↦ greatest_rises P list floor best g x e ];
}

where_clears : (high low prepared prime new : Option Ballot) → Clears high low prepared prime new → Where (IsOvertaken high prepared prime) None low new
where_clears high low prepared prime new (inl (none, over)) = inl (over, none)
where_clears high low prepared prime new (inr (same, under)) = inr (
  λ over.
      let h = some_of (λ h. IsOver prepared h ⊎ IsOver prime h) high over in
      elim h.2 [ inl p ↦ (under h.0 h.1).0 p | inr q ↦ (under h.0 h.1).1 q ],
  same,
)

not_both : (t : Bool) → t ≡ true → t ≡ false → ⊥
not_both t e f = let k : true ≡ false = sym e ∙ f in cc

module _ (b : Seen) (old : State) (list : List Ballot) (all : AreCandidates b list) where
  -- accept prepared
  module _ (prepared prime low : Option Ballot) (g : IsGreatest (λ x. Unit {0} × Accepted b (Prepared x)) list old.prepared prepared)
      (under : IsPrimeOf b list old prepared prime) (clears : Clears old.high old.low prepared prime low) where
    abbrev holding : State
    holding = record old { prepared = prepared; prime = prime; low = low }

    accepts : AcceptsInPrepare b old holding
    accepts = record {
      frame = refl;
      prepared = greatest_of (λ x. Unit {0} × Accepted b (Prepared x)) (λ x. IsInA Prepare b old x) list old.prepared prepared (λ x has p. ((all x).0 has, p.1)) (λ x a. ((all x).1 a.0, (tt, a.1))) g;
      prime = record {
        among = λ x e. let k = under.among x e in (elim k.0 [ inl a ↦ inl ((all x).0 a.0, a.1) | inr held ↦ inr held ], k.1);
        greatest = λ x h. under.greatest x (elim h.0 [ inl a ↦ inl ((all x).1 a.0, a.1) | inr held ↦ inr held ], h.1);
      };
      low = where_clears old.high old.low prepared prime low clears;
    }

    pub accepts_answers : (next : State) (t : Bool) → next ≡ record old { prepared = prepared; prime = prime; low = low }
        → IsTrue t ↔ ((prepared ≡ old.prepared) × (prime ≡ old.prime) × (low ≡ old.low)) → t ≡ false → Answers (AcceptsInPrepare b) old (Some next)
    accepts_answers next t made exact failed = (
      subst (λ s. AcceptsInPrepare b old s) (sym made) accepts,
      λ same.
          let e : holding ≡ old = sym made ∙ same in
          not_both t (exact.1 (ap (λ (s : State). s.prepared) e, ap (λ (s : State). s.prime) e, ap (λ (s : State). s.low) e)) failed,
    )

    pub accepts_rests : (prepared ≡ old.prepared) × (prime ≡ old.prime) × (low ≡ old.low) → Answers (AcceptsInPrepare b) old None
    accepts_rests same =
        let e : holding ≡ old =
        ap (λ (o : Option Ballot). let s : State = record old { prepared = o; prime = prime; low = low } in s) same.0
        ∙ ap (λ (o : Option Ballot). let s : State = record old { prime = o; low = low } in s) same.1
        ∙ ap (λ (o : Option Ballot). let s : State = record old { low = o } in s) same.2
        in
        subst (λ s. AcceptsInPrepare b old s) e accepts

  -- accept more
  module _ (c : Ballot) (is : old.low ≡ Some c) (prepared : Option Ballot) (g : IsGreatest (λ x. (x.value ≡ c.value) × Accepted b (Prepared x)) list old.prepared prepared) where
    abbrev with_more : State
    with_more = record old { prepared = prepared }

    accepts_in_confirm : AcceptsInConfirm b old with_more
    accepts_in_confirm = record {
      frame = refl;
      prepared = greatest_of (λ x. (x.value ≡ c.value) × Accepted b (Prepared x)) (λ x. IsInA Confirm b old x) list old.prepared prepared
          (λ x has p. ((all x).0 has, p.1, some_and (λ c. c.value ≡ x.value) old.low c is (sym p.0))) (λ x a. ((all x).1 a.0, (sym (at_some (λ c. c.value ≡ x.value) old.low c is a.2), a.1))) g;
    }

    pub more_answers : (next : State) (t : Bool) → next ≡ record old { prepared = prepared } → IsTrue t ↔ (prepared ≡ old.prepared) → t ≡ false → Answers (AcceptsInConfirm b) old (Some next)
    more_answers next t made exact failed = (
      subst (λ s. AcceptsInConfirm b old s) (sym made) accepts_in_confirm,
      λ same. let e : with_more ≡ old = sym made ∙ same in not_both t (exact.1 (ap (λ (s : State). s.prepared) e)) failed,
    )

    pub more_rests : prepared ≡ old.prepared → Answers (AcceptsInConfirm b) old None
    more_rests same = let e : with_more ≡ old = ap (λ (o : Option Ballot). let s : State = record old { prepared = o } in s) same in subst (λ s. AcceptsInConfirm b old s) e accepts_in_confirm

-- without a low end nothing more is accepted
pub no_low_rests : (b : Seen) (old : State) → old.low ≡ None → Answers (AcceptsInConfirm b) old None
no_low_rests b old none = record {
  frame = refl;
  prepared = record {
    among = λ x e. inr e;
    greatest = λ x h. elim h [
      | inl a ↦ (let c = some_of (λ c. c.value ≡ x.value) old.low a.2 in none_some old.low c.0 none c.1)
      | inr e ↦ some_and (λ y. AtMost x y) old.prepared x e (inl refl)
    ];
  };
}
