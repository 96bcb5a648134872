-- What the rule that confirms a ballot as prepared builds is what the protocol says.
use Rattle.std.proofs.Common.{Bool, true, false, IsTrue, ◌≡◌, ◌≢◌, ◌↔◌, List, Option, Some, None, IsSomeAnd, IfSome, Contains, refl, sym, ◌∙◌, ap, subst, ◌⊎◌, inl, inr}
use Rattle.std.specs.Option.{ForSome}
use Rattle.scp_vote.specs.scp_types.specs.declared.ballot.Ballot.{Ballot}
use Rattle.scp_vote.specs.scp_envelope.specs.Ballots.{IsLess}
use Rattle.scp_vote.specs.declared.claim.Claim.TheVariants.{Prepared}
use Rattle.scp_vote.specs.Board.{Seen, Confirmed}
use Rattle.scp_ballot_rules.specs.declared.state.State.{State}
use Rattle.scp_ballot_rules.specs.Order.{AtMost, IsOver, IsAbove}
use Rattle.scp_ballot_rules.specs.Ready.{NoneOver}
use Rattle.scp_ballot_rules.specs.Rules.{Joins}
use Rattle.scp_ballot_rules.specs.Rests.{ConfirmsNoMore}
use Rattle.scp_ballot_rules.specs.Greatest.{IsGreatestOf, Where, IsOf}
use Rattle.scp_ballot_rules.specs.ConfirmPrepared.{IsConfirmedCandidate, Enters, ConfirmsInPrepare}
use Rattle.scp_ballot_rules.specs.Steps.{Answers}
use Rattle.scp_ballot_rules.proofs.Options.{some_of, some_and, at_some, none_some}
use Rattle.scp_ballot_rules.proofs.Order.{at_most_less, less_irrefl}
use Rattle.scp_ballot_rules.specs.Finding.{AreCandidates}
use Rattle.scp_ballot_rules.specs.inside.Finding.{IsGreatest, JoinsState, MayVote, Revises, RevisesLow}
use Rattle.scp_ballot_rules.proofs.Primes.{not_above}

pub confirmed_greatest : (b : Seen) (floor : Option Ballot) (list : List Ballot) (best : Option Ballot) → AreCandidates b list → IsGreatest (λ x. Unit {0} × Confirmed b (Prepared x)) list floor best → (best ≡ floor → ⊥)
    → IsGreatestOf (λ y. IsConfirmedCandidate b y) best
confirmed_greatest b floor list best all g differs = record {
  among = λ x e. elim g.found [
    | inl same ↦ absurd (differs same)
    | inr more ↦ let y = at_some (λ x. (Unit {0} × Confirmed b (Prepared x)) × IsAbove x floor × Contains list x) best x e more in ((all x).0 y.2, y.0.1)
  ];
  greatest = λ x h. not_above x best (g.others x ((all x).1 h.0) (tt, h.1));
}

pub greatest_some : (b : Seen) (best : Option Ballot) → IsGreatestOf (λ y. IsConfirmedCandidate b y) best → IfSome best (λ x. IsGreatestOf (λ y. IsConfirmedCandidate b y) (Some x))
greatest_some b None g = tt
greatest_some b (Some x) g = g

module _ (x : Ballot) (old next : State) where
  below : (o : Option Ballot) (P : Ballot → Type 0) → IsSomeAnd o (λ b. AtMost x b × P b) → ForSome o (λ b. IsLess b x) → ⊥
  below o P h f = let b = some_of (λ b. AtMost x b × P b) o h in less_irrefl x (at_most_less x b.0 x b.2.0 (f b.0 b.1))

  enters : next.confirmed ≡ Some x → Joins x old next → Enters x old next
  enters confirmed (inl (less, present, high)) = record { confirmed = confirmed; present = inl (less, present); high = inl (inl less, high) }
  enters confirmed (inr (inl (there, present, high))) =
      let b = some_of (λ b. AtMost x b × (x.value ≡ b.value)) old.present there in
      record {
        confirmed = confirmed;
        present = inr (below old.present (λ b. x.value ≡ b.value) there, present);
        high = inl (inr (some_and (λ y. y.value ≡ x.value) old.present b.0 b.1 (sym b.2.1)), high);
      }
  enters confirmed (inr (inr (there, present, high))) = record {
    confirmed = confirmed;
    present = inr (below old.present (λ b. x.value ≢ b.value) there, present);
    high = inr (
      λ h. elim h [
        | inl less ↦ below old.present (λ b. x.value ≢ b.value) there less
        | inr same ↦
            let b = some_of (λ y. y.value ≡ x.value) old.present same in
            (at_some (λ b. AtMost x b × (x.value ≢ b.value)) old.present b.0 b.1 there).1 (sym b.2)
      ],
      high,
    );
  }

-- the low end after it, by way of the one that is left where it is incompatible
cleared_none : (c p : Option Ballot) → (IsSomeAnd c (λ c. IsSomeAnd p (λ b. c.value ≡ b.value)) → ⊥) → Where (IsSomeAnd c (λ c. IsOf c.value p → ⊥)) None c None
cleared_none None p lost = inr (λ h. absurd h, refl)
cleared_none (Some c) p lost = inl (λ of. (let b = some_of (λ y. y.value ≡ c.value) p of in lost (some_and (λ b. c.value ≡ b.value) p b.0 b.1 (sym b.2))), refl)

cleared_kept : (c p : Option Ballot) → IsSomeAnd c (λ c. IsSomeAnd p (λ b. c.value ≡ b.value)) → Where (IsSomeAnd c (λ c. IsOf c.value p → ⊥)) None c c
cleared_kept c p kept = inr (
  λ h.
      let x = some_of (λ c. IsOf c.value p → ⊥) c h in
      let b = some_of (λ b. x.0.value ≡ b.value) p (at_some (λ c. IsSomeAnd p (λ b. c.value ≡ b.value)) c x.0 x.1 kept) in
      x.2 (some_and (λ y. y.value ≡ x.0.value) p b.0 b.1 (sym b.2)),
  refl,
)

is_none : (o : Option Ballot) (P : Ballot → Type 0) → IsSomeAnd o P → o ≡ None → ⊥
is_none o P h e = let x = some_of P o h in none_some o x.0 e x.1

module _ (b : Seen) (old mid : State) (low : Option Ballot) (same_low : mid.low ≡ old.low) (same_prepared : mid.prepared ≡ old.prepared) (same_prime : mid.prime ≡ old.prime) where
  abbrev after : State
  after = record mid { low = low }

  over_same : (h : Ballot) → NoneOver mid h ↔ NoneOver old h
  over_same h = (
    λ n. (subst (λ o. IsOver o h → ⊥) same_prepared n.0, subst (λ o. IsOver o h → ⊥) same_prime n.1),
    λ n. (subst (λ o. IsOver o h → ⊥) (sym same_prepared) n.0, subst (λ o. IsOver o h → ⊥) (sym same_prime) n.1),
  )

  may_vote : MayVote mid ↔ IsSomeAnd mid.high (λ h. (mid.present ≡ Some h) × NoneOver old h)
  may_vote = (
    λ m. (let h = some_of (λ h. (mid.present ≡ Some h) × NoneOver mid h) mid.high m in some_and (λ h. (mid.present ≡ Some h) × NoneOver old h) mid.high h.0 h.1 (h.2.0, (over_same h.0).0 h.2.1)),
    λ m. (let h = some_of (λ h. (mid.present ≡ Some h) × NoneOver old h) mid.high m in some_and (λ h. (mid.present ≡ Some h) × NoneOver mid h) mid.high h.0 h.1 (h.2.0, (over_same h.0).1 h.2.1)),
  )

  -- whichever way w came, the low end is as the protocol says
  pub confirms_by : mid ≡ record old { present = mid.present; confirmed = mid.confirmed; high = mid.high }
      → ((x : Ballot) × IsGreatestOf (λ y. IsConfirmedCandidate b y) (Some x) × IsAbove x old.confirmed × Enters x old mid)
      ⊎ (((x : Ballot) → IsConfirmedCandidate b x → ¬ (IsAbove x old.confirmed)) × (mid.confirmed ≡ old.confirmed) × (mid.present ≡ old.present) × (mid.high ≡ old.high)) → Revises mid low → ConfirmsInPrepare b old after
  confirms_by frame joined (inl kept) = record {
    frame = ap (λ (s : State). let t : State = record s { low = low } in t) frame;
    joined = elim joined [ inl h ↦ inl (h.0, h.1, h.2, record { confirmed = h.3.confirmed; present = h.3.present; high = h.3.high }) | inr h ↦ inr h ];
    cleared = old.low;
    clears = cleared_kept old.low mid.present (subst (λ o. IsSomeAnd o (λ c. IsSomeAnd mid.present (λ b. c.value ≡ b.value))) same_low kept.1);
    votes = inr (λ k. is_none mid.low (λ c. IsSomeAnd mid.present (λ b. c.value ≡ b.value)) kept.1 (same_low ∙ k.0), kept.0 ∙ same_low);
  }
  confirms_by frame joined (inr (inl votes)) = record {
    frame = ap (λ (s : State). let t : State = record s { low = low } in t) frame;
    joined = elim joined [ inl h ↦ inl (h.0, h.1, h.2, record { confirmed = h.3.confirmed; present = h.3.present; high = h.3.high }) | inr h ↦ inr h ];
    cleared = None;
    clears = cleared_none old.low mid.present (λ k. votes.2 (subst (λ o. IsSomeAnd o (λ c. IsSomeAnd mid.present (λ b. c.value ≡ b.value))) (sym same_low) k));
    votes = inl ((refl, may_vote.0 votes.1), votes.0);
  }
  confirms_by frame joined (inr (inr none)) = record {
    frame = ap (λ (s : State). let t : State = record s { low = low } in t) frame;
    joined = elim joined [ inl h ↦ inl (h.0, h.1, h.2, record { confirmed = h.3.confirmed; present = h.3.present; high = h.3.high }) | inr h ↦ inr h ];
    cleared = None;
    clears = cleared_none old.low mid.present (λ k. none.2 (subst (λ o. IsSomeAnd o (λ c. IsSomeAnd mid.present (λ b. c.value ≡ b.value))) (sym same_low) k));
    votes = inr (λ k. none.1 (may_vote.1 k.1), none.0);
  }

-- a newly confirmed ballot joined
pub confirm_answers : (b : Seen) (x : Ballot) (old mid next : State) (low : Option Ballot) → IsGreatestOf (λ y. IsConfirmedCandidate b y) (Some x) → IsAbove x old.confirmed → JoinsState x old mid → Revises mid low → next ≡ record mid { low = low }
    → Answers (ConfirmsInPrepare b) old (Some next)
confirm_answers b x old mid next low greatest above joins revises is = (
  subst (λ s. ConfirmsInPrepare b old s) (sym is)
      (confirms_by b old mid low (ap (λ (s : State). s.low) joins.frame) (ap (λ (s : State). s.prepared) joins.frame) (ap (λ (s : State). s.prime) joins.frame)
      (joins.frame ∙ ap (λ (o : Option Ballot). let t : State = record old { present = mid.present; confirmed = o; high = mid.high } in t) (sym there)) (inl (x, greatest, above, enters x old mid there joins.joins)) revises),
  λ same. less_irrefl x (above x (ap (λ (s : State). s.confirmed) (sym same ∙ is) ∙ there)),
)
  where
    there : mid.confirmed ≡ Some x
    there = ap (λ (s : State). s.confirmed) joins.frame

none_above : (b : Seen) (old : State) → ConfirmsNoMore b old → (x : Ballot) → IsConfirmedCandidate b x → ¬ (IsAbove x old.confirmed)
none_above b old none x h above = let w = some_of (λ w. AtMost x w) old.confirmed (none x h.0 h.1) in less_irrefl x (at_most_less x w.0 x w.2 (above w.0 w.1))

-- none did, and the low end alone was revised, or not even that
pub revise_answers : (b : Seen) (old : State) (found : Option State) → ConfirmsNoMore b old → Answers RevisesLow old found → Answers (ConfirmsInPrepare b) old found
revise_answers b old None none revises = confirms_by b old old old.low refl refl refl refl (inr (none_above b old none, refl, refl, refl)) revises.1
revise_answers b old (Some next) none revises = (
  subst (λ s. ConfirmsInPrepare b old s) (sym revises.0.0) (confirms_by b old old next.low refl refl refl refl (inr (none_above b old none, refl, refl, refl)) revises.0.1),
  revises.1,
)

pub low_answers : (old next : State) (low : Option Ballot) (t : Bool) → Revises old low → next ≡ record old { low = low } → IsTrue t ↔ (low ≡ old.low) → t ≡ false → Answers RevisesLow old (Some next)
low_answers old next low t revises is exact failed = (
  subst (λ s. RevisesLow old s) (sym is) (refl, revises),
  λ same. let k : true ≡ false = sym (exact.1 (ap (λ (s : State). s.low) (sym is ∙ same))) ∙ failed in cc,
)

pub low_rests : (old : State) (low : Option Ballot) → Revises old low → low ≡ old.low → Answers RevisesLow old None
low_rests old low revises same = (refl, subst (λ o. Revises old o) same revises)
