-- What is due for a value of the nomination, and what is told of it.
use Rattle.std.proofs.Common.{◌≡◌, ◌↔◌, ℕ, List, Option, Some, None, IsSomeAnd, IsTrue, Contains, refl, sym, ◌∙◌, ap, subst, ◌⊎◌, inl, inr}
use Rattle.std.specs.BTreeSet.{BTreeSet, contains}
use Rattle.std.proofs.lemmas.Cmp.{nat_list_cmp_total}
use Rattle.std.proofs.lemmas.Map.Lookups.{exact_bytes}
use Rattle.std.proofs.lemmas.Map.Views.{btree_set_contains_iff}
use Rattle.scp_kv.specs.scp_types.specs.declared.names.NodeId.{NodeId}
use Rattle.scp_ballot_rules.specs.scp_envelope.specs.Ballots.{value_cmp}
use Rattle.scp_ballot_rules.specs.scp_envelope.specs.declared.statement.Pledges.{Pledges}
use Rattle.scp_ballot_rules.specs.scp_vote.specs.declared.board.Board.{Board}
use Rattle.scp_ballot_rules.specs.scp_vote.specs.declared.claim.StatementKind.TheVariants.{Nomination}
use Rattle.scp_ballot_rules.specs.scp_vote.specs.declared.claim.Claim.{Claim}
use Rattle.scp_ballot_rules.specs.scp_vote.specs.declared.claim.Claim.TheVariants.{Prepared, Committed, Nominated}
use Rattle.scp_ballot_rules.specs.scp_vote.specs.declared.claim.Support.TheVariants.{VotesOrAccepts, Accepts}
use Rattle.scp_ballot_rules.specs.scp_vote.specs.Claims.{Stands}
use Rattle.scp_ballot_rules.specs.scp_vote.specs.Board.{Seen, Accepted, Confirmed}
use Rattle.scp_ballot_rules.specs.scp_vote.specs.Seen.{seen}
use Rattle.scp_stand_needs.specs.declared.steps.Step.{Step}
use Rattle.scp_stand_needs.specs.declared.steps.Step.TheVariants.{AcceptNominated, ConfirmNominated, AcceptPrepared, ConfirmPrepared, AcceptCommit, ConfirmCommit}
use Rattle.scp_stand_needs.specs.declared.steps.Need.{Need}
use Rattle.scp_stand_needs.specs.Needs.{IsNamed, IsNominationDue, value_of}
use Rattle.scp_stand_needs.specs.inside.Found.{IsNext, IsNeedFor}

-- who accepts stands by it
accepts_stands : (claim : Claim) (p : Pledges) → Stands Accepts claim p → Stands VotesOrAccepts claim p
accepts_stands (Prepared x) p h = inr h
accepts_stands (Committed low high v) p h = λ n l u. inr (h n l u)
accepts_stands (Nominated v) p h = inr h

has_stands : (claim : Claim) (o : Option Pledges) → IsSomeAnd o (Stands Accepts claim) → IsSomeAnd o (Stands VotesOrAccepts claim)
has_stands claim None h = absurd h
has_stands claim (Some p) h = accepts_stands claim p h

-- what is confirmed is accepted
pub confirmed_accepted : (b : Seen) (claim : Claim) → Confirmed b claim → Accepted b claim
confirmed_accepted b claim h = inl (h.0, h.1, λ v in'. has_stands claim (b.statement v) (h.2 v in'))

module _ (b : Seen) (value : List ℕ) where
  -- the two steps that may be due for the value
  abbrev Either : Step → Claim → Type 0
  Either step claim = (claim ≡ Nominated value) × (((step ≡ AcceptNominated) × (¬ (Accepted b (Nominated value)))) ⊎ ((step ≡ ConfirmNominated) × Accepted b (Nominated value) × (¬ (Confirmed b (Nominated value)))))

  due_at : (step : Step) (claim : Claim) → IsNominationDue b step claim → value_of claim ≡ value → Either step claim
  due_at AcceptNominated claim due same =
      let is : claim ≡ Nominated value = due.1 ∙ ap Nominated (sym (ap value_of due.1) ∙ same) in
      (is, inl (refl, λ a. due.3 (subst (λ (c : Claim). Accepted b c) (sym is) a)))
  due_at ConfirmNominated claim due same =
      let is : claim ≡ Nominated value = due.1 ∙ ap Nominated (sym (ap value_of due.1) ∙ same) in
      (is, inr (refl, subst (λ (c : Claim). Accepted b c) is due.3, λ a. due.4 (subst (λ (c : Claim). Confirmed b c) (sym is) a)))
  due_at AcceptPrepared claim due same = absurd due
  due_at ConfirmPrepared claim due same = absurd due
  due_at AcceptCommit claim due same = absurd due
  due_at ConfirmCommit claim due same = absurd due

  is_due : (step : Step) (claim : Claim) → IsNamed b value → Either step claim → IsNominationDue b step claim
  is_due step claim named h = elim h.1 [
    | inl accept ↦ subst (λ (s : Step). IsNominationDue b s claim) (sym accept.0) (value, h.0, named, λ a. accept.1 (subst (λ (c : Claim). Accepted b c) h.0 a))
    | inr confirm ↦ subst (λ (s : Step). IsNominationDue b s claim) (sym confirm.0) (value, h.0, named, subst (λ (c : Claim). Accepted b c) (sym h.0) confirm.1, λ a. confirm.2 (subst (λ (c : Claim). Confirmed b c) h.0 a))
  ]

  one_step : (step other : Step) (claim another : Claim) → Either step claim → Either other another → (step ≡ other) × (claim ≡ another)
  one_step step other claim another h k = (
    (elim h.1 [
      | inl accept ↦ elim k.1 [ inl a ↦ accept.0 ∙ sym a.0 | inr c ↦ absurd (accept.1 c.1) ]
      | inr confirm ↦ elim k.1 [ inl a ↦ absurd (a.1 confirm.1) | inr c ↦ confirm.0 ∙ sym c.0 ]
    ]),
    h.0 ∙ sym k.0,
  )

  none_due : Confirmed b (Nominated value) → (step : Step) (claim : Claim) → Either step claim → ⊥
  none_due done step claim h = elim h.1 [
    | inl accept ↦ accept.1 (confirmed_accepted b (Nominated value) done)
    | inr confirm ↦ confirm.2 done
  ]

pub nominated_for : (board : Board) (members : List NodeId) (value : List ℕ) (next : Option Need) → IsNamed (seen Nomination board) value → IsNext board members AcceptNominated ConfirmNominated (Nominated value) next
    → IsNeedFor board members (IsNominationDue (seen Nomination board)) value next
nominated_for board members value None named h = record {
  sound = tt;
  complete = λ step claim due same. none_due (seen Nomination board) value h.none step claim (due_at (seen Nomination board) value step claim due same);
}
nominated_for board members value (Some need) named h =
    let b = seen Nomination board in
    let told : Either b value need.step need.claim = (h.some.1, h.some.2) in
    record {
      sound = (h.some.0, is_due b value need.step need.claim named told, ap value_of h.some.1);
      complete = λ step claim due same. one_step b value need.step step need.claim claim told (due_at b value step claim due same);
    }

-- the value of what is due is named
pub due_named : (b : Seen) (step : Step) (claim : Claim) → IsNominationDue b step claim → IsNamed b (value_of claim)
due_named b AcceptNominated claim due = subst (λ (c : Claim). IsNamed b (value_of c)) (sym due.1) due.2
due_named b ConfirmNominated claim due = subst (λ (c : Claim). IsNamed b (value_of c)) (sym due.1) due.2
due_named b AcceptPrepared claim due = absurd due
due_named b ConfirmPrepared claim due = absurd due
due_named b AcceptCommit claim due = absurd due
due_named b ConfirmCommit claim due = absurd due

pub due_listed : (b : Seen) (set : BTreeSet (List ℕ)) → ((v : List ℕ) → IsTrue (contains value_cmp set v) ↔ IsNamed b v) → (step : Step) (claim : Claim) → IsNominationDue b step claim → Contains set.keys (value_of claim)
due_listed b set named step claim due = (btree_set_contains_iff nat_list_cmp_total exact_bytes set (value_of claim)).0 ((named (value_of claim)).1 (due_named b step claim due))
