-- What is due for a value of the ballots, and what is told of it.
use Rattle.std.proofs.Common.{◌≡◌, ℕ, Bool, true, false, List, [], ◌∷◌, ◌++◌, Option, Some, None, Contains, refl, sym, ◌∙◌, ap, subst, ◌⊎◌, inl, inr}
use Rattle.std.specs.Option.{option_to_list, is_some}
use Rattle.std.specs.BTreeMap as tree
use Rattle.std.proofs.lemmas.Cmp.{nat_list_cmp_total}
use Rattle.std.proofs.lemmas.Option.{same_Some}
use Rattle.std.proofs.lemmas.Map.Lookups.{exact_bytes}
use Rattle.std.proofs.lemmas.Map.Views.{btree_map_contains_key_iff}
use Rattle.std.proofs.lemmas.List.Elements.{Contains-push}
use Rattle.scp_kv.specs.scp_types.specs.declared.names.NodeId.{NodeId}
use Rattle.scp_kv.specs.scp_types.specs.declared.ballot.Ballot.{Ballot}
use Rattle.scp_ballot_rules.specs.scp_envelope.specs.declared.statement.Pledges.{Pledges}
use Rattle.scp_ballot_rules.specs.scp_envelope.specs.declared.statement.Pledges.TheVariants.{Confirm as Confirming, Externalize as Externalizing, Nominate as Nominating}
use Rattle.scp_ballot_rules.specs.scp_envelope.specs.declared.statement.Confirm.{Confirm}
use Rattle.scp_ballot_rules.specs.scp_envelope.specs.declared.statement.Externalize.{Externalize}
use Rattle.scp_ballot_rules.specs.scp_envelope.specs.declared.statement.Nominate.{Nominate}
use Rattle.scp_ballot_rules.specs.scp_envelope.specs.Ballots.{value_cmp}
use Rattle.scp_ballot_rules.specs.Greatest.{ballot_at}
use Rattle.scp_ballot_rules.specs.Owed.{IsCandidate, IsBoundary}
use Rattle.scp_ballot_rules.specs.scp_vote.specs.declared.board.Board.{Board}
use Rattle.scp_ballot_rules.specs.scp_vote.specs.declared.claim.StatementKind.TheVariants.{Balloting}
use Rattle.scp_ballot_rules.specs.scp_vote.specs.declared.claim.Claim.{Claim}
use Rattle.scp_ballot_rules.specs.scp_vote.specs.declared.claim.Claim.TheVariants.{Prepared, Committed}
use Rattle.scp_ballot_rules.specs.scp_vote.specs.Board.{Seen, Accepted, Confirmed}
use Rattle.scp_ballot_rules.specs.scp_vote.specs.Seen.{seen}
use Rattle.scp_stand_needs.specs.declared.steps.Step.{Step}
use Rattle.scp_stand_needs.specs.declared.steps.Step.TheVariants.{AcceptNominated, ConfirmNominated, AcceptPrepared, ConfirmPrepared, AcceptCommit, ConfirmCommit}
use Rattle.scp_stand_needs.specs.declared.steps.Need.{Need}
use Rattle.scp_stand_needs.specs.Needs.{IsPreparing, IsTopBallot, IsTopBoundary, IsBallotDue, value_of, AreBallotNeeds}
use Rattle.scp_stand_needs.specs.inside.Found.{IsGreatest, IsNeedOf, IsNext, IsNeedFor}
use Rattle.scp_stand_needs.proofs.Counters.{Counters, has_counter, same_top, same_boundary, top_boundary}
use Rattle.scp_stand_needs.proofs.Due.{confirmed_accepted}
use Rattle.scp_stand_needs.proofs.Listing.{AreSoFar, so_far_start, so_far_more, so_far_end, sorted_none, sorted_one}

-- a node that prepares says no CONFIRM
prepares_no_confirm : (o : Option Pledges) (p : Confirm) → IsPreparing o → o ≡ Some (Confirming p) → ⊥
prepares_no_confirm o p prepares is = let P : Option Pledges → Type 0 = λ q. IsPreparing q in absurd (subst P is prepares)

module _ (b : Seen) (x : Ballot) (top : IsTopBallot b x) (prepares : IsPreparing (b.statement b.me)) where
  -- the steps that may be due for its value
  abbrev Accepting : Step → Claim → Type 0
  Accepting step claim = (step ≡ AcceptPrepared) × (claim ≡ Prepared x) × (¬ (Accepted b (Prepared x)))

  abbrev ConfirmingIt : Step → Claim → Type 0
  ConfirmingIt step claim = (step ≡ ConfirmPrepared) × (claim ≡ Prepared x) × Accepted b (Prepared x) × (¬ (Confirmed b (Prepared x)))

  abbrev Committing : Step → Claim → Type 0
  Committing step claim = (n : ℕ) × (step ≡ AcceptCommit) × (claim ≡ Committed n n x.value) × Confirmed b (Prepared x) × IsTopBoundary b x.value n × (¬ (Accepted b (Committed n n x.value)))

  due_at : (step : Step) (claim : Claim) → IsBallotDue b step claim → value_of claim ≡ x.value → Accepting step claim ⊎ ConfirmingIt step claim ⊎ Committing step claim
  due_at AcceptPrepared claim (own, (y, named, its, isnt)) same =
      let is : y ≡ x = same_top b x y top its (sym (ap value_of named) ∙ same) in
      let e : claim ≡ Prepared x = named ∙ ap Prepared is in
      inl (refl, e, λ a. isnt (subst (λ (c : Claim). Accepted b c) (sym e) a))
  due_at ConfirmPrepared claim (own, (y, named, its, accepted, isnt)) same =
      let is : y ≡ x = same_top b x y top its (sym (ap value_of named) ∙ same) in
      let e : claim ≡ Prepared x = named ∙ ap Prepared is in
      inr (inl (refl, e, subst (λ (c : Claim). Accepted b c) e accepted, λ a. isnt (subst (λ (c : Claim). Confirmed b c) (sym e) a)))
  due_at AcceptCommit claim (own, (y, n, named, its, done, bound, isnt)) same =
      let is : y ≡ x = same_top b x y top its (sym (ap value_of named) ∙ same) in
      let e : claim ≡ Committed n n x.value = named ∙ ap (λ (z : Ballot). Committed n n z.value) is in
      inr (inr (n, refl, e, subst (λ (z : Ballot). Confirmed b (Prepared z)) is done, subst (λ (z : Ballot). IsTopBoundary b z.value n) is bound, λ a. isnt (subst (λ (c : Claim). Accepted b c) (sym e) a)))
  due_at ConfirmCommit claim (p, own, named, isnt) same = absurd (prepares_no_confirm (b.statement b.me) p prepares own)
  due_at AcceptNominated claim due same = absurd due
  due_at ConfirmNominated claim due same = absurd due

  accept_due : (step : Step) (claim : Claim) → Accepting step claim → IsBallotDue b step claim
  accept_due step claim h = subst (λ (s : Step). IsBallotDue b s claim) (sym h.0) (prepares, (x, h.1, top, λ a. h.2 (subst (λ (c : Claim). Accepted b c) h.1 a)))

  confirm_due : (step : Step) (claim : Claim) → ConfirmingIt step claim → IsBallotDue b step claim
  confirm_due step claim h = subst (λ (s : Step). IsBallotDue b s claim) (sym h.0) (prepares, (x, h.1, top, subst (λ (c : Claim). Accepted b c) (sym h.1) h.2, λ a. h.3 (subst (λ (c : Claim). Confirmed b c) h.1 a)))

  commit_due : (step : Step) (claim : Claim) → Committing step claim → IsBallotDue b step claim
  commit_due step claim (n, s, e, done, bound, isnt) = subst (λ (t : Step). IsBallotDue b t claim) (sym s) (prepares, (x, n, e, top, done, bound, λ a. isnt (subst (λ (c : Claim). Accepted b c) e a)))

  -- once it is confirmed as prepared, only the commit is due
  commit_only : Confirmed b (Prepared x) → (step : Step) (claim : Claim) → IsBallotDue b step claim → value_of claim ≡ x.value → Committing step claim
  commit_only done step claim due same = elim (due_at step claim due same) [
    | inl accept ↦ absurd (accept.2 (confirmed_accepted b (Prepared x) done))
    | inr later ↦ elim later [ inl confirm ↦ absurd (confirm.3 done) | inr commit ↦ commit ]
  ]

  prepared_one : (step other : Step) (claim another : Claim) → Accepting step claim ⊎ ConfirmingIt step claim → IsBallotDue b other another → value_of another ≡ x.value → (step ≡ other) × (claim ≡ another)
  prepared_one step other claim another h due same = elim h [
    | inl accept ↦ elim (due_at other another due same) [
      | inl a ↦ (accept.0 ∙ sym a.0, accept.1 ∙ sym a.1)
      | inr later ↦ elim later [ inl c ↦ absurd (accept.2 c.2) | inr c ↦ absurd (accept.2 (confirmed_accepted b (Prepared x) c.3)) ]
    ]
    | inr confirm ↦ elim (due_at other another due same) [
      | inl a ↦ absurd (a.2 confirm.2)
      | inr later ↦ elim later [ inl c ↦ (confirm.0 ∙ sym c.0, confirm.1 ∙ sym c.1) | inr c ↦ absurd (confirm.3 c.3) ]
    ]
  ]

  prepared_due : (step : Step) (claim : Claim) → Accepting step claim ⊎ ConfirmingIt step claim → IsBallotDue b step claim
  prepared_due step claim h = elim h [ inl a ↦ accept_due step claim a | inr c ↦ confirm_due step claim c ]

module _ (board : Board) (members : List NodeId) (x : Ballot) (top : IsTopBallot (seen Balloting board) x) (prepares : IsPreparing ((seen Balloting board).statement (seen Balloting board).me)) where
  pub prepared_for : (need : Need) → IsNext board members AcceptPrepared ConfirmPrepared (Prepared x) (Some need) → IsNeedFor board members (IsBallotDue (seen Balloting board)) x.value (Some need)
  prepared_for need h =
      let b = seen Balloting board in
      let told : Accepting b x top prepares need.step need.claim ⊎ ConfirmingIt b x top prepares need.step need.claim = elim h.some.2 [
        | inl a ↦ inl (a.0, h.some.1, a.1)
        | inr c ↦ inr (c.0, h.some.1, c.1, c.2)
      ] in
      record {
        sound = (h.some.0, prepared_due b x top prepares need.step need.claim told, ap value_of h.some.1);
        complete = λ step claim due same. prepared_one b x top prepares need.step step need.claim claim told due same;
      }

  commit_for : (n : ℕ) (next : Option Need) → Confirmed (seen Balloting board) (Prepared x) → IsTopBoundary (seen Balloting board) x.value n → IsNeedOf board members AcceptCommit (Committed n n x.value) next
      → IsNeedFor board members (IsBallotDue (seen Balloting board)) x.value next
  commit_for n None done bound h =
      let b = seen Balloting board in
      record {
        sound = tt;
        complete = λ step claim due same.
            let c = commit_only b x top prepares done step claim due same in
            let e : c.0 ≡ n = same_boundary b x.value n c.0 bound c.4 in
            c.5 (subst (λ (m : ℕ). Accepted b (Committed m m x.value)) (sym e) h.none);
      }
  commit_for n (Some need) done bound h =
      let b = seen Balloting board in
      record {
        sound = (h.some.0, commit_due b x top prepares need.step need.claim (n, h.some.1, h.some.2, done, bound, h.some.3), ap value_of h.some.2);
        complete = λ step claim due same.
            let c = commit_only b x top prepares done step claim due same in
            let e : n ≡ c.0 = sym (same_boundary b x.value n c.0 bound c.4) in
            (h.some.1 ∙ sym c.1, h.some.2 ∙ ap (λ (m : ℕ). Committed m m x.value) e ∙ sym c.2);
      }

  pub bounded_for : (n : ℕ) (o : Option ℕ) (next : Option Need) → o ≡ Some n → Confirmed (seen Balloting board) (Prepared x) → IsGreatest (IsBoundary (seen Balloting board) x.value) o → IsNeedOf board members AcceptCommit (Committed n n x.value) next
      → IsNeedFor board members (IsBallotDue (seen Balloting board)) x.value next
  bounded_for n o next is done greatest h =
      let b = seen Balloting board in
      commit_for n next done (top_boundary b x.value n (subst (λ (p : Option ℕ). IsGreatest (IsBoundary b x.value) p) is greatest)) h

  pub unbounded_for : (o : Option ℕ) → o ≡ None → Confirmed (seen Balloting board) (Prepared x) → IsGreatest (IsBoundary (seen Balloting board) x.value) o → IsNeedFor board members (IsBallotDue (seen Balloting board)) x.value None
  unbounded_for o is done greatest =
      let b = seen Balloting board in
      record {
        sound = tt;
        complete = λ step claim due same.
            let c = commit_only b x top prepares done step claim due same in
            let none : IsGreatest (IsBoundary b x.value) None = subst (λ (p : Option ℕ). IsGreatest (IsBoundary b x.value) p) is greatest in
            none c.0 c.4.boundary;
      }

-- of an own CONFIRM only its commit is due
module _ (b : Seen) (p : Confirm) (own : b.statement b.me ≡ Some (Confirming p)) where
  abbrev Ours : Step → Claim → Type 0
  Ours step claim = (step ≡ ConfirmCommit) × (claim ≡ Committed p.n_high p.n_high p.ballot.value) × (¬ (Confirmed b (Committed p.n_high p.n_high p.ballot.value)))

  same_confirm : (q : Confirm) → b.statement b.me ≡ Some (Confirming q) → q ≡ p
  same_confirm q is = let e : Some (Confirming q) ≡ Some (Confirming p) = sym is ∙ own in cc

  ours_at : (step : Step) (claim : Claim) → IsBallotDue b step claim → Ours step claim
  ours_at ConfirmCommit claim (q, is, named, isnt) =
      let e : claim ≡ Committed p.n_high p.n_high p.ballot.value = named ∙ ap (λ (r : Confirm). Committed r.n_high r.n_high r.ballot.value) (same_confirm q is) in
      (refl, e, λ a. isnt (subst (λ (c : Claim). Confirmed b c) (sym e) a))
  ours_at AcceptPrepared claim due = absurd (prepares_no_confirm (b.statement b.me) p due.0 own)
  ours_at ConfirmPrepared claim due = absurd (prepares_no_confirm (b.statement b.me) p due.0 own)
  ours_at AcceptCommit claim due = absurd (prepares_no_confirm (b.statement b.me) p due.0 own)
  ours_at AcceptNominated claim due = absurd due
  ours_at ConfirmNominated claim due = absurd due

  ours_due : (step : Step) (claim : Claim) → Ours step claim → IsBallotDue b step claim
  ours_due step claim h = subst (λ (s : Step). IsBallotDue b s claim) (sym h.0) (p, own, h.1, λ a. h.2 (subst (λ (c : Claim). Confirmed b c) h.1 a))

module _ (board : Board) (members : List NodeId) (p : Confirm) (own : (seen Balloting board).statement (seen Balloting board).me ≡ Some (Confirming p)) where
  confirm_for : (next : Option Need) → IsNeedOf board members ConfirmCommit (Committed p.n_high p.n_high p.ballot.value) next → IsNeedFor board members (IsBallotDue (seen Balloting board)) p.ballot.value next
  confirm_for None h = record {
    sound = tt;
    complete = λ step claim due same. (ours_at (seen Balloting board) p own step claim due).2 h.none;
  }
  confirm_for (Some need) h =
      let b = seen Balloting board in
      record {
        sound = (h.some.0, ours_due b p own need.step need.claim (h.some.1, h.some.2, h.some.3), ap value_of h.some.2);
        complete = λ step claim due same. let c = ours_at b p own step claim due in (h.some.1 ∙ sym c.0, h.some.2 ∙ sym c.1);
      }

  pub confirm_needs : (needs start : List Need) (next : Option Need) → IsNeedOf board members ConfirmCommit (Committed p.n_high p.n_high p.ballot.value) next → start ≡ [] → needs ≡ start ++ option_to_list next → AreBallotNeeds board members needs
  confirm_needs needs start next h empty is =
      let b = seen Balloting board in
      let first : AreSoFar board members (IsBallotDue b) (p.ballot.value ∷ []) [] = so_far_start board members (IsBallotDue b) (p.ballot.value ∷ []) (sorted_one p.ballot.value)
      (λ step claim due. subst (λ (w : List ℕ). Contains (p.ballot.value ∷ []) w) (sym (ap value_of (ours_at b p own step claim due).1)) (Contains-push [] p.ballot.value)) in
      so_far_end board members (IsBallotDue b) needs
      (so_far_more board members (IsBallotDue b) p.ballot.value [] [] needs next (confirm_for next h) (is ∙ ap (λ (ns : List Need). ns ++ option_to_list next) empty) first)

-- where this node said neither a PREPARE nor a CONFIRM, nothing is due
pub nothing_due : (board : Board) (members : List NodeId) (needs : List Need) (p : Pledges) → (seen Balloting board).statement (seen Balloting board).me ≡ Some p → (IsPreparing (Some p) → ⊥) → ((q : Confirm) → p ≡ Confirming q → ⊥) → needs ≡ []
    → AreBallotNeeds board members needs
nothing_due board members needs p own prepares confirms empty =
    let b = seen Balloting board in
    subst (λ (ns : List Need). AreBallotNeeds board members ns) (sym empty) (so_far_end board members (IsBallotDue b) [] (so_far_start board members (IsBallotDue b) [] sorted_none (λ step claim due. absurd (none step claim due))))
  where
    says : IsPreparing ((seen Balloting board).statement (seen Balloting board).me) → ⊥
    says h = let P : Option Pledges → Type 0 = λ q. IsPreparing q in prepares (subst P own h)

    none : (step : Step) (claim : Claim) → IsBallotDue (seen Balloting board) step claim → ⊥
    none AcceptPrepared claim due = says due.0
    none ConfirmPrepared claim due = says due.0
    none AcceptCommit claim due = says due.0
    none ConfirmCommit claim due = confirms due.0 (same_Some p (Confirming due.0) (sym own ∙ due.1))
    none AcceptNominated claim due = due
    none ConfirmNominated claim due = due

pub externalized_needs : (board : Board) (members : List NodeId) (needs : List Need) (p : Externalize) → (seen Balloting board).statement (seen Balloting board).me ≡ Some (Externalizing p) → needs ≡ [] → AreBallotNeeds board members needs
externalized_needs board members needs p own empty = nothing_due board members needs (Externalizing p) own (λ h. h) (λ q e. cc) empty

pub nominating_needs : (board : Board) (members : List NodeId) (needs : List Need) (p : Nominate) → (seen Balloting board).statement (seen Balloting board).me ≡ Some (Nominating p) → needs ≡ [] → AreBallotNeeds board members needs
nominating_needs board members needs p own empty = nothing_due board members needs (Nominating p) own (λ h. h) (λ q e. cc) empty

-- the value of what is due has a counter
pub due_listed : (b : Seen) (counters : Counters) → ((v : List ℕ) → IsGreatest (λ n. IsCandidate b (ballot_at n v)) (tree.get value_cmp counters v)) → IsPreparing (b.statement b.me)
    → (step : Step) (claim : Claim) → IsBallotDue b step claim → Contains (tree.keys counters) (value_of claim)
due_listed b counters greatest prepares step claim due = at step due
  where
    listed : (x : Ballot) → value_of claim ≡ x.value → IsTopBallot b x → Contains (tree.keys counters) (value_of claim)
    listed x is top =
        let found = has_counter b x (tree.get value_cmp counters x.value) top.candidate (greatest x.value) in
        subst (λ (v : List ℕ). Contains (tree.keys counters) v) (sym is) ((btree_map_contains_key_iff nat_list_cmp_total exact_bytes counters x.value).0 (ap is_some found.1))

    at : (step : Step) → IsBallotDue b step claim → Contains (tree.keys counters) (value_of claim)
    at AcceptPrepared (own, (x, named, top, isnt)) = listed x (ap value_of named) top
    at ConfirmPrepared (own, (x, named, top, accepted, isnt)) = listed x (ap value_of named) top
    at AcceptCommit (own, (x, n, named, top, done, bound, isnt)) = listed x (ap value_of named) top
    at ConfirmCommit (p, own, named, isnt) = absurd (prepares_no_confirm (b.statement b.me) p prepares own)
    at AcceptNominated none = absurd none
    at ConfirmNominated none = absurd none

-- whether something is needed to be prepared
module _ (board : Board) (members : List NodeId) (x : Ballot) where
  pub prepared_next : (next : Option Need) (any : Bool) → any ≡ is_some next → any ≡ true → IsTopBallot (seen Balloting board) x → IsPreparing ((seen Balloting board).statement (seen Balloting board).me)
      → IsNext board members AcceptPrepared ConfirmPrepared (Prepared x) next → IsNeedFor board members (IsBallotDue (seen Balloting board)) x.value next
  prepared_next None any told is top prepares h = absurd cc
  prepared_next (Some need) any told is top prepares h = prepared_for board members x top prepares need h

  pub prepared_done : (next : Option Need) (any : Bool) → any ≡ is_some next → any ≡ false → IsNext board members AcceptPrepared ConfirmPrepared (Prepared x) next → Confirmed (seen Balloting board) (Prepared x)
  prepared_done None any told isnt h = h.none
  prepared_done (Some need) any told isnt h = absurd cc
