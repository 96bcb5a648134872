-- The rules say only values that are on the board or in the state.
use Rattle.std.proofs.Common.{◌≡◌, ◌≢◌, ℕ, zero, suc, Bool, true, false, List, [], Option, Some, None, cond, refl, sym, ap, subst, inl, inr}
use Rattle.std.specs.Prelude.{IsSomeAnd}
use Rattle.std.specs.Option.{ForSome, option_map}
use Rattle.std.specs.BTreeMap.{is_at}
use Rattle.scp_vote.specs.scp_types.specs.declared.ballot.Ballot.{Ballot}
use Rattle.scp_vote.specs.scp_types.specs.declared.names.Hash.{Hash}
use Rattle.scp_vote.specs.scp_quorum.specs.NodeSet.{node_cmp}
use Rattle.scp_vote.specs.scp_envelope.specs.declared.statement.Pledges.{Pledges}
use Rattle.scp_vote.specs.scp_envelope.specs.declared.statement.Pledges.TheVariants.{Prepare as Preparing, Confirm as Confirming, Externalize as Externalizing, Nominate as Nominating}
use Rattle.scp_vote.specs.scp_envelope.specs.Short.{SaysOnly}
use Rattle.scp_vote.specs.Board.{Seen}
use Rattle.scp_ballot_rules.specs.declared.state.State.{State}
use Rattle.scp_ballot_rules.specs.declared.state.Phase.{Phase}
use Rattle.scp_ballot_rules.specs.declared.state.Phase.TheVariants.{Prepare, Confirm, Externalize}
use Rattle.scp_ballot_rules.specs.Own.{own_of, own_in, or_zero}
use Rattle.scp_ballot_rules.specs.Owed.{Names, Bounds, IsCandidate, IsBoundary}
use Rattle.scp_ballot_rules.specs.Rules.{IsHeld, raised_value}
use Rattle.scp_ballot_rules.specs.Greatest.{Where, ballot_at}
use Rattle.scp_ballot_rules.specs.AcceptPrepared.{AcceptPrepared, AcceptsInPrepare, AcceptsInConfirm}
use Rattle.scp_ballot_rules.specs.ConfirmPrepared.{ConfirmPrepared, ConfirmsInPrepare, Enters}
use Rattle.scp_ballot_rules.specs.AcceptCommit.{AcceptCommit, TakesRange, IsHeldOf}
use Rattle.scp_ballot_rules.specs.ConfirmCommit.{ConfirmCommit, Commits}
use Rattle.scp_ballot_rules.specs.RaiseCounter.{value_to_raise, Raised, RaiseTo, RaiseCounter}
use Rattle.scp_ballot_rules.specs.Steps.{Step, renewed, Settles}
use Rattle.scp_ballot_rules.specs.Inputs.{Composed, Compose, Time, AfterInput}
use Rattle.scp_ballot_rules.proofs.Options.{none_some, for_some}
use Rattle.scp_ballot_rules.specs.Values.{BoardSaysOnly, StateSaysOnly, Passes, StepSaysNoMore, ComposingSaysNoMore, TimingSaysNoMore, InputSaysNoMore}

for_each : {A : Type 0} (R Q : A → Type 0) (o : Option A) → ((x : A) → R x → Q x) → ForSome o R → ForSome o Q
for_each R Q o then all = λ x e. then x (all x e)

for_one : {A : Type 0} (R : A → Type 0) (Q : A → Type 0) (C : Type 0) (o : Option A) → ((x : A) → R x → Q x → C) → ForSome o R → IsSomeAnd o Q → C
for_one R Q C None then all has = absurd has
for_one R Q C (Some x) then all has = then x (all x refl) has

none_has : {A : Type 0} (R : A → Type 0) → ForSome None R
none_has R = λ x e. none_some None x refl e

one_has : {A : Type 0} (R : A → Type 0) (y : A) → R y → ForSome (Some y) R
one_has R y h = for_some R (Some y) y refl h

module _ (P : List ℕ → Type 0) where
  abbrev Has : Option Ballot → Type 0
  Has o = ForSome o (λ (x : Ballot). P x.value)

  no_ballot : Has None
  no_ballot = none_has (λ (x : Ballot). P x.value)

  ballot_has : (x : Ballot) → P x.value → Has (Some x)
  ballot_has x h = one_has (λ (y : Ballot). P y.value) x h

  is_has : (o n : Option Ballot) → n ≡ o → Has o → Has n
  is_has o n e h = subst (λ (x : Option Ballot). Has x) (sym e) h

  where_has : (Q : Type 0) (becomes was new : Option Ballot) → Where Q becomes was new → Has becomes → Has was → Has new
  where_has Q becomes was new (inl now) then before = is_has becomes new now.1 then
  where_has Q becomes was new (inr old) then before = is_has was new old.1 before

  named_has : (p : Pledges) (x : Ballot) → SaysOnly P p → Names p x → P x.value
  named_has (Preparing p) x says (inl e) = subst (λ (y : Ballot). P y.value) e says.0
  named_has (Preparing p) x says (inr (inl e)) = says.1 x e
  named_has (Preparing p) x says (inr (inr e)) = says.2 x e
  named_has (Confirming p) x says (inl e) = subst (λ (y : Ballot). P y.value) e says
  named_has (Confirming p) x says (inr (inl e)) = subst (λ (y : Ballot). P y.value) e says
  named_has (Confirming p) x says (inr (inr e)) = subst (λ (y : Ballot). P y.value) e says
  named_has (Externalizing p) x says (inl e) = subst (λ (y : Ballot). P y.value) e says
  named_has (Externalizing p) x says (inr e) = subst (λ (y : Ballot). P y.value) e says
  named_has (Nominating p) x says named = absurd named

  bound_has : (p : Pledges) (v : List ℕ) (n : ℕ) → SaysOnly P p → Bounds p v n → P v
  bound_has (Preparing p) v n says bounds = subst (λ (w : List ℕ). P w) bounds.1 says.0
  bound_has (Confirming p) v n says bounds = subst (λ (w : List ℕ). P w) bounds.0 says
  bound_has (Externalizing p) v n says bounds = subst (λ (w : List ℕ). P w) bounds.0 says
  bound_has (Nominating p) v n says bounds = absurd bounds

  candidate_has : (b : Seen) (x : Ballot) → BoardSaysOnly P b → IsCandidate b x → P x.value
  candidate_has b x board c = for_one (λ p. SaysOnly P p) (λ p. Names p x) (P x.value) (b.statement c.node) (λ p says named. named_has p x says named) (board c.node) c.named

  boundary_has : (b : Seen) (v : List ℕ) (n : ℕ) → BoardSaysOnly P b → IsBoundary b v n → P v
  boundary_has b v n board c = for_one (λ p. SaysOnly P p) (λ p. Bounds p v n) (P v) (b.statement c.node) (λ p says bounds. bound_has p v n says bounds) (board c.node) c.bounds

  same_has : (s t : State) → t ≡ s → StateSaysOnly P s → StateSaysOnly P t
  same_has s t e h = subst (λ (x : State). StateSaysOnly P x) (sym e) h

  -- rule 1
  accepts_prepare : (b : Seen) (s t : State) → BoardSaysOnly P b → StateSaysOnly P s → AcceptsInPrepare b s t → StateSaysOnly P t
  accepts_prepare b s t board h a =
      let held : (x : Ballot) → IsHeld s x → P x.value = λ x is. elim is [ inl e ↦ h.prepared x e | inr e ↦ h.prime x e ] in
      record {
        present = is_has s.present t.present (ap (λ (x : State). x.present) a.frame) h.present;
        prepared = for_each _ (λ (x : Ballot). P x.value) t.prepared (λ x is. elim is [ inl new ↦ candidate_has b x board new.0 | inr e ↦ held x (inl e) ]) a.prepared.among;
        prime = for_each _ (λ (x : Ballot). P x.value) t.prime (λ x is. elim is.0 [ inl new ↦ candidate_has b x board new.0 | inr old ↦ held x old ]) a.prime.among;
        confirmed = is_has s.confirmed t.confirmed (ap (λ (x : State). x.confirmed) a.frame) h.confirmed;
        high = is_has s.high t.high (ap (λ (x : State). x.high) a.frame) h.high;
        low = where_has _ None s.low t.low a.low no_ballot h.low;
        composite = subst (λ (o : Option (List ℕ)). ForSome o P) (sym (ap (λ (x : State). x.composite) a.frame)) h.composite;
      }

  accepts_confirm : (b : Seen) (s t : State) → BoardSaysOnly P b → StateSaysOnly P s → AcceptsInConfirm b s t → StateSaysOnly P t
  accepts_confirm b s t board h a = record {
    present = is_has s.present t.present (ap (λ (x : State). x.present) a.frame) h.present;
    prepared = for_each _ (λ (x : Ballot). P x.value) t.prepared (λ x is. elim is [ inl new ↦ candidate_has b x board new.0 | inr e ↦ h.prepared x e ]) a.prepared.among;
    prime = is_has s.prime t.prime (ap (λ (x : State). x.prime) a.frame) h.prime;
    confirmed = is_has s.confirmed t.confirmed (ap (λ (x : State). x.confirmed) a.frame) h.confirmed;
    high = is_has s.high t.high (ap (λ (x : State). x.high) a.frame) h.high;
    low = is_has s.low t.low (ap (λ (x : State). x.low) a.frame) h.low;
    composite = subst (λ (o : Option (List ℕ)). ForSome o P) (sym (ap (λ (x : State). x.composite) a.frame)) h.composite;
  }

  accept_prepared : (p : Phase) (b : Seen) (s t : State) → BoardSaysOnly P b → StateSaysOnly P s → AcceptPrepared p b s t → StateSaysOnly P t
  accept_prepared Prepare b s t board h a = accepts_prepare b s t board h a
  accept_prepared Confirm b s t board h a = accepts_confirm b s t board h a
  accept_prepared Externalize b s t board h e = same_has s t e h

  -- rule 2
  record Joined (t : State) : Type 0 where
    pub confirmed : Has t.confirmed
    pub present : Has t.present
    pub high : Has t.high

  entered : (x : Ballot) (s t : State) → P x.value → StateSaysOnly P s → Enters x s t → Joined t
  entered x s t px h enters = record {
    confirmed = is_has (Some x) t.confirmed enters.confirmed (ballot_has x px);
    present = where_has _ (Some x) s.present t.present enters.present (ballot_has x px) h.present;
    high = where_has _ (Some x) s.high t.high enters.high (ballot_has x px) h.high;
  }

  joined : (b : Seen) (s t : State) → BoardSaysOnly P b → StateSaysOnly P s → ConfirmsInPrepare b s t → Joined t
  joined b s t board h a = elim a.joined [
    | inl new ↦ entered new.0 s t (candidate_has b new.0 board (new.1.among new.0 refl).0) h new.3
    | inr old ↦ record {
      confirmed = is_has s.confirmed t.confirmed old.1 h.confirmed;
      present = is_has s.present t.present old.2 h.present;
      high = is_has s.high t.high old.3 h.high;
    }
  ]

  confirms_prepare : (b : Seen) (s t : State) → BoardSaysOnly P b → StateSaysOnly P s → ConfirmsInPrepare b s t → StateSaysOnly P t
  confirms_prepare b s t board h a =
      let new : Joined t = joined b s t board h a in
      record {
        present = new.present;
        prepared = is_has s.prepared t.prepared (ap (λ (x : State). x.prepared) a.frame) h.prepared;
        prime = is_has s.prime t.prime (ap (λ (x : State). x.prime) a.frame) h.prime;
        confirmed = new.confirmed;
        high = new.high;
        low = where_has _ t.present a.cleared t.low a.votes new.present (where_has _ None s.low a.cleared a.clears no_ballot h.low);
        composite = subst (λ (o : Option (List ℕ)). ForSome o P) (sym (ap (λ (x : State). x.composite) a.frame)) h.composite;
      }

  confirm_prepared : (p : Phase) (b : Seen) (s t : State) → BoardSaysOnly P b → StateSaysOnly P s → ConfirmPrepared p b s t → StateSaysOnly P t
  confirm_prepared Prepare b s t board h a = confirms_prepare b s t board h a
  confirm_prepared Confirm b s t board h e = same_has s t e h
  confirm_prepared Externalize b s t board h e = same_has s t e h

  -- rule 3
  takes_range : (v : List ℕ) (lo hi : ℕ) (s t : State) → P v → StateSaysOnly P s → Has t.prepared → TakesRange v lo hi s t → StateSaysOnly P t
  takes_range v lo hi s t pv h prepared a = record {
    present = where_has _ _ s.present t.present a.present (ballot_has (ballot_at hi v) pv) h.present;
    prepared = prepared;
    prime = is_has None t.prime (ap (λ (x : State). x.prime) a.frame) no_ballot;
    confirmed = is_has s.confirmed t.confirmed (ap (λ (x : State). x.confirmed) a.frame) h.confirmed;
    high = is_has (Some (ballot_at hi v)) t.high (ap (λ (x : State). x.high) a.frame) (ballot_has (ballot_at hi v) pv);
    low = is_has (Some (ballot_at lo v)) t.low (ap (λ (x : State). x.low) a.frame) (ballot_has (ballot_at lo v) pv);
    composite = subst (λ (o : Option (List ℕ)). ForSome o P) (sym (ap (λ (x : State). x.composite) a.frame)) h.composite;
  }

  held_has : (v : List ℕ) (s : State) (o : Option Ballot) → StateSaysOnly P s → IsHeldOf v s o → Has o
  held_has v s o h (inl first) = is_has s.prepared o first.1 h.prepared
  held_has v s o h (inr other) = where_has _ s.prime None o other.1 h.prime no_ballot

  accept_commit : (p : Phase) (b : Seen) (s t : State) → BoardSaysOnly P b → StateSaysOnly P s → AcceptCommit p b s t → StateSaysOnly P t
  accept_commit Prepare b s t board h (inl (v, lo, hi, a)) = takes_range v lo hi s t (boundary_has b v hi board a.range.high.0) h (held_has v s t.prepared h a.prepared) a.takes
  accept_commit Prepare b s t board h (inr none) = same_has s t none.1 h
  accept_commit Confirm b s t board h (inl (v, lo, hi, a)) = takes_range v lo hi s t (boundary_has b v hi board a.range.high.0) h (is_has s.prepared t.prepared a.prepared h.prepared) a.takes
  accept_commit Confirm b s t board h (inr none) = same_has s t none.1 h
  accept_commit Externalize b s t board h e = same_has s t e h

  -- rule 4
  commits : (b : Seen) (v : List ℕ) (lo hi : ℕ) (s t : State) → BoardSaysOnly P b → StateSaysOnly P s → Commits b v lo hi s t → StateSaysOnly P t
  commits b v lo hi s t board h a =
      let pv : P v = boundary_has b v hi board a.range.high.0 in
      same_has (record s { phase = Externalize; high = Some (ballot_at hi v); low = Some (ballot_at lo v) }) t a.takes (record { present = h.present; prepared = h.prepared; prime = h.prime; confirmed = h.confirmed; high = ballot_has (ballot_at hi v) pv; low = ballot_has (ballot_at lo v) pv; composite = h.composite })

  confirm_commit : (p : Phase) (b : Seen) (s t : State) → BoardSaysOnly P b → StateSaysOnly P s → ConfirmCommit p b s t → StateSaysOnly P t
  confirm_commit Prepare b s t board h e = same_has s t e h
  confirm_commit Confirm b s t board h (inl (v, lo, hi, a)) = commits b v lo hi s t board h a
  confirm_commit Confirm b s t board h (inr none) = same_has s t none.1 h
  confirm_commit Externalize b s t board h e = same_has s t e h

  -- rule 5
  raised_has : (w : Option Ballot) (z : Option (List ℕ)) (p : Option Ballot) → Has w → ForSome z P → Has p → ForSome (raised_value w z p) P
  raised_has (Some w) z p hw hz hp = one_has P w.value (hw w refl)
  raised_has None (Some z) p hw hz hp = hz
  raised_has None None (Some p) hw hz hp = one_has P p.value (hp p refl)
  raised_has None None None hw hz hp = none_has P

  mapped_has : (o : Option Ballot) → Has o → ForSome (option_map (λ (c : Ballot). c.value) o) P
  mapped_has None h = none_has P
  mapped_has (Some x) h = one_has P x.value (h x refl)

  value_has : (p : Phase) (s : State) → StateSaysOnly P s → ForSome (value_to_raise p s) P
  value_has Prepare s h = raised_has s.confirmed s.composite s.prepared h.confirmed h.composite h.prepared
  value_has Confirm s h = mapped_has s.low h.low
  value_has Externalize s h = none_has P

  raises : (n : ℕ) (v : List ℕ) (s t : State) → P v → StateSaysOnly P s → Raised n v s t → StateSaysOnly P t
  raises n v s t pv h a = record {
    present = is_has (Some (ballot_at n v)) t.present (ap (λ (x : State). x.present) a.frame) (ballot_has (ballot_at n v) pv);
    prepared = is_has s.prepared t.prepared (ap (λ (x : State). x.prepared) a.frame) h.prepared;
    prime = is_has s.prime t.prime (ap (λ (x : State). x.prime) a.frame) h.prime;
    confirmed = is_has s.confirmed t.confirmed (ap (λ (x : State). x.confirmed) a.frame) h.confirmed;
    high = where_has _ s.confirmed s.high t.high a.high h.confirmed h.high;
    low = where_has _ None s.low t.low a.low no_ballot h.low;
    composite = subst (λ (o : Option (List ℕ)). ForSome o P) (sym (ap (λ (x : State). x.composite) a.frame)) h.composite;
  }

  raise_to : (n : ℕ) (s t : State) → StateSaysOnly P s → RaiseTo n s t → StateSaysOnly P t
  raise_to n s t h (inl (v, is, above, a)) = raises n v s t (value_has s.phase s h v is) h a
  raise_to n s t h (inr none) = same_has s t none.1 h

  raise_counter : (b : Seen) (s t : State) → StateSaysOnly P s → RaiseCounter b s t → StateSaysOnly P t
  raise_counter b s t h (inl (ahead, (n, least, a))) = raise_to n s t h a
  raise_counter b s t h (inr none) = same_has s t none.1 h

  step_has : (b : Seen) (s t : State) → BoardSaysOnly P b → StateSaysOnly P s → Step b s t → StateSaysOnly P t
  step_has b s t board h (inl a) = accept_prepared s.phase b s t board h a.0
  step_has b s t board h (inr (_, inl a)) = confirm_prepared s.phase b s t board h a.0
  step_has b s t board h (inr (_, inr (_, inl a))) = accept_commit s.phase b s t board h a.0
  step_has b s t board h (inr (_, inr (_, inr (_, inl a)))) = confirm_commit s.phase b s t board h a.0
  step_has b s t board h (inr (_, inr (_, inr (_, inr (_, a))))) = raise_counter b s t h a

  -- the own statement, and the board with it
  zero_has : (o : Option Ballot) → P [] → Has o → P (or_zero o).value
  zero_has None none h = none
  zero_has (Some x) none h = h x refl

  own_has : (p : Phase) (hash : Hash) (s : State) → P [] → StateSaysOnly P s → SaysOnly P (own_in p hash s)
  own_has Prepare hash s none h = (zero_has s.present none h.present, h.prepared, h.prime)
  own_has Confirm hash s none h = zero_has s.present none h.present
  own_has Externalize hash s none h = zero_has s.low none h.low

  put_has : (at : Bool) (o : Option Pledges) (q : Pledges) → SaysOnly P q → ForSome o (λ p. SaysOnly P p) → ForSome (cond at (Some q) o) (λ p. SaysOnly P p)
  put_has true o q says all = one_has (λ p. SaysOnly P p) q says
  put_has false o q says all = all

  renewed_has : (hash : Hash) (b : Seen) (s : State) → P [] → BoardSaysOnly P b → StateSaysOnly P s → BoardSaysOnly P (renewed hash b s)
  renewed_has hash b s none board h v = put_has (is_at (node_cmp b.me) v) (b.statement v) (own_of hash s) (own_has s.phase hash s none h) (board v)

  settles_has : (n : ℕ) (hash : Hash) (b : Seen) (s : State) (c : Seen) (t : State) (more : Bool) → P [] → BoardSaysOnly P b → StateSaysOnly P s → Settles n hash b s c t more → BoardSaysOnly P c × StateSaysOnly P t
  settles_has zero hash b s c t more none board h a = (subst (λ (x : Seen). BoardSaysOnly P x) (sym a.0) board, same_has s t a.1 h)
  settles_has (suc n) hash b s c t more none board h (inl a) = (subst (λ (x : Seen). BoardSaysOnly P x) (sym a.1) board, same_has s t a.2 h)
  settles_has (suc n) hash b s c t more none board h (inr (next, step, ne, rest)) =
      let then : StateSaysOnly P next = step_has b s next board h step in
      settles_has n hash (renewed hash b next) next c t more none (renewed_has hash b next none board then) then rest

  starts_has : (hash : Hash) (b : Seen) (s mid : State) (start : Seen) → P [] → BoardSaysOnly P b → StateSaysOnly P mid → Where (mid ≢ s) (renewed hash b mid) b start → BoardSaysOnly P start
  starts_has hash b s mid start none board h (inl new) = subst (λ (x : Seen). BoardSaysOnly P x) (sym new.1) (renewed_has hash b mid none board h)
  starts_has hash b s mid start none board h (inr old) = subst (λ (x : Seen). BoardSaysOnly P x) (sym old.1) board

  pub input_has : (hash : Hash) (b : Seen) (s mid : State) (c : Seen) (t : State) (more : Bool) → P [] → BoardSaysOnly P b → StateSaysOnly P mid → AfterInput hash b s mid c t more → BoardSaysOnly P c × StateSaysOnly P t
  input_has hash b s mid c t more none board h a = settles_has 64 hash a.start mid c t more none (starts_has hash b s mid a.start none board h a.renews) h a.settles

  composed_has : (z : List ℕ) (s t : State) → P z → StateSaysOnly P s → Composed z s t → StateSaysOnly P t
  composed_has z s t pz h a = record {
    present = where_has _ _ s.present t.present a.present (ballot_has (ballot_at 1 z) pz) h.present;
    prepared = is_has s.prepared t.prepared (ap (λ (x : State). x.prepared) a.frame) h.prepared;
    prime = is_has s.prime t.prime (ap (λ (x : State). x.prime) a.frame) h.prime;
    confirmed = is_has s.confirmed t.confirmed (ap (λ (x : State). x.confirmed) a.frame) h.confirmed;
    high = is_has s.high t.high (ap (λ (x : State). x.high) a.frame) h.high;
    low = is_has s.low t.low (ap (λ (x : State). x.low) a.frame) h.low;
    composite = subst (λ (o : Option (List ℕ)). ForSome o P) (sym (ap (λ (x : State). x.composite) a.frame)) (one_has P z pz);
  }

  pub compose_has : (p : Phase) (z : List ℕ) (s t : State) → P z → StateSaysOnly P s → Compose p z s t → StateSaysOnly P t
  compose_has Prepare z s t pz h a = composed_has z s t pz h a
  compose_has Confirm z s t pz h e = same_has s t e h
  compose_has Externalize z s t pz h e = same_has s t e h

  pub time_has : (s t : State) → StateSaysOnly P s → Time s t → StateSaysOnly P t
  time_has s t h (inl last) = same_has s t last.1 h
  time_has s t h (inr on) = raise_to _ s t h on.1

pub step_says : StepSaysNoMore
step_says test b s t board h step = step_has (Passes test) b s t board h step

pub composing_says : ComposingSaysNoMore
composing_says test p z s t pz h a = compose_has (Passes test) p z s t pz h a

pub timing_says : TimingSaysNoMore
timing_says test s t h a = time_has (Passes test) s t h a

pub input_says : InputSaysNoMore
input_says test hash b s mid c t more none board h a = input_has (Passes test) hash b s mid c t more none board h a
