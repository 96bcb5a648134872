-- Lists of values that contain one another.
use Rattle.std.proofs.Common.{◌≡◌, ◌↔◌, ◌<◌, ◌⊎◌, ℕ, List, Bool, true, false, IsTrue, length, inl, inr, ⊎_elim}
use Rattle.std.specs.Bool.{MatchBool}
use Rattle.std.specs.List.{All, AllWithin, HoldsAt, Contains}
use Rattle.std.proofs.lemmas.Iterator.Search.{true_from_All}
use Rattle.std.proofs.lemmas.List.Elements.{All-contains, All-weaker, All-contains_itself, All-from_all_within}
use Rattle.scp_envelope.specs.declared.statement.Nominate.{Nominate}
use Rattle.scp_envelope.specs.Newer.{ContainsAll, IsNewerNominate}

-- where two lists contain a third's and so on
pub contains_all_trans : (a b c : List (List ℕ)) → ContainsAll b a → ContainsAll c b → ContainsAll c a
unfolding ContainsAll
contains_all_trans a b c ab bc = All-weaker (Contains b) (Contains c) (λ v has. All-contains (Contains c) b v bc has) a ab

pub contains_all_itself : (a : List (List ℕ)) → ContainsAll a a
unfolding ContainsAll
contains_all_itself a = All-contains_itself a

pub newer_nominate-irreflexive : (p : Nominate) → IsNewerNominate p p → ⊥
newer_nominate-irreflexive p h = ⊎_elim (λ f. f (contains_all_itself p.votes)) (λ f. f (contains_all_itself p.accepted)) h.larger

pub newer_nominate-trans : (p q r : Nominate) → IsNewerNominate p q → IsNewerNominate q r → IsNewerNominate p r
newer_nominate-trans p q r h k = record {
  votes = contains_all_trans p.votes q.votes r.votes h.votes k.votes;
  accepted = contains_all_trans p.accepted q.accepted r.accepted h.accepted k.accepted;
  larger = ⊎_elim
      (λ f. inl (λ back. f (contains_all_trans q.votes r.votes p.votes k.votes back)))
      (λ f. inr (λ back. f (contains_all_trans q.accepted r.accepted p.accepted k.accepted back)))
      h.larger;
}

-- each was found, or one wasn't
pub contains_all_decided : (new old : List (List ℕ)) (r : Bool) → MatchBool r (AllWithin (λ v. Contains new v) old 0 (length old)) ((k : ℕ) × (k < length old) × HoldsAt (λ v. ¬ (Contains new v)) old k) → IsTrue r ↔ ContainsAll new old
unfolding ContainsAll
contains_all_decided new old r h = (λ t. from_answer r h t, λ all. true_from_All (Contains new) (λ v. ¬ (Contains new v)) r old (λ v has hasn't. hasn't has) h all)
  where
    from_answer : (b : Bool) → MatchBool b (AllWithin (λ v. Contains new v) old 0 (length old)) ((k : ℕ) × (k < length old) × HoldsAt (λ v. ¬ (Contains new v)) old k) → IsTrue b → All (λ v. Contains new v) old
    from_answer true h t = All-from_all_within (Contains new) old h
    from_answer false h t = let e : false ≡ true = t in cc

pub newer_decided : (old new : Nominate) (r : Bool) → ContainsAll new.votes old.votes × ContainsAll new.accepted old.accepted → (IsTrue r ↔ ((¬ (ContainsAll old.votes new.votes)) ⊎ (¬ (ContainsAll old.accepted new.accepted)))) → (IsTrue r ↔ IsNewerNominate old new)
newer_decided old new r keeps larger = (λ t. record { votes = keeps.0; accepted = keeps.1; larger = larger.0 t }, λ h. larger.1 h.larger)
