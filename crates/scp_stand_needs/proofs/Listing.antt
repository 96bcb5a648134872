-- Going over values that ascend, what each needs is listed.
use Rattle.std.proofs.Common.{◌≡◌, ℕ, ◌<◌, List, [], ◌∷◌, ◌++◌, map, Option, Some, None, Contains, sym, subst, ◌⊎◌, inl, inr}
use Rattle.std.specs.List.{All, Any, AllByRecursion}
use Rattle.std.specs.List.Sorted.{IsStrictlySortedBy}
use Rattle.std.specs.Option.{option_to_list}
use Rattle.std.specs.declared.cmp.Ordering.TheVariants.{Less}
use Rattle.std.proofs.lemmas.List.{append-nil}
use Rattle.std.proofs.lemmas.List.Elements.{All-nil, All-push, All-contains, All-from_recursion, Contains-append_left, Contains-append_right, Contains-push, Contains-push_cases}
use Rattle.scp_kv.specs.scp_types.specs.declared.names.NodeId.{NodeId}
use Rattle.scp_ballot_rules.specs.scp_envelope.specs.Ballots.{value_cmp}
use Rattle.scp_ballot_rules.specs.scp_vote.specs.declared.board.Board.{Board}
use Rattle.scp_ballot_rules.specs.scp_vote.specs.declared.claim.Claim.{Claim}
use Rattle.scp_stand_needs.specs.declared.steps.Step.{Step}
use Rattle.scp_stand_needs.specs.declared.steps.Need.{Need}
use Rattle.scp_stand_needs.specs.Needs.{IsNeed, value_of, AreNeeds}
use Rattle.scp_stand_needs.specs.inside.Found.{IsNeedFor}
use Rattle.scp_stand_needs.proofs.Ascending.{none_there, first_or_rest}

abbrev pub told_value : Need → List ℕ
told_value need = value_of need.claim

abbrev pub IsOf : Step → Claim → Need → Type 0
IsOf step claim need = (need.step ≡ step) × (need.claim ≡ claim)

all_push : (P : List ℕ → Type 0) (ns : List Need) (need : Need) → AllByRecursion P (map told_value ns) → P (told_value need) → AllByRecursion P (map told_value (ns ++ need ∷ []))
all_push P [] need all p = (p, tt)
all_push P (n ∷ ns) need all p = (all.0, all_push P ns need all.1 p)

tail_contains : (n : Need) (ns : List Need) (other : Need) → Contains ns other → Contains (n ∷ ns) other
tail_contains n ns other h = Contains-append_right (n ∷ []) ns other h

sorted_push : (ns : List Need) (need : Need) → IsStrictlySortedBy value_cmp (map told_value ns) → ((other : Need) → Contains ns other → value_cmp (told_value other) (told_value need) ≡ Less)
    → IsStrictlySortedBy value_cmp (map told_value (ns ++ need ∷ []))
unfolding IsStrictlySortedBy
sorted_push [] need up below = (tt, tt)
sorted_push (n ∷ ns) need up below = (
  all_push (λ w. value_cmp (told_value n) w ≡ Less) ns need up.0 (below n (Contains-append_left (n ∷ []) ns n (Contains-push [] n))),
  sorted_push ns need up.1 (λ other h. below other (tail_contains n ns other h)),
)

pub sorted_none : IsStrictlySortedBy value_cmp []
unfolding IsStrictlySortedBy
sorted_none = tt

pub sorted_one : (v : List ℕ) → IsStrictlySortedBy value_cmp (v ∷ [])
unfolding IsStrictlySortedBy
sorted_one v = (tt, tt)

below_rest : (v : List ℕ) (rest : List (List ℕ)) → IsStrictlySortedBy value_cmp (v ∷ rest) → (w : List ℕ) → Contains rest w → value_cmp v w ≡ Less
unfolding IsStrictlySortedBy
below_rest v rest up w h = All-contains (λ x. value_cmp v x ≡ Less) rest w (All-from_recursion (λ x. value_cmp v x ≡ Less) rest up.0) h

sorted_rest : (v : List ℕ) (rest : List (List ℕ)) → IsStrictlySortedBy value_cmp (v ∷ rest) → IsStrictlySortedBy value_cmp rest
unfolding IsStrictlySortedBy
sorted_rest v rest up = up.1

-- the same element, in a list and as one of which P holds
any_of : (P : Need → Type 0) (ns : List Need) (need : Need) → Contains ns need → P need → Any P ns
any_of P ns need h p = (h.0, need, h.1, h.2, p)

any_more : (P : Need → Type 0) (ns : List Need) (need : Need) → Any P ns → Any P (ns ++ need ∷ [])
any_more P ns need h = any_of P (ns ++ need ∷ []) h.1 (Contains-append_left ns (need ∷ []) h.1 (h.0, h.2, h.3)) h.4

-- the needs of the values so far; these values are left
pub record AreSoFar (board : Board) (members : List NodeId) (IsDue : Step → Claim → Type 0) (rest : List (List ℕ)) (needs : List Need) : Type 0 where
  pub each : All (IsNeed board members) needs
  pub due : All (λ (need : Need). IsDue need.step need.claim) needs
  pub all : (step : Step) (claim : Claim) → IsDue step claim → Any (IsOf step claim) needs ⊎ Contains rest (value_of claim)
  pub ascending : IsStrictlySortedBy value_cmp (map told_value needs)
  pub ahead : (need : Need) → Contains needs need → (v : List ℕ) → Contains rest v → value_cmp (told_value need) v ≡ Less
  pub sorted : IsStrictlySortedBy value_cmp rest

module _ (board : Board) (members : List NodeId) (IsDue : Step → Claim → Type 0) where
  pub so_far_start : (rest : List (List ℕ)) → IsStrictlySortedBy value_cmp rest → ((step : Step) (claim : Claim) → IsDue step claim → Contains rest (value_of claim)) → AreSoFar board members IsDue rest []
  so_far_start rest up all = record {
    each = All-nil (IsNeed board members);
    due = All-nil (λ (need : Need). IsDue need.step need.claim);
    all = λ step claim due. inr (all step claim due);
    ascending = sorted_none;
    ahead = λ need h v there. absurd (none_there need h);
    sorted = up;
  }

  with_none : (v : List ℕ) (rest : List (List ℕ)) (needs : List Need) → IsNeedFor board members IsDue v None → AreSoFar board members IsDue (v ∷ rest) needs → AreSoFar board members IsDue rest needs
  with_none v rest needs none g = record {
    each = g.each;
    due = g.due;
    all = λ step claim due. elim (g.all step claim due) [
      | inl there ↦ inl there
      | inr left ↦ elim (first_or_rest v rest (value_of claim) left) [ inl same ↦ absurd (none.complete step claim due (sym same)) | inr later ↦ inr later ]
    ];
    ascending = g.ascending;
    ahead = λ need h w there. g.ahead need h w (Contains-append_right (v ∷ []) rest w there);
    sorted = sorted_rest v rest g.sorted;
  }

  with_one : (v : List ℕ) (rest : List (List ℕ)) (needs : List Need) (need : Need) → IsNeedFor board members IsDue v (Some need) → AreSoFar board members IsDue (v ∷ rest) needs → AreSoFar board members IsDue rest (needs ++ need ∷ [])
  with_one v rest needs need one g = record {
    each = All-push (IsNeed board members) needs need g.each one.sound.0;
    due = All-push (λ (n : Need). IsDue n.step n.claim) needs need g.due one.sound.1;
    all = λ step claim due. elim (g.all step claim due) [
      | inl there ↦ inl (any_more (IsOf step claim) needs need there)
      | inr left ↦ elim (first_or_rest v rest (value_of claim) left) [
        | inl same ↦ inl (any_of (IsOf step claim) (needs ++ need ∷ []) need (Contains-push needs need) (one.complete step claim due (sym same)))
        | inr later ↦ inr later
      ]
    ];
    ascending = sorted_push needs need g.ascending (λ other h. subst (λ (w : List ℕ). value_cmp (told_value other) w ≡ Less) (sym one.sound.2) (g.ahead other h v (Contains-append_left (v ∷ []) rest v (Contains-push [] v))));
    ahead = λ other h w there. elim (Contains-push_cases needs need other h) [
      | inl was ↦ g.ahead other was w (Contains-append_right (v ∷ []) rest w there)
      | inr same ↦ subst (λ (n : Need). value_cmp (told_value n) w ≡ Less) same (subst (λ (x : List ℕ). value_cmp x w ≡ Less) (sym one.sound.2) (below_rest v rest g.sorted w there))
    ];
    sorted = sorted_rest v rest g.sorted;
  }

  with_next : (v : List ℕ) (rest : List (List ℕ)) (needs : List Need) (next : Option Need) → IsNeedFor board members IsDue v next → AreSoFar board members IsDue (v ∷ rest) needs → AreSoFar board members IsDue rest (needs ++ option_to_list next)
  with_next v rest needs None none g = subst (λ (ns : List Need). AreSoFar board members IsDue rest ns) (sym (append-nil needs)) (with_none v rest needs none g)
  with_next v rest needs (Some need) one g = with_one v rest needs need one g

  pub so_far_more : (v : List ℕ) (rest : List (List ℕ)) (needs more : List Need) (next : Option Need) → IsNeedFor board members IsDue v next → more ≡ needs ++ option_to_list next
      → AreSoFar board members IsDue (v ∷ rest) needs → AreSoFar board members IsDue rest more
  so_far_more v rest needs more next one is g = subst (λ (ns : List Need). AreSoFar board members IsDue rest ns) (sym is) (with_next v rest needs next one g)

  pub so_far_end : (needs : List Need) → AreSoFar board members IsDue [] needs → AreNeeds board members IsDue needs
  so_far_end needs g = record {
    each = g.each;
    due = g.due;
    all = λ step claim due. elim (g.all step claim due) [ inl there ↦ there | inr left ↦ absurd (none_there (value_of claim) left) ];
    ascending = g.ascending;
  }
