-- The members that don't lie, gathered one after another, and in another order.
use Rattle.std.proofs.Common.{◌≡◌, ℕ, ◌+◌, ◌<◌, ◌≤◌, Bool, true, false, List, [], ◌∷◌, ◌++◌, map, take, length, get_or, arith, sym, ◌∙◌, ap, subst}
use Rattle.std.specs.List.{All, Any, Contains}
use Rattle.std.specs.List.Sorted.{IsPermutation}
use Rattle.std.proofs.lemmas.Grind.{common_steps}
use Rattle.std.proofs.lemmas.List.Elements.{All-more, All-weaker, All-nil, All-push, All-map}
use Rattle.std.proofs.lemmas.List.Quantifiers.{Any-push}
use Rattle.std.proofs.lemmas.List.Sorted.{All-permutation, Contains-permutation}
use Rattle.scp_quorum.specs.scp_types.specs.declared.names.NodeId.{NodeId}
use Rattle.scp_quorum_search.specs.declared.member.Member.{Member}
use Rattle.scp_quorum_search.specs.declared.order.Ranked.{Ranked}

any_kept : {X : Type 0} (P : X → Type 0) (xs : List X) (y : X) → Any P xs → Any P (xs ++ y ∷ [])
any_kept P xs y (k, x, lt, at, holds) = (k, x, grind (arith, common_steps), grind (arith, common_steps), holds)

pub record IsRanking (liars : NodeId → Bool) (members : List Member) (found : List Ranked) (seen : List Member) (n : ℕ) : Type 0 where
  pub each : All (λ r. Any (λ m. m.node ≡ r.node) members) found
  pub honest : All (λ r. liars r.node ≡ false) found
  pub all : All (λ m. liars m.node ≡ false → Any (λ r. r.node ≡ m.node) found) seen
  pub few : length found ≤ n

pub ranking_none : (liars : NodeId → Bool) (members : List Member) → IsRanking liars members [] [] 0
ranking_none liars members = record {
  each = All-nil (λ r. Any (λ m. m.node ≡ r.node) members);
  honest = All-nil (λ r. liars r.node ≡ false);
  all = All-nil (λ m. liars m.node ≡ false → Any (λ r. r.node ≡ m.node) []);
  few = omega arith;
}

module _ (liars : NodeId → Bool) (members : List Member) (found : List Ranked) (i : ℕ) (m : Member) (here : i < length members) (is : m ≡ get_or members i m) (so_far : IsRanking liars members found (take i members) i) where
  pub ranking_adds : (new : List Ranked) (r : Ranked) → new ≡ found ++ r ∷ [] → r.node ≡ m.node → liars m.node ≡ false → IsRanking liars members new (take (i + 1) members) (i + 1)
  ranking_adds new r added same free =
      let P : List Ranked → Type 0 = λ rs. IsRanking liars members rs (take (i + 1) members) (i + 1) in
      let A : Member → Type 0 = λ o. liars o.node ≡ false → Any (λ q. q.node ≡ o.node) (found ++ r ∷ []) in
      let mine : A m = λ out. Any-push (λ q. q.node ≡ m.node) found r same in
      subst P (sym added) (record {
        each = All-push (λ q. Any (λ o. o.node ≡ q.node) members) found r so_far.each (i, m, here, sym is, sym same);
        honest = All-push (λ q. liars q.node ≡ false) found r so_far.honest (ap liars same ∙ free);
        all = All-more A members i m here (All-weaker (λ o. liars o.node ≡ false → Any (λ q. q.node ≡ o.node) found) A (λ o old out. any_kept (λ q. q.node ≡ o.node) found r (old out)) (take i members) so_far.all) (subst A is mine);
        few = let few = so_far.few in grind (arith, common_steps);
      })

  pub ranking_skips : liars m.node ≡ true → IsRanking liars members found (take (i + 1) members) (i + 1)
  ranking_skips lies =
      let A : Member → Type 0 = λ o. liars o.node ≡ false → Any (λ q. q.node ≡ o.node) found in
      let mine : A m = λ out. absurd (let f : true ≡ false = sym lies ∙ out in cc) in
      record {
        each = so_far.each;
        honest = so_far.honest;
        all = All-more A members i m here so_far.all (subst A is mine);
        few = omega (arith, so_far.few);
      }

-- ---- the same, in another order

module _ (liars : NodeId → Bool) (members : List Member) (found ordered : List Ranked) (moved : IsPermutation found ordered) where
  pub each_moved : All (λ r. Any (λ m. m.node ≡ r.node) members) found → All (λ v. Any (λ m. m.node ≡ v) members) (map (λ r. r.node) ordered)
  each_moved each = All-map (λ v. Any (λ m. m.node ≡ v) members) (λ r. r.node) ordered (All-permutation (λ r. Any (λ m. m.node ≡ r.node) members) found ordered moved each)

  pub honest_moved : All (λ r. liars r.node ≡ false) found → All (λ v. liars v ≡ false) (map (λ r. r.node) ordered)
  honest_moved honest = All-map (λ v. liars v ≡ false) (λ r. r.node) ordered (All-permutation (λ r. liars r.node ≡ false) found ordered moved honest)

  mapped : (r : Ranked) → Contains ordered r → Contains (map (λ q. q.node) ordered) r.node
  mapped r (k, lt, at) = (k, grind (arith, common_steps), grind (arith, common_steps))

  listed_moved : (v : NodeId) → Any (λ r. r.node ≡ v) found → Contains (map (λ r. r.node) ordered) v
  listed_moved v (k, r, lt, at, is) =
      let P : NodeId → Type 0 = λ w. Contains (map (λ q. q.node) ordered) w in
      subst P is (mapped r (Contains-permutation found ordered r moved (k, lt, at)))

  pub all_moved : All (λ m. liars m.node ≡ false → Any (λ r. r.node ≡ m.node) found) members → All (λ m. liars m.node ≡ false → Contains (map (λ r. r.node) ordered) m.node) members
  all_moved all k d lt out = listed_moved (get_or members k d).node (all k d lt out)
