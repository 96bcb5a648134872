-- A node that joins a group, or begins one.
use Rattle.std.proofs.Common.{◌≡◌, ℕ, zero, suc, ◌<◌, List, [], ◌∷◌, ◌++◌, length, get_or, set, Option, Some, arith, refl, sym, ◌∙◌, ap, subst, inl, inr}
use Rattle.std.proofs.Common.{get_or-set_other, length-set}
use Rattle.std.specs.List.{All, Contains}
use Rattle.std.proofs.lemmas.Bool.{cases_eq}
use Rattle.std.proofs.lemmas.List.Elements.{All-set, All-push, Contains-push, Contains-push_cases, Contains-append_left}
use Rattle.std.proofs.lemmas.List.Quantifiers.{any-set, Any-push}
use Rattle.scp_xdr.specs.scp_types.specs.declared.names.NodeId.{NodeId}
use Rattle.scp_quorum.specs.declared.quorum.groups.Group.{Group}
use Rattle.scp_quorum.specs.QuorumTree.{QuorumTree}
use Rattle.scp_quorum.specs.inside.Groups.{HasOneSet, IsGrouped}
use Rattle.scp_quorum.proofs.Groups.{one_of_all}

-- a group that has one member more, of the same set
grown_has_one_set : (sets : NodeId → Option QuorumTree) (g grown : Group) (node : NodeId) → grown.set.now ≡ g.set.now → grown.members.items ≡ g.members.items ++ node ∷ [] → sets node ≡ Some g.set.now → HasOneSet sets g → HasOneSet sets grown
grown_has_one_set sets g grown node same items its one v member =
    let C : List NodeId → Type 0 = λ xs. Contains xs v in
    let P : NodeId → Type 0 = λ n. sets n ≡ Some g.set.now in
    let now : sets v ≡ Some g.set.now =
    elim (Contains-push_cases g.members.items node v (subst C items member)) [
      | inl before ↦ one v before
      | inr new ↦ subst P new its
    ]
    in
    now ∙ ap (λ (q : QuorumTree). Some q) (sym same)

same_at : (gs : List Group) (k : ℕ) (d e : Group) → k < length gs → get_or gs k d ≡ get_or gs k e
same_at [] k d e h = absurd (omega arith)
same_at (g ∷ gs) zero d e h = refl
same_at (g ∷ gs) (suc k) d e h = same_at gs k d e (omega arith)

module _ (groups : List Group) (i : ℕ) (g grown : Group) (node : NodeId) (here : i < length groups) (is : g ≡ get_or groups i g) (same : grown.set.now ≡ g.set.now) (items : grown.members.items ≡ g.members.items ++ node ∷ []) where
  pub joins_one_set : (sets : NodeId → Option QuorumTree) → sets node ≡ Some g.set.now → All (HasOneSet sets) groups → All (HasOneSet sets) (set groups i grown)
  joins_one_set sets its one = All-set (HasOneSet sets) groups i grown (grown_has_one_set sets g grown node same items its (one_of_all sets groups i g here is one)) one

  pub joins : IsGrouped (set groups i grown) node
  joins =
      let C : List NodeId → Type 0 = λ xs. Contains xs node in
      let P : Group → Type 0 = λ h. Contains h.members.items node in
      any-set P groups i grown here (subst C (sym items) (Contains-push g.members.items node))

  pub joins_others : (v : NodeId) → IsGrouped groups v → IsGrouped (set groups i grown) v
  joins_others v found =
      let C : List NodeId → Type 0 = λ xs. Contains xs v in
      let P : Group → Type 0 = λ h. Contains h.members.items v in
      elim (cases_eq found.0 i) [
        | inl at ↦ (
            let G : ℕ → Type 0 = λ k. get_or groups k found.1 ≡ found.1 in
            let there : get_or groups i found.1 ≡ found.1 = subst G at found.3 in
            let its : found.1 ≡ g = sym there ∙ same_at groups i found.1 g here ∙ sym is in
            any-set P groups i grown here (subst C (sym items) (Contains-append_left g.members.items (node ∷ []) v (subst P its found.4))))
        | inr apart ↦ (found.0, found.1, omega (arith, length-set {A = Group}, found.2), get_or-set_other groups i found.0 grown found.1 apart ∙ found.3, found.4)
      ]

module _ (groups : List Group) (new : Group) (node : NodeId) (items : new.members.items ≡ node ∷ []) where
  pub begins_one_set : (sets : NodeId → Option QuorumTree) → sets node ≡ Some new.set.now → All (HasOneSet sets) groups → All (HasOneSet sets) (groups ++ new ∷ [])
  begins_one_set sets its one = All-push (HasOneSet sets) groups new one alone
    where
      alone : HasOneSet sets new
      alone v member =
          let C : List NodeId → Type 0 = λ xs. Contains xs v in
          let P : NodeId → Type 0 = λ n. sets n ≡ Some new.set.now in
          elim (Contains-push_cases [] node v (subst C items member)) [
            | inl none ↦ absurd (omega (arith, none.1))
            | inr is ↦ subst P is its
          ]

  pub begins : IsGrouped (groups ++ new ∷ []) node
  begins =
      let C : List NodeId → Type 0 = λ xs. Contains xs node in
      let P : Group → Type 0 = λ h. Contains h.members.items node in
      Any-push P groups new (subst C (sym items) (Contains-push [] node))

  pub begins_others : (v : NodeId) → IsGrouped groups v → IsGrouped (groups ++ new ∷ []) v
  begins_others v found =
      let there = Contains-append_left groups (new ∷ []) found.1 (found.0, found.2, found.3) in
      (there.0, found.1, there.1, there.2, found.4)
