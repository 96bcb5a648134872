-- What a document says is one thing.
use Rattle.std.proofs.Common.{◌≡◌, ℕ, ◌+◌, List, [], ◌∷◌, length, map, Option, Some, refl, sym, ap, ◌∙◌, arith, subst}
use Rattle.std.proofs.lemmas.Option.{same_Some}
use Rattle.toml.specs.Data.{Data, Members}
use Rattle.scp_quorum.specs.scp_types.specs.declared.names.NodeId.{NodeId}
use Rattle.scp_quorum.specs.scp_xdr.specs.Tree.{Trees, no_trees, tree_then, row_len}
use Rattle.scp_quorum.specs.QuorumTree.{Level, QuorumTree}
use Rattle.scp_live_config.specs.Names.{Identity, identity_said, pairs_of, node_said}
use Rattle.scp_live_config.specs.Sets.{SaysLevel, SayInner, SaysSet, sets_in, threshold_in}
use Rattle.scp_live_config.specs.Config.{SaysNames}
use Rattle.scp_live_config.proofs.Lists.{same_told}

-- one value at most
pub one_said : {A : Type 0} → {o : Option A} → (x y : A) → o ≡ Some x → o ≡ Some y → x ≡ y
one_said x y e f = same_Some x y (sym e ∙ f)

pub same_names : (doc : Members) (names others : List Identity) → SaysNames doc names → SaysNames doc others → names ≡ others
same_names doc names others h k =
    let nodes : h.0 ≡ k.0 = one_said h.0 k.0 h.1 k.1 in
    let said : map identity_said (pairs_of k.0) ≡ map Some names = subst (λ (ms : Members). map identity_said (pairs_of ms) ≡ map Some names) nodes h.2.said in
    same_told names others (sym said ∙ k.2.said)

-- a level by its parts
abbrev level_of : ℕ → List NodeId → Level
level_of threshold validators = record { threshold = threshold; validators = validators }

level_same : (one other : Level) → one.threshold ≡ other.threshold → one.validators ≡ other.validators → one ≡ other
level_same one other e f =
    let t : one ≡ level_of other.threshold one.validators = ap (λ n. level_of n one.validators) e in
    let v : level_of other.threshold one.validators ≡ other = ap (λ vs. level_of other.threshold vs) f in
    t ∙ v

pub same_level : (names : List Identity) (ms : Members) (one other : Level) (n m : ℕ) → n ≡ m → SaysLevel names ms one n → SaysLevel names ms other m → one ≡ other
same_level names ms one other n m lens h k =
    let values : h.validators.0 ≡ k.validators.0 = one_said h.validators.0 k.validators.0 h.validators.1 k.validators.1 in
    let said : map (node_said names) k.validators.0 ≡ map Some one.validators = subst (λ (vs : List Data). map (node_said names) vs ≡ map Some one.validators) values h.validators.2 in
    let vals : one.validators ≡ other.validators = same_told one.validators other.validators (sym said ∙ k.validators.2) in
    let counts : length one.validators + n ≡ length other.validators + m = ap (λ vs. length vs + n) vals ∙ ap (λ x. length other.validators + x) lens in
    let t : threshold_in (length other.validators + m) ms ≡ Some one.threshold = subst (λ (x : ℕ). threshold_in x ms ≡ Some one.threshold) counts h.threshold in
    level_same one other (one_said one.threshold other.threshold t k.threshold) vals

-- as many sets as tables
pub row_length : (names : List Identity) (values : List Data) (row : Trees Level) → SayInner names values row → length values ≡ row_len row
row_length names [] no_trees h = refl
row_length names [] (tree_then level inner others) h = absurd h
row_length names (d ∷ values) no_trees h = absurd h
row_length names (d ∷ values) (tree_then level inner others) h = omega (arith, row_length names values others h.1)

tree_same : (a b : Level) (i j k l : Trees Level) → a ≡ b → i ≡ j → k ≡ l → tree_then a i k ≡ tree_then b j l
tree_same a b i j k l e f g = cc

pub same_row : (names : List Identity) (values : List Data) (one other : Trees Level) → SayInner names values one → SayInner names values other → one ≡ other
same_row names [] no_trees no_trees h k = refl
same_row names [] no_trees (tree_then level inner others) h k = absurd k
same_row names [] (tree_then level inner others) other h k = absurd h
same_row names (d ∷ values) no_trees other h k = absurd h
same_row names (d ∷ values) (tree_then level inner others) no_trees h k = absurd k
same_row names (d ∷ values) (tree_then a i others) (tree_then b j more) h k =
    let tables : h.0.0 ≡ k.0.0 = one_said h.0.0 k.0.0 h.0.1 k.0.1 in
    let says : SaysLevel names k.0.0 a (row_len i) = subst (λ (ms : Members). SaysLevel names ms a (row_len i)) tables h.0.2 in
    let at_sets : sets_in k.0.0 ≡ Some h.0.3.0 = subst (λ (ms : Members). sets_in ms ≡ Some h.0.3.0) tables h.0.3.1 in
    let sets : h.0.3.0 ≡ k.0.3.0 = one_said h.0.3.0 k.0.3.0 at_sets k.0.3.1 in
    let inner : i ≡ j = same_row names k.0.3.0 i j (subst (λ (vs : List Data). SayInner names vs i) sets h.0.3.2) k.0.3.2 in
    tree_same a b i j others more (same_level names k.0.0 a b (row_len i) (row_len j) (ap row_len inner) says k.0.2) inner (same_row names values others more h.1 k.1)

abbrev set_of : Level → Trees Level → QuorumTree
set_of head inner = record { head = head; inner = inner }

set_parts : (one other : QuorumTree) → one.head ≡ other.head → one.inner ≡ other.inner → one ≡ other
set_parts one other e f =
    let h : one ≡ set_of other.head one.inner = ap (λ l. set_of l one.inner) e in
    let i : set_of other.head one.inner ≡ other = ap (λ r. set_of other.head r) f in
    h ∙ i

pub same_set : (names : List Identity) (ms : Members) (one other : QuorumTree) → SaysSet names ms one → SaysSet names ms other → one ≡ other
same_set names ms one other h k =
    let sets : h.1.0 ≡ k.1.0 = one_said h.1.0 k.1.0 h.1.1 k.1.1 in
    let inner : one.inner ≡ other.inner = same_row names k.1.0 one.inner other.inner (subst (λ (vs : List Data). SayInner names vs one.inner) sets h.1.2) k.1.2 in
    set_parts one other (same_level names ms one.head other.head (row_len one.inner) (row_len other.inner) (ap row_len inner) h.0 k.0) inner
