-- Nodes that have no byte unequal, in a list.
use Rattle.std.proofs.Common.{◌≡◌, ℕ, zero, suc, ◌+◌, ◌%◌, ◌<◌, ◌≤◌, List, [], ◌∷◌, length, get_or, take, replicate, max, refl, sym, ◌∙◌, ap, subst, arith, bit_or}
use Rattle.std.specs.List.{AllByRecursion}
use Rattle.std.specs.Int.{bit_at}
use Rattle.std.specs.Int.Bits.{bit_xor, xor_self}
use Rattle.std.specs.Simd.Lanes.{zip2}
use Rattle.std.proofs.lemmas.Grind.{common_steps}
use Rattle.std.proofs.lemmas.List.{take_more_same}
use Rattle.std.proofs.lemmas.Nat.Bits.{bit_at_or, bit_at_xor, bit_at-zero, bit_at-lt, same_from_bits}
use Rattle.scp_xdr.specs.scp_types.specs.declared.names.NodeId.{NodeId}
use Rattle.scp_xdr.specs.Tree.{Trees, no_trees, tree_then, Tree, in_a_row}
use Rattle.scp_quorum.specs.QuorumTree.{QuorumTree}
use Rattle.scp_quorum.proofs.Whole.{made}

abbrev pub AreZeros : List ℕ → Type 0
AreZeros bytes = AllByRecursion (λ (b : ℕ). b ≡ 0) bytes

zeros : (n : ℕ) → AreZeros (replicate n 0)
zeros zero = tt
zeros (suc n) = (refl, zeros n)

or_bit : (a b i : ℕ) → bit_or a b ≡ 0 → max (bit_at a i) (bit_at b i) ≡ 0
or_bit a b i e = sym (bit_at_or a b i) ∙ ap (λ (n : ℕ). bit_at n i) e ∙ bit_at-zero i

or_left : (a b : ℕ) → bit_or a b ≡ 0 → a ≡ 0
or_left a b e = same_from_bits a 0 (λ i. omega (arith, or_bit a b i e, bit_at-zero i))

or_right : (a b : ℕ) → bit_or a b ≡ 0 → b ≡ 0
or_right a b e = same_from_bits b 0 (λ i. omega (arith, or_bit a b i e, bit_at-zero i))

xor_bit : (a b i : ℕ) → bit_xor a b ≡ 0 → (bit_at a i + bit_at b i) % 2 ≡ 0
xor_bit a b i e = sym (bit_at_xor a b i) ∙ ap (λ (n : ℕ). bit_at n i) e ∙ bit_at-zero i

xor_same : (a b : ℕ) → bit_xor a b ≡ 0 → a ≡ b
xor_same a b e = same_from_bits a b (λ i. omega (arith, xor_bit a b i e, bit_at-lt a i, bit_at-lt b i))

-- bytes to which the unequal bits of two lists were added
abbrev pub with_unequal : List ℕ → List ℕ → List ℕ → List ℕ
with_unequal us vs ws = zip2 bit_or us (zip2 bit_xor vs ws)

none_before : (us vs ws : List ℕ) → length vs ≡ length us → length ws ≡ length us → AreZeros (with_unequal us vs ws) → AreZeros us
none_before [] vs ws k l none = tt
none_before (u ∷ us) (v ∷ vs) (w ∷ ws) k l none = (or_left u (bit_xor v w) none.0, none_before us vs ws (omega (arith, k)) (omega (arith, l)) none.1)
none_before (u ∷ us) [] ws k l none = absurd (omega (arith, k))
none_before (u ∷ us) (v ∷ vs) [] k l none = absurd (omega (arith, l))

same_now : (us vs ws : List ℕ) → length vs ≡ length us → length ws ≡ length us → AreZeros (with_unequal us vs ws) → vs ≡ ws
same_now [] [] [] k l none = refl
same_now (u ∷ us) (v ∷ vs) (w ∷ ws) k l none = rw (xor_same v w (or_right u (bit_xor v w) none.0), same_now us vs ws (omega (arith, k)) (omega (arith, l)) none.1) refl
same_now [] (v ∷ vs) ws k l none = absurd (omega (arith, k))
same_now [] [] (w ∷ ws) k l none = absurd (omega (arith, l))
same_now (u ∷ us) [] ws k l none = absurd (omega (arith, k))
same_now (u ∷ us) (v ∷ vs) [] k l none = absurd (omega (arith, l))

abbrev pub no_node : NodeId
no_node = record { 0 = [] }

-- no byte of the first nodes is unequal unless it shows in these bytes
abbrev pub SameBefore : List ℕ → List NodeId → List NodeId → ℕ → Type 0
SameBefore us mine theirs i = AreZeros us → take i mine ≡ take i theirs

pub same_more : (us vs ws : List ℕ) (mine theirs : List NodeId) (i : ℕ) → i < length mine → i < length theirs → vs ≡ (get_or mine i no_node).0 → ws ≡ (get_or theirs i no_node).0 → length vs ≡ length us → length ws ≡ length us → SameBefore us mine theirs i → SameBefore (with_unequal us vs ws) mine theirs (i + 1)
same_more us vs ws mine theirs i h j v w k l before none =
    let bytes : (get_or mine i no_node).0 ≡ (get_or theirs i no_node).0 = sym v ∙ same_now us vs ws k l none ∙ w in
    let node : get_or mine i no_node ≡ get_or theirs i no_node = ap (λ (b : List ℕ). let n : NodeId = record { 0 = b } in n) bytes in
    take_more_same mine theirs i no_node h j (before (none_before us vs ws k l none)) node

pub same_all : (us : List ℕ) (mine theirs : List NodeId) (i : ℕ) → length mine ≤ i → length theirs ≤ i → SameBefore us mine theirs i → us ≡ replicate 32 0 → mine ≡ theirs
same_all us mine theirs i h k same is =
    let none : AreZeros us = subst AreZeros (sym is) (zeros 32) in
    let equal : take i mine ≡ take i theirs = same none in
    grind (arith, common_steps, equal)

zeros_added : (n : ℕ) (vs : List ℕ) → length vs ≡ n → with_unequal (replicate n 0) vs vs ≡ replicate n 0
zeros_added zero vs k = refl
zeros_added (suc n) (v ∷ vs) k = rw (xor_self v, zeros_added n vs (omega (arith, k))) refl
zeros_added (suc n) [] k = absurd (omega (arith, k))

-- every byte stays zero where equal bytes are added
pub zeros_more : (n : ℕ) (vs ws : List ℕ) → length vs ≡ n → vs ≡ ws → with_unequal (replicate n 0) vs ws ≡ replicate n 0
zeros_more n vs ws k e = subst (λ (bytes : List ℕ). with_unequal (replicate n 0) vs bytes ≡ replicate n 0) e (zeros_added n vs k)

-- equal lists leave all 32 bytes zero
abbrev pub ZeroIfSame : List ℕ → List NodeId → List NodeId → Type 0
ZeroIfSame us mine theirs = mine ≡ theirs → us ≡ replicate 32 0

pub zero_more : (us vs ws : List ℕ) (mine theirs : List NodeId) (i : ℕ) → vs ≡ (get_or mine i no_node).0 → ws ≡ (get_or theirs i no_node).0 → length vs ≡ 32 → ZeroIfSame us mine theirs → ZeroIfSame (with_unequal us vs ws) mine theirs
zero_more us vs ws mine theirs i v w k before same =
    let bytes : vs ≡ ws = v ∙ ap (λ (nodes : List NodeId). (get_or nodes i no_node).0) same ∙ sym w in
    ap (λ (old : List ℕ). with_unequal old vs ws) (before same) ∙ zeros_more 32 vs ws k bytes

pub same_made : (k l : ℕ) (vs ws : List NodeId) (qs rs : List QuorumTree) → k ≡ l → vs ≡ ws → qs ≡ rs → made k vs qs ≡ made l ws rs
same_made k l vs ws qs rs e f g = rw (e, f, g) refl

list_of_row : {X : Type 0} → Trees X → List (Tree X)
list_of_row no_trees = []
list_of_row (tree_then x inner others) = record { head = x; inner = inner } ∷ list_of_row others

list_of_row-in_a_row : {X : Type 0} (ts : List (Tree X)) → list_of_row (in_a_row ts) ≡ ts
unfolding list_of_row
list_of_row-in_a_row [] = refl
list_of_row-in_a_row {X} (t ∷ ts) = ap (λ (others : List (Tree X)). t ∷ others) (list_of_row-in_a_row ts)

-- equal sets have equal parts
pub made_parts : (k l : ℕ) (vs ws : List NodeId) (qs rs : List QuorumTree) → made k vs qs ≡ made l ws rs → (k ≡ l) × (vs ≡ ws) × (qs ≡ rs)
made_parts k l vs ws qs rs e =
    let rows : in_a_row qs ≡ in_a_row rs = ap (λ (q : QuorumTree). q.inner) e in
    let inner : qs ≡ rs = sym (list_of_row-in_a_row qs) ∙ ap list_of_row rows ∙ list_of_row-in_a_row rs in
    (ap (λ (q : QuorumTree). q.head.threshold) e, ap (λ (q : QuorumTree). q.head.validators) e, inner)
