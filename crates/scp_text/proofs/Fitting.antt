-- A quorum set that was read is within its limits.
use Rattle.std.proofs.Common.{◌≡◌, ℕ, zero, suc, ◌+◌, ◌-◌, ◌*◌, ◌<◌, ◌≤◌, ◌^◌, Bool, true, false, ◌&&◌, List, [], ◌∷◌, length, map, Option, Some, None, Result, Ok, Err, refl, sym, ◌∙◌, ap, subst, arith}
use Rattle.std.specs.Prelude.{IfOk, IfSome, nat_le, nat_lt, replicate, if◌then◌else◌, codes}
use Rattle.std.specs.List.{AllByRecursion}
use Rattle.std.specs.Result.{result_ok}
use Rattle.std.proofs.lemmas.Bool.Decides.{nat_tests}
use Rattle.std.proofs.lemmas.List.{length-map}
use Rattle.hex.specs.Hex.{decode_sized}
use Rattle.hex.specs.declared.error.FromHexError.{FromHexError}
use Rattle.hex.proofs.HexLemmas.{decode_sized-ok, decode_sized-twice, decode_of-ok}
use Rattle.scp_kv.specs.scp_types.specs.declared.fault.Fault.{Fault}
use Rattle.scp_kv.specs.scp_types.specs.declared.names.NodeId.{NodeId}
use Rattle.scp_kv.specs.scp_xdr.specs.Tree.{Trees, no_trees, tree_then, Tree, tree_of, in_a_row, row_len, row_map}
use Rattle.scp_kv.specs.scp_xdr.specs.Kind.{Fits, RowFits, TreeFits, limit_at}
use Rattle.scp_kv.specs.scp_xdr.specs.Shared.{node_kind, node_value}
use Rattle.scp_wire.specs.scp_quorum.specs.QuorumTree.{Level, QuorumTree}
use Rattle.scp_wire.specs.scp_quorum.specs.QuorumKind.{level_kind, level_value, set_kind, set_value}
use Rattle.scp_text.specs.Pieces.{◌>>=◌, all_of, inside, items_in, number_in}
use Rattle.scp_text.specs.Sets.{id_in, numbered, node_from, node_in, counter_in, nodes_first, sets_after, cut, level_in, within, set_with, inner_in, set_in}
use Rattle.scp_text.proofs.Items.{and_both}

pub bind_some : {A B : Type 0} (o : Option A) (f : A → Option B) (y : B) → (o >>= f) ≡ Some y → (x : A) × (o ≡ Some x) × (f x ≡ Some y)
bind_some (Some x) f y e = (x, refl, e)
bind_some None f y e = absurd cc

pub all_fit : {A : Type 0} (says : List ℕ → Option A) (P : A → Type 0) → ((w : List ℕ) (x : A) → says w ≡ Some x → P x) → (ws : List (List ℕ)) (xs : List A) → all_of says ws ≡ Some xs → AllByRecursion P xs
all_fit says P each [] [] e = tt
all_fit says P each [] (x ∷ xs) e = absurd cc
all_fit says P each (w ∷ ws) xs e =
    let p = bind_some (says w) (λ first. all_of says ws >>= (λ others. Some (first ∷ others))) xs e in
    let q = bind_some (all_of says ws) (λ others. Some (p.0 ∷ others)) xs p.2 in
    let same : p.0 ∷ q.0 ≡ xs = cc (q.2) in
    subst (AllByRecursion P) same (each w p.0 p.1, all_fit says P each ws q.0 q.1)

id_len_by : (w bytes : List ℕ) (r : Result (List ℕ) FromHexError) → decode_sized w 32 ≡ r → result_ok r ≡ Some bytes → length bytes ≡ 32
id_len_by w bytes (Ok b) e h =
    let same : b ≡ bytes = cc in
    let len : length w ≡ 2 * 32 = decode_sized-ok w 32 b e in
    let whole = decode_of-ok w b (sym (decode_sized-twice w 32 len) ∙ e) in
    rw (← same) (omega (arith, len, whole.1))
id_len_by w bytes (Err f) e h = absurd cc

id_len : (w bytes : List ℕ) → id_in w ≡ Some bytes → length bytes ≡ 32
unfolding id_in
id_len w bytes h = id_len_by w bytes (decode_sized w 32) refl h

numbered_len : (number : ℕ) (n : NodeId) → numbered number ≡ Some n → length n.0 ≡ 32
numbered_len number n h = by (nat_lt 0 number && nat_lt number 256) h
  where
    by : (b : Bool) → (if b then Some (let node : NodeId = record { 0 = replicate 32 number } in node) else None) ≡ Some n → length n.0 ≡ 32
    by true h = let same : replicate 32 number ≡ n.0 = cc in ap length (sym same) ∙ refl
    by false h = absurd cc

node_len_by : (o : Option (List ℕ)) (w : List ℕ) (n : NodeId) → id_in w ≡ o → node_from o w ≡ Some n → length n.0 ≡ 32
node_len_by (Some bytes) w n e h = let same : bytes ≡ n.0 = cc in ap length (sym same) ∙ id_len w bytes e
node_len_by None w n e h =
    let p = bind_some (number_in w) (λ number. numbered number) n h in numbered_len p.0 n p.2

node_fits : (w : List ℕ) (n : NodeId) → node_in w ≡ Some n → Fits node_kind (node_value n)
unfolding node_in
node_fits w n h = (omega arith, node_len_by (id_in w) w n refl h)

-- ---- levels

counter_small : (w : List ℕ) (n : ℕ) → counter_in w ≡ Some n → n < 2 ^ 32
counter_small w n h =
    let p = bind_some (number_in w) (λ number. if nat_lt number 4294967296 then Some number else None) n h in by p.0 (nat_lt p.0 4294967296) refl p.2
  where
    by : (number : ℕ) (b : Bool) → nat_lt number 4294967296 ≡ b → (if b then Some number else None) ≡ Some n → n < 2 ^ 32
    by number true e h =
        let same : number ≡ n = cc in
        let small : number < 4294967296 = grind (arith, nat_tests) in
        omega arith
    by number false e h = absurd cc

level_small : (w : List ℕ) (l : ℕ × List (List ℕ)) → level_in w ≡ Some l → l.0 < 2 ^ 32
unfolding level_in
level_small w l h =
    let p = bind_some (cut w) (λ parts. counter_in parts.0 >>= (λ threshold. inside (codes "f(") parts.1 >>= (λ inner. Some (threshold, items_in inner)))) l h in
    let q = bind_some (counter_in p.0.0) (λ threshold. inside (codes "f(") p.0.1 >>= (λ inner. Some (threshold, items_in inner))) l p.2 in
    let r = bind_some (inside (codes "f(") p.0.1) (λ inner. Some (q.0, items_in inner)) l q.2 in
    let same : q.0 ≡ l.0 = cc (r.2) in
    rw (← same) (counter_small p.0.0 q.0 q.1)

-- ---- sets

abbrev pub SetFits : ℕ → QuorumTree → Type 0
SetFits n t = TreeFits (λ v. Fits level_kind v) n 1000 (set_value t)

abbrev pub InnerFits : ℕ → List QuorumTree → Type 0
InnerFits zero sets = sets ≡ []
InnerFits (suc n) sets = AllByRecursion (SetFits n) sets

row_fits : (n : ℕ) (sets : List QuorumTree) → AllByRecursion (SetFits n) sets → RowFits (λ v. Fits level_kind v) n 1000 (row_map level_value (in_a_row sets))
row_fits n [] h = tt
row_fits n (t ∷ ts) h = (h.0, row_fits n ts h.1)

mapped_count : (sets : List QuorumTree) → row_len (row_map level_value (in_a_row sets)) ≡ length sets
mapped_count [] = refl
mapped_count (t ∷ ts) = rw (mapped_count ts) (omega arith)

nodes_fit : (vs : List NodeId) → AllByRecursion (λ n. Fits node_kind (node_value n)) vs → AllByRecursion (λ v. Fits node_kind v) (map node_value vs)
nodes_fit [] h = tt
nodes_fit (v ∷ vs) h = (h.0, nodes_fit vs h.1)

made_fits : (n : ℕ) (l : Level) (sets : List QuorumTree) → Fits level_kind (level_value l) → length sets ≤ 1000 → InnerFits n sets → SetFits n (tree_of l sets)
made_fits zero l sets f few none =
    let count : row_len (row_map level_value (in_a_row sets)) ≡ length sets = mapped_count sets in
    let zero_len : length sets ≡ 0 = ap length none ∙ refl in
    let row : RowFits (λ v. Fits level_kind v) (zero - 1) 1000 (row_map level_value (in_a_row sets)) = rw none tt in
    (f, omega arith, omega arith, row)
made_fits (suc n) l sets f few each =
    let count : row_len (row_map level_value (in_a_row sets)) ≡ length sets = mapped_count sets in
    let e : suc n - 1 ≡ n = omega arith in
    (f, omega arith, omega arith, subst (λ (k : ℕ). RowFits (λ v. Fits level_kind v) k 1000 (row_map level_value (in_a_row sets))) (sym e) (row_fits n sets each))

within_fits : (n threshold : ℕ) (validators : List NodeId) (inner : List QuorumTree) (t : QuorumTree) → threshold < 2 ^ 32 → AllByRecursion (λ n. Fits node_kind (node_value n)) validators → InnerFits n inner → within threshold validators inner ≡ Some t → SetFits n t
within_fits n threshold validators inner t small nodes fit h = by (nat_le (length validators) 1000) (nat_le (length inner) 1000) refl refl h
  where
    by : (a b : Bool) → nat_le (length validators) 1000 ≡ a → nat_le (length inner) 1000 ≡ b → (if a && b then Some (tree_of (let l : Level = record { threshold = threshold; validators = validators } in l) inner) else None) ≡ Some t → SetFits n t
    by true true p q h =
        let l : Level = record { threshold = threshold; validators = validators } in
        let same : tree_of l inner ≡ t = cc in
        let few : length validators ≤ 1000 = grind (arith, nat_tests) in
        let count : length (map node_value validators) ≡ length validators = simp length-map in
        let few_inner : length inner ≤ 1000 = grind (arith, nat_tests) in
        subst (SetFits n) same (made_fits n l inner (small, (omega arith, omega arith, nodes_fit validators nodes)) few_inner fit)
    by true false p q h = absurd cc
    by false b p q h = absurd cc

set_fits : (n : ℕ) (w : List ℕ) (t : QuorumTree) → ((ws : List (List ℕ)) (sets : List QuorumTree) → inner_in n ws ≡ Some sets → InnerFits n sets) → set_with (inner_in n) w ≡ Some t → SetFits n t
unfolding set_with
set_fits n w t inner h =
    let p = bind_some (level_in w) (λ level. all_of node_in (nodes_first level.1) >>= (λ validators. inner_in n (sets_after level.1) >>= (λ inner. within level.0 validators inner))) t h in
    let q = bind_some (all_of node_in (nodes_first p.0.1)) (λ validators. inner_in n (sets_after p.0.1) >>= (λ inner. within p.0.0 validators inner)) t p.2 in
    let r = bind_some (inner_in n (sets_after p.0.1)) (λ inner. within p.0.0 q.0 inner) t q.2 in
    let nodes : AllByRecursion (λ n. Fits node_kind (node_value n)) q.0 = all_fit node_in (λ n. Fits node_kind (node_value n)) node_fits (nodes_first p.0.1) q.0 q.1 in
    within_fits n p.0.0 q.0 r.0 t (level_small w p.0 p.1) nodes (inner (sets_after p.0.1) r.0 r.1) r.2

inner_fits : (n : ℕ) (ws : List (List ℕ)) (sets : List QuorumTree) → inner_in n ws ≡ Some sets → InnerFits n sets
unfolding inner_in
inner_fits zero [] sets h = let same : [] ≡ sets = cc in sym same
inner_fits zero (w ∷ ws) sets h = absurd cc
inner_fits (suc n) ws sets h = all_fit (set_with (inner_in n)) (SetFits n) (λ w t e. set_fits n w t (λ us ss g. inner_fits n us ss g) e) ws sets h

-- what is read is within the limits
pub read_fits : (w : List ℕ) (t : QuorumTree) → set_in w ≡ Some t → Fits set_kind (set_value t)
read_fits w t h = set_fits 4 w t (λ ws sets g. inner_fits 4 ws sets g) h

pub fits_found : (r : Result (Option QuorumTree) Fault) (text : List ℕ) → IfOk r (λ found. found ≡ set_in text) → IfOk r (λ found. IfSome found (λ set. Fits set_kind (set_value set)))
fits_found (Ok (Some t)) text e = read_fits text t (sym e)
fits_found (Ok None) text e = tt
fits_found (Err f) text e = tt
