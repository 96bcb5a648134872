-- A node of a script has a link for each other node.
use Rattle.std.proofs.Common.{◌≡◌, ◌<◌, ◌≤◌, ◌+◌, ℕ, suc, zero, Bool, true, false, not, cond, List, [], ◌∷◌, ◌++◌, length, filter, nat_eq, refl, ◌∙◌, sym, ap, arith, ⊎_elim}
use Rattle.std.proofs.lemmas.Bool.{cases_eq}
use Rattle.std.proofs.lemmas.Bool.Decides.{nat_tests}
use Rattle.std.proofs.lemmas.List.{length-map, length-append}
use Rattle.std.proofs.lemmas.List.Elements.{filter-append}
use Rattle.scp_report.specs.scp_script.specs.Nodes.{numbers, id_of, peers_of}

-- how many peers a node has
one_more : (n node : ℕ) (b : Bool) → nat_eq (suc n) node ≡ b → length (peers_of (suc n) node) ≡ length (peers_of n node) + cond b 0 1
one_more n node b e =
    length-map (filter (λ other. not (nat_eq other node)) (numbers n ++ suc n ∷ [])) id_of
    ∙ ap (λ (xs : List ℕ). length xs) (filter-append (λ other. not (nat_eq other node)) (numbers n) (suc n ∷ []))
    ∙ length-append (filter (λ other. not (nat_eq other node)) (numbers n)) (cond (not (nat_eq (suc n) node)) (suc n ∷ []) [])
    ∙ ap (λ (k : ℕ). k + length (cond (not (nat_eq (suc n) node)) (suc n ∷ []) [])) (sym (length-map (filter (λ other. not (nat_eq other node)) (numbers n)) id_of))
    ∙ ap (λ (k : ℕ). length (peers_of n node) + k) (last b e)
  where
    last : (b : Bool) → nat_eq (suc n) node ≡ b → length (cond (not (nat_eq (suc n) node)) (suc n ∷ []) []) ≡ cond b 0 1
    last true e = rw e refl
    last false e = rw e refl

below : (n node : ℕ) → n < node → length (peers_of n node) ≡ n
below zero node lt = refl
below (suc n) node lt =
    let other : nat_eq (suc n) node ≡ false = grind (arith, nat_tests) in
    omega (arith, one_more n node false other, below n node (omega (arith, lt)))

pub peer_count : (n node : ℕ) → 1 ≤ node → node ≤ n → length (peers_of n node) + 1 ≡ n
peer_count zero node one most = absurd (omega (arith, one, most))
peer_count (suc n) node one most = ⊎_elim
    (λ e. let here : nat_eq (suc n) node ≡ true = grind (arith, nat_tests) in omega (arith, one_more n node true here, below n node (omega (arith, e))))
    (λ apart. let other : nat_eq (suc n) node ≡ false = grind (arith, nat_tests) in omega (arith, one_more n node false other, peer_count n node one (omega (arith, apart, most))))
    (cases_eq node (suc n))
