-- One node more.
use Rattle.std.proofs.Common.{◌≡◌, ◌+◌, ℕ, suc, Bool, true, false, not, cond, List, [], ◌∷◌, ◌++◌, map, filter, nat_eq, ap, ◌∙◌, append-nil, arith}
use Rattle.std.specs.Prelude.{if◌then◌else◌}
use Rattle.std.proofs.lemmas.List.{map_push}
use Rattle.std.proofs.lemmas.List.Elements.{filter-append}
use Rattle.scp_script.specs.Nodes.{numbers, id_of, peers_of}

pub ids_more : (n : ℕ) → map id_of (numbers (n + 1)) ≡ map id_of (numbers n) ++ id_of (n + 1) ∷ []
ids_more n = let e : n + 1 ≡ suc n = omega arith in rw e (map_push id_of (numbers n) (suc n))

last_other : (b : Bool) (xs : List ℕ) (y : ℕ) → map id_of (xs ++ cond (not b) (y ∷ []) []) ≡ (if b then map id_of xs else map id_of xs ++ id_of y ∷ [])
last_other true xs y = ap (map id_of) (append-nil xs)
last_other false xs y = map_push id_of xs y

pub peers_more : (n node : ℕ) → peers_of (n + 1) node ≡ (if nat_eq (n + 1) node then peers_of n node else peers_of n node ++ id_of (n + 1) ∷ [])
peers_more n node =
    let e : n + 1 ≡ suc n = omega arith in
    rw e (ap (map id_of) (filter-append (λ other. not (nat_eq other node)) (numbers n) (suc n ∷ []))
    ∙ last_other (nat_eq (suc n) node) (filter (λ other. not (nat_eq other node)) (numbers n)) (suc n))
