-- The links of a node, by the places of its peers.
use Rattle.std.proofs.Common.{◌≡◌, ◌≢◌, ◌⊎◌, ◌∙◌, ℕ, zero, suc, ◌+◌, ◌≤◌, ◌<◌, Bool, true, false, ap, sym, refl, List, [], ◌∷◌, ◌++◌, length, Some, nat_eq, arith, ⊎_elim}
use Rattle.std.specs.Prelude.{slice_get, nat_lt, if◌then◌else◌}
use Rattle.std.proofs.lemmas.Bool.{cases_eq}
use Rattle.std.proofs.lemmas.Bool.Decides.{nat_tests}
use Rattle.std.proofs.lemmas.List.{length-append}
use Rattle.scp_threaded_node.specs.scp_types.specs.declared.names.NodeId.{NodeId}
use Rattle.scp_script.specs.Nodes.{id_of, peers_of}
use Rattle.scp_script.specs.Script.{is_link}
use Rattle.scp_script.proofs.Peers.{peers_more}
use Rattle.scp_threaded_script.specs.Lines.{link_of, peer_at}
use Rattle.scp_threaded_node.specs.scp_shared_outbox.proofs.Peers.{place_if, place_of_peer}
use Rattle.scp_threaded_script.proofs.Peers.{peer_count}

-- ---- which link it is

pub same_link : (from to : ℕ) → is_link from to from to ≡ true
same_link from to =
    let a : nat_eq from from ≡ true = grind (arith, nat_tests) in
    let b : nat_eq to to ≡ true = grind (arith, nat_tests) in
    rw a b

pub to_another : (from to from2 to2 : ℕ) → to ≢ to2 → is_link from to from2 to2 ≡ false
to_another from to from2 to2 apart = by (nat_eq from from2) refl
  where
    by : (b : Bool) → nat_eq from from2 ≡ b → is_link from to from2 to2 ≡ false
    by true e = let other : nat_eq to to2 ≡ false = grind (arith, nat_tests, apart) in rw e other
    by false e = rw e refl

pub from_another : (from to from2 to2 : ℕ) → from ≢ from2 → is_link from to from2 to2 ≡ false
from_another from to from2 to2 apart = let other : nat_eq from from2 ≡ false = grind (arith, nat_tests, apart) in rw other refl

-- on another place is another link
pub at_another : (place from to : ℕ) → place ≢ link_of from to → is_link (peer_at place to) to from to ≡ false
at_another place from to apart = from_another (peer_at place to) to from to (λ e. apart (sym (place_of_peer place to) ∙ ap (λ n. link_of n to) e))

pub link_is : (from to from2 to2 : ℕ) → is_link from to from2 to2 ≡ true → (from ≡ from2) × (to ≡ to2)
link_is from to from2 to2 e = by (nat_eq from from2) (nat_eq to to2) refl refl
  where
    by : (a b : Bool) → nat_eq from from2 ≡ a → nat_eq to to2 ≡ b → (from ≡ from2) × (to ≡ to2)
    by true true p q = (grind (arith, nat_tests, p), grind (arith, nat_tests, q))
    by true false p q = let not_so : is_link from to from2 to2 ≡ false = rw (p, q) refl in absurd cc
    by false b p q = let not_so : is_link from to from2 to2 ≡ false = rw p refl in absurd cc

-- ---- who stands there

get_front : (xs ys : List NodeId) (i : ℕ) (x : NodeId) → slice_get xs i ≡ Some x → slice_get (xs ++ ys) i ≡ Some x
get_front [] ys i x e = absurd cc
get_front (z ∷ xs) ys zero x e = e
get_front (z ∷ xs) ys (suc i) x e = get_front xs ys i x e

get_last : (xs : List NodeId) (i : ℕ) (x : NodeId) → i ≡ length xs → slice_get (xs ++ x ∷ []) i ≡ Some x
get_last [] zero x e = refl
get_last [] (suc i) x e = absurd (omega (arith, e))
get_last (z ∷ xs) zero x e = absurd (omega (arith, e))
get_last (z ∷ xs) (suc i) x e = get_last xs i x (omega (arith, e))

peers_step : (n to : ℕ) (b : Bool) → nat_eq (n + 1) to ≡ b → peers_of (suc n) to ≡ (if b then peers_of n to else peers_of n to ++ id_of (n + 1) ∷ [])
peers_step n to b e =
    let next : suc n ≡ n + 1 = omega arith in
    ap (λ (m : ℕ). peers_of m to) next ∙ peers_more n to ∙ ap (λ (c : Bool). if c then peers_of n to else peers_of n to ++ id_of (n + 1) ∷ []) e

peers_below : (n to : ℕ) → n < to → length (peers_of n to) ≡ n
peers_below zero to lt = refl
peers_below (suc n) to lt =
    let other : nat_eq (n + 1) to ≡ false = grind (arith, nat_tests, lt) in
    ap (λ (xs : List NodeId). length xs) (peers_step n to false other) ∙ length-append (peers_of n to) (id_of (n + 1) ∷ []) ∙ omega (arith, peers_below n to (omega (arith, lt)))

-- how many stand before the last node
peers_count : (n to : ℕ) → 1 ≤ to → n + 1 ≢ to → link_of (n + 1) to ≡ length (peers_of n to)
peers_count n to one apart = ⊎_elim
    (λ lt.
    let is_so : nat_lt (n + 1) to ≡ true = grind (arith, nat_tests, lt, apart) in
    place_if (n + 1) to true is_so ∙ omega (arith, peers_below n to lt))
    (λ le.
    let not_so : nat_lt (n + 1) to ≡ false = grind (arith, nat_tests, le) in
    place_if (n + 1) to false not_so ∙ omega (arith, peer_count n to one le))
    (cases n to)
  where
    cases : (i t : ℕ) → (i < t) ⊎ (t ≤ i)
    cases i t = search (arith)

pub peer_there : (n from to : ℕ) → 1 ≤ from → from ≤ n → 1 ≤ to → from ≢ to → slice_get (peers_of n to) (link_of from to) ≡ Some (id_of from)
peer_there zero from to one most some apart = absurd (omega (arith, one, most))
peer_there (suc n) from to one most some apart = ⊎_elim
    (λ e.
    let at : n + 1 ≡ from = omega (arith, e) in
    let other : nat_eq (n + 1) to ≡ false = grind (arith, nat_tests, at, apart) in
    ap (λ (xs : List NodeId). slice_get xs (link_of from to)) (peers_step n to false other)
    ∙ ap (λ (m : ℕ). slice_get (peers_of n to ++ id_of (n + 1) ∷ []) (link_of m to)) (sym at)
    ∙ get_last (peers_of n to) (link_of (n + 1) to) (id_of (n + 1)) (peers_count n to some (λ same. apart (sym at ∙ same)))
    ∙ ap (λ (m : ℕ). Some (id_of m)) at)
    (λ before. by (nat_eq (n + 1) to) refl (peer_there n from to one (omega (arith, before, most)) some apart))
    (cases_eq from (suc n))
  where
    by : (b : Bool) → nat_eq (n + 1) to ≡ b → slice_get (peers_of n to) (link_of from to) ≡ Some (id_of from) → slice_get (peers_of (suc n) to) (link_of from to) ≡ Some (id_of from)
    by true e h = ap (λ (xs : List NodeId). slice_get xs (link_of from to)) (peers_step n to true e) ∙ h
    by false e h = ap (λ (xs : List NodeId). slice_get xs (link_of from to)) (peers_step n to false e) ∙ get_front (peers_of n to) (id_of (n + 1) ∷ []) (link_of from to) (id_of from) h
