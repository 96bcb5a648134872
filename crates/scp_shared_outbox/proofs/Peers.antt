-- The places of a node's peers.
use Rattle.std.proofs.Common.{◌≡◌, ◌≢◌, ◌≤◌, ◌<◌, ◌+◌, ◌-◌, ℕ, Bool, true, false, ap, sym, ◌∙◌, ◌⊎◌, ⊎_elim, refl, arith, List, [], ◌∷◌, ◌++◌, length, subst}
use Rattle.std.specs.Prelude.{if◌then◌else◌, nat_lt}
use Rattle.std.proofs.lemmas.Bool.Decides.{nat_tests}
use Rattle.std.proofs.lemmas.List.{length-append}
use Rattle.scp_shared_outbox.specs.Places.{Each, link_of, peer_at, IsOneOf, AreTwoOf}
use Rattle.scp_shared_outbox.proofs.Each.{each_nil, each_push, each_front, each_last}

-- how many of the first nodes are peers
abbrev pub places_before : ℕ → ℕ → ℕ
places_before index to = if nat_lt index to then index else index - 1

places_if : (index to : ℕ) (b : Bool) → nat_lt index to ≡ b → places_before index to ≡ (if b then index else index - 1)
places_if index to b e = ap (λ (c : Bool). if c then index else index - 1) e

peer_if : (place to : ℕ) (b : Bool) → nat_lt (place + 1) to ≡ b → peer_at place to ≡ (if b then place + 1 else place + 2)
peer_if place to b e = ap (λ (c : Bool). if c then place + 1 else place + 2) e

-- the node after the first ones is a peer, at its place
pub place_next : (index to : ℕ) → 1 ≤ to → index + 1 ≢ to → (places_before (index + 1) to ≡ places_before index to + 1) × (peer_at (places_before index to) to ≡ index + 1)
place_next index to one apart = ⊎_elim
    (λ lt.
    let a : nat_lt index to ≡ true = grind (arith, nat_tests, lt) in
    let b : nat_lt (index + 1) to ≡ true = grind (arith, nat_tests, lt, apart) in
    let p = places_if index to true a in
    (places_if (index + 1) to true b ∙ ap (λ n. n + 1) (sym p), ap (λ n. peer_at n to) p ∙ peer_if index to true b))
    (λ ge.
    let a : nat_lt index to ≡ false = grind (arith, nat_tests, ge) in
    let b : nat_lt (index + 1) to ≡ false = grind (arith, nat_tests, ge) in
    let c : nat_lt (index - 1 + 1) to ≡ false = grind (arith, nat_tests, ge, one) in
    let p = places_if index to false a in
    (places_if (index + 1) to false b ∙ omega (arith, p, ge, one), ap (λ n. peer_at n to) p ∙ peer_if (index - 1) to false c ∙ omega (arith, ge, one)))
    (cases index to)
  where
    cases : (i t : ℕ) → (i < t) ⊎ (t ≤ i)
    cases i t = search (arith)

-- and the node itself isn't one
pub place_same : (index to : ℕ) → index + 1 ≡ to → places_before (index + 1) to ≡ places_before index to
place_same index to e =
    let a : nat_lt index to ≡ true = grind (arith, nat_tests, e) in
    let b : nat_lt (index + 1) to ≡ false = grind (arith, nat_tests, e) in
    places_if (index + 1) to false b ∙ omega arith ∙ sym (places_if index to true a)

pub places_of_all : (count to : ℕ) → to ≤ count → 1 ≤ to → places_before count to + 1 ≡ count
places_of_all count to le one =
    let a : nat_lt count to ≡ false = grind (arith, nat_tests, le) in
    omega (arith, places_if count to false a, le, one)

-- two places are two peers
pub place_apart : (to l m : ℕ) → peer_at l to ≡ peer_at m to → l ≡ m
place_apart to l m e = grind (arith, nat_tests, e)

pub place_if : (from to : ℕ) (b : Bool) → nat_lt from to ≡ b → link_of from to ≡ (if b then from - 1 else from - 2)
place_if from to b e = ap (λ (c : Bool). if c then from - 1 else from - 2) e

-- at a node's place is that node
pub peer_of_place : (from to : ℕ) → 1 ≤ from → 1 ≤ to → from ≢ to → peer_at (link_of from to) to ≡ from
peer_of_place from to one some apart = by (nat_lt from to) refl
  where
    by : (b : Bool) → nat_lt from to ≡ b → peer_at (link_of from to) to ≡ from
    by true e =
        let lt : from < to = grind (arith, nat_tests, e) in
        let next : nat_lt (from - 1 + 1) to ≡ true = grind (arith, nat_tests, lt, one) in
        ap (λ n. peer_at n to) (place_if from to true e) ∙ peer_if (from - 1) to true next ∙ omega (arith, one)
    by false e =
        let le : to ≤ from = grind (arith, nat_tests, e) in
        let lt : to < from = omega (arith, le, apart) in
        let next : nat_lt (from - 2 + 1) to ≡ false = grind (arith, nat_tests, lt, some) in
        ap (λ n. peer_at n to) (place_if from to false e) ∙ peer_if (from - 2) to false next ∙ omega (arith, lt, some)

-- and each place is that of the node that is there
pub place_of_peer : (place to : ℕ) → link_of (peer_at place to) to ≡ place
place_of_peer place to = by (nat_lt (place + 1) to) refl
  where
    by : (b : Bool) → nat_lt (place + 1) to ≡ b → link_of (peer_at place to) to ≡ place
    by true e = ap (λ n. link_of n to) (peer_if place to true e) ∙ place_if (place + 1) to true e ∙ omega arith
    by false e =
        let le : to ≤ place + 1 = grind (arith, nat_tests, e) in
        let next : nat_lt (place + 2) to ≡ false = grind (arith, nat_tests, le) in
        ap (λ n. link_of n to) (peer_if place to false e) ∙ place_if (place + 2) to false next ∙ omega arith

-- the place of the peer after the first nodes comes after those of them that are peers
pub next_place : (index to : ℕ) → 1 ≤ to → index + 1 ≢ to → link_of (index + 1) to ≡ places_before index to
next_place index to one apart = ap (λ n. link_of n to) (sym (place_next index to one apart).1) ∙ place_of_peer (places_before index to) to

-- a peer among the first nodes is at one of their places
pub place_among : (from to index : ℕ) → 1 ≤ from → from ≤ index → 1 ≤ to → from ≢ to → link_of from to < places_before index to
place_among from to index some most one apart = by (nat_lt from to) refl (nat_lt index to) refl
  where
    by : (b : Bool) → nat_lt from to ≡ b → (d : Bool) → nat_lt index to ≡ d → link_of from to < places_before index to
    by true e true f = omega (arith, place_if from to true e, places_if index to true f, some, most)
    by true e false f =
        let lt : from < to = grind (arith, nat_tests, e) in
        let le : to ≤ index = grind (arith, nat_tests, f) in
        omega (arith, place_if from to true e, places_if index to false f, some, lt, le)
    by false e true f =
        let le : to ≤ from = grind (arith, nat_tests, e) in
        let lt : index < to = grind (arith, nat_tests, f) in
        absurd (omega (arith, le, lt, most))
    by false e false f =
        let le : to ≤ from = grind (arith, nat_tests, e) in
        omega (arith, place_if from to false e, places_if index to false f, le, apart, some, most)

-- so a link between two of all is one of the links of the second
pub link_within : (count from to : ℕ) → AreTwoOf count from to → link_of from to + 1 < count
link_within count from to two =
    let below = place_among from to count two.0.0 two.0.1 two.1.0 two.2 in
    let all = places_of_all count to two.1.1 two.1.0 in
    omega (arith, below, all)

-- whichever node is at one of their places is one of them
pub peer_among : (place to index : ℕ) → place < places_before index to → 1 ≤ peer_at place to × peer_at place to ≤ index
peer_among place to index lt = by (nat_lt (place + 1) to) refl (nat_lt index to) refl
  where
    by : (b : Bool) → nat_lt (place + 1) to ≡ b → (d : Bool) → nat_lt index to ≡ d → 1 ≤ peer_at place to × peer_at place to ≤ index
    by true e true f =
        let at = peer_if place to true e in
        (omega (arith, at), omega (arith, at, places_if index to true f, lt))
    by true e false f =
        let at = peer_if place to true e in
        (omega (arith, at), omega (arith, at, places_if index to false f, lt))
    by false e true f =
        let le : to ≤ place + 1 = grind (arith, nat_tests, e) in
        let less : index < to = grind (arith, nat_tests, f) in
        absurd (omega (arith, le, less, places_if index to true f, lt))
    by false e false f =
        let at = peer_if place to false e in
        (omega (arith, at), omega (arith, at, places_if index to false f, lt))

-- the node at a place is another node
pub peer_apart : (place to : ℕ) → peer_at place to ≢ to
peer_apart place to = by (nat_lt (place + 1) to) refl
  where
    by : (b : Bool) → nat_lt (place + 1) to ≡ b → peer_at place to ≢ to
    by true e =
        let lt : place + 1 < to = grind (arith, nat_tests, e) in
        omega (arith, peer_if place to true e, lt)
    by false e =
        let le : to ≤ place + 1 = grind (arith, nat_tests, e) in
        omega (arith, peer_if place to false e, le)

pub peer_some : (place to : ℕ) → 1 ≤ peer_at place to
peer_some place to = grind (arith, nat_tests)

-- one of so many
pub peer_within : (place to count : ℕ) → place + 1 < count → to ≤ count → IsOneOf count (peer_at place to)
peer_within place to count lt most = by (nat_lt (place + 1) to) refl
  where
    by : (b : Bool) → nat_lt (place + 1) to ≡ b → IsOneOf count (peer_at place to)
    by true e = let at = peer_if place to true e in (omega (arith, at), omega (arith, at, lt))
    by false e = let at = peer_if place to false e in (omega (arith, at), omega (arith, at, lt))

-- ---- a list with an element for each peer

module _ {T : Type 0} where
  -- an element for each peer among the first nodes, at its place
  pub record ArePeers (P : ℕ → T → Type 0) (to index : ℕ) (xs : List T) : Type 0 where
    pub count : length xs ≡ places_before index to
    pub each : Each (λ i x. P (peer_at i to) x) xs

  pub peers_none : (P : ℕ → T → Type 0) (to : ℕ) → 1 ≤ to → ArePeers P to 0 []
  peers_none P to one = record { count = none to one; each = each_nil (λ i x. P (peer_at i to) x) }
    where
      none : (to : ℕ) → 1 ≤ to → 0 ≡ places_before 0 to
      none to one = grind (arith, nat_tests, one)

  -- the next node is a peer
  pub peers_more : (P : ℕ → T → Type 0) (to index : ℕ) (xs new : List T) (x : T) → 1 ≤ to → index + 1 ≢ to → new ≡ xs ++ x ∷ [] → P (index + 1) x → ArePeers P to index xs → ArePeers P to (index + 1) new
  peers_more P to index xs new x one apart is here all =
      let p = place_next index to one apart in
      let at : peer_at (length xs) to ≡ index + 1 = ap (λ i. peer_at i to) all.count ∙ p.1 in
      record {
        count = omega (arith, ap length is, length-append xs (x ∷ []), all.count, p.0);
        each = each_push (λ i y. P (peer_at i to) y) xs new x is all.each (subst (λ n. P n x) (sym at) here);
      }

  -- or the node itself
  pub peers_same : (P : ℕ → T → Type 0) (to index : ℕ) (xs : List T) → index + 1 ≡ to → ArePeers P to index xs → ArePeers P to (index + 1) xs
  peers_same P to index xs e all = record { count = all.count ∙ sym (place_same index to e); each = all.each }

  pub peers_all : (P : ℕ → T → Type 0) (to count : ℕ) (xs : List T) → 1 ≤ to → to ≤ count → ArePeers P to count xs → length xs + 1 ≡ count
  peers_all P to count xs one most all = ap (λ n. n + 1) all.count ∙ places_of_all count to most one

  -- without the next node, a peer
  pub peers_less : (P : ℕ → T → Type 0) (to index : ℕ) (xs whole : List T) (x : T) → 1 ≤ to → index + 1 ≢ to → whole ≡ xs ++ x ∷ [] → ArePeers P to (index + 1) whole → ArePeers P to index xs × P (index + 1) x
  peers_less P to index xs whole x one apart is all =
      let p = place_next index to one apart in
      let count : length xs ≡ places_before index to = omega (arith, ap length is, length-append xs (x ∷ []), all.count, p.0) in
      let at : peer_at (length xs) to ≡ index + 1 = ap (λ i. peer_at i to) count ∙ p.1 in
      (record { count = count; each = each_front (λ i y. P (peer_at i to) y) xs whole x is all.each }, subst (λ n. P n x) at (each_last (λ i y. P (peer_at i to) y) xs whole x is all.each))

  -- without the node itself
  pub peers_still : (P : ℕ → T → Type 0) (to index : ℕ) (xs : List T) → index + 1 ≡ to → ArePeers P to (index + 1) xs → ArePeers P to index xs
  peers_still P to index xs e all = record { count = all.count ∙ place_same index to e; each = all.each }
