-- The nodes that lead in turn, and whether one leads.
use Rattle.std.proofs.Common.{◌≡◌, ◌+◌, ◌-◌, ◌<◌, ◌≤◌, ℕ, zero, suc, Bool, true, false, ◌||◌, List, [], ◌∷◌, ◌++◌, length, get_or, refl, sym, ◌∙◌, ap, subst, arith, nat_le}
use Rattle.std.proofs.lemmas.Bool.Decides.{nat_tests}
use Rattle.std.proofs.lemmas.List.{get_or_append_left}
use Rattle.std.proofs.lemmas.List.Folds.{list_any-append}
use Rattle.std.proofs.Math.Seq.{get_or-append_seam}
use Rattle.scp_nominate.specs.scp_types.specs.declared.names.NodeId.{NodeId}
use Rattle.scp_script.specs.declared.command.Command.{Command}
use Rattle.scp_script.specs.Nodes.{numbers, id_of, set_at}
use Rattle.scp_nominate.specs.Turns.{AreInTurn}
use Rattle.scp_script_check.specs.Warnings.{turn_of, leads_in, leader_of, is_same}

-- one node's turn more
pub turn_more : (commands : List Command) (ts : List (List NodeId)) (t : List NodeId) (i : ℕ) → length ts ≡ i
    → ((node : ℕ) → 1 ≤ node → node ≤ i → AreInTurn (id_of node) (set_at node commands) (turn_of ts node))
    → AreInTurn (id_of (i + 1)) (set_at (i + 1) commands) t
    → (node : ℕ) → 1 ≤ node → node ≤ i + 1 → AreInTurn (id_of node) (set_at node commands) (turn_of (ts ++ t ∷ []) node)
turn_more commands ts t i e all last node one most = by (nat_le node i) refl
  where
    by : (b : Bool) → nat_le node i ≡ b → AreInTurn (id_of node) (set_at node commands) (turn_of (ts ++ t ∷ []) node)
    by true p =
        let within : node ≤ i = grind (arith, nat_tests) in
        subst (λ (ns : List NodeId). AreInTurn (id_of node) (set_at node commands) ns) (sym (get_or_append_left ts (t ∷ []) [] (node - 1) (omega (arith, e)))) (all node one within)
    by false p =
        let more : i < node = grind (arith, nat_tests) in
        let same : i + 1 ≡ node = omega arith in
        let place : node - 1 ≡ length ts = omega (arith, e) in
        let is : turn_of (ts ++ t ∷ []) node ≡ t = ap (λ (k : ℕ). get_or (ts ++ t ∷ []) k []) place ∙ get_or-append_seam ts t [] [] in
        subst (λ (ns : List NodeId). AreInTurn (id_of node) (set_at node commands) ns) (sym is) (subst (λ (n : ℕ). AreInTurn (id_of n) (set_at n commands) t) same last)

or_more : (a b : Bool) → (a || (b || false)) ≡ (a || b)
or_more true b = refl
or_more false true = refl
or_more false false = refl

-- one round more
pub leads_more : (nodes : List NodeId) (slot n : ℕ) (node : NodeId) → leads_in nodes slot (n + 1) node ≡ (leads_in nodes slot n node || is_same (leader_of nodes slot (n + 1)) node)
leads_more nodes slot n node =
    let e : n + 1 ≡ suc n = omega arith in
    rw e (list_any-append (λ round. is_same (leader_of nodes slot round) node) (numbers n) (suc n ∷ []) ∙ or_more (leads_in nodes slot n node) (is_same (leader_of nodes slot (suc n)) node))

or_true : (a b : Bool) → a ≡ true → (a || b) ≡ true
or_true true b e = refl
or_true false b e = absurd cc

then_more : (nodes : List NodeId) (slot n k : ℕ) (node : NodeId) → leads_in nodes slot n node ≡ true → leads_in nodes slot (n + k) node ≡ true
then_more nodes slot n zero node e = let z : n + 0 ≡ n = omega arith in rw z e
then_more nodes slot n (suc k) node e =
    let z : n + suc k ≡ (n + k) + 1 = omega arith in
    rw z (leads_more nodes slot (n + k) node ∙ or_true (leads_in nodes slot (n + k) node) (is_same (leader_of nodes slot ((n + k) + 1)) node) (then_more nodes slot n k node e))

or_right : (a b : Bool) → b ≡ true → (a || b) ≡ true
or_right true b e = refl
or_right false b e = e

-- the leader of a round within so many leads one of them
pub leads_there : (nodes : List NodeId) (slot i rounds : ℕ) (node : NodeId) → i < rounds → is_same (leader_of nodes slot (i + 1)) node ≡ true → leads_in nodes slot rounds node ≡ true
leads_there nodes slot i rounds node within e =
    let z : (i + 1) + (rounds - (i + 1)) ≡ rounds = omega arith in
    subst (λ (n : ℕ). leads_in nodes slot n node ≡ true) z (then_more nodes slot (i + 1) (rounds - (i + 1)) node (leads_more nodes slot i node ∙ or_right (leads_in nodes slot i node) (is_same (leader_of nodes slot (i + 1)) node) e))
