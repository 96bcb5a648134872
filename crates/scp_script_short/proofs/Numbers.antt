-- One number more.
use Rattle.std.proofs.Common.{◌≡◌, ◌+◌, ℕ, suc, Bool, true, false, not, cond, List, [], ◌∷◌, ◌++◌, map, filter, flat_map, nat_eq, ap, ◌∙◌, append-nil, sym, arith}
use Rattle.std.specs.Prelude.{if◌then◌else◌}
use Rattle.std.proofs.lemmas.List.{map_push, flat_map_more}
use Rattle.std.proofs.lemmas.List.Elements.{filter-append}
use Rattle.scp_script_text.specs.scp_types.specs.declared.names.Slot.{Slot}
use Rattle.scp_script_short.specs.Lines.{numbers, open_line, opens_of, round_line, round_of_each, rounds, ask_lines, asks}

last_other : (f : ℕ → List ℕ) (b : Bool) (xs : List ℕ) (y : ℕ) → map f (xs ++ cond (not b) (y ∷ []) []) ≡ (if b then map f xs else map f xs ++ f y ∷ [])
last_other f true xs y = ap (map f) (append-nil xs)
last_other f false xs y = map_push f xs y

pub opens_more : (n node : ℕ) → opens_of (n + 1) node ≡ (if nat_eq (n + 1) node then opens_of n node else opens_of n node ++ open_line node (n + 1) ∷ [])
opens_more n node =
    let e : n + 1 ≡ suc n = omega arith in
    rw e (ap (map (open_line node)) (filter-append (λ peer. not (nat_eq peer node)) (numbers n) (suc n ∷ []))
    ∙ last_other (open_line node) (nat_eq (suc n) node) (filter (λ peer. not (nat_eq peer node)) (numbers n)) (suc n))

flat_more : (f : ℕ → List (List ℕ)) (n : ℕ) → flat_map f (numbers (n + 1)) ≡ flat_map f (numbers n) ++ f (n + 1)
flat_more f n =
    let e : n + 1 ≡ suc n = omega arith in
    rw e (sym (flat_map_more f [] (numbers n) (suc n)))

pub all_opens_more : (nodes n : ℕ) → flat_map (opens_of nodes) (numbers (n + 1)) ≡ flat_map (opens_of nodes) (numbers n) ++ opens_of nodes (n + 1)
all_opens_more nodes n = flat_more (opens_of nodes) n

pub round_more : (n : ℕ) (slot : Slot) → round_of_each (n + 1) slot ≡ round_of_each n slot ++ round_line (n + 1) slot ∷ []
round_more n slot = let e : n + 1 ≡ suc n = omega arith in rw e (map_push (λ node. round_line node slot) (numbers n) (suc n))

pub rounds_more : (nodes : ℕ) (slot : Slot) (n : ℕ) → rounds nodes slot (n + 1) ≡ rounds nodes slot n ++ round_of_each nodes slot
rounds_more nodes slot n = flat_more (λ time. round_of_each nodes slot) n

pub asks_more : (node peer n : ℕ) → asks node peer (n + 1) ≡ asks node peer n ++ ask_lines node peer (n + 1)
asks_more node peer n = flat_more (ask_lines node peer) n
