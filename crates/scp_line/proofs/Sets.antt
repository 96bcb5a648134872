-- The quorum sets of a script's nodes, each at its place.
use Rattle.std.proofs.Common.{◌≡◌, ◌<◌, ◌≤◌, ◌+◌, ◌-◌, ℕ, zero, suc, List, [], ◌∷◌, ◌++◌, map, length, get_or, refl, sym, ◌∙◌, ap, arith, ⊎_elim}
use Rattle.std.proofs.lemmas.List.{get_or-map, get_or_append_left, get_or_push, length-append, length-map, map_push}
use Rattle.std.proofs.lemmas.Bool.{cases_eq}
use Rattle.scp_turn.specs.scp_quorum.specs.QuorumTree.{QuorumTree}
use Rattle.scp_report.specs.scp_script.specs.declared.command.Command.{Command}
use Rattle.scp_report.specs.scp_script.specs.Script.{node_count}
use Rattle.scp_report.specs.scp_script.specs.Nodes.{numbers, set_at}
use Rattle.scp_line.specs.Left.{sets_in}

-- one node more
pub sets_more : (commands : List Command) (n : ℕ) → map (λ number. set_at number commands) (numbers (n + 1)) ≡ map (λ number. set_at number commands) (numbers n) ++ set_at (n + 1) commands ∷ []
sets_more commands n = let e : n + 1 ≡ suc n = omega arith in rw e (map_push (λ number. set_at number commands) (numbers n) (suc n))

length_numbers : (n : ℕ) → length (numbers n) ≡ n
length_numbers zero = refl
length_numbers (suc n) = omega (arith, length-append (numbers n) (suc n ∷ []), length_numbers n)

number_at : (n k : ℕ) → k < n → get_or (numbers n) k 0 ≡ k + 1
number_at zero k lt = absurd (omega (arith, lt))
number_at (suc n) k lt = ⊎_elim
    (λ e. get_or_push (numbers n) (suc n) 0 k (length_numbers n ∙ sym e) ∙ omega (arith, e))
    (λ apart. get_or_append_left (numbers n) (suc n ∷ []) 0 k (omega (arith, lt, apart, length_numbers n)) ∙ number_at n k (omega (arith, lt, apart)))
    (cases_eq k n)

-- as many as there are nodes
pub sets_count : (commands : List Command) (sets : List QuorumTree) → sets ≡ sets_in commands → length sets ≡ node_count commands
sets_count commands sets same =
    ap (λ (l : List QuorumTree). length l) same
    ∙ length-map (numbers (node_count commands)) (λ number. set_at number commands)
    ∙ length_numbers (node_count commands)

-- the set at a node's place is its own
pub set_there : (commands : List Command) (sets : List QuorumTree) (number : ℕ) (set : QuorumTree) → sets ≡ sets_in commands → 1 ≤ number → number ≤ node_count commands → set ≡ get_or sets (number - 1) set → set ≡ set_at number commands
set_there commands sets number set same one few is =
    let all = numbers (node_count commands) in
    let own = λ (n : ℕ). set_at n commands in
    let within : number - 1 < node_count commands = omega (arith, one, few) in
    let there : number - 1 < length all = omega (arith, within, length_numbers (node_count commands)) in
    let next : number - 1 + 1 ≡ number = omega (arith, one) in
    is
    ∙ ap (λ (l : List QuorumTree). get_or l (number - 1) set) same
    ∙ get_or-map own all (number - 1) 0 set there
    ∙ ap own (number_at (node_count commands) (number - 1) within ∙ next)
