-- The nodes of a script are linked to each other: the peers of each are the others.
use Rattle.std.proofs.Common.{◌≡◌, ◌<◌, ◌≤◌, ◌+◌, ◌-◌, ◌⊎◌, ◌↔◌, inl, inr, ℕ, zero, suc, Bool, true, not, List, [], ◌∷◌, ◌++◌, map, filter, take, drop, length, get_or, nat_eq, refl, sym, ◌∙◌, ap, arith, ⊎_elim}
use Rattle.std.specs.Prelude.{Result, Ok, Err, IfOk, IfErr, IsOkUnless, remove}
use Rattle.std.specs.List.{take-map, drop-map}
use Rattle.std.specs.Cmp.Lexicographic.{pointwise, bytes_decides}
use Rattle.std.proofs.lemmas.Bool.{cases_eq}
use Rattle.std.proofs.lemmas.Option.{slice_get_within}
use Rattle.std.proofs.lemmas.List.{map-append, length-map, length-append, get_or-map, get_or_push, get_or_append_left, same_lists}
use Rattle.scp_turn.specs.scp_types.specs.declared.limits.TheConstants.{NODE_LIMIT}
use Rattle.scp_turn.specs.scp_types.specs.declared.names.NodeId.{NodeId}
use Rattle.scp_turn.specs.scp_types.specs.declared.fault.Fault.{Fault}
use Rattle.scp_turn.specs.scp_types.specs.declared.fault.Fault.TheVariants.{NoMemory, BadConfig}
use Rattle.scp_turn.specs.scp_core.specs.declared.config.Config.{Config}
use Rattle.scp_turn.specs.scp_core.specs.Kv.{NodeView}
use Rattle.scp_turn.specs.Heard.{Nodes}
use Rattle.scp_turn.specs.Network.{NetworkView}
use Rattle.scp_turn.specs.Linked.{ids_of, IsNetwork}
use Rattle.scp_report.specs.scp_script.specs.declared.command.Command.{Command}
use Rattle.scp_report.specs.scp_script.specs.Nodes.{numbers, id_of, peers_of}
use Rattle.scp_line.specs.Play.{AreNew}
use Rattle.scp_line.proofs.Fits.{up_to, passes}
use Rattle.scp_line.proofs.Making.{new_at}

-- ---- the others of up to eight

same_others : ℕ → ℕ → Bool
same_others count number = pointwise nat_eq (filter (λ other. not (nat_eq other number)) (numbers count)) (remove (numbers count) (number - 1))

each_is_same : up_to (λ count. up_to (same_others count) count) NODE_LIMIT ≡ true
unfolding up_to same_others
each_is_same = refl

others_are : (count number : ℕ) → count ≤ NODE_LIMIT → 1 ≤ number → number ≤ count → filter (λ other. not (nat_eq other number)) (numbers count) ≡ remove (numbers count) (number - 1)
unfolding same_others
others_are count number few one within =
    (bytes_decides (filter (λ other. not (nat_eq other number)) (numbers count)) (remove (numbers count) (number - 1))).0
    (passes (same_others count) count number (passes (λ n. up_to (same_others n) n) NODE_LIMIT count each_is_same (omega (arith, one, within)) few) one within)

-- ---- their ids

remove_map : {A B : Type 0} (f : A → B) (xs : List A) (i : ℕ) → map f (remove xs i) ≡ remove (map f xs) i
remove_map {A} {B} f xs i =
    map-append f (take i xs) (drop (suc i) xs)
    ∙ ap (λ (l : List B). l ++ map f (drop (suc i) xs)) (sym (take-map f i xs))
    ∙ ap (λ (l : List B). take i (map f xs) ++ l) (sym (drop-map f (suc i) xs))

length_numbers : (n : ℕ) → length (numbers n) ≡ n
length_numbers zero = refl
length_numbers (suc n) = omega (arith, length-append (numbers n) (suc n ∷ []), length_numbers n)

number_at : (n k : ℕ) → k < n → get_or (numbers n) k 0 ≡ k + 1
number_at zero k lt = absurd (omega (arith, lt))
number_at (suc n) k lt = ⊎_elim
    (λ e. get_or_push (numbers n) (suc n) 0 k (length_numbers n ∙ sym e) ∙ omega (arith, e))
    (λ apart. get_or_append_left (numbers n) (suc n ∷ []) 0 k (omega (arith, lt, apart, length_numbers n)) ∙ number_at n k (omega (arith, lt, apart)))
    (cases_eq k n)

ids_are : (commands : List Command) (nodes : Nodes) → AreNew commands nodes → ids_of nodes ≡ map id_of (numbers (length nodes))
ids_are commands [] are = refl
ids_are commands (v ∷ vs) are =
    let count : length (ids_of (v ∷ vs)) ≡ length (v ∷ vs) = length-map (v ∷ vs) (λ (node : NodeView). node.config.me) in
    let other : length (map id_of (numbers (length (v ∷ vs)))) ≡ length (v ∷ vs) = length-map (numbers (length (v ∷ vs))) id_of ∙ length_numbers (length (v ∷ vs)) in
    same_lists (ids_of (v ∷ vs)) (map id_of (numbers (length (v ∷ vs)))) (count ∙ sym other) (λ k d lt.
    let within : k < length (v ∷ vs) = omega (arith, lt, count) in
    get_or-map (λ (node : NodeView). node.config.me) (v ∷ vs) k v d within
    ∙ ap (λ (c : Config). c.me) (are.each k v within).config
    ∙ ap id_of (sym (number_at (length (v ∷ vs)) k within))
    ∙ sym (get_or-map id_of (numbers (length (v ∷ vs))) k 0 d (omega (arith, within, length_numbers (length (v ∷ vs))))))

-- ---- the network

pub linked : (commands : List Command) (nodes : Nodes) → AreNew commands nodes → length nodes ≤ NODE_LIMIT → IsNetwork nodes
linked commands nodes are few = record {
  few = omega (arith, few);
  linked = λ place node at.
      let within : place < length nodes = slice_get_within nodes place node at in
      let same : place + 1 - 1 ≡ place = omega arith in
      ap (λ (c : Config). c.peers) (new_at commands nodes place node are at).config
      ∙ ap (λ (n : ℕ). peers_of n (place + 1)) (sym are.count)
      ∙ ap (λ (l : List ℕ). map id_of l) (others_are (length nodes) (place + 1) few (omega arith) (omega (arith, within)))
      ∙ ap (λ (i : ℕ). map id_of (remove (numbers (length nodes)) i)) same
      ∙ remove_map id_of (numbers (length nodes)) place
      ∙ ap (λ (l : List NodeId). remove l place) (sym (ids_are commands nodes are))
      ∙ sym (remove_map (λ (node : NodeView). node.config.me) nodes place);
}

-- such a network is refused for want of memory alone
pub network_made : (r : Result NetworkView Fault) (nodes : Nodes) → IsNetwork nodes → (r ≡ Err BadConfig) ↔ (¬ (IsNetwork nodes)) → IfErr r (λ f. (f ≡ BadConfig) ⊎ (f ≡ NoMemory)) → IsOkUnless r NoMemory
network_made (Ok network) nodes is refused only = tt
network_made (Err f) nodes is refused (inl bad) = absurd (refused.0 (ap (λ (g : Fault). Err g) bad) is)
network_made (Err f) nodes is refused (inr short) = short

pub network_new : (r : Result NetworkView Fault) (commands : List Command) (nodes : Nodes) → IfOk r (λ network. network.nodes ≡ nodes) → AreNew commands nodes → IfOk r (λ network. AreNew commands network.nodes)
network_new (Ok network) commands nodes same are = rw same are
network_new (Err f) commands nodes same are = tt
