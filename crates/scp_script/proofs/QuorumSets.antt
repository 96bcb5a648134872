-- The quorum sets of a script's nodes.
use Rattle.std.proofs.Common.{◌≡◌, ◌<◌, ◌*◌, ℕ, zero, suc, Bool, true, false, ◌||◌, List, [], ◌∷◌, ◌++◌, length, map, nat_eq, Option, Some, None, IfSome, arith, refl, sym, ◌∙◌, ap, subst, All, append-nil}
use Rattle.std.specs.Prelude.{◌≢◌, ◌≤◌, Ok, Err, slice_index, flat_map, sum_by, if◌then◌else◌}
use Rattle.std.specs.Option.{unwrap_or}
use Rattle.std.specs.List.{IsDistinct, AllByRecursion, list_any, last_or}
use Rattle.std.specs.Ordering.{eq_by_cmp}
use Rattle.std.specs.Cmp.{IsTotalOrder}
use Rattle.std.proofs.lemmas.Cmp.{on_total, nat_list_cmp_total, eq_by_cmp_equiv}
use Rattle.std.proofs.lemmas.Map.Lookups.{exact_bytes}
use Rattle.std.proofs.lemmas.Map.Views.{tells_apart}
use Rattle.std.proofs.lemmas.Map.Keys.{IsDistinct-push}
use Rattle.std.proofs.lemmas.List.{map_push, length-append, length-map}
use Rattle.std.proofs.lemmas.List.Folds.{list_any-append}
use Rattle.std.proofs.lemmas.List.Sums.{sum_by-cons}
use Rattle.std.proofs.lemmas.List.Elements.{All-head, All-tail, All-cons, All-nil, All-append}
use Rattle.scp_wire.specs.scp_types.specs.declared.limits.TheConstants.{NODE_LIMIT}
use Rattle.scp_wire.specs.scp_types.specs.declared.names.NodeId.{NodeId}
use Rattle.scp_wire.specs.scp_types.specs.declared.fault.Fault.{Fault}
use Rattle.scp_wire.specs.scp_xdr.specs.Kind.{Values, Fits}
use Rattle.scp_wire.specs.scp_xdr.specs.Length.{padded_len, spelled_len}
use Rattle.scp_wire.specs.scp_xdr.specs.Shared.{node_kind, node_value}
use Rattle.scp_wire.specs.scp_xdr.specs.Reading.{reading_whole}
use Rattle.scp_wire.specs.scp_xdr.proofs.Lengths.{length_is}
use Rattle.scp_wire.specs.scp_quorum.specs.NodeSet.{node_cmp}
use Rattle.scp_wire.specs.scp_quorum.specs.QuorumTree.{QuorumTree}
use Rattle.scp_wire.specs.scp_quorum.specs.QuorumKind.{set_kind, set_value}
use Rattle.scp_wire.specs.scp_quorum.specs.Sane.{IsSane}
use Rattle.scp_wire.specs.scp_quorum.proofs.SetValues.{set_again}
use Rattle.scp_script.specs.declared.command.Command.{Command}
use Rattle.scp_script.specs.declared.command.Command.TheVariants.{Caps, Nodes, Set, Open, Close, Send, Propose, Round, Timer, Tick, Ask, Settle, Wait, Report}
use Rattle.scp_script.specs.Words.{set_in}
use Rattle.scp_script.specs.Script.{AreAdmitted, Admits}
use Rattle.scp_script.specs.Nodes.{NamesNodes, numbers, id_of, of_all, set_given, set_at}

-- ---- what is read of a set is the set

pub set_in_read : (bytes : List ℕ) (set : QuorumTree) → reading_whole set_kind bytes ≡ Ok (set_value set) → set_in (Some bytes) ≡ Some set
set_in_read bytes set e = rw e (ap (λ (s : QuorumTree). Some s) (set_again set))

pub set_in_unread : (bytes : List ℕ) (fault : Fault) → reading_whole set_kind bytes ≡ Err fault → set_in (Some bytes) ≡ None
set_in_unread bytes fault e = rw e refl

-- ---- so many of all nodes are a sane set

pub numbers_len : (n : ℕ) → length (numbers n) ≡ n
numbers_len zero = refl
numbers_len (suc n) = omega (arith, length-append (numbers n) (suc n ∷ []), numbers_len n)

-- other numbers, other ids
pub ids_apart : (m n : ℕ) → m ≢ n → eq_by_cmp node_cmp (id_of m) (id_of n) ≡ false
ids_apart m n apart = by (eq_by_cmp node_cmp (id_of m) (id_of n)) refl
  where
    by : (b : Bool) → eq_by_cmp node_cmp (id_of m) (id_of n) ≡ b → eq_by_cmp node_cmp (id_of m) (id_of n) ≡ false
    by true e = absurd (apart (ap (λ (bytes : List ℕ). slice_index bytes 0) (tells_apart exact_bytes (id_of m).0 (id_of n).0 e)))
    by false e = e

node_order : IsTotalOrder node_cmp
node_order = on_total (λ (v : NodeId). v.0) nat_list_cmp_total

or_false : (a b : Bool) → a ≡ false → b ≡ false → (a || b) ≡ false
or_false a b p q = rw (p, q) refl

none_before : (m n : ℕ) → n < m → list_any (eq_by_cmp node_cmp (id_of m)) (map id_of (numbers n)) ≡ false
none_before m zero lt = refl
none_before m (suc n) lt =
    ap (list_any (eq_by_cmp node_cmp (id_of m))) (map_push id_of (numbers n) (suc n))
    ∙ list_any-append (eq_by_cmp node_cmp (id_of m)) (map id_of (numbers n)) (id_of (suc n) ∷ [])
    ∙ or_false (list_any (eq_by_cmp node_cmp (id_of m)) (map id_of (numbers n))) (eq_by_cmp node_cmp (id_of m) (id_of (suc n)) || false) (none_before m n (omega arith)) (or_false (eq_by_cmp node_cmp (id_of m) (id_of (suc n))) false (ids_apart m (suc n) (λ e. omega arith)) refl)

all_distinct : (n : ℕ) → IsDistinct (eq_by_cmp node_cmp) (map id_of (numbers n))
unfolding IsDistinct
all_distinct zero = tt
all_distinct (suc n) =
    subst (IsDistinct (eq_by_cmp node_cmp)) (sym (map_push id_of (numbers n) (suc n)))
    (IsDistinct-push (eq_by_cmp_equiv node_order) (map id_of (numbers n)) (id_of (suc n)) (all_distinct n) (none_before (suc n) n (omega arith)))

all_fit : (ns : List ℕ) → AllByRecursion (λ (v : Values node_kind). Fits node_kind v) (map node_value (map id_of ns))
all_fit [] = tt
all_fit (n ∷ ns) = ((omega arith, refl), all_fit ns)

no_padding : padded_len 32 ≡ 32
unfolding padded_len
no_padding = refl

all_short : (ns : List ℕ) → sum_by (λ (v : Values node_kind). spelled_len node_kind v) (map node_value (map id_of ns)) ≡ length ns * 36
all_short [] = refl
all_short (n ∷ ns) = omega (arith, no_padding, all_short ns, sum_by-cons (λ (v : Values node_kind). spelled_len node_kind v) (node_value (id_of n)) (map node_value (map id_of ns)))

values_len : (n : ℕ) → length (map node_value (map id_of (numbers n))) ≡ n
values_len n = (simp length-map) ∙ numbers_len n

ids_len : (n : ℕ) → length (map id_of (numbers n)) ≡ n
ids_len n = (simp length-map) ∙ numbers_len n

of_all_fits : (count quorum : ℕ) → count ≤ NODE_LIMIT → quorum ≤ count → Fits set_kind (set_value (of_all count quorum))
of_all_fits count quorum few within =
    ((omega arith, (omega (arith, values_len count), omega (arith, values_len count), all_fit (numbers count))), omega arith, omega arith, tt)

pub of_all_sane : (count quorum : ℕ) → count ≤ NODE_LIMIT → 1 ≤ quorum → quorum ≤ count → IsSane (of_all count quorum)
of_all_sane count quorum few one within = record {
  in_range = (one, omega (arith, ids_len count), tt);
  distinct = subst (IsDistinct (eq_by_cmp node_cmp)) (sym (append-nil (map id_of (numbers count)))) (all_distinct count);
  few_nodes = subst (λ (ns : List NodeId). length ns ≤ 1000) (sym (append-nil (map id_of (numbers count)))) (omega (arith, ids_len count));
  shallow = omega arith;
  fits = of_all_fits count quorum few within;
  short = omega (arith, length_is set_kind (set_value (of_all count quorum)), all_short (numbers count), numbers_len count);
}

-- ---- so is each node's

if_sane : (b : Bool) (set : QuorumTree) → IsSane set → All IsSane (if b then set ∷ [] else [])
if_sane true set sane = All-cons IsSane set [] sane (All-nil IsSane)
if_sane false set sane = All-nil IsSane

given_sane : (node : ℕ) (before : List Command) (command : Command) → NamesNodes command → Admits before command → All IsSane (set_given node command)
given_sane node before (Caps capacities) names fits = All-nil IsSane
given_sane node before (Nodes count quorum) names fits = All-cons IsSane (of_all count quorum) [] (of_all_sane count quorum names.0.1 names.1.0 names.2) (All-nil IsSane)
given_sane node before (Set at set) names fits = if_sane (nat_eq at node) set fits.2
given_sane node before (Open from to) names fits = All-nil IsSane
given_sane node before (Close from to) names fits = All-nil IsSane
given_sane node before (Send from to bytes) names fits = All-nil IsSane
given_sane node before (Propose at slot value) names fits = All-nil IsSane
given_sane node before (Round at slot) names fits = All-nil IsSane
given_sane node before (Timer at slot) names fits = All-nil IsSane
given_sane node before (Wait at things) names fits = All-nil IsSane
given_sane node before (Tick at) names fits = All-nil IsSane
given_sane node before (Ask from to slot) names fits = All-nil IsSane
given_sane node before Settle names fits = All-nil IsSane
given_sane node before (Report at) names fits = All-nil IsSane

all_given_sane : (node : ℕ) (before commands : List Command) → All NamesNodes commands → AreAdmitted before commands → All IsSane (flat_map (set_given node) commands)
all_given_sane node before [] names fits = All-nil IsSane
all_given_sane node before (command ∷ commands) names fits =
    All-append IsSane (set_given node command) (flat_map (set_given node) commands) (given_sane node before command (All-head NamesNodes command commands names) fits.0) (all_given_sane node (before ++ command ∷ []) commands (All-tail NamesNodes command commands names) fits.1)

last_sane : (o : Option QuorumTree) (sets : List QuorumTree) → IfSome o IsSane → All IsSane sets → IfSome (last_or o sets) IsSane
last_sane o [] sane all = sane
last_sane o (set ∷ sets) sane all = last_sane (Some set) sets (All-head IsSane set sets all) (All-tail IsSane set sets all)

or_sane : (o : Option QuorumTree) → IfSome o IsSane → IsSane (unwrap_or o (of_all 1 1))
or_sane None sane = of_all_sane 1 1 (omega arith) (omega arith) (omega arith)
or_sane (Some set) sane = sane

pub set_at_sane : (node : ℕ) (commands : List Command) → All NamesNodes commands → AreAdmitted [] commands → IsSane (set_at node commands)
set_at_sane node commands names fits = or_sane (last_or None (flat_map (set_given node) commands)) (last_sane None (flat_map (set_given node) commands) tt (all_given_sane node [] commands names fits))
