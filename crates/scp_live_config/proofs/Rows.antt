-- Rows of inner sets that tables say.
use Rattle.std.proofs.Common.{◌≡◌, ℕ, ◌+◌, ◌-◌, ◌≤◌, ◌<◌, List, [], ◌∷◌, ◌++◌, length, map, Some, None, refl, sym, ap, ◌∙◌, arith, subst, take, get_or, inr}
use Rattle.std.proofs.lemmas.List.{length-map}
use Rattle.std.specs.List.{slice_get}
use Rattle.toml.specs.Data.{Data, Members, as_table}
use Rattle.toml.specs.View.{view}
use Rattle.toml.specs.declared.value.Value.{Value}
use Rattle.scp_live_config.proofs.Views.{at_said, values_more}
use Rattle.scp_quorum.specs.scp_xdr.specs.Tree.{Trees, no_trees, tree_then, in_a_row, row_len, tree_of}
use Rattle.scp_quorum.specs.QuorumTree.{Level, QuorumTree}
use Rattle.scp_quorum.specs.Sane.{levels, AreInRange, IsInRange}
use Rattle.scp_live_config.specs.Names.{Identity, HasOnly, node_said}
use Rattle.scp_live_config.specs.declared.wrong.Section.TheVariants.{Set}
use Rattle.scp_live_config.specs.declared.wrong.SetWrong.TheVariants as within
use Rattle.scp_quorum.specs.scp_types.specs.declared.names.NodeId.{NodeId}
use Rattle.scp_live_config.specs.Sets.{SaysLevel, SayInner, SaysSet, sets_in, validators_in, threshold_in}
use Rattle.scp_live_config.specs.Wrong.{IsWrongInside, IsWrongHere}
use Rattle.scp_live_config.specs.declared.wrong.SetWrong.{SetWrong}
use Rattle.scp_live_config.specs.declared.sets.SetFault.{SetFault}
use Rattle.scp_live_config.specs.declared.sets.SetFault.TheVariants as set
use Rattle.scp_live_config.specs.inside.Faults.{TellsSet, TellsInside}
use Rattle.scp_live_config.proofs.Numbers.{threshold_within}
use Rattle.scp_live_config.proofs.Sames.{row_length}

-- one more
pub say_push : (names : List Identity) (values : List Data) (sets : List QuorumTree) (said : Data) (set : QuorumTree) (ms : Members)
    → SayInner names values (in_a_row sets) → as_table said ≡ Some ms → SaysSet names ms set → SayInner names (values ++ said ∷ []) (in_a_row (sets ++ set ∷ []))
say_push names [] [] said set ms before e says = ((ms, e, says.0, says.1), tt)
say_push names [] (s ∷ sets) said set ms before e says = absurd before
say_push names (d ∷ values) [] said set ms before e says = absurd before
say_push names (d ∷ values) (s ∷ sets) said set ms before e says = (before.0, say_push names values sets said set ms before.1 e says)

-- no more levels
pub levels_push : (sets : List QuorumTree) (set : QuorumTree) (n : ℕ) → levels (in_a_row sets) ≤ n → levels set.inner + 1 ≤ n → levels (in_a_row (sets ++ set ∷ [])) ≤ n
levels_push [] set n before here = omega arith
levels_push (s ∷ sets) set n before here =
    let others : levels (in_a_row (sets ++ set ∷ [])) ≤ n = levels_push sets set n (omega arith) here in omega arith

-- each threshold is in its range
pub rows_in_range : (names : List Identity) (values : List Data) (row : Trees Level) → SayInner names values row → AreInRange row
rows_in_range names [] no_trees h = tt
rows_in_range names [] (tree_then level inner others) h = absurd h
rows_in_range names (d ∷ values) no_trees h = absurd h
rows_in_range names (d ∷ values) (tree_then level inner others) h =
    let t = threshold_within (length level.validators + row_len inner) h.0.0 level.threshold h.0.2.threshold in
    ((t.0, t.1, rows_in_range names h.0.3.0 inner h.0.3.2), rows_in_range names values others h.1)

pub set_in_range : (names : List Identity) (ms : Members) (set : QuorumTree) → SaysSet names ms set → IsInRange set
set_in_range names ms set h =
    let t = threshold_within (length set.head.validators + row_len set.inner) ms set.head.threshold h.0.threshold in
    (t.0, t.1, rows_in_range names h.1.0 set.inner h.1.2)

-- what is told of an inner set
pub told_inside : (names : List Identity) (left : ℕ) (ms inner : Members) (values : List Data) (place : ℕ) (fault result : SetFault)
    → sets_in ms ≡ Some values → slice_get (map as_table values) place ≡ Some (Some inner) → TellsInside place fault result → TellsSet names (left - 1) inner fault → TellsSet names left ms result
told_inside names left ms inner values place fault set.NoMemory e at_place moved told = tt
told_inside names left ms inner values place set.NoMemory (set.In there w) e at_place moved told = absurd moved
told_inside names left ms inner values place (set.In here v) (set.In there w) e at_place moved told =
    let wrong : IsWrongInside names left (place ∷ here.items) ms v = (values, inner, e, at_place, told) in
    subst (λ (places : List ℕ). IsWrongInside names left places ms w) (sym moved.0) (subst (λ (x : SetWrong). IsWrongInside names left (place ∷ here.items) ms x) moved.1 wrong)

-- where there are no inner sets, there is no level of them
pub no_levels : (names : List Identity) (row : Trees Level) → SayInner names [] row → levels row ≤ 0
no_levels names no_trees h = omega arith
no_levels names (tree_then level inner others) h = absurd h

row_of_list : (sets : List QuorumTree) → row_len (in_a_row sets) ≡ length sets
row_of_list [] = refl
row_of_list (s ∷ sets) = omega (arith, row_of_list sets)

-- the parts of a table make what it says
pub says_made : (names : List Identity) (ms : Members) (nodes : List NodeId) (sets : List QuorumTree) (threshold entries : ℕ) (made : QuorumTree)
    → made ≡ tree_of (record { threshold = threshold; validators = nodes }) sets → HasOnly Set ms → entries ≡ length nodes + length sets → Some threshold ≡ threshold_in entries ms
    → ((values : List Data) × (validators_in ms ≡ Some values) × (map (node_said names) values ≡ map Some nodes))
    → ((values : List Data) × (sets_in ms ≡ Some values) × SayInner names values (in_a_row sets))
    → SaysSet names ms made
says_made names ms nodes sets threshold entries made e keys counts told said inner =
    let level : Level = record { threshold = threshold; validators = nodes } in
    let same : entries ≡ length nodes + row_len (in_a_row sets) = counts ∙ ap (λ n. length nodes + n) (sym (row_of_list sets)) in
    let there : threshold_in (length nodes + row_len (in_a_row sets)) ms ≡ Some threshold = subst (λ (n : ℕ). threshold_in n ms ≡ Some threshold) same (sym told) in
    let says : SaysLevel names ms level (row_len (in_a_row sets)) = record { keys = keys; threshold = there; validators = said } in
    let whole : SaysSet names ms (tree_of level sets) = (says, inner) in
    subst (λ (q : QuorumTree). SaysSet names ms q) (sym e) whole

-- a threshold that isn't there
pub no_threshold : (names : List Identity) (left : ℕ) (ms : Members) (nodes : List NodeId) (sets : List QuorumTree) (entries : ℕ) → entries ≡ length nodes + length sets → None ≡ threshold_in entries ms
    → ((values : List Data) × (validators_in ms ≡ Some values) × (map (node_said names) values ≡ map Some nodes))
    → ((values : List Data) × (sets_in ms ≡ Some values) × SayInner names values (in_a_row sets))
    → IsWrongHere names left ms within.Threshold
no_threshold names left ms nodes sets entries counts none said inner =
    let validators : length said.0 ≡ length nodes = sym (length-map said.0 (node_said names)) ∙ ap length said.2 ∙ length-map nodes Some in
    let rows : length inner.0 ≡ length sets = row_length names inner.0 (in_a_row sets) inner.2 ∙ row_of_list sets in
    let same : entries ≡ length said.0 + length inner.0 = omega arith in
    (said.0, inner.0, said.1, inner.1, subst (λ (n : ℕ). threshold_in n ms ≡ None) same (sym none))

-- the sets so far, and one more
pub inner_more : (names : List Identity) (vs : List Value) (sets : List QuorumTree) (place left : ℕ) (v : Value) (set : QuorumTree) (inner : Members) → place < length vs → v ≡ get_or vs place v
    → SayInner names (map view (take place vs)) (in_a_row sets) × (levels (in_a_row sets) ≤ left) → Some inner ≡ as_table (view v) → SaysSet names inner set → levels set.inner + 1 ≤ left
    → SayInner names (map view (take (place + 1) vs)) (in_a_row (sets ++ set ∷ [])) × (levels (in_a_row (sets ++ set ∷ [])) ≤ left)
inner_more names vs sets place left v set inner within e before there says few =
    let more : map view (take (place + 1) vs) ≡ map view (take place vs) ++ view v ∷ [] = values_more vs place v within e in
    let one : SayInner names (map view (take place vs) ++ view v ∷ []) (in_a_row (sets ++ set ∷ [])) = say_push names (map view (take place vs)) sets (view v) set inner before.0 (sym there) says in
    (subst (λ (ds : List Data). SayInner names ds (in_a_row (sets ++ set ∷ []))) (sym more) one, levels_push sets set left before.1 few)

-- an inner set that isn't read
pub inner_wrong : (names : List Identity) (left : ℕ) (ms inner : Members) (vs : List Value) (place : ℕ) (v : Value) (fault result : SetFault) → place < length vs → v ≡ get_or vs place v
    → Some (map view vs) ≡ sets_in ms → Some inner ≡ as_table (view v) → TellsInside place fault result → TellsSet names (left - 1) inner fault → TellsSet names left ms result
inner_wrong names left ms inner vs place v fault result within e there table moved told =
    told_inside names left ms inner (map view vs) place fault result (sym there) (at_said as_table vs place v within e ∙ ap Some (sym table)) moved told

-- one that is no table
pub no_table_here : (names : List Identity) (left : ℕ) (ms : Members) (vs : List Value) (place : ℕ) (v : Value) → place < length vs → v ≡ get_or vs place v
    → Some (map view vs) ≡ sets_in ms → None ≡ as_table (view v) → IsWrongHere names left ms within.InnerSets
no_table_here names left ms vs place v inside e there table = inr (map view vs, place, sym there, at_said as_table vs place v inside e ∙ ap Some (sym table))
