-- Entries of a set, and the quorum sets that its objects give.
use Rattle.std.proofs.Common.{◌≡◌, ℕ, suc, ◌+◌, ◌<◌, ◌≤◌, true, false, List, [], ◌∷◌, ◌++◌, map, filter, take, drop, length, get_or, Some, None, arith, refl, sym, ap, ◌∙◌, subst, append_assoc}
use Rattle.std.specs.List.{flat_map}
use Rattle.std.proofs.lemmas.Grind.{flat_map-append}
use Rattle.std.proofs.lemmas.List.{append-nil, map-append}
use Rattle.std.proofs.lemmas.List.Elements.{filter-append}
use Rattle.std.specs.Option.{is_some}
use Rattle.std.proofs.lemmas.Option.{same_Some, none-some}
use Rattle.serde_json.specs.Data.{Data, null, boolean, number, string, array, object, Members}
use Rattle.serde_json.specs.Find.{get_member, as_str, as_object}
use Rattle.serde_json.specs.View.{view}
use Rattle.serde_json.specs.declared.value.Value.{Value}
use Rattle.scp_quorum_search.specs.scp_types.specs.declared.names.NodeId.{NodeId}
use Rattle.scp_quorum_search.specs.scp_xdr.specs.Tree.{Trees, no_trees, tree_then, in_a_row, tree_of}
use Rattle.scp_quorum_search.specs.scp_quorum.specs.QuorumTree.{Level, QuorumTree}
use Rattle.scp_quorum_search.specs.scp_quorum.specs.Sane.{levels}
use Rattle.scp_quorum_files.specs.declared.form.Form.{Form}
use Rattle.scp_quorum_files.specs.Documents.{text_in, object_in, is_entry, entries_in, threshold_key}
use Rattle.scp_quorum_files.specs.Networks.{id_of, threshold_said, SaysLevel, SayInner, SaysSet, members_in}
use Rattle.scp_quorum_files.specs.inside.Reading.{SayEntries, NoneSays}
use Rattle.scp_quorum_files.proofs.Parts.{seam, not_given, filter_lacks}

-- ---- inner sets in a row

say_append : (form : Form) (names : List (List ℕ)) (front back : List Members) (xs ys : List QuorumTree) → SayInner form names front (in_a_row xs) → SayInner form names back (in_a_row ys) → SayInner form names (front ++ back) (in_a_row (xs ++ ys))
say_append form names [] back [] ys one other = other
say_append form names [] back (x ∷ xs) ys one other = absurd one
say_append form names (ms ∷ front) back [] ys one other = absurd one
say_append form names (ms ∷ front) back (x ∷ xs) ys one other = (one.0, say_append form names front back xs ys one.1 other)

inner_at : (form : Form) (names : List (List ℕ)) (front back : List Members) (ms : Members) (row : Trees Level) → SayInner form names (front ++ ms ∷ back) row → (set : QuorumTree) × SaysSet form names ms set × (levels set.inner + 1 ≤ levels row)
inner_at form names [] back ms no_trees h = absurd h
inner_at form names [] back ms (tree_then level inner others) h =
    let set : QuorumTree = record { head = level; inner = inner } in
    (set, h.0, omega arith)
inner_at form names (m ∷ front) back ms no_trees h = absurd h
inner_at form names (m ∷ front) back ms (tree_then level inner others) h =
    let found = inner_at form names front back ms others h.1 in
    (found.0, found.1, omega (arith, found.2))

-- ---- entries that were read

pub entries_none : (form : Form) (names : List (List ℕ)) (nodes : List NodeId) (sets : List QuorumTree) → SayEntries form names [] nodes nodes sets sets
entries_none form names nodes sets = record {
  only = refl;
  added = [];
  nodes_are = sym (append-nil nodes);
  validators = refl;
  inner = [];
  sets_are = sym (append-nil sets);
  says = tt;
}

entry_text : (form : Form) (names : List (List ℕ)) (text : List ℕ) (node : NodeId) (nodes : List NodeId) (sets : List QuorumTree) → id_of names text ≡ Some node → SayEntries form names (string text ∷ []) nodes (nodes ++ node ∷ []) sets sets
entry_text form names text node nodes sets is = record {
  only = refl;
  added = node ∷ [];
  nodes_are = refl;
  validators = ap (λ o. o ∷ []) is;
  inner = [];
  sets_are = sym (append-nil sets);
  says = tt;
}

entry_object : (form : Form) (names : List (List ℕ)) (ms : Members) (set : QuorumTree) (nodes : List NodeId) (sets : List QuorumTree) → SaysSet form names ms set → SayEntries form names (object ms ∷ []) nodes nodes sets (sets ++ set ∷ [])
entry_object form names ms set nodes sets says = record {
  only = refl;
  added = [];
  nodes_are = sym (append-nil nodes);
  validators = refl;
  inner = set ∷ [];
  sets_are = refl;
  says = (says, tt);
}

pub entries_join : (form : Form) (names : List (List ℕ)) (front back : List Data) (nodes some more : List NodeId) (sets others all : List QuorumTree) → SayEntries form names front nodes some sets others → SayEntries form names back some more others all
    → SayEntries form names (front ++ back) nodes more sets all
entries_join form names front back nodes some more sets others all one other = record {
  only = filter-append is_entry front back ∙ ap (λ l. l ++ filter is_entry back) one.only ∙ ap (λ l. front ++ l) other.only;
  added = one.added ++ other.added;
  nodes_are = other.nodes_are ∙ ap (λ l. l ++ other.added) one.nodes_are ∙ append_assoc nodes one.added other.added;
  validators =
      ap (map (id_of names)) (flat_map-append text_in front back) ∙ map-append (id_of names) (flat_map text_in front) (flat_map text_in back)
      ∙ ap (λ l. l ++ map (id_of names) (flat_map text_in back)) one.validators ∙ ap (λ l. map Some one.added ++ l) other.validators
      ∙ sym (map-append Some one.added other.added);
  inner = one.inner ++ other.inner;
  sets_are = other.sets_are ∙ ap (λ l. l ++ other.inner) one.sets_are ∙ append_assoc sets one.inner other.inner;
  says =
      let P : List Members → Type 0 = λ l. SayInner form names l (in_a_row (one.inner ++ other.inner)) in
      subst P (sym (flat_map-append object_in front back)) (say_append form names (flat_map object_in front) (flat_map object_in back) one.inner other.inner one.says other.says);
}

module _ (form : Form) (names : List (List ℕ)) (front : List Data) (d : Data) (nodes some : List NodeId) (sets others : List QuorumTree) (so_far : SayEntries form names front nodes some sets others) where
  pub entries_text : (text : List ℕ) (node : NodeId) (more : List NodeId) → d ≡ string text → id_of names text ≡ Some node → more ≡ some ++ node ∷ [] → SayEntries form names (front ++ d ∷ []) nodes more sets others
  entries_text text node more is here added =
      let P : Data → Type 0 = λ x. SayEntries form names (front ++ x ∷ []) nodes more sets others in
      let Q : List NodeId → Type 0 = λ l. SayEntries form names (front ++ string text ∷ []) nodes l sets others in
      subst P (sym is) (subst Q (sym added) (entries_join form names front (string text ∷ []) nodes some (some ++ node ∷ []) sets others others so_far (entry_text form names text node some others here)))

  pub entries_object : (ms : Members) (set : QuorumTree) (all : List QuorumTree) → d ≡ object ms → SaysSet form names ms set → all ≡ others ++ set ∷ [] → SayEntries form names (front ++ d ∷ []) nodes some sets all
  entries_object ms set all is says added =
      let P : Data → Type 0 = λ x. SayEntries form names (front ++ x ∷ []) nodes some sets all in
      let Q : List QuorumTree → Type 0 = λ l. SayEntries form names (front ++ object ms ∷ []) nodes some sets l in
      subst P (sym is) (subst Q (sym added) (entries_join form names front (object ms ∷ []) nodes some some sets others (others ++ set ∷ []) so_far (entry_object form names ms set some others says)))

-- ---- entries that say nothing

module _ (form : Form) (names : List (List ℕ)) (left : ℕ) (entries front back : List Data) (d : Data) (is : entries ≡ front ++ d ∷ back) where
  whole : (before after : List Data) → before ++ (entries ++ after) ≡ (before ++ front) ++ d ∷ (back ++ after)
  whole before after =
      ap (λ l. before ++ (l ++ after)) is ∙ ap (λ l. before ++ l) (append_assoc front (d ∷ back) after) ∙ sym (append_assoc before front (d ∷ (back ++ after)))

  pub none_among : NoneSays form names left (d ∷ []) → NoneSays form names left entries
  none_among none before after nodes row only validators says few =
      let P : List Data → Type 0 = λ l. filter is_entry l ≡ l in
      let Q : List Data → Type 0 = λ l. map (id_of names) (flat_map text_in l) ≡ map Some nodes in
      let R : List Data → Type 0 = λ l. SayInner form names (flat_map object_in l) row in
      none (before ++ front) (back ++ after) nodes row (subst P (whole before after) only) (subst Q (whole before after) validators) (subst R (whole before after) says) few

  pub no_entry : is_entry d ≡ false → NoneSays form names left entries
  no_entry fails before after nodes row only validators says few =
      let P : List Data → Type 0 = λ l. filter is_entry l ≡ l in
      filter_lacks is_entry (before ++ front) (back ++ after) d fails (subst P (whole before after) only)

  pub no_name : (text : List ℕ) → d ≡ string text → id_of names text ≡ None → NoneSays form names left entries
  no_name text same none before after nodes row only validators says few =
      let names_are : flat_map text_in (before ++ (entries ++ after)) ≡ flat_map text_in (before ++ front) ++ text ∷ flat_map text_in (back ++ after) =
      ap (flat_map text_in) (whole before after) ∙ flat_map-append text_in (before ++ front) (d ∷ (back ++ after))
      ∙ ap (λ x. flat_map text_in (before ++ front) ++ (text_in x ++ flat_map text_in (back ++ after))) same in
      not_given (id_of names) (flat_map text_in (before ++ (entries ++ after))) (flat_map text_in (before ++ front)) (flat_map text_in (back ++ after)) text nodes names_are none validators

  pub no_set : (ms : Members) → d ≡ object ms → ((set : QuorumTree) → SaysSet form names ms set → levels set.inner + 1 ≤ left → ⊥) → NoneSays form names left entries
  no_set ms same never before after nodes row only validators says few =
      let objects : flat_map object_in (before ++ (entries ++ after)) ≡ flat_map object_in (before ++ front) ++ ms ∷ flat_map object_in (back ++ after) =
      ap (flat_map object_in) (whole before after) ∙ flat_map-append object_in (before ++ front) (d ∷ (back ++ after))
      ∙ ap (λ x. flat_map object_in (before ++ front) ++ (object_in x ++ flat_map object_in (back ++ after))) same in
      let P : List Members → Type 0 = λ l. SayInner form names l row in
      let found = inner_at form names (flat_map object_in (before ++ front)) (flat_map object_in (back ++ after)) ms row (subst P objects says) in
      never found.0 found.1 (omega (arith, found.2, few))

-- the values around one of them
pub value_seam : (vs : List Value) (i : ℕ) (v : Value) → i < length vs → v ≡ get_or vs i v → map view vs ≡ map view (take i vs) ++ view v ∷ map view (drop (suc i) vs)
value_seam vs i v lt e = ap (map view) (seam vs i v lt e) ∙ map-append view (take i vs) (v ∷ drop (suc i) vs)

-- ---- the whole set

module _ (form : Form) (names : List (List ℕ)) (ms : Members) (front back : List Data) (entries_are : entries_in form ms ≡ Some (front ++ back)) where
  pub set_made : (no_node some nodes : List NodeId) (no_set others sets : List QuorumTree) (threshold : ℕ) (made : QuorumTree) → no_node ≡ [] → no_set ≡ [] → SayEntries form names front no_node some no_set others
      → SayEntries form names back some nodes others sets → threshold_said (get_member (threshold_key form) ms) ≡ Some threshold → made ≡ tree_of (record { threshold = threshold; validators = nodes }) sets → SaysSet form names ms made
  set_made no_node some nodes no_set others sets threshold made first_node first_set one other counts is =
      let N : List NodeId → Type 0 = λ l. SayEntries form names front l some no_set others in
      let S : List QuorumTree → Type 0 = λ l. SayEntries form names front [] some l others in
      let joined = entries_join form names front back [] some nodes [] others sets (subst S first_set (subst N first_node one)) other in
      let level : Level = record { threshold = threshold; validators = nodes } in
      let says : SaysLevel form names ms level (front ++ back) = record { threshold = counts; entries_are = entries_are; only = joined.only; validators = joined.validators ∙ ap (map Some) (sym joined.nodes_are) } in
      let P : List QuorumTree → Type 0 = λ l. SayInner form names (flat_map object_in (front ++ back)) (in_a_row l) in
      let Q : QuorumTree → Type 0 = λ q. SaysSet form names ms q in
      let all : SaysSet form names ms (tree_of level sets) = (front ++ back, says, subst P (sym joined.sets_are) joined.says) in
      subst Q (sym is) all

  of_entries : (left : ℕ) → ((nodes : List NodeId) (row : Trees Level) → filter is_entry (front ++ back) ≡ front ++ back → map (id_of names) (flat_map text_in (front ++ back)) ≡ map Some nodes
      → SayInner form names (flat_map object_in (front ++ back)) row → levels row ≤ left → ⊥) → (set : QuorumTree) → SaysSet form names ms set → levels set.inner ≤ left → ⊥
  of_entries left never set (entries, level, inner) few =
      let same : entries ≡ front ++ back = same_Some entries (front ++ back) (sym level.entries_are ∙ entries_are) in
      let P : List Data → Type 0 = λ l. filter is_entry l ≡ l in
      let Q : List Data → Type 0 = λ l. map (id_of names) (flat_map text_in l) ≡ map Some set.head.validators in
      let R : List Data → Type 0 = λ l. SayInner form names (flat_map object_in l) set.inner in
      never set.head.validators set.inner (subst P same level.only) (subst Q same level.validators) (subst R same inner) few

  pub front_refuted : (left : ℕ) → NoneSays form names left front → (set : QuorumTree) → SaysSet form names ms set → levels set.inner ≤ left → ⊥
  front_refuted left none = of_entries left (λ nodes row only validators says few. none [] back nodes row only validators says few)

  pub back_refuted : (left : ℕ) → NoneSays form names left back → (set : QuorumTree) → SaysSet form names ms set → levels set.inner ≤ left → ⊥
  back_refuted left none =
      let same : front ++ (back ++ []) ≡ front ++ back = ap (λ l. front ++ l) (append-nil back) in
      let P : List Data → Type 0 = λ l. (nodes : List NodeId) (row : Trees Level) → filter is_entry l ≡ l → map (id_of names) (flat_map text_in l) ≡ map Some nodes → SayInner form names (flat_map object_in l) row → levels row ≤ left → ⊥ in
      of_entries left (subst P same (none front []))

pub threshold_refuted : (form : Form) (names : List (List ℕ)) (ms : Members) → threshold_said (get_member (threshold_key form) ms) ≡ None → (set : QuorumTree) → SaysSet form names ms set → ⊥
threshold_refuted form names ms none set (entries, level, inner) = none-some set.head.threshold (sym none ∙ level.threshold)

pub entries_refuted : (form : Form) (names : List (List ℕ)) (ms : Members) → entries_in form ms ≡ None → (set : QuorumTree) → SaysSet form names ms set → ⊥
entries_refuted form names ms none set (entries, level, inner) = none-some entries (sym none ∙ level.entries_are)

-- no more levels
pub levels_push : (sets : List QuorumTree) (set : QuorumTree) (n : ℕ) → levels (in_a_row sets) ≤ n → levels set.inner + 1 ≤ n → levels (in_a_row (sets ++ set ∷ [])) ≤ n
levels_push [] set n before here = omega arith
levels_push (s ∷ sets) set n before here =
    let others : levels (in_a_row (sets ++ set ∷ [])) ≤ n = levels_push sets set n (omega arith) here in omega arith

-- ---- one entry by its kind

pub text_is : (d : Data) (text : List ℕ) → as_str d ≡ Some text → d ≡ string text
text_is null text e = absurd (none-some text e)
text_is (boolean b) text e = absurd (none-some text e)
text_is (number n) text e = absurd (none-some text e)
text_is (string s) text e = ap string (same_Some s text e)
text_is (array ds) text e = absurd (none-some text e)
text_is (object ms) text e = absurd (none-some text e)

pub object_is : (d : Data) → is_some (as_object d) ≡ true → d ≡ object (members_in d)
object_is null e = absurd (let f : false ≡ true = e in cc)
object_is (boolean b) e = absurd (let f : false ≡ true = e in cc)
object_is (number n) e = absurd (let f : false ≡ true = e in cc)
object_is (string s) e = absurd (let f : false ≡ true = e in cc)
object_is (array ds) e = absurd (let f : false ≡ true = e in cc)
object_is (object ms) e = refl

pub no_kind : (d : Data) → as_str d ≡ None → is_some (as_object d) ≡ false → is_entry d ≡ false
no_kind null e f = refl
no_kind (boolean b) e f = refl
no_kind (number n) e f = refl
no_kind (string s) e f = absurd (none-some s (sym e))
no_kind (array ds) e f = refl
no_kind (object ms) e f = absurd (let g : true ≡ false = f in cc)
