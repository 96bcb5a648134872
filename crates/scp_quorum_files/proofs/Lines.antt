-- The lines of a report, written one after another.
use Rattle.std.proofs.Common.{◌≡◌, ℕ, suc, ◌+◌, ◌<◌, ◌≤◌, Bool, true, false, not, ◌||◌, cond, List, [], ◌∷◌, ◌++◌, map, filter, take, drop, length, get_or, count_by, codes, string_bytes, arith, refl, sym, ap, ◌∙◌, subst, append_assoc, add-one, drop-cons, inl, inr}
use Rattle.std.specs.List.{All, flat_map, list_any}
use Rattle.std.specs.BTreeMap.{is_at}
use Rattle.std.specs.BTreeSet.{BTreeSet}
use Rattle.std.specs.Cmp.Lexicographic.{pointwise}
use Rattle.std.specs.Fmt.{decimal}
use Rattle.std.specs.Prelude.{nat_eq}
use Rattle.std.proofs.lemmas.Bool.{cases_Bool}
use Rattle.std.proofs.lemmas.Grind.{common_steps}
use Rattle.std.proofs.lemmas.List.{append-nil, take_more, length-map}
use Rattle.std.proofs.lemmas.List.Elements.{All-head, All-tail, All-nil, All-push, All-weaker}
use Rattle.std.proofs.lemmas.List.Folds.{list_any_more}
use Rattle.std.proofs.lemmas.List.Sums.{length-filter}
use Rattle.std.proofs.lemmas.Map.Text.{is_eq-slice_cmp}
use Rattle.scp_quorum_search.specs.scp_types.specs.declared.names.NodeId.{NodeId}
use Rattle.scp_quorum_search.specs.scp_quorum.specs.NodeSet.{node_cmp, is_in}
use Rattle.scp_quorum_search.specs.declared.member.Member.{Member}
use Rattle.scp_quorum_files.specs.declared.network.Named.{Named}
use Rattle.scp_quorum_files.specs.Report.{names_among, listed_text, is_member, without_line, TellsHalting, TellAllHalting}
use Rattle.scp_quorum_files.specs.inside.Writing.{next_text}
use Rattle.scp_quorum_files.proofs.Once.{eq_turned}
use Rattle.scp_quorum_files.proofs.Reached.{node_same, node_itself}

-- ---- names

-- what is still to be written of the names that are left
abbrev pub remaining : Bool → List (List ℕ) → List ℕ
remaining true names = listed_text names
remaining false names = flat_map (λ other. codes "," ++ other) names

next_is : (first : Bool) (name : List ℕ) (rest : List (List ℕ)) → remaining first (name ∷ rest) ≡ next_text first name ++ remaining false rest
next_is true name rest = refl
next_is false name rest = append_assoc (codes ",") name (flat_map (λ other. codes "," ++ other) rest)

there : (all : List Named) (i : ℕ) (x : Named) → i < length all → x ≡ get_or all i x → drop i all ≡ x ∷ drop (i + 1) all
there all i x lt is =
    drop-cons all i x lt ∙ ap (λ y. y ∷ drop (suc i) all) (sym is) ∙ ap (λ k. x ∷ drop k all) (sym (add-one i))

module _ (all : List Named) (nodes : NodeId → Bool) (i : ℕ) (x : Named) (first : Bool) (old whole : List ℕ) (lt : i < length all) (is : x ≡ get_or all i x) (so_far : old ++ remaining first (names_among (drop i all) nodes) ≡ whole) where
  pub names_writes : (new : List ℕ) → nodes x.id ≡ true → new ≡ old ++ next_text first (string_bytes x.name) → new ++ remaining false (names_among (drop (i + 1) all) nodes) ≡ whole
  names_writes new has added =
      let rest : List Named = drop (i + 1) all in
      let names : names_among (drop i all) nodes ≡ string_bytes x.name ∷ names_among rest nodes =
      ap (λ l. names_among l nodes) (there all i x lt is) ∙ ap (λ b. map (λ (n : Named). string_bytes n.name) (cond b (x ∷ filter (λ (n : Named). nodes n.id) rest) (filter (λ (n : Named). nodes n.id) rest))) has in
      ap (λ t. t ++ remaining false (names_among rest nodes)) added
      ∙ append_assoc old (next_text first (string_bytes x.name)) (remaining false (names_among rest nodes))
      ∙ ap (λ t. old ++ t) (sym (next_is first (string_bytes x.name) (names_among rest nodes)))
      ∙ ap (λ l. old ++ remaining first l) (sym names)
      ∙ so_far

  pub names_skips : nodes x.id ≡ false → old ++ remaining first (names_among (drop (i + 1) all) nodes) ≡ whole
  names_skips lacks =
      let rest : List Named = drop (i + 1) all in
      let names : names_among (drop i all) nodes ≡ names_among rest nodes =
      ap (λ l. names_among l nodes) (there all i x lt is) ∙ ap (λ b. map (λ (n : Named). string_bytes n.name) (cond b (x ∷ filter (λ (n : Named). nodes n.id) rest) (filter (λ (n : Named). nodes n.id) rest))) lacks in
      ap (λ l. old ++ remaining first l) (sym names) ∙ so_far

pub names_step : (all : List Named) (nodes : NodeId → Bool) (i : ℕ) (x : Named) (first none : Bool) (old new whole : List ℕ) → i < length all → x ≡ get_or all i x → new ≡ old ++ cond (nodes x.id) (next_text first (string_bytes x.name)) [] → none ≡ cond (nodes x.id) false first
    → old ++ remaining first (names_among (drop i all) nodes) ≡ whole → new ++ remaining none (names_among (drop (i + 1) all) nodes) ≡ whole
names_step all nodes i x first none old new whole lt is added still so_far =
    let rest = names_among (drop (i + 1) all) nodes in
    elim (cases_Bool (nodes x.id)) [
      | inl has ↦
          ap (λ b. new ++ remaining b rest) (still ∙ ap (λ b. cond b false first) has)
          ∙ names_writes all nodes i x first old whole lt is so_far new has (added ∙ ap (λ b. old ++ cond b (next_text first (string_bytes x.name)) []) has)
      | inr lacks ↦
          ap (λ b. new ++ remaining b rest) (still ∙ ap (λ b. cond b false first) lacks)
          ∙ ap (λ t. t ++ remaining first rest) (added ∙ ap (λ b. old ++ cond b (next_text first (string_bytes x.name)) []) lacks ∙ append-nil old)
          ∙ names_skips all nodes i x first old whole lt is so_far lacks
    ]

none_left : (first : Bool) → remaining first [] ≡ cond first (codes "-") []
none_left true = refl
none_left false = refl

pub names_done : (all : List Named) (nodes : NodeId → Bool) (i : ℕ) (first : Bool) (old new whole : List ℕ) → length all ≤ i → new ≡ old ++ cond first (codes "-") [] → old ++ remaining first (names_among (drop i all) nodes) ≡ whole → new ≡ whole
names_done all nodes i first old new whole end added so_far =
    let none : drop i all ≡ [] = grind (arith, common_steps) in
    added ∙ ap (λ t. old ++ t) (sym (none_left first)) ∙ ap (λ l. old ++ remaining first (names_among l nodes)) (sym none) ∙ so_far

-- ---- lines

pub lines_more : {X : Type 0} (f : X → List ℕ) (xs : List X) (i : ℕ) (x : X) (old new whole : List ℕ) → i < length xs → x ≡ get_or xs i x → new ≡ old ++ f x → old ++ flat_map f (drop i xs) ≡ whole → new ++ flat_map f (drop (i + 1) xs) ≡ whole
lines_more f xs i x old new whole lt is added so_far =
    let here : drop i xs ≡ x ∷ drop (i + 1) xs = drop-cons xs i x lt ∙ ap (λ y. y ∷ drop (suc i) xs) (sym is) ∙ ap (λ k. x ∷ drop k xs) (sym (add-one i)) in
    ap (λ t. t ++ flat_map f (drop (i + 1) xs)) added ∙ append_assoc old (f x) (flat_map f (drop (i + 1) xs)) ∙ ap (λ l. old ++ flat_map f l) (sym here) ∙ so_far

pub lines_end : {X : Type 0} (f : X → List ℕ) (xs : List X) (i : ℕ) (old whole : List ℕ) → length xs ≤ i → old ++ flat_map f (drop i xs) ≡ whole → old ≡ whole
lines_end f xs i old whole end so_far =
    let none : drop i xs ≡ [] = grind (arith, common_steps) in
    sym (append-nil old) ∙ ap (λ l. old ++ flat_map f l) (sym none) ∙ so_far

-- ---- sets of nodes

at_node : (node v : NodeId) → is_at (node_cmp node) v ≡ pointwise nat_eq node.0 v.0
at_node node v = is_eq-slice_cmp node.0 v.0

or_last : (here before : Bool) → cond here true before ≡ (before || here)
or_last true true = refl
or_last true false = refl
or_last false true = refl
or_last false false = refl

pub set_more : (nodes : List NodeId) (i : ℕ) (d : NodeId) (old new : NodeId → Bool) → i < length nodes → ((v : NodeId) → new v ≡ cond (is_at (node_cmp (get_or nodes i d)) v) true (old v))
    → ((v : NodeId) → old v ≡ list_any (λ w. pointwise nat_eq w.0 v.0) (take i nodes)) → (v : NodeId) → new v ≡ list_any (λ w. pointwise nat_eq w.0 v.0) (take (i + 1) nodes)
set_more nodes i d old new lt updates so_far v =
    updates v ∙ ap (λ b. cond b true (old v)) (at_node (get_or nodes i d) v) ∙ or_last (pointwise nat_eq (get_or nodes i d).0 v.0) (old v)
    ∙ ap (λ b. b || pointwise nat_eq (get_or nodes i d).0 v.0) (so_far v) ∙ sym (list_any_more (λ (w : NodeId). pointwise nat_eq w.0 v.0) nodes i d lt)

pub one_node : (node : NodeId) (old new : NodeId → Bool) → ((v : NodeId) → new v ≡ cond (is_at (node_cmp node) v) true (old v)) → ((v : NodeId) → old v ≡ false) → (v : NodeId) → new v ≡ pointwise nat_eq v.0 node.0
one_node node old new updates none v =
    updates v ∙ ap (λ b. cond b true (old v)) (at_node node v) ∙ ap (λ b. cond (pointwise nat_eq node.0 v.0) true b) (none v) ∙ itself (pointwise nat_eq node.0 v.0) ∙ eq_turned node.0 v.0
  where
    itself : (b : Bool) → cond b true false ≡ b
    itself true = refl
    itself false = refl

pub empty_has_none : (s : BTreeSet NodeId) → s.keys ≡ [] → (v : NodeId) → is_in s v ≡ false
empty_has_none s e v = ap (λ (ks : List NodeId). let n : BTreeSet NodeId = record { keys = ks } in is_in n v) e

-- two tests that agree on each of the nodes keep the same names
pub same_among : (all : List Named) (p q : NodeId → Bool) → All (λ (n : Named). p n.id ≡ q n.id) all → names_among all p ≡ names_among all q
same_among [] p q agree = refl
same_among (n ∷ ns) p q agree =
    let name : Named → List ℕ = λ m. string_bytes m.name in
    let rest = same_among ns p q (All-tail (λ (m : Named). p m.id ≡ q m.id) n ns agree) in
    ap (λ b. map name (cond b (n ∷ filter (λ (m : Named). p m.id) ns) (filter (λ (m : Named). p m.id) ns))) (All-head (λ (m : Named). p m.id ≡ q m.id) n ns agree)
    ∙ by (q n.id) rest
  where
    by : (b : Bool) → names_among ns p ≡ names_among ns q → map (λ (m : Named). string_bytes m.name) (cond b (n ∷ filter (λ (m : Named). p m.id) ns) (filter (λ (m : Named). p m.id) ns))
        ≡ map (λ (m : Named). string_bytes m.name) (cond b (n ∷ filter (λ (m : Named). q m.id) ns) (filter (λ (m : Named). q m.id) ns))
    by true e = ap (λ l. string_bytes n.name ∷ l) e
    by false e = e

-- how many names there are
pub names_count : (all : List Named) (p : NodeId → Bool) → length (names_among all p) ≡ count_by (λ (n : Named). p n.id) all
names_count all p = length-map (filter (λ (n : Named). p n.id) all) (λ (n : Named). string_bytes n.name) ∙ length-filter (λ (n : Named). p n.id) all

-- ---- the lines of each member

all_halting_more : (all : List Named) (members done : List Member) (m : Member) (front back : List ℕ) → TellAllHalting all members done front → TellsHalting all members m.node back → TellAllHalting all members (done ++ m ∷ []) (front ++ back)
all_halting_more all members [] m front back empty tells = (back, [], tells, refl, ap (λ t. t ++ back) empty ∙ sym (append-nil back))
all_halting_more all members (n ∷ done) m front back (one, rest, first, others, is) tells =
    (one, rest ++ back, first, all_halting_more all members done m rest back others tells, ap (λ t. t ++ back) is ∙ append_assoc one rest back)

pub all_halting_step : (all : List Named) (members : List Member) (i : ℕ) (m : Member) (old new text : List ℕ) → i < length members → m ≡ get_or members i m → new ≡ old ++ text → TellsHalting all members m.node text → TellAllHalting all members (take i members) old → TellAllHalting all members (take (i + 1) members) new
all_halting_step all members i m old new text lt is added tells so_far =
    let P : List ℕ → Type 0 = λ t. TellAllHalting all members (take (i + 1) members) t in
    let Q : List Member → Type 0 = λ ms. TellAllHalting all members ms (old ++ text) in
    let one : take i members ++ m ∷ [] ≡ take (i + 1) members = ap (λ n. take i members ++ n ∷ []) is ∙ sym (take_more members i m lt) in
    subst P (sym added) (subst Q one (all_halting_more all members (take i members) m old text so_far tells))

pub all_halting_end : (all : List Named) (members : List Member) (i : ℕ) (text : List ℕ) → length members ≤ i → TellAllHalting all members (take i members) text → TellAllHalting all members members text
all_halting_end all members i text end tells =
    let whole : take i members ≡ members = grind (arith, common_steps) in
    let Q : List Member → Type 0 = λ ms. TellAllHalting all members ms text in
    subst Q whole tells

-- ---- those that aren't members

pub record IsOthers (members : List Member) (nodes : NodeId → Bool) (seen : List Named) : Type 0 where
  pub only : (v : NodeId) → nodes v ≡ true → is_member members v ≡ false
  pub all : All (λ n. is_member members n.id ≡ false → nodes n.id ≡ true) seen

pub others_none : (members : List Member) (nodes : NodeId → Bool) → ((v : NodeId) → nodes v ≡ false) → IsOthers members nodes []
others_none members nodes none = record {
  only = λ v has. absurd (let f : true ≡ false = sym has ∙ none v in cc);
  all = All-nil (λ (n : Named). is_member members n.id ≡ false → nodes n.id ≡ true);
}

module _ (members : List Member) (all : List Named) (old : NodeId → Bool) (i : ℕ) (x : Named) (lt : i < length all) (is : x ≡ get_or all i x) (so_far : IsOthers members old (take i all)) where
  one_more : take i all ++ x ∷ [] ≡ take (i + 1) all
  one_more = ap (λ n. take i all ++ n ∷ []) is ∙ sym (take_more all i x lt)

  pub others_adds : (new : NodeId → Bool) → ((v : NodeId) → new v ≡ cond (is_at (node_cmp x.id) v) true (old v)) → is_member members x.id ≡ false → IsOthers members new (take (i + 1) all)
  others_adds new updates out =
      let P : List Named → Type 0 = λ ns. All (λ n. is_member members n.id ≡ false → new n.id ≡ true) ns in
      let kept : (v : NodeId) → old v ≡ true → new v ≡ true = λ v has. elim (cases_Bool (is_at (node_cmp x.id) v)) [
        | inl at ↦ updates v ∙ ap (λ b. cond b true (old v)) at
        | inr off ↦ updates v ∙ ap (λ b. cond b true (old v)) off ∙ has
      ] in
      record {
        only = λ v has. elim (cases_Bool (is_at (node_cmp x.id) v)) [
          | inl at ↦ (let Q : NodeId → Type 0 = λ w. is_member members w ≡ false in subst Q (node_same x.id v at) out)
          | inr off ↦ so_far.only v (sym (ap (λ b. cond b true (old v)) off) ∙ sym (updates v) ∙ has)
        ];
        all = subst P one_more (All-push (λ (n : Named). is_member members n.id ≡ false → new n.id ≡ true) (take i all) x
            (All-weaker (λ (n : Named). is_member members n.id ≡ false → old n.id ≡ true) (λ (n : Named). is_member members n.id ≡ false → new n.id ≡ true) (λ n before free. kept n.id (before free)) (take i all) so_far.all)
            (λ free. updates x.id ∙ ap (λ b. cond b true (old x.id)) (node_itself x.id)));
      }

  pub others_skips : is_member members x.id ≡ true → IsOthers members old (take (i + 1) all)
  others_skips has =
      let P : List Named → Type 0 = λ ns. All (λ n. is_member members n.id ≡ false → old n.id ≡ true) ns in
      record {
        only = so_far.only;
        all = subst P one_more (All-push (λ (n : Named). is_member members n.id ≡ false → old n.id ≡ true) (take i all) x so_far.all (λ free. absurd (let f : true ≡ false = sym has ∙ free in cc)));
      }

pub others_are : (members : List Member) (all : List Named) (nodes : NodeId → Bool) (i : ℕ) → length all ≤ i → IsOthers members nodes (take i all) → names_among all nodes ≡ names_among all (λ v. not (is_member members v))
others_are members all nodes i end others =
    let whole : take i all ≡ all = grind (arith, common_steps) in
    let Q : List Named → Type 0 = λ ns. All (λ n. is_member members n.id ≡ false → nodes n.id ≡ true) ns in
    same_among all nodes (λ v. not (is_member members v)) (All-weaker (λ (n : Named). is_member members n.id ≡ false → nodes n.id ≡ true) (λ (n : Named). nodes n.id ≡ not (is_member members n.id)) (λ n before. same n before) all (subst Q whole others.all))
  where
    same : (n : Named) → (is_member members n.id ≡ false → nodes n.id ≡ true) → nodes n.id ≡ not (is_member members n.id)
    same n before =
        elim (cases_Bool (is_member members n.id)) [
          | inr free ↦ before free ∙ sym (ap not free)
          | inl has ↦ elim (cases_Bool (nodes n.id)) [
            | inl there ↦ absurd (let f : true ≡ false = sym has ∙ others.only n.id there in cc)
            | inr gone ↦ gone ∙ sym (ap not has)
          ]
        ]

-- ---- the line of those without a quorum set

pub without_none : (names : List (List ℕ)) → length names ≡ 0 → without_line names ≡ []
without_none [] e = refl
without_none (name ∷ names) e = absurd (omega (arith, e))

pub without_some : (names : List (List ℕ)) → (length names ≡ 0 → ⊥) → without_line names ≡ codes "no quorum set of " ++ decimal (length names) ++ codes ": " ++ listed_text names ++ codes "\n"
without_some [] some = absurd (some refl)
without_some (name ∷ names) some = refl

-- ---- pieces of a text, one after another

pub three : (o p q r a b c : List ℕ) → p ≡ o ++ a → q ≡ p ++ b → r ≡ q ++ c → r ≡ o ++ ((a ++ b) ++ c)
three o p q r a b c e f g =
    let whole : r ≡ ((o ++ a) ++ b) ++ c = g ∙ ap (λ t. t ++ c) (f ∙ ap (λ t. t ++ b) e) in
    let same : ((o ++ a) ++ b) ++ c ≡ o ++ ((a ++ b) ++ c) = simp append_assoc in
    whole ∙ same

pub four : (o p q r s a b c d : List ℕ) → p ≡ o ++ a → q ≡ p ++ b → r ≡ q ++ c → s ≡ r ++ d → s ≡ o ++ (((a ++ b) ++ c) ++ d)
four o p q r s a b c d e f g h = h ∙ ap (λ t. t ++ d) (three o p q r a b c e f g) ∙ append_assoc o ((a ++ b) ++ c) d

pub five : (o p q r s u a b c d x : List ℕ) → p ≡ o ++ a → q ≡ p ++ b → r ≡ q ++ c → s ≡ r ++ d → u ≡ s ++ x → u ≡ o ++ ((((a ++ b) ++ c) ++ d) ++ x)
five o p q r s u a b c d x e f g h i = i ∙ ap (λ t. t ++ x) (four o p q r s a b c d e f g h) ∙ append_assoc o (((a ++ b) ++ c) ++ d) x

-- the same pieces, put together from the other side
pub left_of_three : (a b c : List ℕ) → a ++ (b ++ c) ≡ (a ++ b) ++ c
left_of_three a b c = sym (append_assoc a b c)

pub left_of_four : (a b c d : List ℕ) → a ++ (b ++ (c ++ d)) ≡ ((a ++ b) ++ c) ++ d
left_of_four a b c d = simp append_assoc

pub left_of_five : (a b c d e : List ℕ) → a ++ (b ++ (c ++ (d ++ e))) ≡ (((a ++ b) ++ c) ++ d) ++ e
left_of_five a b c d e = simp append_assoc

-- a line whose front was written at once
pub with_front : (o a d c l n : List ℕ) → ((o ++ (a ++ (d ++ c))) ++ l) ++ n ≡ o ++ ((((a ++ d) ++ c) ++ l) ++ n)
with_front o a d c l n = simp append_assoc

pub two_parts : (o a d b m t : List ℕ) → (o ++ (a ++ d)) ++ (b ++ (m ++ t)) ≡ o ++ ((((a ++ d) ++ b) ++ m) ++ t)
two_parts o a d b m t = simp append_assoc

pub with_end : (a b u m t : List ℕ) → (a ++ b) ++ (u ++ (m ++ t)) ≡ (((a ++ b) ++ u) ++ m) ++ t
with_end a b u m t = simp append_assoc

pub front_three : (said a b c d : List ℕ) → (((said ++ a) ++ b) ++ c) ++ d ≡ said ++ (((a ++ b) ++ c) ++ d)
front_three said a b c d = simp append_assoc
