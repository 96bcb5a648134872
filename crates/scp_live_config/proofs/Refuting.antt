-- What is wrong is no configuration.
use Rattle.std.proofs.Common.{◌≡◌, ◌≢◌, ℕ, zero, suc, ◌+◌, ◌-◌, ◌≤◌, ◌<◌, true, false, List, [], ◌∷◌, length, map, Option, Some, None, refl, sym, ap, ◌∙◌, arith, subst, inl, inr, string_bytes, option_map, codes}
use Rattle.std.proofs.lemmas.List.{length-map}
use Rattle.std.specs.List.{slice_get, AllByRecursion}
use Rattle.std.proofs.lemmas.Option.{same_Some, none-some, slice_get-map}
use Rattle.std.proofs.lemmas.Bool.{false≢true, cases_Bool}
use Rattle.scp_quorum.specs.scp_types.specs.declared.limits.TheConstants.{LINK_LIMIT}
use Rattle.toml.specs.Data.{Data, Items, Members, as_table, get_member}
use Rattle.scp_quorum.specs.scp_xdr.specs.Tree.{Trees, no_trees, tree_then, row_len}
use Rattle.scp_quorum.specs.QuorumTree.{Level, QuorumTree}
use Rattle.scp_quorum.specs.Sane.{IsSane, levels, all_nodes}
use Rattle.scp_live_config.specs.Names.{Identity, AreNames, HasOnly, belongs, is_name, id_said, identity_said, pairs_of, values_of, node_said, name_said}
use Rattle.scp_live_config.specs.Sets.{SaysLevel, SayInner, SaysSet, validators_in, threshold_in}
use Rattle.scp_live_config.specs.Config.{IsConfigOf, SaysNames, SaysQueues, node_in, table_at, capacity_said}
use Rattle.scp_live_config.specs.Wrong.{IsStray, HaveOneId, IsPeerAt, IsWrongHere, IsWrongInside, IsWrongSet, SaysWrongSet, IsWrong, queue_key}
use Rattle.scp_live_config.specs.declared.settings.Settings.{Settings}
use Rattle.scp_quorum.specs.scp_types.specs.declared.capacities.Capacities.{Capacities}
use Rattle.scp_live_config.specs.declared.wrong.Section.{Section}
use Rattle.scp_live_config.specs.declared.wrong.Section.TheVariants as section
use Rattle.scp_live_config.specs.declared.wrong.Queue.{Queue}
use Rattle.scp_live_config.specs.declared.wrong.Queue.TheVariants.{Link, Inbox, Ready, Decided}
use Rattle.scp_live_config.specs.declared.wrong.SetWrong.{SetWrong}
use Rattle.scp_live_config.specs.declared.wrong.SetWrong.TheVariants as within
use Rattle.scp_live_config.specs.declared.wrong.Wrong.{Wrong}
use Rattle.scp_live_config.specs.declared.wrong.Wrong.TheVariants as wrong
use Rattle.scp_live_config.proofs.Lists.{passes_at, none_at, told_at}
use Rattle.scp_live_config.proofs.Sames.{one_said, same_names, same_set, row_length}

-- what is said isn't nothing
both : {A : Type 0} → {o : Option A} → (x : A) → o ≡ Some x → o ≡ None → ⊥
both x e f = none-some x (sym f ∙ e)

-- a key is one of those, or isn't
pub no_stray : (section : Section) (ms : Members) (key : List ℕ) → HasOnly section ms → IsStray section ms key → ⊥
no_stray section ms key only stray =
    let yes : belongs section key ≡ true = passes_at (λ (pair : List ℕ × Data). belongs section pair.0) (pairs_of ms) stray.0 (key, stray.1) only stray.2 in
    false≢true (sym stray.3 ∙ yes)

-- ---- names

-- what is said at a place
said_at : (nodes : Members) (i : ℕ) (pair : List ℕ × Data) → slice_get (pairs_of nodes) i ≡ Some pair → slice_get (map identity_said (pairs_of nodes)) i ≡ Some (identity_said pair)
said_at nodes i pair e = slice_get-map identity_said (pairs_of nodes) i ∙ ap (option_map identity_said) e

no_name : (name : List ℕ) (said : Data) → is_name name ≡ false → identity_said (name, said) ≡ None
no_name name said e = rw e

no_id : (name : List ℕ) (said : Data) → id_said said ≡ None → identity_said (name, said) ≡ None
no_id name said e = elim (cases_Bool (is_name name)) [
  | inl is_one ↦ rw (is_one, e)
  | inr is_none ↦ rw is_none
]

untold : (nodes : Members) (names : List Identity) (i : ℕ) (name : List ℕ) (said : Data) → AreNames nodes names → slice_get (pairs_of nodes) i ≡ Some (name, said) → identity_said (name, said) ≡ None → ⊥
untold nodes names i name said are at_i none = none_at identity_said (pairs_of nodes) names i are.said (said_at nodes i (name, said) at_i ∙ ap Some none)

names_of : (doc nodes : Members) (names : List Identity) → SaysNames doc names → table_at (codes "NODES") doc ≡ Some nodes → AreNames nodes names
names_of doc nodes names says e = subst (λ (ms : Members). AreNames ms names) (one_said says.0 nodes says.1 e) says.2

one_id : (nodes : Members) (names : List Identity) (name other : List ℕ) → AreNames nodes names → HaveOneId nodes name other → ⊥
one_id nodes names name other are one =
    let first : Identity = record { name = other; id = one.2 } in
    let second : Identity = record { name = name; id = one.2 } in
    let at_i : slice_get names one.0 ≡ Some first = told_at identity_said (pairs_of nodes) names one.0 first are.said one.4 in
    let at_j : slice_get names one.1 ≡ Some second = told_at identity_said (pairs_of nodes) names one.1 second are.said one.5 in
    are.apart one.0 one.1 first second one.3 at_i at_j refl

-- ---- peers

all_at_place : {A : Type 0} → (P : A → Type 0) (xs : List A) (i : ℕ) (x : A) → AllByRecursion P xs → slice_get xs i ≡ Some x → P x
all_at_place P [] i x all e = absurd (none-some x e)
all_at_place P (a ∷ xs) zero x all e = subst P (same_Some a x e) all.0
all_at_place P (a ∷ xs) (suc i) x all e = all_at_place P xs i x all.1 e

-- ---- quorum sets

-- the set that the table at a place says
inner_at : (names : List Identity) (values : List Data) (row : Trees Level) (i : ℕ) (inner : Members) → SayInner names values row → slice_get (map as_table values) i ≡ Some (Some inner)
    → (set : QuorumTree) × SaysSet names inner set × (levels set.inner + 1 ≤ levels row)
inner_at names [] row i inner h e = absurd (none-some (Some inner) e)
inner_at names (d ∷ values) no_trees i inner h e = absurd h
inner_at names (d ∷ values) (tree_then level below others) zero inner h e =
    let set : QuorumTree = record { head = level; inner = below } in
    let here : SaysSet names h.0.0 set = (h.0.2, h.0.3) in
    let same : h.0.0 ≡ inner = one_said h.0.0 inner h.0.1 (same_Some (as_table d) (Some inner) e) in
    (set, subst (λ (ms : Members). SaysSet names ms set) same here, omega arith)
inner_at names (d ∷ values) (tree_then level below others) (suc i) inner h e =
    let r = inner_at names values others i inner h.1 e in
    (r.0, r.1, omega (arith, r.2))

no_table : (names : List Identity) (values : List Data) (row : Trees Level) (i : ℕ) → SayInner names values row → slice_get (map as_table values) i ≡ Some None → ⊥
no_table names [] row i h e = none-some None e
no_table names (d ∷ values) no_trees i h e = h
no_table names (d ∷ values) (tree_then level below others) zero h e = both h.0.0 h.0.1 (same_Some (as_table d) None e)
no_table names (d ∷ values) (tree_then level below others) (suc i) h e = no_table names values others i h.1 e

some_level : (row : Trees Level) → 0 < row_len row → 1 ≤ levels row
some_level no_trees h = absurd (omega arith)
some_level (tree_then level inner others) h = omega arith

told_length : (names : List Identity) (values : List Data) (ms : Members) (level : Level) (n : ℕ) → SaysLevel names ms level n → validators_in ms ≡ Some values → length values ≡ length level.validators
told_length names values ms level n says e =
    let same : says.validators.0 ≡ values = one_said says.validators.0 values says.validators.1 e in
    let lens : length (map (node_said names) says.validators.0) ≡ length (map Some level.validators) = ap length says.validators.2 in
    ap length (sym same) ∙ sym (length-map says.validators.0 (node_said names)) ∙ lens ∙ length-map level.validators Some

here_refuted : (names : List Identity) (left : ℕ) (ms : Members) (w : SetWrong) (set : QuorumTree) → SaysSet names ms set → levels set.inner ≤ left → IsWrongHere names left ms w → ⊥
here_refuted names left ms (within.Stray key) set says few bad = no_stray section.Set ms (string_bytes key) says.0.keys bad
here_refuted names left ms within.Threshold set says few bad =
    let vs : length bad.0 ≡ length set.head.validators = told_length names bad.0 ms set.head (row_len set.inner) says.0 bad.2 in
    let same : says.1.0 ≡ bad.1 = one_said says.1.0 bad.1 says.1.1 bad.3 in
    let row : length bad.1 ≡ row_len set.inner = ap length (sym same) ∙ row_length names says.1.0 set.inner says.1.2 in
    let counts : length bad.0 + length bad.1 ≡ length set.head.validators + row_len set.inner = omega arith in
    both set.head.threshold says.0.threshold (subst (λ (n : ℕ). threshold_in n ms ≡ None) counts bad.4)
here_refuted names left ms within.Validators set says few bad = both says.0.validators.0 says.0.validators.1 bad
here_refuted names left ms (within.Validator i) set says few bad =
    let same : bad.0 ≡ says.0.validators.0 = one_said bad.0 says.0.validators.0 bad.1 says.0.validators.1 in
    none_at (node_said names) says.0.validators.0 set.head.validators i says.0.validators.2 (subst (λ (vs : List Data). slice_get (map (node_said names) vs) i ≡ Some None) same bad.2)
here_refuted names left ms within.InnerSets set says few bad = elim bad [
  | inl missing ↦ both says.1.0 says.1.1 missing
  | inr one ↦
      let same : one.0 ≡ says.1.0 = one_said one.0 says.1.0 one.2 says.1.1 in
      no_table names says.1.0 set.inner one.1 says.1.2 (subst (λ (vs : List Data). slice_get (map as_table vs) one.1 ≡ Some None) same one.3)
]
here_refuted names left ms within.TooDeep set says few bad =
    let same : bad.1.0 ≡ says.1.0 = one_said bad.1.0 says.1.0 bad.1.1 says.1.1 in
    let row : length says.1.0 ≡ row_len set.inner = row_length names says.1.0 set.inner says.1.2 in
    let some : 0 < length bad.1.0 = bad.1.2 in
    let len : length bad.1.0 ≡ length says.1.0 = ap length same in
    let one : 1 ≤ levels set.inner = some_level set.inner (omega arith) in
    let zero_left : left ≡ 0 = bad.0 in
    omega arith

pub inside_refuted : (names : List Identity) (places : List ℕ) (left : ℕ) (ms : Members) (w : SetWrong) (set : QuorumTree) → SaysSet names ms set → levels set.inner ≤ left → IsWrongInside names left places ms w → ⊥
inside_refuted names [] left ms w set says few bad = here_refuted names left ms w set says few bad
inside_refuted names (i ∷ places) left ms w set says few bad =
    let same : bad.0 ≡ says.1.0 = one_said bad.0 says.1.0 bad.2 says.1.1 in
    let at_i : slice_get (map as_table says.1.0) i ≡ Some (Some bad.1) = subst (λ (vs : List Data). slice_get (map as_table vs) i ≡ Some (Some bad.1)) same bad.3 in
    let r = inner_at names says.1.0 set.inner i bad.1 says.1.2 at_i in
    let fewer : levels r.0.inner ≤ left - 1 = omega (arith, r.2) in
    inside_refuted names places (left - 1) bad.1 w r.0 r.1 fewer bad.4

sane_refuted : (set : QuorumTree) (w : Wrong) → IsSane set → IsWrongSet set w → ⊥
sane_refuted set wrong.NodeTwice sane bad = bad sane.distinct
sane_refuted set wrong.ManyNodes sane bad = let few : length (all_nodes set) ≤ 1000 = sane.few_nodes in let many : 1000 < length (all_nodes set) = bad in omega arith
sane_refuted set wrong.LongSet sane bad = bad (sane.fits, sane.short)
sane_refuted set other sane bad = absurd bad

set_refuted : (doc : Members) (s : Settings) (w : Wrong) → IsConfigOf doc s → SaysWrongSet doc w → ⊥
set_refuted doc s w good bad =
    let names : bad.0 ≡ s.names.items = same_names doc bad.0 s.names.items bad.2 good.names in
    let tables : bad.3.0 ≡ good.set.0 = one_said bad.3.0 good.set.0 bad.3.1 good.set.1 in
    let says : SaysSet s.names.items good.set.0 bad.1 = subst (λ (ms : Members). SaysSet s.names.items ms bad.1) tables (subst (λ (ns : List Identity). SaysSet ns bad.3.0 bad.1) names bad.3.2) in
    let sets : bad.1 ≡ s.set = same_set s.names.items good.set.0 bad.1 s.set says good.set.2 in
    sane_refuted s.set w good.sane (subst (λ (q : QuorumTree). IsWrongSet q w) sets bad.4)

-- ---- capacities

queue_refuted : (queues : Members) (c : Capacities) (queue : Queue) → SaysQueues queues c → capacity_said (get_member (queue_key queue) queues) ≡ None → ⊥
queue_refuted queues c Link says bad = both c.link says.link bad
queue_refuted queues c Inbox says bad = both c.inbox says.inbox bad
queue_refuted queues c Ready says bad = both c.ready says.ready bad
queue_refuted queues c Decided says bad = both c.decided says.decided bad

queues_of : (doc : Members) (s : Settings) (queues : Members) → (good : IsConfigOf doc s) → good.capacities.0 ≡ queues → SaysQueues queues s.capacities
queues_of doc s queues good same = subst (λ (ms : Members). SaysQueues ms s.capacities) same good.capacities.2

-- ---- the whole

peer_at : (doc : Members) (s : Settings) (names : List Identity) (i : ℕ) (said : Option Identity) → (good : IsConfigOf doc s) → SaysNames doc names → IsPeerAt names doc i said
    → slice_get (map (name_said s.names.items) (values_of good.peers.said.0)) i ≡ Some said
peer_at doc s names i said good says bad =
    let same : names ≡ s.names.items = same_names doc names s.names.items says good.names in
    let items : bad.0 ≡ good.peers.said.0 = one_said bad.0 good.peers.said.0 bad.1 good.peers.said.1 in
    subst (λ (ns : List Identity). slice_get (map (name_said ns) (values_of good.peers.said.0)) i ≡ Some said) same
    (subst (λ (vs : Items). slice_get (map (name_said names) (values_of vs)) i ≡ Some said) items bad.2)

peer_said : (doc : Members) (s : Settings) (names : List Identity) (i : ℕ) (peer : Identity) → IsConfigOf doc s → SaysNames doc names → IsPeerAt names doc i (Some peer) → slice_get s.peers.items i ≡ Some peer
peer_said doc s names i peer good says bad =
    told_at (name_said s.names.items) (values_of good.peers.said.0) s.peers.items i peer good.peers.said.2 (peer_at doc s names i (Some peer) good says bad)

pub refuted : (doc : Members) (s : Settings) (w : Wrong) → IsConfigOf doc s → IsWrong doc w → ⊥
refuted doc s (wrong.Stray key) good bad = no_stray section.Whole doc (string_bytes key) good.keys bad
refuted doc s wrong.Nodes good bad = both good.names.0 good.names.1 bad
refuted doc s (wrong.Name name) good bad =
    let are = names_of doc bad.0 s.names.items good.names bad.1 in
    untold bad.0 s.names.items bad.2.0 (string_bytes name) bad.2.1 are bad.2.2 (no_name (string_bytes name) bad.2.1 bad.2.3)
refuted doc s (wrong.Id name) good bad =
    let are = names_of doc bad.0 s.names.items good.names bad.1 in
    untold bad.0 s.names.items bad.2.0 (string_bytes name) bad.2.1 are bad.2.2 (no_id (string_bytes name) bad.2.1 bad.2.3)
refuted doc s (wrong.SameId name other) good bad = one_id bad.0 s.names.items (string_bytes name) (string_bytes other) (names_of doc bad.0 s.names.items good.names bad.1) bad.2
refuted doc s wrong.Node good bad =
    let same : bad.0 ≡ s.names.items = same_names doc bad.0 s.names.items bad.1 good.names in
    both s.node good.node (subst (λ (ns : List Identity). node_in ns doc ≡ None) same bad.2)
refuted doc s wrong.Peers good bad =
    let many : LINK_LIMIT < length (values_of good.peers.said.0) = bad good.peers.said.0 good.peers.said.1 in
    let few : length s.peers.items ≤ LINK_LIMIT = good.peers.few in
    let lens : length (map (name_said s.names.items) (values_of good.peers.said.0)) ≡ length (map Some s.peers.items) = ap length good.peers.said.2 in
    let same : length (values_of good.peers.said.0) ≡ length s.peers.items = sym (length-map (values_of good.peers.said.0) (name_said s.names.items)) ∙ lens ∙ length-map s.peers.items Some in
    omega arith
refuted doc s (wrong.Peer i) good bad = none_at (name_said s.names.items) (values_of good.peers.said.0) s.peers.items i good.peers.said.2 (peer_at doc s bad.0 i None good bad.1 bad.2)
refuted doc s (wrong.PeerTwice i) good bad =
    good.peers.once bad.2.0 i bad.2.1 bad.2.2 bad.2.3 (peer_said doc s bad.0 bad.2.0 bad.2.1 good bad.1 bad.2.4) (peer_said doc s bad.0 i bad.2.2 good bad.1 bad.2.5) bad.2.6
refuted doc s (wrong.PeerIsNode i) good bad =
    let same : bad.0 ≡ s.names.items = same_names doc bad.0 s.names.items bad.2 good.names in
    let node : bad.1 ≡ s.node = one_said bad.1 s.node (subst (λ (ns : List Identity). node_in ns doc ≡ Some bad.1) same bad.3) good.node in
    let at_i : slice_get s.peers.items i ≡ Some bad.4.0 = peer_said doc s bad.0 i bad.4.0 good bad.2 bad.4.1 in
    all_at_place (λ (peer : Identity). peer.name ≢ s.node.name) s.peers.items i bad.4.0 good.peers.others at_i (bad.4.2 ∙ ap (λ (n : Identity). n.name) node)
refuted doc s wrong.Set good bad = both good.set.0 good.set.1 bad
refuted doc s (wrong.InSet inner w) good bad =
    let names : bad.0 ≡ s.names.items = same_names doc bad.0 s.names.items bad.2 good.names in
    let tables : bad.1 ≡ good.set.0 = one_said bad.1 good.set.0 bad.3 good.set.1 in
    let inside : IsWrongInside s.names.items 4 inner.items good.set.0 w = subst (λ (ms : Members). IsWrongInside s.names.items 4 inner.items ms w) tables (subst (λ (ns : List Identity). IsWrongInside ns 4 inner.items bad.1 w) names bad.4) in
    inside_refuted s.names.items inner.items 4 good.set.0 w s.set good.set.2 good.sane.shallow inside
refuted doc s wrong.NodeTwice good bad = set_refuted doc s wrong.NodeTwice good bad
refuted doc s wrong.ManyNodes good bad = set_refuted doc s wrong.ManyNodes good bad
refuted doc s wrong.LongSet good bad = set_refuted doc s wrong.LongSet good bad
refuted doc s wrong.Capacities good bad = both good.capacities.0 good.capacities.1 bad
refuted doc s (wrong.StrayCapacity key) good bad =
    let says = queues_of doc s bad.0 good (one_said good.capacities.0 bad.0 good.capacities.1 bad.1) in
    no_stray section.Queues bad.0 (string_bytes key) says.keys bad.2
refuted doc s (wrong.Capacity queue) good bad =
    let says = queues_of doc s bad.0 good (one_said good.capacities.0 bad.0 good.capacities.1 bad.1) in
    queue_refuted bad.0 s.capacities queue says bad.2
