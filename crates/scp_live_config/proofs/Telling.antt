-- What is told of one place, told of the whole.
use Rattle.std.proofs.Common.{◌≡◌, ◌≢◌, ℕ, zero, suc, ◌+◌, ◌<◌, true, false, List, [], ◌∷◌, ◌++◌, length, map, take, get_or, Option, Some, None, sym, ap, ◌∙◌, subst, arith, string_bytes, nat_eq, option_map, append-nil, String, Global}
use Rattle.std.specs.List.{slice_get, find, AllByRecursion}
use Rattle.std.specs.Str.{bytes_eq}
use Rattle.std.specs.Cmp.Lexicographic.{pointwise}
use Rattle.std.proofs.lemmas.Bool.{false≢true}
use Rattle.std.proofs.lemmas.List.{length-take-le, map_push, map-append, length-map}
use Rattle.std.proofs.lemmas.Option.{none-some, slice_get-map, slice_get_within}
use Rattle.std.proofs.lemmas.Slice.Eq.{bytes_eq-Decides}
use Rattle.toml.specs.Data.{Data, Members}
use Rattle.toml.specs.View.{view, members_view}
use Rattle.toml.specs.declared.value.Value.{Value}
use Rattle.scp_quorum.specs.scp_types.specs.declared.names.NodeId.{NodeId}
use Rattle.scp_live_config.specs.Names.{Identity, NoTwo, identity_said, pairs_of, named, name_said, node_said}
use Rattle.scp_live_config.specs.Wrong.{HaveOneId, IsNoName, HasNoId}
use Rattle.scp_live_config.specs.declared.wrong.Wrong.{Wrong}
use Rattle.scp_live_config.specs.declared.wrong.Wrong.TheVariants as wrong
use Rattle.scp_live_config.specs.declared.fault.ConfigFault.{ConfigFault}
use Rattle.scp_live_config.specs.declared.fault.ConfigFault.TheVariants as config
use Rattle.scp_live_config.specs.inside.Faults.{Tells, IsWrongPeer, IsWrongAmongPeers, IsWrongPair, IsWrongAmong, IsSameId, SaysAt}
use Rattle.scp_live_config.proofs.Views.{take_said}
use Rattle.scp_live_config.proofs.Lists.{at_left, at_seam, found_at, lost, no_two_push}

-- equal bytes, and others
same_bytes : (xs ys : List ℕ) → bytes_eq xs ys ≡ true → xs ≡ ys
same_bytes xs ys h = (bytes_eq-Decides xs ys).0 h

other_bytes : (xs ys : List ℕ) → bytes_eq xs ys ≡ false → xs ≢ ys
other_bytes xs ys h e = false≢true (sym h ∙ (bytes_eq-Decides xs ys).1 e)

-- what is told at a place among the first values
at_taken : {A : Type 0} → (f : Data → A) (vs : List Value) (p j : ℕ) (x : A) → slice_get (map f (map view (take p vs))) j ≡ Some x → slice_get (map f (map view vs)) j ≡ Some x
at_taken f [] zero j x e = e
at_taken f [] (suc p) j x e = e
at_taken f (v ∷ vs) zero j x e = absurd (none-some x e)
at_taken f (v ∷ vs) (suc p) zero x e = e
at_taken f (v ∷ vs) (suc p) (suc j) x e = at_taken f vs p j x e

-- ---- peers

-- one more peer
pub peer_once : (peers : List Identity) (peer : Identity) → NoTwo (λ p. p.name) peers → named peers peer.name ≡ None → NoTwo (λ p. p.name) (peers ++ peer ∷ [])
peer_once peers peer once new =
    no_two_push (λ (p : Identity). p.name) peers peer once (λ i x e. other_bytes x.name peer.name (lost (λ (p : Identity). bytes_eq p.name peer.name) peers i x new e))

pub all_by_push : {A : Type 0} → (P : A → Type 0) (xs : List A) (x : A) → AllByRecursion P xs → P x → AllByRecursion P (xs ++ x ∷ [])
all_by_push P [] x all here = (here, tt)
all_by_push P (a ∷ xs) x all here = (all.0, all_by_push P xs x all.1 here)

pub peer_wrong : (names : List Identity) (node : Identity) (vs : List Value) (peers : List Identity) (place : ℕ) (said : Option Identity) (e : ConfigFault)
    → map (name_said names) (map view (take place vs)) ≡ map Some peers → place < length vs → slice_get (map (name_said names) (map view vs)) place ≡ Some said
    → Tells (IsWrongPeer node peers place said) e → Tells (IsWrongAmongPeers names node (map view vs)) e
peer_wrong names node vs peers place said config.NoMemory before within here told = tt
peer_wrong names node vs peers place said (config.Text line words) before within here told = absurd told
peer_wrong names node vs peers place said (config.Wrong (wrong.Peer i)) before within here told =
    subst (λ (n : ℕ). SaysAt names (map view vs) n None) (sym told.0) (here ∙ ap Some told.1)
peer_wrong names node vs peers place said (config.Wrong (wrong.PeerIsNode i)) before within here told =
    let own : IsWrongAmongPeers names node (map view vs) (wrong.PeerIsNode place) = (told.1.0, here ∙ ap Some told.1.1, told.1.2) in
    subst (λ (n : ℕ). IsWrongAmongPeers names node (map view vs) (wrong.PeerIsNode n)) (sym told.0) own
peer_wrong names node vs peers place said (config.Wrong (wrong.PeerTwice i)) before within here told =
    let one : Identity = told.1.0 in
    let peer : Identity = told.1.1 in
    let r = found_at (λ (p : Identity). bytes_eq p.name peer.name) peers one told.1.3 in
    let taken : length (take place vs) ≡ place = length-take-le place vs (omega arith) in
    let lens : length (map (name_said names) (map view (take place vs))) ≡ length (map Some peers) = ap length before in
    let left : length (map (name_said names) (map view (take place vs))) ≡ length (take place vs) = length-map (map view (take place vs)) (name_said names) ∙ length-map (take place vs) view in
    let right : length (map Some peers) ≡ length peers = length-map peers Some in
    let inside : r.0 < length peers = slice_get_within peers r.0 one r.1 in
    let below : r.0 < place = omega arith in
    let first : slice_get (map (name_said names) (map view (take place vs))) r.0 ≡ Some (Some one) =
    ap (λ (l : List (Option Identity)). slice_get l r.0) before ∙ slice_get-map Some peers r.0 ∙ ap (λ (o : Option Identity). option_map Some o) r.1 in
    let twice : IsWrongAmongPeers names node (map view vs) (wrong.PeerTwice place) = (r.0, one, peer, below, at_taken (name_said names) vs place r.0 (Some one) first, here ∙ ap Some told.1.2, same_bytes one.name peer.name r.2) in
    subst (λ (n : ℕ). IsWrongAmongPeers names node (map view vs) (wrong.PeerTwice n)) (sym told.0) twice
peer_wrong names node vs peers place said (config.Wrong other) before within here told = absurd told

-- ---- names

-- one more name
pub name_apart : (names : List Identity) (identity : Identity) → NoTwo (λ i. i.id) names → find (λ (i : Identity). pointwise nat_eq i.id.0 identity.id.0) names ≡ None → NoTwo (λ i. i.id) (names ++ identity ∷ [])
name_apart names identity apart new =
    no_two_push (λ (i : Identity). i.id) names identity apart (λ i x e same. other_bytes x.id.0 identity.id.0 (lost (λ (n : Identity). pointwise nat_eq n.id.0 identity.id.0) names i x new e) (ap (λ (n : NodeId). n.0) same))

pub name_more : (done : List (List ℕ × Data)) (pair : List ℕ × Data) (names : List Identity) (identity : Identity) → map identity_said done ≡ map Some names → identity_said pair ≡ Some identity
    → map identity_said (done ++ pair ∷ []) ≡ map Some (names ++ identity ∷ [])
name_more done pair names identity before here =
    map_push identity_said done pair ∙ ap (λ (l : List (Option Identity)). l ++ identity_said pair ∷ []) before ∙ ap (λ (o : Option Identity). map Some names ++ o ∷ []) here ∙ sym (map_push Some names identity)

-- a name whose id another one has
pub id_twice : (nodes : Members) (done rest : List (List ℕ × Data)) (pair : List ℕ × Data) (names : List Identity) (identity other : Identity) → pairs_of nodes ≡ done ++ pair ∷ rest
    → map identity_said done ≡ map Some names → identity_said pair ≡ Some identity → find (λ (i : Identity). pointwise nat_eq i.id.0 identity.id.0) names ≡ Some other → HaveOneId nodes identity.name other.name
id_twice nodes done rest pair names identity other e before here found =
    let r = found_at (λ (i : Identity). pointwise nat_eq i.id.0 identity.id.0) names other found in
    let inside : r.0 < length names = slice_get_within names r.0 other r.1 in
    let lens : length done ≡ length names = sym (length-map done identity_said) ∙ ap length before ∙ length-map names Some in
    let below : r.0 < length done = omega arith in
    let first : slice_get (map identity_said done) r.0 ≡ Some (Some other) =
    ap (λ (l : List (Option Identity)). slice_get l r.0) before ∙ slice_get-map Some names r.0 ∙ ap (λ (o : Option Identity). option_map Some o) r.1 in
    let spread : map identity_said (pairs_of nodes) ≡ map identity_said done ++ identity_said pair ∷ map identity_said rest = ap (λ (ps : List (List ℕ × Data)). map identity_said ps) e ∙ map-append identity_said done (pair ∷ rest) in
    let at_i : slice_get (map identity_said (pairs_of nodes)) r.0 ≡ Some (Some other) =
    ap (λ (l : List (Option Identity)). slice_get l r.0) spread ∙ at_left (map identity_said done) (identity_said pair ∷ map identity_said rest) r.0 (Some other) first in
    let seam : slice_get (map identity_said (pairs_of nodes)) (length (map identity_said done)) ≡ Some (identity_said pair) =
    ap (λ (l : List (Option Identity)). slice_get l (length (map identity_said done))) spread ∙ at_seam (map identity_said done) (identity_said pair) (map identity_said rest) in
    let at_j : slice_get (map identity_said (pairs_of nodes)) (length done) ≡ Some (Some identity) =
    subst (λ (n : ℕ). slice_get (map identity_said (pairs_of nodes)) n ≡ Some (Some identity)) (length-map done identity_said) (seam ∙ ap Some here) in
    let ids : other.id ≡ identity.id = ap (λ bytes. record { 0 = bytes }) (same_bytes other.id.0 identity.id.0 r.2) in
    let same : other ≡ record { name = other.name; id = identity.id } = ap (λ id. record { name = other.name; id = id }) ids in
    (r.0, length done, identity.id, below, at_i ∙ ap (λ (i : Identity). Some (Some i)) same, at_j)

pub pair_wrong : (nodes : Members) (i : ℕ) (key : List ℕ) (said : Data) (e : ConfigFault) → slice_get (pairs_of nodes) i ≡ Some (key, said) → Tells (IsWrongPair key said) e → Tells (IsWrongAmong nodes) e
pair_wrong nodes i key said config.NoMemory here told = tt
pair_wrong nodes i key said (config.Text line words) here told = absurd told
pair_wrong nodes i key said (config.Wrong (wrong.Name name)) here told =
    let bad : IsNoName nodes key = (i, said, here, told.1) in subst (λ (k : List ℕ). IsNoName nodes k) (sym told.0) bad
pair_wrong nodes i key said (config.Wrong (wrong.Id name)) here told =
    let bad : HasNoId nodes key = (i, said, here, told.1) in subst (λ (k : List ℕ). HasNoId nodes k) (sym told.0) bad
pair_wrong nodes i key said (config.Wrong other) here told = absurd told

pub same_id_wrong : (nodes : Members) (name other : List ℕ) (w : Wrong) → HaveOneId nodes name other → IsSameId name other w → IsWrongAmong nodes w
same_id_wrong nodes name other (wrong.SameId one two) both told =
    subst (λ (k : List ℕ). HaveOneId nodes (string_bytes one) k) (sym told.1) (subst (λ (k : List ℕ). HaveOneId nodes k other) (sym told.0) both)
same_id_wrong nodes name other w both told = absurd told

-- the peers so far, and one more
pub each_more : (names : List Identity) (node : Identity) (vs : List Value) (peers : List Identity) (place : ℕ) (v : Value) (peer : Identity) → place < length vs → v ≡ get_or vs place v
    → map (name_said names) (map view (take place vs)) ≡ map Some peers → name_said names (view v) ≡ Some peer → map (name_said names) (map view (take (place + 1) vs)) ≡ map Some (peers ++ peer ∷ [])
each_more names node vs peers place v peer within e before here =
    take_said (name_said names) vs place v within e ∙ ap (λ (l : List (Option Identity)). l ++ name_said names (view v) ∷ []) before
    ∙ ap (λ (o : Option Identity). map Some peers ++ o ∷ []) here ∙ sym (map_push Some peers peer)

-- the nodes so far, and one more
pub node_more : (names : List Identity) (vs : List Value) (nodes : List NodeId) (place : ℕ) (v : Value) (whose : Identity) → place < length vs → v ≡ get_or vs place v
    → map (node_said names) (map view (take place vs)) ≡ map Some nodes → Some whose ≡ name_said names (view v) → map (node_said names) (map view (take (place + 1) vs)) ≡ map Some (nodes ++ whose.id ∷ [])
node_more names vs nodes place v whose within e before here =
    let id : node_said names (view v) ≡ Some whose.id = ap (λ (o : Option Identity). option_map (λ identity. identity.id) o) (sym here) in
    take_said (node_said names) vs place v within e ∙ ap (λ (l : List (Option NodeId)). l ++ node_said names (view v) ∷ []) before
    ∙ ap (λ (o : Option NodeId). map Some nodes ++ o ∷ []) id ∙ sym (map_push Some nodes whose.id)

-- all pairs are gone over
pub all_pairs : (all done : List (List ℕ × Data)) (left : List (String Global × Value)) → all ≡ done ++ pairs_of (members_view left) → left ≡ [] → all ≡ done
all_pairs all done left e none = e ∙ ap (λ (es : List (String Global × Value)). done ++ pairs_of (members_view es)) none ∙ append-nil done
