-- What is told of a part, told of the document.
use Rattle.std.proofs.Common.{◌≡◌, ℕ, ◌<◌, List, length, map, Option, Some, None, refl, sym, ap, ◌∙◌, subst, arith, option_map, codes}
use Rattle.std.specs.List.{slice_get}
use Rattle.std.specs.Prelude.{IsSomeAnd}
use Rattle.std.proofs.lemmas.Option.{same_Some, none-some}
use Rattle.scp_quorum.specs.scp_types.specs.declared.limits.TheConstants.{LINK_LIMIT}
use Rattle.toml.specs.Data.{Data, Items, Members}
use Rattle.toml.specs.Parse.{parse_document}
use Rattle.toml.specs.Errors.{IsMemory, IsWithin, span_start}
use Rattle.toml.specs.declared.de.error.Error.{Error}
use Rattle.scp_quorum.specs.QuorumTree.{QuorumTree}
use Rattle.scp_quorum.specs.Sane.{IsInRange}
use Rattle.scp_live_config.specs.Names.{Identity, name_said, values_of}
use Rattle.scp_live_config.specs.Config.{SaysNames, table_at, node_in, peers_in}
use Rattle.scp_live_config.specs.Wrong.{IsWrong, IsWrongSet, SaysQuorumSet, IsPeerAt, AreNoPeers, IsFaultOf}
use Rattle.scp_live_config.specs.declared.wrong.Wrong.TheVariants as wrong
use Rattle.scp_live_config.specs.declared.fault.ConfigFault.{ConfigFault}
use Rattle.scp_live_config.specs.declared.fault.ConfigFault.TheVariants as config
use Rattle.scp_live_config.specs.inside.Faults.{Tells, IsWrongAmong, IsWrongAmongPeers, IsTextFault}
use Rattle.scp_live_config.proofs.Rows.{set_in_range}

-- names
pub names_wrong : (doc nodes : Members) (e : ConfigFault) → table_at (codes "NODES") doc ≡ Some nodes → Tells (IsWrongAmong nodes) e → Tells (IsWrong doc) e
names_wrong doc nodes config.NoMemory there told = tt
names_wrong doc nodes (config.Text line words) there told = absurd told
names_wrong doc nodes (config.Wrong (wrong.Name name)) there told = (nodes, there, told)
names_wrong doc nodes (config.Wrong (wrong.Id name)) there told = (nodes, there, told)
names_wrong doc nodes (config.Wrong (wrong.SameId name other)) there told = (nodes, there, told)
names_wrong doc nodes (config.Wrong other) there told = absurd told

-- an array that is there
pub array_there : {A B : Type 0} → (f : A → B) (o : Option A) (y : B) → Some y ≡ option_map f o → (x : A) × (o ≡ Some x) × (f x ≡ y)
array_there f None y e = absurd (none-some y (sym e))
array_there f (Some x) y e = (x, refl, sym (same_Some y (f x) e))

no_array : {A B : Type 0} → (f : A → B) (o : Option A) → None ≡ option_map f o → o ≡ None
no_array f None e = refl
no_array f (Some x) e = absurd (none-some (f x) e)

-- peers
pub peers_wrong : (names : List Identity) (node : Identity) (doc : Members) (values : List Data) (e : ConfigFault) → SaysNames doc names → node_in names doc ≡ Some node → Some values ≡ option_map values_of (peers_in doc)
    → Tells (IsWrongAmongPeers names node values) e → Tells (IsWrong doc) e
peers_wrong names node doc values config.NoMemory says own there told = tt
peers_wrong names node doc values (config.Text line words) says own there told = absurd told
peers_wrong names node doc values (config.Wrong (wrong.Peer i)) says own there told =
    let a = array_there values_of (peers_in doc) values there in
    (names, says, (a.0, a.1, subst (λ (vs : List Data). slice_get (map (name_said names) vs) i ≡ Some None) (sym a.2) told))
peers_wrong names node doc values (config.Wrong (wrong.PeerIsNode i)) says own there told =
    let a = array_there values_of (peers_in doc) values there in
    (names, node, says, own, (told.0, (a.0, a.1, subst (λ (vs : List Data). slice_get (map (name_said names) vs) i ≡ Some (Some told.0)) (sym a.2) told.1), told.2))
peers_wrong names node doc values (config.Wrong (wrong.PeerTwice i)) says own there told =
    let a = array_there values_of (peers_in doc) values there in
    let first : IsPeerAt names doc told.0 (Some told.1) = (a.0, a.1, subst (λ (vs : List Data). slice_get (map (name_said names) vs) told.0 ≡ Some (Some told.1)) (sym a.2) told.4) in
    let second : IsPeerAt names doc i (Some told.2) = (a.0, a.1, subst (λ (vs : List Data). slice_get (map (name_said names) vs) i ≡ Some (Some told.2)) (sym a.2) told.5) in
    (names, says, (told.0, told.1, told.2, told.3, first, second, told.6))
peers_wrong names node doc values (config.Wrong other) says own there told = absurd told

pub no_peers : (doc : Members) → None ≡ option_map values_of (peers_in doc) → AreNoPeers doc
no_peers doc e items there = absurd (none-some items (sym (no_array values_of (peers_in doc) e) ∙ there))

pub many_peers : (doc : Members) (values : List Data) → Some values ≡ option_map values_of (peers_in doc) → LINK_LIMIT < length values → AreNoPeers doc
many_peers doc values e many items there =
    let a = array_there values_of (peers_in doc) values e in
    let same : a.0 ≡ items = same_Some a.0 items (sym a.1 ∙ there) in
    let lens : length (values_of items) ≡ length values = ap (λ (i : Items). length (values_of i)) (sym same) ∙ ap length a.2 in
    omega arith

-- quorum sets
pub whole_wrong : (names : List Identity) (doc : Members) (set : QuorumTree) (e : ConfigFault) → SaysNames doc names → SaysQuorumSet names doc set → Tells (IsWrongSet set) e → Tells (IsWrong doc) e
whole_wrong names doc set config.NoMemory says there told = tt
whole_wrong names doc set (config.Text line words) says there told = absurd told
whole_wrong names doc set (config.Wrong wrong.NodeTwice) says there told = (names, set, says, there, told)
whole_wrong names doc set (config.Wrong wrong.ManyNodes) says there told = (names, set, says, there, told)
whole_wrong names doc set (config.Wrong wrong.LongSet) says there told = (names, set, says, there, told)
whole_wrong names doc set (config.Wrong other) says there told = absurd told

pub whole_in_range : (names : List Identity) (doc : Members) (set : QuorumTree) → SaysQuorumSet names doc set → IsInRange set
whole_in_range names doc set says = set_in_range names says.0 set says.2

-- texts
pub doc_wrong : (text : List ℕ) (doc : Members) (e : ConfigFault) → parse_document text ≡ Some doc → Tells (IsWrong doc) e → IsFaultOf text e
doc_wrong text doc config.NoMemory there told = tt
doc_wrong text doc (config.Text line words) there told = absurd told
doc_wrong text doc (config.Wrong w) there told = subst (λ (o : Option Members). IsSomeAnd o (λ d. IsWrong d w)) (sym there) told

pub text_wrong : (text : List ℕ) (error : Error) (e : ConfigFault) → ((IsMemory error → ⊥) → parse_document text ≡ None) → IsWithin text error → IsTextFault text error e → IsFaultOf text e
text_wrong text error config.NoMemory refused within told = tt
text_wrong text error (config.Text line words) refused within told = (refused told.0, (span_start error, omega (arith, within.0, within.1), told.1))
text_wrong text error (config.Wrong w) refused within told = absurd told
