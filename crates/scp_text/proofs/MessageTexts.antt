-- What is written of a message is read as it.
use Rattle.std.proofs.Common.{◌≡◌, ℕ, ◌+◌, ◌-◌, ◌<◌, ◌≤◌, ◌^◌, true, false, List, [], ◌∷◌, ◌++◌, length, map, Some, None, Ok, inl, inr, refl, sym, ◌∙◌, ap, subst, arith}
use Rattle.std.specs.Prelude.{codes}
use Rattle.std.specs.List.{AllByRecursion, list_all}
use Rattle.std.specs.Fmt.{decimal}
use Rattle.hex.specs.Hex.{encode_lower}
use Rattle.scp_kv.specs.scp_types.specs.declared.names.NodeId.{NodeId}
use Rattle.scp_kv.specs.scp_types.specs.declared.names.Hash.{Hash}
use Rattle.scp_kv.specs.scp_types.specs.declared.names.Slot.{Slot}
use Rattle.scp_kv.specs.scp_xdr.specs.Kind.{Values, Fits, spelling}
use Rattle.scp_wire.specs.scp_envelope.specs.declared.statement.Prepare.{Prepare}
use Rattle.scp_wire.specs.scp_envelope.specs.declared.statement.Confirm.{Confirm}
use Rattle.scp_wire.specs.scp_envelope.specs.declared.statement.Externalize.{Externalize}
use Rattle.scp_wire.specs.scp_envelope.specs.declared.statement.Nominate.{Nominate}
use Rattle.scp_wire.specs.scp_envelope.specs.declared.statement.Pledges.{Pledges}
use Rattle.scp_wire.specs.scp_envelope.specs.declared.statement.Pledges.TheVariants.{Prepare as Preparing, Confirm as Confirming, Externalize as Externalizing, Nominate as Nominating}
use Rattle.scp_wire.specs.scp_envelope.specs.Kinds.{pledges_kind, pledges_value}
use Rattle.scp_wire.specs.declared.message.Message.{Message}
use Rattle.scp_wire.specs.declared.message.Message.TheVariants.{Envelope as OfEnvelope, GetSet, Set, NoSet, GetRecord, Record, Records}
use Rattle.scp_wire.specs.Message.{message_kind, message_value, SpellsMessage}
use Rattle.scp_text.specs.Pieces.{listed, bracketed}
use Rattle.scp_text.specs.Messages.{words_with, signature_words, nominate_words, prepare_words, confirm_words, externalize_words, pledges_words, at, ended, signature_at, nominate_in, prepare_in, confirm_in, externalize_in, envelope_in, get_set_in, no_set_in, the_set_in, get_record_in, record_in, message_in, message_words, message_text, words_of}
use Rattle.std.proofs.lemmas.List.{length-map}
use Rattle.scp_kv.specs.scp_xdr.specs.Tree.{Trees, no_trees, tree_then, row_len, row_map}
use Rattle.scp_kv.specs.scp_xdr.specs.Kind.{RowFits, limit_at}
use Rattle.scp_kv.specs.scp_xdr.specs.Shared.{node_kind, node_value}
use Rattle.scp_wire.specs.scp_quorum.specs.QuorumTree.{Level, QuorumTree}
use Rattle.scp_wire.specs.scp_quorum.specs.QuorumKind.{level_kind, level_value, set_kind, set_value}
use Rattle.scp_text.specs.Sets.{row_texts, set_text, set_in}
use Rattle.scp_text.proofs.Items.{IsItem, IsOpen}
use Rattle.scp_text.proofs.Records.{get_record_again, record_again, records_again}
use Rattle.scp_text.proofs.Numbers.{number_again}
use Rattle.scp_text.proofs.Leaves.{AreBytes, Leaves, RowLeaves}
use Rattle.scp_text.proofs.SetTexts.{node_again, hash_again}
use Rattle.scp_text.proofs.SetRows.{counter_again, GoodNode, GoodLevel, RowGood, level_item, row_items, set_again}
use Rattle.scp_text.proofs.Envelopes.{good_ballot, good_option, good_values, ballot_again, optional_again, values_again, signature_again}

pub nominate_again : (node : NodeId) (slot : Slot) (p : Nominate) (signature : List ℕ) → Fits pledges_kind (pledges_value (Nominating p)) → Leaves pledges_kind (pledges_value (Nominating p)) → nominate_in (pledges_words node slot (Nominating p) ++ signature_words signature) ≡ Ok (Nominating p)
unfolding nominate_in at
nominate_again node slot p signature f l =
    let fits = f.1.1.1.1 in
    rw (hash_again p.set_hash fits.0 l.0, values_again (codes "votes(") p.votes (good_values p.votes fits.1.0.2 l.1.0), values_again (codes "accepted(") p.accepted (good_values p.accepted fits.1.1.2 l.1.1)) refl

pub prepare_again : (node : NodeId) (slot : Slot) (p : Prepare) (signature : List ℕ) → Fits pledges_kind (pledges_value (Preparing p)) → Leaves pledges_kind (pledges_value (Preparing p)) → prepare_in (pledges_words node slot (Preparing p) ++ signature_words signature) ≡ Ok (Preparing p)
unfolding prepare_in at
prepare_again node slot p signature f l =
    let fits = f.1 in
    rw
    (hash_again p.set_hash fits.0 l.0, ballot_again (codes "ballot(") p.ballot (good_ballot p.ballot fits.1.0 l.1.0), optional_again (codes "prepared(") p.prepared (λ text. refl) (good_option p.prepared fits.1.1.0 l.1.1.0), optional_again (codes "prime(") p.prepared_prime (λ text. refl) (good_option p.prepared_prime fits.1.1.1.0 l.1.1.1.0), counter_again p.n_commit fits.1.1.1.1.0, counter_again p.n_high fits.1.1.1.1.1)
    refl

pub confirm_again : (node : NodeId) (slot : Slot) (p : Confirm) (signature : List ℕ) → Fits pledges_kind (pledges_value (Confirming p)) → Leaves pledges_kind (pledges_value (Confirming p)) → confirm_in (pledges_words node slot (Confirming p) ++ signature_words signature) ≡ Ok (Confirming p)
unfolding confirm_in at
confirm_again node slot p signature f l =
    let fits = f.1.1 in
    rw
    (hash_again p.set_hash fits.1.1.1.1 l.1.1.1.1, ballot_again (codes "ballot(") p.ballot (good_ballot p.ballot fits.0 l.0), counter_again p.n_prepared fits.1.0, counter_again p.n_commit fits.1.1.0, counter_again p.n_high fits.1.1.1.0)
    refl

pub externalize_again : (node : NodeId) (slot : Slot) (p : Externalize) (signature : List ℕ) → Fits pledges_kind (pledges_value (Externalizing p)) → Leaves pledges_kind (pledges_value (Externalizing p)) → externalize_in (pledges_words node slot (Externalizing p) ++ signature_words signature) ≡ Ok (Externalizing p)
unfolding externalize_in at
externalize_again node slot p signature f l =
    let fits = f.1.1.1 in
    rw (hash_again p.set_hash fits.1.1 l.1.1, ballot_again (codes "commit(") p.commit (good_ballot p.commit fits.0 l.0), counter_again p.n_high fits.1.0) refl

-- ---- quorum sets

nodes_good : (vs : List NodeId) → AllByRecursion (λ v. Fits node_kind v) (map node_value vs) → AllByRecursion (λ v. Leaves node_kind v) (map node_value vs) → AllByRecursion GoodNode vs
nodes_good [] f l = tt
nodes_good (v ∷ vs) f l = (record { len = f.0.1; bytes = l.0 }, nodes_good vs f.1 l.1)

level_good : (level : Level) → Fits level_kind (level_value level) → Leaves level_kind (level_value level) → GoodLevel level
level_good level f l =
    record {
      threshold = f.0;
      few = subst (λ (n : ℕ). n ≤ 1000) (let e : length (map node_value level.validators) ≡ length level.validators = simp length-map in e) f.1.0;
      nodes = nodes_good level.validators f.1.2 l.1;
    }

mapped_len : (row : Trees Level) → row_len (row_map level_value row) ≡ row_len row
mapped_len no_trees = refl
mapped_len (tree_then level inner others) = ap (λ n. 1 + n) (mapped_len others)

row_good : (n : ℕ) (row : Trees Level) → RowFits (λ v. Fits level_kind v) n 1000 (row_map level_value row) → RowLeaves (λ v. Leaves level_kind v) (row_map level_value row) → RowGood n row
row_good n no_trees f l = tt
row_good n (tree_then level inner others) f l =
    (level_good level f.0.0 l.0, subst (λ (k : ℕ). k ≤ limit_at n 1000) (mapped_len inner) f.0.1, row_good (n - 1) inner f.0.3 l.1, row_good n others f.1 l.2)

pub set_good_again : (set : QuorumTree) → Fits set_kind (set_value set) → Leaves set_kind (set_value set) → set_in (set_text set) ≡ Some set
set_good_again set f l =
    set_again set (level_good set.head f.0 l.0) (subst (λ (k : ℕ). k ≤ 1000) (mapped_len set.inner) f.1) (row_good 3 set.inner f.3 l.1)

pub set_item : (set : QuorumTree) → Fits set_kind (set_value set) → Leaves set_kind (set_value set) → IsItem (set_text set)
unfolding set_text
set_item set f l = level_item set.head (row_texts set.inner) (level_good set.head f.0 l.0) (row_items 3 set.inner (row_good 3 set.inner f.3 l.1))

-- ---- envelopes

nominate_signed : (node : NodeId) (slot : Slot) (p : Nominate) (signature : List ℕ) → AreBytes signature → signature_at (pledges_words node slot (Nominating p) ++ signature_words signature) 6 ≡ Ok signature
unfolding signature_at ended
nominate_signed node slot p [] are = refl
nominate_signed node slot p (x ∷ xs) are = rw (signature_again (x ∷ xs) are) refl

nominate_message : (node : NodeId) (slot : Slot) (p : Nominate) (signature : List ℕ) → length node.0 ≡ 32 → AreBytes node.0 → slot.0 < 2 ^ 64 → Fits pledges_kind (pledges_value (Nominating p)) → Leaves pledges_kind (pledges_value (Nominating p)) → AreBytes signature
    → message_in (pledges_words node slot (Nominating p) ++ signature_words signature) ≡ Ok (OfEnvelope (record { value = record { statement = record { node = node; slot = slot; pledges = Nominating p }; signature = signature } }))
unfolding message_in envelope_in at
nominate_message node slot p signature len are small f l sig = rw (node_again node len are, number_again slot.0 small, nominate_again node slot p signature f l, nominate_signed node slot p signature sig) refl

prepare_signed : (node : NodeId) (slot : Slot) (p : Prepare) (signature : List ℕ) → AreBytes signature → signature_at (pledges_words node slot (Preparing p) ++ signature_words signature) 9 ≡ Ok signature
unfolding signature_at ended
prepare_signed node slot p [] are = refl
prepare_signed node slot p (x ∷ xs) are = rw (signature_again (x ∷ xs) are) refl

prepare_message : (node : NodeId) (slot : Slot) (p : Prepare) (signature : List ℕ) → length node.0 ≡ 32 → AreBytes node.0 → slot.0 < 2 ^ 64 → Fits pledges_kind (pledges_value (Preparing p)) → Leaves pledges_kind (pledges_value (Preparing p)) → AreBytes signature
    → message_in (pledges_words node slot (Preparing p) ++ signature_words signature) ≡ Ok (OfEnvelope (record { value = record { statement = record { node = node; slot = slot; pledges = Preparing p }; signature = signature } }))
unfolding message_in envelope_in at
prepare_message node slot p signature len are small f l sig = rw (node_again node len are, number_again slot.0 small, prepare_again node slot p signature f l, prepare_signed node slot p signature sig) refl

confirm_signed : (node : NodeId) (slot : Slot) (p : Confirm) (signature : List ℕ) → AreBytes signature → signature_at (pledges_words node slot (Confirming p) ++ signature_words signature) 8 ≡ Ok signature
unfolding signature_at ended
confirm_signed node slot p [] are = refl
confirm_signed node slot p (x ∷ xs) are = rw (signature_again (x ∷ xs) are) refl

confirm_message : (node : NodeId) (slot : Slot) (p : Confirm) (signature : List ℕ) → length node.0 ≡ 32 → AreBytes node.0 → slot.0 < 2 ^ 64 → Fits pledges_kind (pledges_value (Confirming p)) → Leaves pledges_kind (pledges_value (Confirming p)) → AreBytes signature
    → message_in (pledges_words node slot (Confirming p) ++ signature_words signature) ≡ Ok (OfEnvelope (record { value = record { statement = record { node = node; slot = slot; pledges = Confirming p }; signature = signature } }))
unfolding message_in envelope_in at
confirm_message node slot p signature len are small f l sig = rw (node_again node len are, number_again slot.0 small, confirm_again node slot p signature f l, confirm_signed node slot p signature sig) refl

externalize_signed : (node : NodeId) (slot : Slot) (p : Externalize) (signature : List ℕ) → AreBytes signature → signature_at (pledges_words node slot (Externalizing p) ++ signature_words signature) 6 ≡ Ok signature
unfolding signature_at ended
externalize_signed node slot p [] are = refl
externalize_signed node slot p (x ∷ xs) are = rw (signature_again (x ∷ xs) are) refl

externalize_message : (node : NodeId) (slot : Slot) (p : Externalize) (signature : List ℕ) → length node.0 ≡ 32 → AreBytes node.0 → slot.0 < 2 ^ 64 → Fits pledges_kind (pledges_value (Externalizing p)) → Leaves pledges_kind (pledges_value (Externalizing p)) → AreBytes signature
    → message_in (pledges_words node slot (Externalizing p) ++ signature_words signature) ≡ Ok (OfEnvelope (record { value = record { statement = record { node = node; slot = slot; pledges = Externalizing p }; signature = signature } }))
unfolding message_in envelope_in at
externalize_message node slot p signature len are small f l sig = rw (node_again node len are, number_again slot.0 small, externalize_again node slot p signature f l, externalize_signed node slot p signature sig) refl

pledges_message : (node : NodeId) (slot : Slot) (p : Pledges) (signature : List ℕ) → length node.0 ≡ 32 → AreBytes node.0 → slot.0 < 2 ^ 64 → Fits pledges_kind (pledges_value p) → Leaves pledges_kind (pledges_value p) → AreBytes signature
    → message_in (pledges_words node slot p ++ signature_words signature) ≡ Ok (OfEnvelope (record { value = record { statement = record { node = node; slot = slot; pledges = p }; signature = signature } }))
pledges_message node slot (Nominating p) signature len are small f l sig = nominate_message node slot p signature len are small f l sig
pledges_message node slot (Preparing p) signature len are small f l sig = prepare_message node slot p signature len are small f l sig
pledges_message node slot (Confirming p) signature len are small f l sig = confirm_message node slot p signature len are small f l sig
pledges_message node slot (Externalizing p) signature len are small f l sig = externalize_message node slot p signature len are small f l sig

-- ---- messages

get_set_again : (h : Hash) → length h.0 ≡ 32 → AreBytes h.0 → message_in (message_words (GetSet h)) ≡ Ok (GetSet h)
unfolding message_in get_set_in at ended
get_set_again h len are = rw (hash_again h len are) refl

no_set_again : (h : Hash) → length h.0 ≡ 32 → AreBytes h.0 → message_in (message_words (NoSet h)) ≡ Ok (NoSet h)
unfolding message_in no_set_in at ended
no_set_again h len are = rw (hash_again h len are) refl

the_set_again : (set : QuorumTree) → Fits set_kind (set_value set) → Leaves set_kind (set_value set) → message_in (message_words (Set set)) ≡ Ok (Set set)
unfolding message_in the_set_in at ended
the_set_again set f l = rw (set_good_again set f l) refl

-- what is written of a message within its limits is read as it
pub words_again : (m : Message) → Fits message_kind (message_value m) → Leaves message_kind (message_value m) → message_in (message_words m) ≡ Ok m
words_again (OfEnvelope e) f l = pledges_message e.value.statement.node e.value.statement.slot e.value.statement.pledges e.value.signature f.1.0.0.1 l.0.0 f.1.0.1.0 f.1.0.1.1 l.0.1.1 l.1
words_again (GetSet hash) f l = get_set_again hash f.1.1 l
words_again (Set set) f l = the_set_again set f.1.1.1 l
words_again (NoSet hash) f l = no_set_again hash f.1.1.1.1 l
words_again (GetRecord slot) f l = get_record_again slot f.1.1.1.1.1
words_again (Record slot value) f l = record_again slot value f.1.1.1.1.1.1.0 l.1 f.1.1.1.1.1.1.1.0
words_again (Records first values) f l =
    let fits = f.1.1.1.1.1.1.1 in
    records_again first values fits.0 (good_values values fits.5 l)
