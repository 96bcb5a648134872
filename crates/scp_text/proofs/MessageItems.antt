-- The words of a message are words: visible, and with no space.
use Rattle.std.proofs.Common.{◌≡◌, ℕ, ◌+◌, ◌<◌, ◌≤◌, ◌^◌, true, false, List, [], ◌∷◌, ◌++◌, length, map, Some, None, Ok, Bool, inl, inr, refl, sym, ◌∙◌, ap, subst, arith}
use Rattle.std.specs.Prelude.{codes, ◌==◌}
use Rattle.std.specs.List.{AllByRecursion, list_all, slice_split}
use Rattle.std.specs.Fmt.{decimal}
use Rattle.hex.specs.Hex.{encode_lower, IsBytes}
use Rattle.scp_kv.specs.scp_types.specs.declared.names.NodeId.{NodeId}
use Rattle.scp_kv.specs.scp_types.specs.declared.names.Hash.{Hash}
use Rattle.scp_kv.specs.scp_types.specs.declared.names.Slot.{Slot}
use Rattle.scp_kv.specs.scp_xdr.specs.Kind.{Values, Fits, spelling}
use Rattle.scp_wire.specs.scp_envelope.specs.declared.statement.Pledges.{Pledges}
use Rattle.scp_wire.specs.scp_envelope.specs.declared.statement.Pledges.TheVariants.{Prepare as Preparing, Confirm as Confirming, Externalize as Externalizing, Nominate as Nominating}
use Rattle.scp_wire.specs.scp_envelope.specs.Kinds.{pledges_kind, pledges_value}
use Rattle.scp_wire.specs.declared.message.Message.{Message}
use Rattle.scp_wire.specs.declared.message.Message.TheVariants.{Envelope as OfEnvelope, GetSet, Set, NoSet, GetRecord, Record, Records}
use Rattle.scp_wire.specs.Message.{message_kind, message_value, SpellsMessage}
use Rattle.scp_text.specs.Pieces.{parts, listed, bracketed}
use Rattle.scp_text.specs.Messages.{nominate_words, prepare_words, confirm_words, externalize_words, words_with, signature_words, pledges_words, message_words, message_text, message_in, words_of}
use Rattle.scp_text.proofs.Items.{IsItem, IsOpen, plain_item, plain_inner, bracketed_item}
use Rattle.scp_text.proofs.Numbers.{digits_plain}
use Rattle.scp_text.proofs.Leaves.{AreBytes, Leaves, leaves}
use Rattle.scp_text.proofs.Splits.{IsClear, clear_visible, split_again}
use Rattle.scp_text.proofs.SetTexts.{decimal_item, digits_item, node_item}
use Rattle.scp_text.proofs.ValueTexts.{value_item}
use Rattle.scp_text.proofs.Envelopes.{good_ballot, good_option, good_values, ballot_item, optional_item, values_item}
use Rattle.scp_text.proofs.MessageTexts.{set_item, words_again}

opens_votes : IsOpen (codes "votes(")
unfolding parts
opens_votes = record { some = refl; visible = refl; passes = λ depth rest. refl }

opens_accepted : IsOpen (codes "accepted(")
unfolding parts
opens_accepted = record { some = refl; visible = refl; passes = λ depth rest. refl }

opens_values : IsOpen (codes "values(")
unfolding parts
opens_values = record { some = refl; visible = refl; passes = λ depth rest. refl }

opens_ballot : IsOpen (codes "ballot(")
unfolding parts
opens_ballot = record { some = refl; visible = refl; passes = λ depth rest. refl }

opens_prepared : IsOpen (codes "prepared(")
unfolding parts
opens_prepared = record { some = refl; visible = refl; passes = λ depth rest. refl }

opens_prime : IsOpen (codes "prime(")
unfolding parts
opens_prime = record { some = refl; visible = refl; passes = λ depth rest. refl }

opens_commit : IsOpen (codes "commit(")
unfolding parts
opens_commit = record { some = refl; visible = refl; passes = λ depth rest. refl }

opens_sig : IsOpen (codes "sig(")
unfolding parts
opens_sig = record { some = refl; visible = refl; passes = λ depth rest. refl }

all_both : (xs ys : List (List ℕ)) → AllByRecursion IsItem xs → AllByRecursion IsItem ys → AllByRecursion IsItem (xs ++ ys)
all_both [] ys p q = q
all_both (x ∷ xs) ys p q = (p.0, all_both xs ys p.1 q)

signature_items : (signature : List ℕ) → AreBytes signature → AllByRecursion IsItem (signature_words signature)
signature_items [] are = tt
signature_items (x ∷ xs) are = (bracketed_item (codes "sig(") (encode_lower (x ∷ xs)) opens_sig (plain_inner (encode_lower (x ∷ xs)) (digits_plain (x ∷ xs) are)), tt)

counter_item : (n : ℕ) → n < 2 ^ 32 → IsItem (decimal n)
counter_item n small = decimal_item n (omega arith)

hash_item : (h : Hash) → length h.0 ≡ 32 → AreBytes h.0 → IsItem (encode_lower h.0)
hash_item h len are = digits_item h.0 (rw len (omega arith)) are

with_items : (name : List ℕ) (node : NodeId) (slot : Slot) (hash : Hash) (words : List (List ℕ)) → IsItem name → length node.0 ≡ 32 → AreBytes node.0 → slot.0 < 2 ^ 64 → length hash.0 ≡ 32 → AreBytes hash.0 → AllByRecursion IsItem words → AllByRecursion IsItem (words_with name node slot hash words)
with_items name node slot hash words n len are small hlen hare h = (n, (node_item node (rw len (omega arith)) are, (decimal_item slot.0 small, (hash_item hash hlen hare, h))))

pledges_items : (node : NodeId) (slot : Slot) (p : Pledges) → length node.0 ≡ 32 → AreBytes node.0 → slot.0 < 2 ^ 64 → Fits pledges_kind (pledges_value p) → Leaves pledges_kind (pledges_value p) → AllByRecursion IsItem (pledges_words node slot p)
pledges_items node slot (Nominating p) len are small f l =
    let fits = f.1.1.1.1 in
    let votes = values_item (codes "votes(") p.votes opens_votes (good_values p.votes fits.1.0.2 l.1.0) in
    let accepted = values_item (codes "accepted(") p.accepted opens_accepted (good_values p.accepted fits.1.1.2 l.1.1) in
    with_items (codes "nominate") node slot p.set_hash (nominate_words p) (plain_item (codes "nominate") refl refl) len are small fits.0 l.0 (votes, (accepted, tt))
pledges_items node slot (Preparing p) len are small f l =
    let fits = f.1 in
    let ballot = ballot_item (codes "ballot(") p.ballot opens_ballot (good_ballot p.ballot fits.1.0 l.1.0) in
    let prepared = optional_item (codes "prepared(") p.prepared opens_prepared (good_option p.prepared fits.1.1.0 l.1.1.0) in
    let prime = optional_item (codes "prime(") p.prepared_prime opens_prime (good_option p.prepared_prime fits.1.1.1.0 l.1.1.1.0) in
    with_items (codes "prepare") node slot p.set_hash (prepare_words p) (plain_item (codes "prepare") refl refl) len are small fits.0 l.0
    (ballot, (prepared, (prime, (counter_item p.n_commit fits.1.1.1.1.0, (counter_item p.n_high fits.1.1.1.1.1, tt)))))
pledges_items node slot (Confirming p) len are small f l =
    let fits = f.1.1 in
    let ballot = ballot_item (codes "ballot(") p.ballot opens_ballot (good_ballot p.ballot fits.0 l.0) in
    with_items (codes "confirm") node slot p.set_hash (confirm_words p) (plain_item (codes "confirm") refl refl) len are small fits.1.1.1.1 l.1.1.1.1
    (ballot, (counter_item p.n_prepared fits.1.0, (counter_item p.n_commit fits.1.1.0, (counter_item p.n_high fits.1.1.1.0, tt))))
pledges_items node slot (Externalizing p) len are small f l =
    let fits = f.1.1.1 in
    let commit = ballot_item (codes "commit(") p.commit opens_commit (good_ballot p.commit fits.0 l.0) in
    with_items (codes "externalize") node slot p.set_hash (externalize_words p) (plain_item (codes "externalize") refl refl) len are small fits.1.1 l.1.1
    (commit, (counter_item p.n_high fits.1.0, tt))

pub message_items : (m : Message) → Fits message_kind (message_value m) → Leaves message_kind (message_value m) → AllByRecursion IsItem (message_words m)
message_items (OfEnvelope e) f l =
    all_both (pledges_words e.value.statement.node e.value.statement.slot e.value.statement.pledges) (signature_words e.value.signature) (pledges_items e.value.statement.node e.value.statement.slot e.value.statement.pledges f.1.0.0.1 l.0.0 f.1.0.1.0 f.1.0.1.1 l.0.1.1) (signature_items e.value.signature l.1)
message_items (GetSet hash) f l = (plain_item (codes "getset") refl refl, (hash_item hash f.1.1 l, tt))
message_items (Set set) f l = (plain_item (codes "set") refl refl, (set_item set f.1.1.1 l, tt))
message_items (NoSet hash) f l = (plain_item (codes "noset") refl refl, (hash_item hash f.1.1.1.1 l, tt))
message_items (GetRecord slot) f l = (plain_item (codes "getrecord") refl refl, (decimal_item slot.0 f.1.1.1.1.1, tt))
message_items (Record slot value) f l = (plain_item (codes "record") refl refl, (decimal_item slot.0 f.1.1.1.1.1.1.0, (value_item value l.1, tt)))
message_items (Records first values) f l =
    let fits = f.1.1.1.1.1.1.1 in
    let item = values_item (codes "values(") values opens_values (good_values values fits.5 l) in
    (plain_item (codes "records") refl refl, (decimal_item first.0 fits.0, (item, tt)))

abbrev pub IsFilled : List (List ℕ) → Type 0
IsFilled [] = ⊥
IsFilled (w ∷ ws) = Unit {0}

filled : (m : Message) → IsFilled (message_words m)
filled (OfEnvelope e) = by e.value.statement.pledges
  where
    by : (p : Pledges) → IsFilled (pledges_words e.value.statement.node e.value.statement.slot p ++ signature_words e.value.signature)
    by (Nominating p) = tt
    by (Preparing p) = tt
    by (Confirming p) = tt
    by (Externalizing p) = tt
filled (GetSet hash) = tt
filled (Set set) = tt
filled (NoSet hash) = tt
filled (GetRecord slot) = tt
filled (Record slot value) = tt
filled (Records first values) = tt

clear_all : (ws : List (List ℕ)) → AllByRecursion IsItem ws → AllByRecursion (IsClear 32) ws
clear_all [] h = tt
clear_all (w ∷ ws) h = (clear_visible 32 w (omega arith) h.0.visible, clear_all ws h.1)

split_filled : (ws : List (List ℕ)) → IsFilled ws → AllByRecursion IsItem ws → words_of (listed 32 true ws) ≡ ws
split_filled [] f h = absurd f
split_filled (w ∷ ws) f h = split_again 32 w ws (clear_all (w ∷ ws) h)

-- the text that is written of a message that bytes spell is read as it
pub text_again : (m : Message) (bytes : List ℕ) → AreBytes bytes → SpellsMessage bytes (message_value m) → message_in (words_of (message_text m)) ≡ Ok m
unfolding message_text
text_again m bytes are s =
    let all : Leaves message_kind (message_value m) = leaves message_kind (message_value m) (subst AreBytes s.spells.spelt are) in
    ap message_in (split_filled (message_words m) (filled m) (message_items m s.spells.fits all)) ∙ words_again m s.spells.fits all
