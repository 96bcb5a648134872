-- Messages as text (this project's profile): their words, what the words say, and the first that is refused.
use Rattle.std.specs.Prelude.{◌≡◌, ◌≤◌, ◌⊎◌, ◌==◌, ℕ, ◌+◌, Bool, true, List, [], ◌∷◌, ◌++◌, map, Option, Some, None, Result, Ok, Err, if◌then◌else◌, codes, slice_get, option_map}
use Rattle.std.specs.List.{slice_split}
use Rattle.std.specs.Option.{unwrap_or}
use Rattle.std.specs.Fmt.{decimal}
use Rattle.hex.specs.Hex.{encode_lower}
use Rattle.scp_kv.specs.scp_types.specs.declared.ballot.Ballot.{Ballot}
use Rattle.scp_kv.specs.scp_types.specs.declared.names.NodeId.{NodeId}
use Rattle.scp_kv.specs.scp_types.specs.declared.names.Hash.{Hash}
use Rattle.scp_kv.specs.scp_types.specs.declared.names.Slot.{Slot}
use Rattle.scp_wire.specs.scp_envelope.specs.declared.statement.Prepare.{Prepare}
use Rattle.scp_wire.specs.scp_envelope.specs.declared.statement.Confirm.{Confirm}
use Rattle.scp_wire.specs.scp_envelope.specs.declared.statement.Externalize.{Externalize}
use Rattle.scp_wire.specs.scp_envelope.specs.declared.statement.Nominate.{Nominate}
use Rattle.scp_wire.specs.scp_envelope.specs.declared.statement.Pledges.{Pledges}
use Rattle.scp_wire.specs.scp_envelope.specs.declared.statement.Pledges.TheVariants.{Prepare as Preparing, Confirm as Confirming, Externalize as Externalizing, Nominate as Nominating}
use Rattle.scp_wire.specs.declared.message.Message.{Message}
use Rattle.scp_wire.specs.declared.message.Message.TheVariants.{Envelope, GetSet, Set, NoSet, GetRecord, Record, Records}
use Rattle.scp_wire.specs.Message.{message_value, FitsMessage}
use Rattle.scp_text.specs.Pieces.{and_then, same, listed, bracketed, inside, items_in, all_of, number_in, digits_in}
use Rattle.scp_text.specs.Values.{value_text, value_in}
use Rattle.scp_text.specs.Sets.{node_text, node_in, hash_text, hash_in, set_text, set_in, counter_in}
use Rattle.scp_device.specs.declared.bad.BadWord.{BadWord}
use Rattle.scp_device.specs.declared.bad.WordFault.{WordFault}
use Rattle.scp_device.specs.declared.bad.WordFault.TheVariants.{NoMemory, Bad}
use Rattle.scp_device.specs.declared.bad.Expected.{Expected}
use Rattle.scp_device.specs.declared.bad.Expected.TheVariants.{AMessage, ASlot, AValue, Values, AHash, ASet, AnyNode, ABallot, ACounter, Votes, Accepted, Prepared, Prime, Commit, ASignature, NoMore, WithinLimits}

-- ---- written

-- a ballot under a name: its counter and its value
abbrev pub ballot_text : List ℕ → Ballot → List ℕ
ballot_text name ballot = bracketed name (decimal ballot.counter ++ 44 ∷ value_text ballot.value)

-- a ballot under a name, or a dash for none
abbrev pub optional_text : List ℕ → Option Ballot → List ℕ
optional_text name (Some ballot) = ballot_text name ballot
optional_text name None = codes "-"

-- values under a name
abbrev pub values_text : List ℕ → List (List ℕ) → List ℕ
values_text name values = bracketed name (listed 44 true (map value_text values))

-- the word of a signature, and none of an empty one
abbrev pub signature_words : List ℕ → List (List ℕ)
signature_words [] = []
signature_words (byte ∷ bytes) = bracketed (codes "sig(") (encode_lower (byte ∷ bytes)) ∷ []

-- the words of a statement: its kind, its node, its slot, the hash of its quorum set, and then these
abbrev pub words_with : List ℕ → NodeId → Slot → Hash → List (List ℕ) → List (List ℕ)
words_with name node slot hash words = name ∷ node_text node ∷ decimal slot.0 ∷ hash_text hash ∷ words

-- what a NOMINATE says besides
abbrev pub nominate_words : Nominate → List (List ℕ)
nominate_words p = values_text (codes "votes(") p.votes ∷ values_text (codes "accepted(") p.accepted ∷ []

-- what a PREPARE says besides
abbrev pub prepare_words : Prepare → List (List ℕ)
prepare_words p = ballot_text (codes "ballot(") p.ballot ∷ optional_text (codes "prepared(") p.prepared ∷ optional_text (codes "prime(") p.prepared_prime ∷ decimal p.n_commit ∷ decimal p.n_high ∷ []

-- what a CONFIRM says besides
abbrev pub confirm_words : Confirm → List (List ℕ)
confirm_words p = ballot_text (codes "ballot(") p.ballot ∷ decimal p.n_prepared ∷ decimal p.n_commit ∷ decimal p.n_high ∷ []

-- what an EXTERNALIZE says besides
abbrev pub externalize_words : Externalize → List (List ℕ)
externalize_words p = ballot_text (codes "commit(") p.commit ∷ decimal p.n_high ∷ []

-- the words of a statement, by its kind
abbrev pub pledges_words : NodeId → Slot → Pledges → List (List ℕ)
pledges_words node slot (Nominating p) = words_with (codes "nominate") node slot p.set_hash (nominate_words p)
pledges_words node slot (Preparing p) = words_with (codes "prepare") node slot p.set_hash (prepare_words p)
pledges_words node slot (Confirming p) = words_with (codes "confirm") node slot p.set_hash (confirm_words p)
pledges_words node slot (Externalizing p) = words_with (codes "externalize") node slot p.set_hash (externalize_words p)

-- the words of a message
abbrev pub message_words : Message → List (List ℕ)
message_words (Envelope e) = pledges_words e.value.statement.node e.value.statement.slot e.value.statement.pledges ++ signature_words e.value.signature
message_words (GetSet hash) = codes "getset" ∷ hash_text hash ∷ []
message_words (Set set) = codes "set" ∷ set_text set ∷ []
message_words (NoSet hash) = codes "noset" ∷ hash_text hash ∷ []
message_words (GetRecord slot) = codes "getrecord" ∷ decimal slot.0 ∷ []
message_words (Record slot value) = codes "record" ∷ decimal slot.0 ∷ value_text value ∷ []
message_words (Records first values) = codes "records" ∷ decimal first.0 ∷ values_text (codes "values(") values ∷ []

-- the words, with a space between them
unfoldable pub message_text : Message → List ℕ
message_text message = listed 32 true (message_words message)

-- ---- read

infixl 10 ◌>>=◌
-- one reading after another; the first refusal stays
abbrev pub ◌>>=◌ : {A B : Type 0} → Result A BadWord → (A → Result B BadWord) → Result B BadWord
(Ok x) >>= f = f x
(Err e) >>= f = Err e

-- what was found, or the refusal of the word at this place
abbrev pub or_refused : {A : Type 0} → Option A → ℕ → Expected → Result A BadWord
or_refused (Some x) place expected = Ok x
or_refused None place expected = Err (record { word = place; expected = expected })

-- what the word says, where there is one
abbrev pub said_by : {A : Type 0} → (List ℕ → Option A) → Option (List ℕ) → Option A
said_by says (Some word) = says word
said_by says None = None

-- what the word at a place, from 0 on, says; places are told from 1 on
unfoldable pub at : {A : Type 0} → (List ℕ → Option A) → Expected → List (List ℕ) → ℕ → Result A BadWord
at says expected words place = or_refused (said_by says (slice_get words place)) (place + 1) expected

-- no word stands there, or that word is refused
abbrev pub no_word : Option (List ℕ) → ℕ → Result Bool BadWord
no_word None place = Ok true
no_word (Some word) place = Err (record { word = place; expected = NoMore })

-- no word stands at the place
unfoldable pub ended : List (List ℕ) → ℕ → Result Bool BadWord
ended words place = no_word (slice_get words place) (place + 1)

-- NAME(N,VALUE)
abbrev pub ballot_from : List (List ℕ) → Option Ballot
ballot_from [] = None
ballot_from (a ∷ []) = None
ballot_from (a ∷ b ∷ c ∷ more) = None
ballot_from (a ∷ b ∷ []) = and_then (counter_in a) (λ counter. and_then (value_in b) (λ value. Some (record { counter = counter; value = value })))

-- the ballot that a word says under this name
unfoldable pub ballot_in : List ℕ → List ℕ → Option Ballot
ballot_in name word = and_then (inside name word) (λ inner. ballot_from (items_in inner))

-- the same, or a dash for none
unfoldable pub optional_in : List ℕ → List ℕ → Option (Option Ballot)
optional_in name word = if same word (codes "-") then Some None else option_map Some (ballot_in name word)

-- the values that a word says under this name
unfoldable pub values_in : List ℕ → List ℕ → Option (List (List ℕ))
values_in name word = and_then (inside name word) (λ inner. all_of value_in (items_in inner))

-- the bytes of a signature that a word says
unfoldable pub signature_in : List ℕ → Option (List ℕ)
signature_in word = and_then (inside (codes "sig(") word) (λ inner. digits_in inner)

-- the signature that the last word says, no word behind it; an empty one where there is no word
abbrev pub signature_by : Option (List ℕ) → List (List ℕ) → ℕ → Result (List ℕ) BadWord
signature_by None words place = Ok []
signature_by (Some word) words place = do
  signature ← or_refused (signature_in word) (place + 1) ASignature
  done ← ended words (place + 1)
  Ok signature

-- the signature at a place, where the words end, or none
unfoldable pub signature_at : List (List ℕ) → ℕ → Result (List ℕ) BadWord
signature_at words place = signature_by (slice_get words place) words place

-- the slot that a word says
abbrev pub slot_in : List ℕ → Option Slot
slot_in word = option_map (λ number. record { 0 = number }) (number_in word)

-- the NOMINATE that words say, behind its kind, node and slot
unfoldable pub nominate_in : List (List ℕ) → Result Pledges BadWord
nominate_in words = do
  set_hash ← at hash_in AHash words 3
  votes ← at (values_in (codes "votes(")) Votes words 4
  accepted ← at (values_in (codes "accepted(")) Accepted words 5
  Ok (Nominating (record { set_hash = set_hash; votes = votes; accepted = accepted }))

-- the PREPARE that words say, behind its kind, node and slot
unfoldable pub prepare_in : List (List ℕ) → Result Pledges BadWord
prepare_in words = do
  set_hash ← at hash_in AHash words 3
  ballot ← at (ballot_in (codes "ballot(")) ABallot words 4
  prepared ← at (optional_in (codes "prepared(")) Prepared words 5
  prime ← at (optional_in (codes "prime(")) Prime words 6
  n_commit ← at counter_in ACounter words 7
  n_high ← at counter_in ACounter words 8
  Ok (Preparing (record { set_hash = set_hash; ballot = ballot; prepared = prepared; prepared_prime = prime; n_commit = n_commit; n_high = n_high }))

-- the CONFIRM that words say, behind its kind, node and slot
unfoldable pub confirm_in : List (List ℕ) → Result Pledges BadWord
confirm_in words = do
  set_hash ← at hash_in AHash words 3
  ballot ← at (ballot_in (codes "ballot(")) ABallot words 4
  n_prepared ← at counter_in ACounter words 5
  n_commit ← at counter_in ACounter words 6
  n_high ← at counter_in ACounter words 7
  Ok (Confirming (record { ballot = ballot; n_prepared = n_prepared; n_commit = n_commit; n_high = n_high; set_hash = set_hash }))

-- the EXTERNALIZE that words say, behind its kind, node and slot
unfoldable pub externalize_in : List (List ℕ) → Result Pledges BadWord
externalize_in words = do
  set_hash ← at hash_in AHash words 3
  commit ← at (ballot_in (codes "commit(")) Commit words 4
  n_high ← at counter_in ACounter words 5
  Ok (Externalizing (record { commit = commit; n_high = n_high; set_hash = set_hash }))

-- an envelope by what reads its pledges, and the place behind these
unfoldable pub envelope_in : (List (List ℕ) → Result Pledges BadWord) → ℕ → List (List ℕ) → Result Message BadWord
envelope_in pledges_in place words = do
  node ← at node_in AnyNode words 1
  slot ← at slot_in ASlot words 2
  pledges ← pledges_in words
  signature ← signature_at words place
  Ok (Envelope (record { value = record { statement = record { node = node; slot = slot; pledges = pledges }; signature = signature } }))

-- the request for a quorum set that words say
unfoldable pub get_set_in : List (List ℕ) → Result Message BadWord
get_set_in words = do
  hash ← at hash_in AHash words 1
  done ← ended words 2
  Ok (GetSet hash)

-- the message with a quorum set that words say
unfoldable pub the_set_in : List (List ℕ) → Result Message BadWord
the_set_in words = do
  set ← at set_in ASet words 1
  done ← ended words 2
  Ok (Set set)

-- the message that a quorum set isn't there, as words say it
unfoldable pub no_set_in : List (List ℕ) → Result Message BadWord
no_set_in words = do
  hash ← at hash_in AHash words 1
  done ← ended words 2
  Ok (NoSet hash)

-- the request for a record that words say
unfoldable pub get_record_in : List (List ℕ) → Result Message BadWord
get_record_in words = do
  slot ← at slot_in ASlot words 1
  done ← ended words 2
  Ok (GetRecord slot)

-- the record that words say
unfoldable pub record_in : List (List ℕ) → Result Message BadWord
record_in words = do
  slot ← at slot_in ASlot words 1
  value ← at value_in AValue words 2
  done ← ended words 3
  Ok (Record slot value)

-- the batch of records that words say
unfoldable pub records_in : List (List ℕ) → Result Message BadWord
records_in words = do
  first ← at slot_in ASlot words 1
  values ← at (values_in (codes "values(")) Values words 2
  done ← ended words 3
  Ok (Records first values)

-- the envelope that words say, by the first of them
abbrev pub envelope_by : List ℕ → List (List ℕ) → Result Message BadWord
envelope_by verb words =
    if same verb (codes "nominate") then envelope_in nominate_in 6 words
    else (if same verb (codes "prepare") then envelope_in prepare_in 9 words
    else (if same verb (codes "confirm") then envelope_in confirm_in 8 words
    else (if same verb (codes "externalize") then envelope_in externalize_in 6 words
    else Err (record { word = 1; expected = AMessage }))))

-- the message that words say, by the first of them
abbrev pub message_by : List ℕ → List (List ℕ) → Result Message BadWord
message_by verb words =
    if same verb (codes "record") then record_in words
    else (if same verb (codes "records") then records_in words
    else (if same verb (codes "getrecord") then get_record_in words
    else (if same verb (codes "getset") then get_set_in words
    else (if same verb (codes "set") then the_set_in words
    else (if same verb (codes "noset") then no_set_in words
    else envelope_by verb words)))))

-- the message that the words say, or the first word that is refused, and what was expected there
unfoldable pub message_in : List (List ℕ) → Result Message BadWord
message_in words = message_by (unwrap_or (slice_get words 0) []) words

-- the words of a text, parted by single spaces
abbrev pub words_of : List ℕ → List (List ℕ)
words_of text = slice_split (λ byte. byte == 32) text

-- what a call that reads may answer: want of memory, or this
abbrev pub Answers : {A : Type 0} → Result A WordFault → Result A BadWord → Type 0
Answers (Ok x) reading = reading ≡ Ok x
Answers (Err NoMemory) reading = Unit {0}
Answers (Err (Bad refusal)) reading = reading ≡ Err refusal

-- why words are read as no message: want of memory, the first word that is refused, or a limit of the whole
abbrev pub IsRefusedMessage : List (List ℕ) → WordFault → Type 0
IsRefusedMessage words NoMemory = Unit {0}
IsRefusedMessage words (Bad refusal) =
    (message_in words ≡ Err refusal)
    ⊎ ((m : Message) × (message_in words ≡ Ok m) × (¬ (FitsMessage (message_value m))) × (refusal ≡ record { word = 1; expected = WithinLimits }))

-- the word is one of the first 16
abbrev pub IsNear : WordFault → Type 0
IsNear NoMemory = Unit {0}
IsNear (Bad refusal) = refusal.word ≤ 16
