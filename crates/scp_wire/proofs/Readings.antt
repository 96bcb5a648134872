-- The reading of bytes is the message that they encode.
use Rattle.std.proofs.Common.{◌≡◌, ◌≢◌, ℕ, ◌<◌, ◌≤◌, Bool, true, false, cond, ltb, List, length, Some, None, Result, Ok, Err, refl, sym, ap, ◌∙◌, inl, inr, ltb-false, le-ltb, lt-ltb}
use Rattle.std.specs.Prelude.{IfOk, IfErr}
use Rattle.scp_quorum.specs.scp_types.specs.declared.fault.Fault.{Fault}
use Rattle.scp_quorum.specs.scp_types.specs.declared.fault.Fault.TheVariants.{NoMemory, TooLong}
use Rattle.scp_quorum.specs.scp_xdr.specs.Kind.{Values}
use Rattle.scp_quorum.specs.scp_xdr.specs.Reading.{reading_whole}
use Rattle.scp_quorum.specs.scp_xdr.specs.Words.{Gives}
use Rattle.scp_quorum.specs.scp_xdr.proofs.Laws.{whole_found, whole_again}
use Rattle.scp_quorum.proofs.SetValues.{set_again, set_value_again}
use Rattle.scp_envelope.proofs.EnvelopeValues.{envelope_again, envelope_value_again}
use Rattle.scp_wire.specs.declared.message.Message.{Message}
use Rattle.scp_wire.specs.declared.message.Message.TheVariants.{Envelope, GetSet, Set, NoSet, GetRecord, Record, Records}
use Rattle.scp_wire.specs.Message.{message_kind, message_value, message_of, message_reading, SpellsMessage}
use Rattle.scp_wire.specs.Reading.{message_in, reading_of, AreBytes, ReadingIsSpelt}

-- ---- a message and its value

message_again : (m : Message) → message_of (message_value m) ≡ m
message_again (Envelope envelope) = ap (λ e. Envelope (record { value = e })) (envelope_again envelope.value)
message_again (GetSet hash) = refl
message_again (Set set) = ap Set (set_again set)
message_again (NoSet hash) = refl
message_again (GetRecord slot) = refl
message_again (Record slot value) = refl
message_again (Records first values) = refl

value_again : (v : Values message_kind) → message_value (message_of v) ≡ v
value_again (inl v) = ap (λ e. inl e) (envelope_value_again v)
value_again (inr (inl v)) = refl
value_again (inr (inr (inl v))) = ap (λ t. inr (inr (inl t))) (set_value_again v)
value_again (inr (inr (inr (inl v)))) = refl
value_again (inr (inr (inr (inr (inl v))))) = refl
value_again (inr (inr (inr (inr (inr (inl v)))))) = refl
value_again (inr (inr (inr (inr (inr (inr (inl v))))))) = refl
value_again (inr (inr (inr (inr (inr (inr (inr v))))))) = elim v [ ]

-- ---- what a call gave

reading_at : (bytes : List ℕ) (r : Result (Values message_kind) Fault) → message_reading bytes ≡ r → reading_of bytes ≡ message_in r
unfolding reading_of
reading_at bytes r e = ap message_in e

pub gives_reading : (bytes : List ℕ) (r : Result Message Fault) → Gives message_value r (message_reading bytes) → IfOk r (λ m. reading_of bytes ≡ Some m)
gives_reading bytes (Ok m) given = reading_at bytes (Ok (message_value m)) given ∙ ap Some (message_again m)
gives_reading bytes (Err f) given = tt

pub gives_none : (bytes : List ℕ) (r : Result Message Fault) → Gives message_value r (message_reading bytes) → IfErr r (λ f. f ≢ NoMemory → reading_of bytes ≡ None)
gives_none bytes (Ok m) given = tt
gives_none bytes (Err f) given = λ other. reading_at bytes (Err f) (given other)

pub gives_within : (bytes : List ℕ) (r : Result Message Fault) → length bytes ≤ 65536 → Gives message_value r (reading_whole message_kind bytes) → Gives message_value r (message_reading bytes)
gives_within bytes r within given = rw (le-ltb 65536 (length bytes) within) given

pub reading_within : (bytes : List ℕ) (r : Result (Values message_kind) Fault) → length bytes ≤ 65536 → reading_whole message_kind bytes ≡ r → reading_of bytes ≡ message_in r
reading_within bytes r within e = reading_at bytes r (rw (le-ltb 65536 (length bytes) within) e)

pub longer_has_none : (bytes : List ℕ) → 65536 < length bytes → reading_of bytes ≡ None
longer_has_none bytes longer = reading_at bytes (Err TooLong) (rw (lt-ltb 65536 (length bytes) longer) refl)

-- ---- the law

within_limit : (b : Bool) (x : Result (Values message_kind) Fault) (v : Values message_kind) → cond b (Err TooLong) x ≡ Ok v → (b ≡ false) × (x ≡ Ok v)
within_limit true x v e = absurd cc
within_limit false x v e = (refl, e)

message_found : (bytes : List ℕ) (v : Values message_kind) → AreBytes bytes → message_reading bytes ≡ Ok v → SpellsMessage bytes v
message_found bytes v are e =
    let p = within_limit (ltb 65536 (length bytes)) (reading_whole message_kind bytes) v e in
    record { within = ltb-false 65536 (length bytes) p.0; spells = whole_found message_kind bytes v are p.1 }

message_spelt : (bytes : List ℕ) (v : Values message_kind) → SpellsMessage bytes v → message_reading bytes ≡ Ok v
message_spelt bytes v s = rw (le-ltb 65536 (length bytes) s.within) (whole_again message_kind bytes v s.spells)

value_in : (r : Result (Values message_kind) Fault) (m : Message) → message_in r ≡ Some m → r ≡ Ok (message_value m)
value_in (Ok v) m e =
    let same : message_of v ≡ m = cc in
    ap Ok (sym (value_again v) ∙ ap message_value same)
value_in (Err f) m e = absurd cc

reading_found : (bytes : List ℕ) (m : Message) → AreBytes bytes → reading_of bytes ≡ Some m → SpellsMessage bytes (message_value m)
unfolding reading_of
reading_found bytes m are e = message_found bytes (message_value m) are (value_in (message_reading bytes) m e)

pub reading_spelt : (bytes : List ℕ) (m : Message) → SpellsMessage bytes (message_value m) → reading_of bytes ≡ Some m
reading_spelt bytes m s = reading_at bytes (Ok (message_value m)) (message_spelt bytes (message_value m) s) ∙ ap Some (message_again m)

pub reading_is_spelt : ReadingIsSpelt
reading_is_spelt = λ bytes m are. (λ e. reading_found bytes m are e, λ s. reading_spelt bytes m s)
