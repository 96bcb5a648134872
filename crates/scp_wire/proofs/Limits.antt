-- When a message is over a limit.
use Rattle.std.proofs.Common.{◌≡◌, ◌≢◌, ℕ, ◌+◌, ◌<◌, ◌≤◌, ◌⊎◌, Bool, true, false, ltb, List, ◌++◌, length, replicate, Result, Ok, Err, refl, arith, inl, inr, ltb-true, ltb-false}
use Rattle.std.specs.Prelude.{IfOk, ◌↔◌}
use Rattle.std.proofs.lemmas.List.{length-append, length-replicate}
use Rattle.scp_quorum.specs.scp_types.specs.declared.fault.Fault.{Fault}
use Rattle.scp_quorum.specs.scp_xdr.specs.Shared.{value_kind}
use Rattle.scp_quorum.specs.scp_xdr.specs.Kind.{numbered, Values, Fits, Spells, spelling, word, long_word, padded, padding_len}
use Rattle.scp_quorum.specs.scp_xdr.proofs.Lengths.{word_len, long_word_len}
use Rattle.scp_quorum.specs.QuorumKind.{set_spelling}
use Rattle.scp_envelope.specs.Kinds.{envelope_kind, envelope_value}
use Rattle.scp_wire.specs.declared.message.Message.{Message}
use Rattle.scp_wire.specs.declared.message.Message.TheVariants.{Envelope, GetSet, Set, NoSet, GetRecord, Record, Records}
use Rattle.scp_wire.specs.Message.{message_kind, message_value, SpellsMessage, FitsMessage, HasRanges, BreaksALimit}
use Rattle.scp_wire.specs.Parts.{LimitsAreOfTheValue}

padded_len : (bytes : List ℕ) → length (padded bytes) ≤ length bytes + 3
unfolding padded
padded_len bytes = omega (arith, length-append bytes (replicate (padding_len (length bytes)) 0), length-replicate {A = ℕ} (padding_len (length bytes)) 0)

pub spells_within : {X : Type 0} (items : X → List ℕ) (v : Values message_kind) (r : Result X Fault) → IfOk r (λ x. Spells message_kind (items x) v) → IfOk r (λ x. length (items x) ≤ 65536) → IfOk r (λ x. SpellsMessage (items x) v)
spells_within items v (Ok x) s within = record { within = within; spells = s }
spells_within items v (Err f) s within = tt

-- a part over its limit, or too many bytes in all
abbrev IsOver : Values message_kind → Type 0
IsOver v = (¬ (Fits message_kind v)) ⊎ (65536 < length (spelling message_kind v))

pub over_breaks : (v : Values message_kind) → IsOver v → ¬ (FitsMessage v)
over_breaks v (inl unfit) = λ fits. unfit fits.fits
over_breaks v (inr longer) = λ fits. omega (arith, fits.within, longer)

pub breaks_over : (v : Values message_kind) → ¬ (FitsMessage v) → IsOver v
breaks_over v breaks = at (ltb 65536 (length (spelling message_kind v))) refl
  where
    at : (b : Bool) → ltb 65536 (length (spelling message_kind v)) ≡ b → IsOver v
    at true e = inr (ltb-true 65536 (length (spelling message_kind v)) e)
    at false e = inl (λ fits. breaks (record { fits = fits; within = ltb-false 65536 (length (spelling message_kind v)) e }))

hash_len : (n : ℕ) (bytes : List ℕ) → length bytes ≡ 32 → length (word n ++ padded bytes) ≤ 65536
hash_len n bytes e = simp (length-append, word_len) (omega (arith, padded_len bytes, e))

record_len : (n : ℕ) (bytes : List ℕ) → length bytes ≤ 4096 → length (word 6 ++ (long_word n ++ (word (length bytes) ++ padded bytes))) ≤ 65536
record_len n bytes le = simp (length-append, word_len, long_word_len) (omega (arith, padded_len bytes))

slot_len : (n : ℕ) → length (word 5 ++ long_word n) ≤ 65536
slot_len n = simp (length-append, word_len, long_word_len) (omega arith)

text_len : (tag : ℕ) (text : List ℕ) → length (word tag ++ text) ≡ 4 + length text
text_len tag text = simp (length-append, word_len) refl

other_tag : (m n : ℕ) → n < m → m ≢ n
other_tag m n lt = λ e. omega arith

pub over_is : (m : Message) → HasRanges m → IsOver (message_value m) ↔ BreaksALimit m
over_is (Envelope envelope) range = (over, back)
  where
    over : IsOver (message_value (Envelope envelope)) → BreaksALimit (Envelope envelope)
    over (inl unfit) = inl (λ fits. unfit (omega arith, fits))
    over (inr longer) = inr (omega (arith, longer, text_len 1 (spelling envelope_kind (envelope_value envelope.value))))

    back : BreaksALimit (Envelope envelope) → IsOver (message_value (Envelope envelope))
    back (inl unfit) = inl (λ fits. unfit fits.1)
    back (inr longer) = inr (omega (arith, longer, text_len 1 (spelling envelope_kind (envelope_value envelope.value))))
over_is (GetSet hash) len = (over, λ b. elim b [ ])
  where
    over : IsOver (message_value (GetSet hash)) → ⊥
    over (inl unfit) = unfit (other_tag 2 1 (omega arith), (omega arith, len))
    over (inr longer) = omega (arith, longer, hash_len 2 hash.0 len)
over_is (NoSet hash) len = (over, λ b. elim b [ ])
  where
    over : IsOver (message_value (NoSet hash)) → ⊥
    over (inl unfit) = unfit (other_tag 4 1 (omega arith), (other_tag 4 2 (omega arith), (other_tag 4 3 (omega arith), (omega arith, len))))
    over (inr longer) = omega (arith, longer, hash_len 4 hash.0 len)
over_is (Set set) len = (over, back)
  where
    over : IsOver (message_value (Set set)) → BreaksALimit (Set set)
    over (inl unfit) = inl (λ fits. unfit (other_tag 3 1 (omega arith), (other_tag 3 2 (omega arith), (omega arith, fits))))
    over (inr longer) = inr (omega (arith, longer, text_len 3 (set_spelling set)))

    back : BreaksALimit (Set set) → IsOver (message_value (Set set))
    back (inl unfit) = inl (λ fits. unfit fits.1.1.1)
    back (inr longer) = inr (omega (arith, longer, text_len 3 (set_spelling set)))
over_is (GetRecord slot) range = (over, λ b. elim b [ ])
  where
    over : IsOver (message_value (GetRecord slot)) → ⊥
    over (inl unfit) = unfit (other_tag 5 1 (omega arith), (other_tag 5 2 (omega arith), (other_tag 5 3 (omega arith), (other_tag 5 4 (omega arith), (omega arith, range)))))
    over (inr longer) = omega (arith, longer, slot_len slot.0)
over_is (Record slot value) range = (over, λ long. inl (λ fits. omega (arith, long, fits.1.1.1.1.1.1.1.0)))
  where
    at : (b : Bool) → ltb 4096 (length value) ≡ b → IsOver (message_value (Record slot value)) → 4096 < length value
    at true e o = ltb-true 4096 (length value) e
    at false e (inl unfit) = absurd (unfit (other_tag 6 1 (omega arith), (other_tag 6 2 (omega arith), (other_tag 6 3 (omega arith), (other_tag 6 4 (omega arith), (other_tag 6 5 (omega arith), (omega arith, (range, (ltb-false 4096 (length value) e, omega (arith, ltb-false 4096 (length value) e))))))))))
    at false e (inr longer) = absurd (omega (arith, longer, record_len slot.0 value (ltb-false 4096 (length value) e)))

    over : IsOver (message_value (Record slot value)) → 4096 < length value
    over o = at (ltb 4096 (length value)) refl o
over_is (Records first values) range = (over, back)
  where
    over : IsOver (message_value (Records first values)) → BreaksALimit (Records first values)
    over (inl unfit) = inl (λ fits. unfit (other_tag 7 1 (omega arith), (other_tag 7 2 (omega arith), (other_tag 7 3 (omega arith), (other_tag 7 4 (omega arith), (other_tag 7 5 (omega arith), (other_tag 7 6 (omega arith), (omega arith, fits))))))))
    over (inr longer) = inr (omega (arith, longer, text_len 7 (spelling (numbered 32 value_kind) (first.0, values))))

    back : BreaksALimit (Records first values) → IsOver (message_value (Records first values))
    back (inl unfit) = inl (λ fits. unfit fits.1.1.1.1.1.1.1)
    back (inr longer) = inr (omega (arith, longer, text_len 7 (spelling (numbered 32 value_kind) (first.0, values))))

-- it breaks a limit exactly where its value doesn't fit
pub limits_are : LimitsAreOfTheValue
limits_are = λ m range. (λ unfit. (over_is m range).0 (breaks_over (message_value m) unfit), λ breaks. over_breaks (message_value m) ((over_is m range).1 breaks))
