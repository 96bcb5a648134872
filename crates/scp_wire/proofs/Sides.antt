-- The first word of a message shows whether it is carried.
use Rattle.std.proofs.Common.{◌≡◌, ℕ, ◌<◌, ◌≤◌, ◌⊎◌, true, false, eqb, List, length, Some, Result, Ok, Err, refl, sym, subst, ◌∙◌, inl, inr, eqb-true}
use Rattle.std.specs.Prelude.{is_ok}
use Rattle.scp_quorum.specs.scp_types.specs.declared.fault.Fault.{Fault}
use Rattle.scp_quorum.specs.scp_xdr.specs.Kind.{Values, ArmValues, Arms, no_arm, arm, tag_of, uint64, numbered, both}
use Rattle.scp_quorum.specs.scp_xdr.specs.Shared.{value_kind, hash_kind}
use Rattle.scp_quorum.specs.scp_xdr.specs.Reading.{Cursor, start, ◌>>=◌, read_uint32, read_end, reading, reading_arm, reading_whole}
use Rattle.scp_quorum.specs.scp_xdr.specs.Words.{PassesWhole}
use Rattle.scp_quorum.specs.scp_xdr.proofs.Items.{chosen}
use Rattle.scp_quorum.specs.scp_xdr.proofs.Parts.{bind_ok, ok_is}
use Rattle.scp_quorum.specs.QuorumKind.{set_kind}
use Rattle.scp_envelope.specs.Kinds.{envelope_kind}
use Rattle.scp_wire.specs.Message.{message_kind, message_of}
use Rattle.scp_wire.specs.Carried.{is_side}
use Rattle.scp_wire.specs.inside.Reading.{has_side_word}
use Rattle.scp_wire.specs.Reading.{reading_of}
use Rattle.scp_wire.proofs.Readings.{reading_within, longer_has_none}

abbrev arms : Arms
arms = arm 1 envelope_kind (arm 2 hash_kind (arm 3 set_kind (arm 4 hash_kind (arm 5 uint64 (arm 6 (both uint64 value_kind) (arm 7 (numbered 32 value_kind) no_arm))))))

-- the discriminant that was read is that of the arm
arm_tag : (arms : Arms) (place tag : ℕ) (c : Cursor) (v : ArmValues arms) (d : Cursor) → reading_arm arms place tag c ≡ Ok (v, d) → tag ≡ tag_of arms v
arm_tag no_arm place tag c v d e = elim v [ ]
arm_tag (arm t k others) place tag c v d e =
    let P : (Values k ⊎ ArmValues others) × Cursor → Type 0 = λ z. tag ≡ tag_of (arm t k others) z.0 in
    elim (chosen (eqb tag t) (reading k c >>= λ x. Ok (inl x.0, x.1)) (reading_arm others place tag c >>= λ x. Ok (inr x.0, x.1)) (Ok (v, d)) e) [
      | inl p ↦ (let x = bind_ok (reading k c) (λ x. Ok (inl x.0, x.1)) (v, d) p.1 in subst P (ok_is (inl x.0.0, x.0.1) (v, d) x.2) (eqb-true tag t p.0))
      | inr p ↦ (let x = bind_ok (reading_arm others place tag c) (λ x. Ok (inr x.0, x.1)) (v, d) p.1 in subst P (ok_is (inr x.0.0, x.0.1) (v, d) x.2) (arm_tag others place tag c x.0.0 x.0.1 x.1))
    ]

side_word : (v : Values message_kind) (d : Cursor) → has_side_word (Ok (tag_of arms v, d)) ≡ is_side (Some (message_of v))
side_word (inl v) d = refl
side_word (inr (inl v)) d = refl
side_word (inr (inr (inl v))) d = refl
side_word (inr (inr (inr (inl v)))) d = refl
side_word (inr (inr (inr (inr (inl v))))) d = refl
side_word (inr (inr (inr (inr (inr (inl v)))))) d = refl
side_word (inr (inr (inr (inr (inr (inr (inl v))))))) d = refl
side_word (inr (inr (inr (inr (inr (inr (inr v))))))) d = elim v [ ]

-- the first word of bytes that encode a message
word_of : (bytes : List ℕ) (v : Values message_kind) → reading_whole message_kind bytes ≡ Ok v → has_side_word (read_uint32 (start bytes)) ≡ is_side (Some (message_of v))
unfolding reading_whole
word_of bytes v e =
    let x = bind_ok (reading message_kind (start bytes)) (λ x. read_end x.1 >>= λ done. Ok x.0) v e in
    let y = bind_ok (read_end x.0.1) (λ done. Ok x.0.0) v x.2 in
    let same : x.0.0 ≡ v = ok_is x.0.0 v y.2 in
    let t = bind_ok (read_uint32 (start bytes)) (λ tag. reading_arm arms 0 tag.0 tag.1) x.0 x.1 in
    let named : t.0.0 ≡ tag_of arms v = arm_tag arms 0 t.0.0 t.0.1 x.0.0 x.0.1 t.2 ∙ rw same refl in
    rw (t.1, named) (side_word v t.0.1)

-- bytes of another first word are no side message
pub other_word : (bytes : List ℕ) → length bytes ≤ 65536 → has_side_word (read_uint32 (start bytes)) ≡ false → false ≡ is_side (reading_of bytes)
other_word bytes within word = at (reading_whole message_kind bytes) refl
  where
    at : (r : Result (Values message_kind) Fault) → reading_whole message_kind bytes ≡ r → false ≡ is_side (reading_of bytes)
    at (Ok v) e = rw (reading_within bytes (Ok v) within e) (sym word ∙ word_of bytes v e)
    at (Err f) e = rw (reading_within bytes (Err f) within e) refl

-- bytes with such a first word are one if they encode a message
pub side_where_spelt : {X : Type 0} (bytes : List ℕ) (r : Result X Fault) → length bytes ≤ 65536 → has_side_word (read_uint32 (start bytes)) ≡ true → PassesWhole r (reading_whole message_kind bytes) → is_ok r ≡ is_side (reading_of bytes)
side_where_spelt bytes (Ok x) within word passed = rw (reading_within bytes (Ok passed.0) within passed.1) (sym word ∙ word_of bytes passed.0 passed.1)
side_where_spelt bytes (Err f) within word passed = rw (reading_within bytes (Err f) within passed) refl

pub longer_is_none : (bytes : List ℕ) → 65536 < length bytes → false ≡ is_side (reading_of bytes)
longer_is_none bytes longer = rw (longer_has_none bytes longer) refl
