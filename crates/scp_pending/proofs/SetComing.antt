-- What becomes of a quorum set that came.
use Rattle.std.proofs.Common.{◌≡◌, Bool, true, false, refl, subst}
use Rattle.std.specs.Prelude.{◌&&◌}
use Rattle.scp_wire.specs.scp_types.specs.declared.names.Hash.{Hash}
use Rattle.scp_wire.specs.scp_quorum.specs.QuorumTree.{QuorumTree}
use Rattle.scp_wire.specs.scp_quorum.specs.QuorumKind.{set_hash, set_kind, set_value}
use Rattle.scp_wire.specs.scp_quorum.specs.Sane.{IsSane}
use Rattle.scp_wire.specs.scp_xdr.specs.Kind.{Fits}
use Rattle.scp_fetch.specs.Wants.{is_wanted}
use Rattle.scp_pending.specs.declared.becoming.Becoming.{Becoming}
use Rattle.scp_pending.specs.declared.becoming.Becoming.TheVariants.{Stored, BadSet, Unwanted}
use Rattle.scp_pending.specs.Sanity.{is_sane, has_spelling}
use Rattle.scp_pending.specs.Queues.{hash_of}
use Rattle.scp_pending.specs.Rules.{Settled, is_answer}
use Rattle.scp_pending.specs.Becoming.{set_becomes}
use Rattle.scp_pending.proofs.Sanity.{test_of_sane, test_of_fits, fits_of_test}
use Rattle.scp_pending.proofs.Hearing.{hash_is, not_sane}

-- nothing comes of a set that has no encoding
pub unspelt_is : (s : Settled) (set : QuorumTree) → (Fits set_kind (set_value set) → ⊥) → Unwanted ≡ set_becomes set s
unspelt_is s set none = by_test (has_spelling set) refl
  where
    unwanted : (b : Bool) → (b && is_wanted (hash_of set) s.wanted) ≡ false → has_spelling set ≡ b → Unwanted ≡ set_becomes set s
    unwanted b e is = rw (is, e) refl

    by_test : (b : Bool) → has_spelling set ≡ b → Unwanted ≡ set_becomes set s
    by_test true e = absurd (none (fits_of_test set e))
    by_test false e = unwanted false refl e

-- one that is wanted and sane is stored
pub stored_is : (s : Settled) (set : QuorumTree) (h : Hash) → h.0 ≡ set_hash set → is_wanted h s.wanted ≡ true → IsSane set → Stored ≡ set_becomes set s
stored_is s set h e wanted sane =
    let yes : is_sane set ≡ true = test_of_sane set sane in
    let spelt : has_spelling set ≡ true = test_of_fits set sane.fits in
    let there : is_wanted (hash_of set) s.wanted ≡ true = subst (λ (k : Hash). is_wanted k s.wanted ≡ true) (hash_is h set e) wanted in
    rw (spelt, there, yes) refl

-- one that is wanted and isn't sane is bad
pub bad_is : (s : Settled) (set : QuorumTree) (h : Hash) → h.0 ≡ set_hash set → is_wanted h s.wanted ≡ true → Fits set_kind (set_value set) → (IsSane set → ⊥) → BadSet ≡ set_becomes set s
bad_is s set h e wanted fits bad =
    let spelt : has_spelling set ≡ true = test_of_fits set fits in
    let there : is_wanted (hash_of set) s.wanted ≡ true = subst (λ (k : Hash). is_wanted k s.wanted ≡ true) (hash_is h set e) wanted in
    rw (spelt, there, not_sane set bad) refl
