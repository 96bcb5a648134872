-- The bytes of a map, and what they say.
use Rattle.std.proofs.Common.{◌≡◌, ◌≢◌, ℕ, ◌<◌, List, [], Result, Ok, Err, refl, sym, ap, subst, ◌∙◌, inl, inr, arith}
use Rattle.std.specs.Prelude.{All, IfErr, unwrap_or}
use Rattle.std.specs.FinMap as finite
use Rattle.std.specs.FinMap.{len-entries, len-empty}
use Rattle.std.specs.Ordering.{nat_cmp}
use Rattle.std.specs.Cmp.Lexicographic.{slice_cmp}
use Rattle.std.specs.Result.{result_ok}
use Rattle.std.proofs.lemmas.List.{nil_from_length}
use Rattle.scp_kv.specs.scp_types.specs.declared.fault.Fault.{Fault}
use Rattle.scp_kv.specs.scp_types.specs.declared.fault.Fault.TheVariants.{NoMemory}
use Rattle.scp_kv.specs.scp_xdr.specs.Kind.{Values, Fits, Spells}
use Rattle.scp_kv.specs.scp_xdr.specs.Words.{Gives}
use Rattle.scp_kv.specs.Map.{KvMap}
use Rattle.scp_kv.specs.Saved.{state_kind, bytes_of, state_in, state_of}
use Rattle.scp_driver.specs.Driver.{IsBase}

-- bytes that encode a map's entries are read as that map
abbrev pub AreItsOwn : Type 0
AreItsOwn = (bytes : List ℕ) (state : KvMap) → Spells state_kind bytes (finite.entries state) → state_in bytes ≡ Ok state

-- bytes that are read as a map encode its entries
abbrev pub AreFound : Type 0
AreFound = (bytes : List ℕ) (state : KvMap) → All (λ b. b < 256) bytes → state_in bytes ≡ Ok state → Spells state_kind bytes (finite.entries state)

said : (bytes : List ℕ) (r : Result KvMap Fault) → state_in bytes ≡ r → state_of bytes ≡ unwrap_or (result_ok r) finite.empty
said bytes r e = ap (λ (x : Result KvMap Fault). unwrap_or (result_ok x) finite.empty) e

clash : (f : Fault) (m : KvMap) → Err f ≡ Ok m → ⊥
clash f m e = cc

-- the map without keys
abbrev no_keys : KvMap
no_keys = finite.empty

no_entries : finite.entries no_keys ≡ []
no_entries = nil_from_length (finite.entries no_keys) (sym (len-entries no_keys) ∙ len-empty (slice_cmp nat_cmp) (List ℕ))

empty_fits : Fits state_kind (finite.entries no_keys)
empty_fits = subst (λ (es : Values state_kind). Fits state_kind es) (sym no_entries) (omega arith, omega arith, tt)

-- ---- what is read

none_say : AreItsOwn → (bytes : List ℕ) (f : Fault) → bytes ≢ [] → state_in bytes ≡ Err f → ¬ (IsBase state_of bytes_of bytes)
none_say own bytes f some e (inl none) = some none
none_say own bytes f some e (inr is) =
    let it : bytes ≡ bytes_of no_keys = is ∙ ap bytes_of (said bytes (Err f) e) in
    clash f no_keys (sym e ∙ own bytes no_keys (record { fits = empty_fits; spelt = it }))

pub refused_by : AreItsOwn → (bytes : List ℕ) (r : Result KvMap Fault) → bytes ≢ [] → Gives (λ (m : KvMap). m) r (state_in bytes) → IfErr r (λ f. f ≢ NoMemory → ¬ (IsBase state_of bytes_of bytes))
refused_by own bytes (Ok m) some given = tt
refused_by own bytes (Err f) some given = λ other. none_say own bytes f some (given other)

-- ---- what is written

pub cannot_be_said : AreFound → (state : KvMap) → ¬ (Fits state_kind (finite.entries state)) → (bytes : List ℕ) → All (λ b. b < 256) bytes → state_of bytes ≢ state
cannot_be_said found state none bytes all is = each (state_in bytes) refl
  where
    each : (r : Result KvMap Fault) → state_in bytes ≡ r → ⊥
    each (Ok m) e = none (subst (λ (n : KvMap). Fits state_kind (finite.entries n)) (sym (said bytes (Ok m) e) ∙ is) (found bytes m all e).fits)
    each (Err f) e = none (subst (λ (n : KvMap). Fits state_kind (finite.entries n)) (sym (said bytes (Err f) e) ∙ is) empty_fits)
