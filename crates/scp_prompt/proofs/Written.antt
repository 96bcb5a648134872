-- Texts that are written in parts, and words by their places.
use Rattle.std.proofs.Common.{◌≡◌, ◌≢◌, ◌==◌, ℕ, zero, suc, ◌+◌, ◌-◌, ◌<◌, ◌≤◌, List, [], ◌∷◌, ◌++◌, Option, append_assoc, append-nil, ap, ◌∙◌, sym, refl, arith, flat_map, drop, drop-cons, get_or, length, take, inr, codes}
use Rattle.std.proofs.lemmas.List.{drop_all, take_all}
use Rattle.std.specs.Prelude.{Result, Ok, Err, OnOk}
use Rattle.std.specs.List.{slice_get, slice_split}
use Rattle.scp_device.specs.scp_types.specs.declared.fault.Fault.{Fault}
use Rattle.scp_device.specs.Device.{Gains}
use Rattle.scp_prompt.specs.Places.{part_in, IsStanding, place_line}
use Rattle.scp_prompt.proofs.DeviceLemmas.{gains-more}

-- a text was written, and then another, if it was
pub behind : (r : Result (Unit {0}) Fault) (a b c : Option (List ℕ)) (x y : List ℕ) → Gains a x b → OnOk r (Gains b y c) → OnOk r (Gains a (x ++ y) c)
behind (Ok done) a b c x y p q = gains-more a b c x y p q
behind (Err fault) a b c x y p q = tt

-- a part by its place, from 1 on
pub part_there : (text : List ℕ) (end place : ℕ) → place ≢ 0 → slice_get (slice_split (λ byte. byte == end) text) (place - 1) ≡ part_in text end place
part_there text end zero h = absurd (h refl)
part_there text end (suc n) h = let e : suc n - 1 ≡ n = omega arith in ap (λ (k : ℕ). slice_get (slice_split (λ byte. byte == end) text) k) e

-- one byte more was written
pub bytes_more : (f : ℕ → List ℕ) (out mid all : List ℕ) (bytes : List ℕ) (i d : ℕ) → i < length bytes → mid ≡ out ++ f (get_or bytes i d) → out ++ flat_map f (drop i bytes) ≡ all → mid ++ flat_map f (drop (i + 1) bytes) ≡ all
bytes_more f out mid all bytes i d lt m e =
    let s : i + 1 ≡ suc i = omega arith in
    ap (λ (k : ℕ). mid ++ flat_map f (drop k bytes)) s
    ∙ ap (λ (l : List ℕ). l ++ flat_map f (drop (suc i) bytes)) m
    ∙ append_assoc out (f (get_or bytes i d)) (flat_map f (drop (suc i) bytes))
    ∙ ap (λ (l : List ℕ). out ++ flat_map f l) (sym (drop-cons bytes i d lt))
    ∙ e

-- no byte is left
pub bytes_end : (f : ℕ → List ℕ) (out all : List ℕ) (bytes : List ℕ) (i : ℕ) → length bytes ≤ i → out ++ flat_map f (drop i bytes) ≡ all → out ≡ all
bytes_end f out all bytes i long e = sym (ap (λ (l : List ℕ). out ++ flat_map f l) (drop_all i bytes long) ∙ append-nil out) ∙ e

-- a word of few bytes
pub all_bytes : (word : List ℕ) → length word ≤ 40 → word ≡ take 40 word
all_bytes word few = sym (take_all 40 word few)

-- without memory it is said that something stands there
pub something_stands : (r : Result (Unit {0}) Fault) (a c : Option (List ℕ)) (text name expected : List ℕ) (line word : ℕ)
    → OnOk r (Gains a (place_line name line word (codes "something") expected) c)
    → OnOk r ((stands : List ℕ) × IsStanding text line word stands × Gains a (place_line name line word stands expected) c)
something_stands (Ok done) a c text name expected line word p = (codes "something", inr refl, p)
something_stands (Err fault) a c text name expected line word p = tt

-- what stands at a place, and what was expected there
pub back_parts : (stands said expected end feed : List ℕ) → stands ++ (said ++ (expected ++ (end ++ (feed ++ [])))) ≡ stands ++ said ++ (expected ++ end) ++ feed
back_parts stands said expected end feed = simp (append_assoc, append-nil)
