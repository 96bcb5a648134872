-- The bytes of a state, and the state that is built of its entries, from the last to the first.
use Rattle.std.proofs.Common.{◌≡◌, ◌≢◌, ℕ, ◌<◌, ◌≤◌, Bool, true, false, List, [], ◌∷◌, ◌++◌, map, length, Result, Ok, Err, refl, sym, ap, subst, ◌∙◌, append-nil, append_assoc, arith}
use Rattle.std.specs.Prelude.{T, ◌&&◌, All, IfOk, IsErrOf, if◌then◌else◌}
use Rattle.std.specs.List.{AllByRecursion, flat_map}
use Rattle.std.specs.Ordering.{nat_cmp, is_lt}
use Rattle.std.specs.Cmp.Lexicographic.{slice_cmp, nat_list_cmp_total}
use Rattle.std.specs.declared.cmp.Ordering.{Ordering}
use Rattle.std.specs.declared.cmp.Ordering.TheVariants.{Less, Equal, Greater}
use Rattle.std.specs.FinMap as finite
use Rattle.std.specs.FinMap.{is_sorted}
use Rattle.std.specs.FinMap.Entries.{below_all}
use Rattle.std.proofs.lemmas.List.{map-append}
use Rattle.std.proofs.lemmas.Grind.{flat_map-append}
use Rattle.scp_xdr.specs.scp_types.specs.declared.fault.Fault.{Fault}
use Rattle.scp_xdr.specs.scp_types.specs.declared.fault.Fault.TheVariants.{NoMemory, Malformed, TooLong}
use Rattle.scp_xdr.specs.Kind.{Values, Fits, Spells, spelling, word}
use Rattle.scp_xdr.specs.Reading.{reading_whole, ◌>>=◌}
use Rattle.scp_xdr.specs.Words.{Gives, IsReadingFault}
use Rattle.scp_xdr.proofs.Parts.{IsBytes}
use Rattle.scp_xdr.proofs.Laws.{whole_found, whole_again}
use Rattle.scp_kv.specs.declared.saved.Entry.{Entry}
use Rattle.scp_kv.specs.Map.{KvMap}
use Rattle.scp_kv.specs.Saved.{entry_kind, state_kind, ascending, state_in}
use Rattle.scp_kv.specs.inside.Entry.{entry_value}
use Rattle.scp_kv.proofs.Maps.{entries-sorted}
use Rattle.scp_kv.proofs.Lists.{bytes_from_all}

abbrev Entries : Type 0
Entries = Values state_kind

abbrev Sorted : Entries → Bool
Sorted es = is_sorted (slice_cmp nat_cmp) es

-- ---- entries in order

-- the map of these entries
abbrev map_of : Entries → KvMap
map_of es = finite.from_entries es

abbrev by_test : Bool → Entries → Result KvMap Fault
by_test b es = if b then Ok (map_of es) else Err (Malformed 0)

-- a result's map, and its fault
value_in : KvMap → Result KvMap Fault → KvMap
value_in m (Ok n) = n
value_in m (Err f) = m

fault_in : {X : Type 0} → Fault → Result X Fault → Fault
fault_in g (Ok n) = g
fault_in g (Err f) = f

in_order : (b : Bool) (es : Entries) (m : KvMap) → Sorted es ≡ b → by_test b es ≡ Ok m → finite.entries m ≡ es
unfolding value_in
in_order true es m sorted e = ap (λ (r : Result KvMap Fault). finite.entries (value_in m r)) (sym e) ∙ entries-sorted es (subst T (sym sorted) tt)
in_order false es m sorted e = absurd cc

-- the map of ascending entries has exactly these
pub ascending_entries : (es : Entries) (m : KvMap) → ascending es ≡ Ok m → finite.entries m ≡ es
ascending_entries es m e = in_order (Sorted es) es m refl e

true_of : (b : Bool) → T b → b ≡ true
true_of true h = refl
true_of false h = absurd h

-- the entries of a map ascend, and are those of no other
pub ascending_own : (m : KvMap) → ascending (finite.entries m) ≡ Ok m
ascending_own m =
    let sorted : Sorted (finite.entries m) ≡ true = true_of (Sorted (finite.entries m)) (finite.entries_sorted m) in
    rw sorted (ap (λ (n : KvMap). Ok n) (finite.same_entries_map (finite.from_entries (finite.entries m)) m (entries-sorted (finite.entries m) (finite.entries_sorted m))))

-- ---- what bytes say

pub read_in : (bytes : List ℕ) (r : Result Entries Fault) → reading_whole state_kind bytes ≡ r → state_in bytes ≡ (r >>= ascending)
unfolding state_in
read_in bytes r e = ap (λ (x : Result Entries Fault). x >>= ascending) e

pub gives_none : (bytes : List ℕ) (f : Fault) → (f ≢ NoMemory → reading_whole state_kind bytes ≡ Err f) → f ≢ NoMemory → state_in bytes ≡ Err f
gives_none bytes f given other = read_in bytes (Err f) (given other)

pub gives_state : (bytes : List ℕ) (es : Entries) (r : Result KvMap Fault) → reading_whole state_kind bytes ≡ Ok es → Gives (λ (m : KvMap). m) r (ascending es) → Gives (λ (m : KvMap). m) r (state_in bytes)
gives_state bytes es (Ok m) read given = read_in bytes (Ok es) read ∙ given
gives_state bytes es (Err f) read given = λ other. read_in bytes (Ok es) read ∙ given other

fault_of : (b : Bool) (es : Entries) (f : Fault) → by_test b es ≡ Err f → IsReadingFault f
unfolding fault_in
fault_of true es f e = absurd cc
fault_of false es f e = subst IsReadingFault (ap (λ (r : Result KvMap Fault). fault_in f r) e) tt

pub ascending_fault : (es : Entries) (f : Fault) → ascending es ≡ Err f → IsReadingFault f
ascending_fault es f e = fault_of (Sorted es) es f e

found_in : (bytes : List ℕ) (m : KvMap) (r : Result Entries Fault) → IsBytes bytes → reading_whole state_kind bytes ≡ r → (r >>= ascending) ≡ Ok m → Spells state_kind bytes (finite.entries m)
found_in bytes m (Ok es) fits read e = subst (Spells state_kind bytes) (sym (ascending_entries es m e)) (whole_found state_kind bytes es fits read)
found_in bytes m (Err f) fits read e = absurd cc

pub found_of : (bytes : List ℕ) (es : Entries) (r : Result KvMap Fault) → Spells state_kind bytes es → Gives (λ (m : KvMap). m) r (ascending es) → IfOk r (λ m. Spells state_kind bytes (finite.entries m))
found_of bytes es (Ok m) spells given = subst (Spells state_kind bytes) (sym (ascending_entries es m given)) spells
found_of bytes es (Err f) spells given = tt

pub state_found : (bytes : List ℕ) (m : KvMap) → All (λ b. b < 256) bytes → state_in bytes ≡ Ok m → Spells state_kind bytes (finite.entries m)
state_found bytes m all e = found_in bytes m (reading_whole state_kind bytes) (bytes_from_all bytes all) refl (sym (read_in bytes (reading_whole state_kind bytes) refl) ∙ e)

pub state_only : (bytes : List ℕ) (m : KvMap) → Spells state_kind bytes (finite.entries m) → state_in bytes ≡ Ok m
state_only bytes m spells = read_in bytes (Ok (finite.entries m)) (whole_again state_kind bytes (finite.entries m) spells) ∙ ascending_own m

-- ---- a state is built, from the last entry to the first

-- of these entries, those behind the ones that are left ascend, and are in the state
pub record IsBuilt (all left : List Entry) (state : KvMap) : Type 0 where
  pub built : List Entry
  pub is : all ≡ left ++ built
  pub sorted : Sorted (map entry_value built) ≡ true
  pub state_is : state ≡ finite.from_entries (map entry_value built)

pub built_none : (all : List Entry) (state : KvMap) → state ≡ finite.empty → IsBuilt all all state
built_none all state e = record { built = []; is = sym (append-nil all); sorted = refl; state_is = e }

both_true : (a b : Bool) → a ≡ true → b ≡ true → (a && b) ≡ true
both_true a b p q = rw (p, q) refl

one_more : (left rest built : List Entry) (entry : Entry) → left ≡ rest ++ entry ∷ [] → left ++ built ≡ rest ++ entry ∷ built
one_more left rest built entry e = ap (λ (l : List Entry). l ++ built) e ∙ append_assoc rest (entry ∷ []) built

pub built_more : (all left rest : List Entry) (entry : Entry) (old new : KvMap) → left ≡ rest ++ entry ∷ [] → below_all (slice_cmp nat_cmp) entry.key (finite.entries old) ≡ true → new ≡ finite.insert old entry.key entry.value → IsBuilt all left old → IsBuilt all rest new
built_more all left rest entry old new e below put h =
    let es = map entry_value h.built in
    let has : finite.entries old ≡ es = ap (λ (m : KvMap). finite.entries m) h.state_is ∙ entries-sorted es (subst T (sym h.sorted) tt) in
    record {
      built = entry ∷ h.built;
      is = h.is ∙ one_more left rest h.built entry e;
      sorted = both_true (below_all (slice_cmp nat_cmp) entry.key es) (Sorted es) (ap (λ (xs : Entries). below_all (slice_cmp nat_cmp) entry.key xs) (sym has) ∙ below) h.sorted;
      state_is = put ∙ ap (λ (m : KvMap). finite.insert m entry.key entry.value) h.state_is;
    }

pub built_all : (all left : List Entry) (state : KvMap) → left ≡ [] → IsBuilt all left state → ascending (map entry_value all) ≡ Ok state
built_all all left state e h =
    let is : all ≡ h.built = h.is ∙ ap (λ (l : List Entry). l ++ h.built) e in
    ap (λ (l : List Entry). ascending (map entry_value l)) is ∙ (rw h.sorted (ap (λ (m : KvMap). Ok m) (sym h.state_is)))

no_more : (xs ys : Entries) → Sorted ys ≡ false → Sorted (xs ++ ys) ≡ false
no_more [] ys e = e
no_more (x ∷ xs) ys e = last (below_all (slice_cmp nat_cmp) x.0 (xs ++ ys)) (Sorted (xs ++ ys)) (no_more xs ys e)
  where
    last : (a b : Bool) → b ≡ false → (a && b) ≡ false
    last true b e = e
    last false b e = refl

pub not_built : (all left rest : List Entry) (entry : Entry) (old : KvMap) → left ≡ rest ++ entry ∷ [] → below_all (slice_cmp nat_cmp) entry.key (finite.entries old) ≡ false → IsBuilt all left old → ascending (map entry_value all) ≡ Err (Malformed 0)
not_built all left rest entry old e below h =
    let es = map entry_value h.built in
    let has : finite.entries old ≡ es = ap (λ (m : KvMap). finite.entries m) h.state_is ∙ entries-sorted es (subst T (sym h.sorted) tt) in
    let above : below_all (slice_cmp nat_cmp) entry.key es ≡ false = ap (λ (xs : Entries). below_all (slice_cmp nat_cmp) entry.key xs) (sym has) ∙ below in
    let here : Sorted (entry_value entry ∷ es) ≡ false = rw above refl in
    let is : map entry_value all ≡ map entry_value rest ++ entry_value entry ∷ es = ap (λ (l : List Entry). map entry_value l) (h.is ∙ one_more left rest h.built entry e) ∙ map-append entry_value rest (entry ∷ h.built) in
    let none : Sorted (map entry_value all) ≡ false = ap Sorted is ∙ no_more (map entry_value rest) (entry_value entry ∷ es) here in
    rw none refl

-- an entry whose key isn't below the others, or for which there is no memory
pub fell : (all left rest : List Entry) (entry : Entry) (old : KvMap) (f : Fault) → left ≡ rest ++ entry ∷ [] → (f ≢ NoMemory → (f ≡ Malformed 0) × (below_all (slice_cmp nat_cmp) entry.key (finite.entries old) ≡ false)) → IsBuilt all left old → f ≢ NoMemory → ascending (map entry_value all) ≡ Err f
fell all left rest entry old f e why h other = not_built all left rest entry old e (why other).1 h ∙ ap (λ (g : Fault). Err g) (sym (why other).0)

-- ---- below all others

below_more : (k x : List ℕ) (es : Entries) → slice_cmp nat_cmp k x ≡ Less → T (below_all (slice_cmp nat_cmp) x es) → T (below_all (slice_cmp nat_cmp) k es)
below_more k x [] lt h = tt
below_more k x (e ∷ es) lt h = both (is_lt (slice_cmp nat_cmp k e.0)) (below_all (slice_cmp nat_cmp) k es) (less k e.0 (nat_list_cmp_total.trans k x e.0 lt (is_less (slice_cmp nat_cmp x e.0) (front (is_lt (slice_cmp nat_cmp x e.0)) (below_all (slice_cmp nat_cmp) x es) h)))) (below_more k x es lt (back (is_lt (slice_cmp nat_cmp x e.0)) (below_all (slice_cmp nat_cmp) x es) h))
  where
    both : (a b : Bool) → T a → T b → T (a && b)
    both true b p q = q
    both false b p q = p

    front : (a b : Bool) → T (a && b) → T a
    front true b p = tt
    front false b p = p

    back : (a b : Bool) → T (a && b) → T b
    back true b p = p
    back false b p = absurd p

    is_less : (o : Ordering) → T (is_lt o) → o ≡ Less
    is_less Less h = refl
    is_less Equal h = absurd h
    is_less Greater h = absurd h

    less : (k y : List ℕ) → slice_cmp nat_cmp k y ≡ Less → T (is_lt (slice_cmp nat_cmp k y))
    less k y e = subst (λ (o : Ordering). T (is_lt o)) (sym e) tt

below_by : (o : Ordering) (k : List ℕ) (e : List ℕ × List ℕ) (es : Entries) → slice_cmp nat_cmp k e.0 ≡ o → T (below_all (slice_cmp nat_cmp) e.0 es) → is_lt o ≡ (is_lt o && below_all (slice_cmp nat_cmp) k es)
below_by Less k e es lt h = sym (true_of (below_all (slice_cmp nat_cmp) k es) (below_more k e.0 es lt h))
below_by Equal k e es lt h = refl
below_by Greater k e es lt h = refl

second : (a b : Bool) → T (a && b) → T a
second true b p = tt
second false b p = p

-- the first key alone decides
pub below_first : (m : KvMap) (k : List ℕ) (e : List ℕ × List ℕ) (es : Entries) → finite.entries m ≡ e ∷ es → is_lt (slice_cmp nat_cmp k e.0) ≡ below_all (slice_cmp nat_cmp) k (finite.entries m)
below_first m k e es is =
    let sorted : T (Sorted (e ∷ es)) = subst (λ (l : Entries). T (Sorted l)) is (finite.entries_sorted m) in
    below_by (slice_cmp nat_cmp k e.0) k e es refl (second (below_all (slice_cmp nat_cmp) e.0 es) (Sorted es) sorted) ∙ ap (λ (l : Entries). below_all (slice_cmp nat_cmp) k l) (sym is)

pub below_none : (m : KvMap) (k : List ℕ) → finite.entries m ≡ [] → true ≡ below_all (slice_cmp nat_cmp) k (finite.entries m)
below_none m k is = ap (λ (l : Entries). below_all (slice_cmp nat_cmp) k l) (sym is)

-- ---- entries are written, from the first to the last

-- of these entries, those before the ones that are left fit, and are written behind their count
pub record IsWriting (all left : Entries) (writer : List ℕ) : Type 0 where
  pub done : Entries
  pub is : all ≡ done ++ left
  pub fits : AllByRecursion (λ v. Fits entry_kind v) done
  pub written : writer ≡ word (length all) ++ flat_map (λ v. spelling entry_kind v) done

pub writing_none : (all : Entries) (writer : List ℕ) → writer ≡ word (length all) → IsWriting all all writer
writing_none all writer e = record { done = []; is = refl; fits = tt; written = e ∙ sym (append-nil (word (length all))) }

fits_push : (es : Entries) (e : Values entry_kind) → AllByRecursion (λ v. Fits entry_kind v) es → Fits entry_kind e → AllByRecursion (λ v. Fits entry_kind v) (es ++ e ∷ [])
fits_push [] e all fits = (fits, tt)
fits_push (x ∷ xs) e all fits = (all.0, fits_push xs e all.1 fits)

fits_at : (es rest : Entries) (e : Values entry_kind) → AllByRecursion (λ v. Fits entry_kind v) (es ++ e ∷ rest) → Fits entry_kind e
fits_at [] rest e all = all.0
fits_at (x ∷ xs) rest e all = fits_at xs rest e all.1

pub writing_more : (all left rest : Entries) (e : Values entry_kind) (old new : List ℕ) → left ≡ e ∷ rest → Fits entry_kind e → new ≡ old ++ spelling entry_kind e → IsWriting all left old → IsWriting all rest new
writing_more all left rest e old new at fits put h = record {
  done = h.done ++ e ∷ [];
  is = h.is ∙ ap (λ (l : Entries). h.done ++ l) at ∙ sym (append_assoc h.done (e ∷ []) rest);
  fits = fits_push h.done e h.fits fits;
  written =
      let last : spelling entry_kind e ≡ flat_map (λ v. spelling entry_kind v) (e ∷ []) = sym (append-nil (spelling entry_kind e)) in
      put ∙ ap (λ (l : List ℕ). l ++ spelling entry_kind e) h.written
      ∙ append_assoc (word (length all)) (flat_map (λ v. spelling entry_kind v) h.done) (spelling entry_kind e)
      ∙ ap (λ (l : List ℕ). word (length all) ++ (flat_map (λ v. spelling entry_kind v) h.done ++ l)) last
      ∙ ap (λ (l : List ℕ). word (length all) ++ l) (sym (flat_map-append (λ v. spelling entry_kind v) h.done (e ∷ [])));
}

pub writing_all : (all left : Entries) (writer : List ℕ) → left ≡ [] → length all ≤ 4294967295 → IsWriting all left writer → Spells state_kind writer all
writing_all all left writer none few h =
    let is : all ≡ h.done = h.is ∙ ap (λ (l : Entries). h.done ++ l) none ∙ append-nil h.done in
    record {
      fits = (few, omega (arith, few), subst (λ (l : Entries). AllByRecursion (λ v. Fits entry_kind v) l) (sym is) h.fits);
      spelt = h.written ∙ ap (λ (l : Entries). word (length all) ++ flat_map (λ v. spelling entry_kind v) l) (sym is);
    }

pub not_fitting : (all left rest : Entries) (e : Values entry_kind) (writer : List ℕ) → left ≡ e ∷ rest → ¬ (Fits entry_kind e) → IsWriting all left writer → ¬ (Fits state_kind all)
not_fitting all left rest e writer at none h fits =
    none (fits_at h.done rest e (subst (λ (l : Entries). AllByRecursion (λ v. Fits entry_kind v) l) (h.is ∙ ap (λ (l : Entries). h.done ++ l) at) fits.2))

-- a result that is too long is so whatever else it could be
pub too_long_still : (X : Type 0) (f : Fault) → IsErrOf {T = X} (Err f) TooLong → IsErrOf {T = Unit {0}} (Err f) TooLong
unfolding fault_in
too_long_still X f e = ap (λ (r : Result X Fault). Err (fault_in f r)) e
