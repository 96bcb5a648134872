-- Each kind: what is read is encoded so, what is encoded so is read, and no encoding begins another.
use Rattle.std.proofs.Common.{◌≡◌, ◌≢◌, ℕ, ◌^◌, ◌<◌, Bool, true, false, cond, eqb, List, [], ◌++◌, ◌⊎◌, length, Some, None, Result, Ok, Err, refl, sym, ap, subst, ◌∙◌, arith, inl, inr}
use Rattle.std.specs.List.{flat_map}
use Rattle.std.proofs.lemmas.Bool.{eqb-true, eqb-false, ne_eqb, eq-eqb}
use Rattle.std.proofs.lemmas.List.{append-nil, nil_from_length}
use Rattle.scp_types.specs.declared.fault.Fault.{Fault}
use Rattle.scp_types.specs.declared.fault.Fault.TheVariants.{Malformed}
use Rattle.scp_xdr.specs.Kind.{Kind, uint32, uint64, fixed, opaque, optional, array, numbered, both, union, tree, Arms, no_arm, arm, Values, ArmValues, word, long_word, spelling, arm_spelling, tag_of, Fits, ArmFits, Spells}
use Rattle.scp_xdr.specs.Reading.{Cursor, start, ◌>>=◌, read_uint32, read_count, read_run, read_items, reading, reading_arm, read_end, reading_whole}
use Rattle.scp_xdr.specs.Words.{Gives}
use Rattle.std.specs.Prelude.{IfOk}
use Rattle.scp_xdr.proofs.Items.{chosen, IsFound, IsAgain, items_found, items_again, optional_found, optional_again, read_tree_found, read_tree_again}
use Rattle.scp_xdr.proofs.Parts.{IsBytes, bind_ok, ok_is, Takes, Takes-join, between, Takes-first, Takes-second, Takes-bytes, uint32_takes, uint32_again, uint64_takes, uint64_again, bytes_take, bytes_again, count_takes, count_again, run_takes, run_again, opaque_takes, opaque_again}

-- ---- one kind, from those in it

abbrev KindFound : Kind → Type 0
KindFound k = IsFound (λ c. reading k c) (λ v. spelling k v) (λ v. Fits k v)

abbrev KindAgain : Kind → Type 0
KindAgain k = IsAgain (λ c. reading k c) (λ v. spelling k v) (λ v. Fits k v)

found_optional : (k : Kind) → KindFound k → KindFound (optional k)
found_optional k law c None d fits e = optional_found (λ c. reading k c) (λ v. spelling k v) (λ v. Fits k v) law c None d fits e
found_optional k law c (Some v) d fits e = optional_found (λ c. reading k c) (λ v. spelling k v) (λ v. Fits k v) law c (Some v) d fits e

found_array : (max : ℕ) (k : Kind) → KindFound k → KindFound (array max k)
found_array max k law c vs d fits e =
    let a = bind_ok (read_count max c) (λ n. read_items (λ d. reading k d) n.0 n.1) (vs, d) e in
    let t = count_takes max c a.0.0 a.0.1 fits a.1 in
    let u = items_found (λ c. reading k c) (λ v. spelling k v) (λ v. Fits k v) law a.0.0 a.0.1 vs d (Takes-bytes c (word a.0.0) a.0.1 t.0 fits) a.2 in
    let first : Takes c (word (length vs)) a.0.1 = subst (λ (n : ℕ). Takes c (word n) a.0.1) (sym u.1) t.0 in
    (Takes-join c (word (length vs)) a.0.1 (flat_map (λ v. spelling k v) vs) d first u.0, (omega (arith, u.1, t.1), omega (arith, u.1, t.2), u.2))

found_numbered : (max : ℕ) (k : Kind) → KindFound k → KindFound (numbered max k)
found_numbered max k law c v d fits e =
    let a = bind_ok (read_run max c) (λ r. read_items (λ d. reading k d) r.0.1 r.1 >>= λ xs. Ok ((r.0.0, xs.0), xs.1)) (v, d) e in
    let t = run_takes max c a.0.0 a.0.1 fits a.1 in
    let b = bind_ok (read_items (λ d. reading k d) a.0.0.1 a.0.1) (λ xs. Ok ((a.0.0.0, xs.0), xs.1)) (v, d) a.2 in
    let u = items_found (λ c. reading k c) (λ v. spelling k v) (λ v. Fits k v) law a.0.0.1 a.0.1 b.0.0 b.0.1 (Takes-bytes c (long_word a.0.0.0 ++ word a.0.0.1) a.0.1 t.takes fits) b.1 in
    let head : Takes c (long_word a.0.0.0 ++ word (length b.0.0)) a.0.1 = subst (λ (n : ℕ). Takes c (long_word a.0.0.0 ++ word n) a.0.1) (sym u.1) t.takes in
    subst (λ (z : (ℕ × List (Values k)) × Cursor). Takes c (spelling (numbered max k) z.0) z.1 × Fits (numbered max k) z.0) (ok_is ((a.0.0.0, b.0.0), b.0.1) (v, d) b.2)
    (Takes-join c (long_word a.0.0.0 ++ word (length b.0.0)) a.0.1 (flat_map (λ v. spelling k v) b.0.0) b.0.1 head u.0, (t.in_range, omega (arith, u.1, t.some), omega (arith, u.1, t.few), omega (arith, u.1, t.small), omega (arith, u.1, t.last), u.2))

-- one arm of a union, and the others
found_one : (t : ℕ) (k : Kind) (others : Arms) (place tag : ℕ) (b c : Cursor) (v : Values k ⊎ ArmValues others) (d : Cursor) → IsBytes b.rest → Takes b (word tag) c → tag < 2 ^ 32 → KindFound k
    → ((w : ArmValues others) (z : Cursor) → reading_arm others place tag c ≡ Ok (w, z) → Takes b (arm_spelling others w) z × ArmFits others w × (tag_of others w ≡ tag))
    → reading_arm (arm t k others) place tag c ≡ Ok (v, d) → Takes b (arm_spelling (arm t k others) v) d × ArmFits (arm t k others) v × (tag_of (arm t k others) v ≡ tag)
found_one t k others place tag b c v d fits before lt law rest e =
    let P : (Values k ⊎ ArmValues others) × Cursor → Type 0 = λ z. Takes b (arm_spelling (arm t k others) z.0) z.1 × ArmFits (arm t k others) z.0 × (tag_of (arm t k others) z.0 ≡ tag) in
    elim (chosen (eqb tag t) (reading k c >>= λ x. Ok (inl x.0, x.1)) (reading_arm others place tag c >>= λ x. Ok (inr x.0, x.1)) (Ok (v, d)) e) [
      | inl p ↦
          let same : tag ≡ t = eqb-true tag t p.0 in
          let x = bind_ok (reading k c) (λ x. Ok (inl x.0, x.1)) (v, d) p.1 in
          let u = law c x.0.0 x.0.1 (Takes-bytes b (word tag) c before fits) x.1 in
          let first : Takes b (word t) c = subst (λ (n : ℕ). Takes b (word n) c) same before in
          subst P (ok_is (inl x.0.0, x.0.1) (v, d) x.2) (Takes-join b (word t) c (spelling k x.0.0) x.0.1 first u.0, (omega (arith, same), u.1), sym same)
      | inr p ↦
          let x = bind_ok (reading_arm others place tag c) (λ x. Ok (inr x.0, x.1)) (v, d) p.1 in
          let u = rest x.0.0 x.0.1 x.1 in
          let other : tag_of others x.0.0 ≢ t = λ q. eqb-false tag t p.0 (sym u.2 ∙ q) in
          subst P (ok_is (inr x.0.0, x.0.1) (v, d) x.2) (u.0, (other, u.1), u.2)
    ]

-- ---- every kind

mutual
  pub found : (k : Kind) (c : Cursor) (v : Values k) (d : Cursor) → IsBytes c.rest → reading k c ≡ Ok (v, d) → Takes c (spelling k v) d × Fits k v
  found uint32 c v d fits e = uint32_takes c v d fits e
  found uint64 c v d fits e = uint64_takes c v d fits e
  found (fixed n) c v d fits e = let t = bytes_take n c v d fits e in (t.0, t.2)
  found (opaque max) c v d fits e = let t = opaque_takes max c v d fits e in (t.0, (t.2, t.3))
  found (optional k) c v d fits e = found_optional k (λ x y z p q. found k x y z p q) c v d fits e
  found (array max k) c v d fits e = found_array max k (λ x y z p q. found k x y z p q) c v d fits e
  found (numbered max k) c v d fits e = found_numbered max k (λ x y z p q. found k x y z p q) c v d fits e
  found (both a b) c v d fits e =
      let x = bind_ok (reading a c) (λ x. reading b x.1 >>= λ y. Ok ((x.0, y.0), y.1)) (v, d) e in
      let y = bind_ok (reading b x.0.1) (λ y. Ok ((x.0.0, y.0), y.1)) (v, d) x.2 in
      let t = found a c x.0.0 x.0.1 fits x.1 in
      let u = found b x.0.1 y.0.0 y.0.1 (Takes-bytes c (spelling a x.0.0) x.0.1 t.0 fits) y.1 in
      subst (λ (z : (Values a × Values b) × Cursor). Takes c (spelling (both a b) z.0) z.1 × Fits (both a b) z.0) (ok_is ((x.0.0, y.0.0), y.0.1) (v, d) y.2)
      (Takes-join c (spelling a x.0.0) x.0.1 (spelling b y.0.0) y.0.1 t.0 u.0, (t.1, u.1))
  found (union arms) c v d fits e =
      let x = bind_ok (read_uint32 c) (λ tag. reading_arm arms c.place tag.0 tag.1) (v, d) e in
      let t = uint32_takes c x.0.0 x.0.1 fits x.1 in
      let u = found_arm arms c.place x.0.0 c x.0.1 v d fits t.0 t.1 x.2 in
      (u.0, u.1)
  found (tree levels max head) c v d fits e = read_tree_found (λ x. reading head x) (λ x. spelling head x) (λ x. Fits head x) levels max (λ x y z p q. found head x y z p q) c v d fits e

  pub found_arm : (arms : Arms) (place tag : ℕ) (b c : Cursor) (v : ArmValues arms) (d : Cursor) → IsBytes b.rest → Takes b (word tag) c → tag < 2 ^ 32 → reading_arm arms place tag c ≡ Ok (v, d)
      → Takes b (arm_spelling arms v) d × ArmFits arms v × (tag_of arms v ≡ tag)
  found_arm no_arm place tag b c v d fits before lt e = elim v [ ]
  found_arm (arm t k others) place tag b c v d fits before lt e =
      found_one t k others place tag b c v d fits before lt (λ x y z p q. found k x y z p q) (λ y z q. found_arm others place tag b c y z fits before lt q) e

-- ---- and back

again_optional : (k : Kind) → KindAgain k → KindAgain (optional k)
again_optional k law c None d fits t = optional_again (λ c. reading k c) (λ v. spelling k v) (λ v. Fits k v) law c None d fits t
again_optional k law c (Some v) d fits t = optional_again (λ c. reading k c) (λ v. spelling k v) (λ v. Fits k v) law c (Some v) d fits t

again_array : (max : ℕ) (k : Kind) → KindAgain k → KindAgain (array max k)
again_array max k law c vs d fits t =
    let text = flat_map (λ v. spelling k v) vs in
    let m = between c (word (length vs)) text d in
    rw (count_again max c (length vs) m fits.0 fits.1 (Takes-first c (word (length vs)) text d t)) (items_again (λ c. reading k c) (λ v. spelling k v) (λ v. Fits k v) law vs m d fits.2 (Takes-second c (word (length vs)) text d t))

again_numbered : (max : ℕ) (k : Kind) → KindAgain k → KindAgain (numbered max k)
again_numbered max k law c v d fits t =
    let head = long_word v.0 ++ word (length v.1) in
    let text = flat_map (λ x. spelling k x) v.1 in
    let m = between c head text d in
    rw (run_again max c v.0 (length v.1) m fits.0 fits.1 fits.2 fits.3 fits.4 (Takes-first c head text d t), items_again (λ c. reading k c) (λ v. spelling k v) (λ v. Fits k v) law v.1 m d fits.5 (Takes-second c head text d t)) refl

-- the discriminant, and the arm that it names
pub record ArmAgain (arms : Arms) (place : ℕ) (c : Cursor) (v : ArmValues arms) (d : Cursor) : Type 0 where
  pub next : Cursor
  pub tag : Takes c (word (tag_of arms v)) next
  pub below : tag_of arms v < 2 ^ 32
  pub read : reading_arm arms place (tag_of arms v) next ≡ Ok (v, d)

again_first : (t : ℕ) (k : Kind) (others : Arms) (place : ℕ) (c : Cursor) (v : Values k) (d : Cursor) → KindAgain k → (t < 2 ^ 32) × Fits k v → Takes c (word t ++ spelling k v) d → ArmAgain (arm t k others) place c (inl v) d
again_first t k others place c v d law fits taken =
    let m = between c (word t) (spelling k v) d in
    record { next = m; tag = Takes-first c (word t) (spelling k v) d taken; below = fits.0; read = rw (eq-eqb t t refl, law m v d fits.1 (Takes-second c (word t) (spelling k v) d taken)) refl }

again_other : (t : ℕ) (k : Kind) (others : Arms) (place : ℕ) (c : Cursor) (v : ArmValues others) (d : Cursor) → ArmAgain others place c v d → tag_of others v ≢ t → ArmAgain (arm t k others) place c (inr v) d
again_other t k others place c v d w ne = record { next = w.next; tag = w.tag; below = w.below; read = rw (ne_eqb (tag_of others v) t ne, w.read) refl }

again_union : (arms : Arms) (c : Cursor) (v : ArmValues arms) (d : Cursor) → ArmAgain arms c.place c v d → reading (union arms) c ≡ Ok (v, d)
again_union arms c v d w = rw (uint32_again c (tag_of arms v) w.next w.below w.tag) w.read

mutual
  pub again : (k : Kind) (c : Cursor) (v : Values k) (d : Cursor) → Fits k v → Takes c (spelling k v) d → reading k c ≡ Ok (v, d)
  again uint32 c v d fits t = uint32_again c v d fits t
  again uint64 c v d fits t = uint64_again c v d fits t
  again (fixed n) c v d fits t = bytes_again n c v d fits t
  again (opaque max) c v d fits t = opaque_again max c v d fits.0 fits.1 t
  again (optional k) c v d fits t = again_optional k (λ x y z p q. again k x y z p q) c v d fits t
  again (array max k) c v d fits t = again_array max k (λ x y z p q. again k x y z p q) c v d fits t
  again (numbered max k) c v d fits t = again_numbered max k (λ x y z p q. again k x y z p q) c v d fits t
  again (both a b) c v d fits t =
      let m = between c (spelling a v.0) (spelling b v.1) d in
      rw (again a c v.0 m fits.0 (Takes-first c (spelling a v.0) (spelling b v.1) d t), again b m v.1 d fits.1 (Takes-second c (spelling a v.0) (spelling b v.1) d t)) refl
  again (union arms) c v d fits t = again_union arms c v d (again_arm arms c.place c v d fits t)
  again (tree levels max head) c v d fits t = read_tree_again (λ x. reading head x) (λ x. spelling head x) (λ x. Fits head x) levels max (λ x y z p q. again head x y z p q) c v d fits t

  pub again_arm : (arms : Arms) (place : ℕ) (c : Cursor) (v : ArmValues arms) (d : Cursor) → ArmFits arms v → Takes c (arm_spelling arms v) d → ArmAgain arms place c v d
  again_arm no_arm place c v d fits t = elim v [ ]
  again_arm (arm tag k others) place c (inl v) d fits t = again_first tag k others place c v d (λ x y z p q. again k x y z p q) fits t
  again_arm (arm tag k others) place c (inr v) d fits t = again_other tag k others place c v d (again_arm others place c v d fits.1 t) fits.0

-- ---- the three laws

guard_ended : {A : Type 0} (b : Bool) (d : Fault) (x y : A) → cond b (Ok x) (Err d) ≡ Ok y → (b ≡ true) × (x ≡ y)
guard_ended true d x y e = (refl, cc)
guard_ended false d x y e = absurd cc

end_found : (c d : Cursor) → read_end c ≡ Ok d → c.rest ≡ []
unfolding read_end
end_found c d e = nil_from_length c.rest (eqb-true _ _ (guard_ended (eqb (length c.rest) 0) (Malformed c.place) c d e).0)

-- what is read is encoded by exactly these bytes
pub whole_found : (k : Kind) (bytes : List ℕ) (v : Values k) → IsBytes bytes → reading_whole k bytes ≡ Ok v → Spells k bytes v
unfolding reading_whole
whole_found k bytes v fits e =
    let a = bind_ok (reading k (start bytes)) (λ x. read_end x.1 >>= λ done. Ok x.0) v e in
    let b = bind_ok (read_end a.0.1) (λ done. Ok a.0.0) v a.2 in
    let t = found k (start bytes) a.0.0 a.0.1 fits a.1 in
    let whole : bytes ≡ spelling k a.0.0 = t.0.parts ∙ ap (λ (r : List ℕ). spelling k a.0.0 ++ r) (end_found a.0.1 b.0 b.1) ∙ append-nil (spelling k a.0.0) in
    subst (λ (w : Values k). Spells k bytes w) (ok_is a.0.0 v b.2) (record { fits = t.1; spelt = whole })

-- what is encoded so is read
pub whole_again : (k : Kind) (bytes : List ℕ) (v : Values k) → Spells k bytes v → reading_whole k bytes ≡ Ok v
unfolding reading_whole read_end
whole_again k bytes v s =
    let d : Cursor = record { place = length (spelling k v); rest = [] } in
    let t : Takes (start bytes) (spelling k v) d = record { parts = s.spelt ∙ sym (append-nil (spelling k v)); place = omega arith } in
    rw (again k (start bytes) v d s.fits t) refl

-- no encoding begins another
pub apart : (k : Kind) (v w : Values k) (x y : List ℕ) → Fits k v → Fits k w → spelling k v ++ x ≡ spelling k w ++ y → (v ≡ w) × (x ≡ y)
apart k v w x y fits others e =
    let c = start (spelling k v ++ x) in
    let d : Cursor = record { place = length (spelling k v); rest = x } in
    let b : Cursor = record { place = length (spelling k w); rest = y } in
    let one = again k c v d fits (record { parts = refl; place = omega arith }) in
    let two = again k c w b others (record { parts = e; place = omega arith }) in
    let same : (v, d) ≡ (w, b) = ok_is (v, d) (w, b) (sym one ∙ two) in
    (ap (λ (p : Values k × Cursor). p.0) same, ap (λ (p : Values k × Cursor). p.1.rest) same)

-- ---- the laws at what a call gave, seen by view

pub gives_found : {X : Type 0} (k : Kind) (view : X → Values k) (bytes : List ℕ) (r : Result X Fault) → IsBytes bytes → Gives view r (reading_whole k bytes) → IfOk r (λ x. Spells k bytes (view x))
gives_found k view bytes (Ok x) fits given = whole_found k bytes (view x) fits given
gives_found k view bytes (Err f) fits given = tt

pub gives_only : {X : Type 0} (k : Kind) (view : X → Values k) (bytes : List ℕ) (r : Result X Fault) (v : Values k) → Spells k bytes v → Gives view r (reading_whole k bytes) → Gives view r (Ok v)
gives_only k view bytes r v s given = subst (λ (x : Result (Values k) Fault). Gives view r x) (whole_again k bytes v s) given

-- ---- written, and read back

pub read_back : (k : Kind) (v : Values k) → Fits k v → reading_whole k (spelling k v) ≡ Ok v
read_back k v fits = whole_again k (spelling k v) v (record { fits = fits; spelt = refl })

pub one_value : (k : Kind) (bytes : List ℕ) (v w : Values k) → Spells k bytes v → Spells k bytes w → v ≡ w
one_value k bytes v w s t = ok_is v w (sym (whole_again k bytes v s) ∙ whole_again k bytes w t)
