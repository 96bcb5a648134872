-- Texts as lines.
use Rattle.std.proofs.Common.{◌≡◌, ◌≤◌, ◌<◌, ◌+◌, ◌-◌, ℕ, zero, suc, min, List, [], ◌∷◌, ◌++◌, Option, None, Some, length, take, drop, map, flat_map, refl, sym, ◌∙◌, ap, subst, arith, append_assoc}
use Rattle.scp_live_log.specs.scp_device.specs.Device.{Loses}
use Rattle.std.proofs.lemmas.List.{append-nil, map-append, take_min, length-take}
use Rattle.std.proofs.lemmas.Grind.{flat_map-append}
use Rattle.std.proofs.Math.Seq.{take-append-add}
use Rattle.std.specs.List.{AllByRecursion}
use Rattle.scp_live_log.specs.Log.{IsLine}
use Rattle.scp_batches.specs.declared.line.TheConstants.{LINE_LIMIT}
use Rattle.scp_batches.specs.Lines.{Gives, GivesMore, IsSplitInOneWay, front_of}
use Rattle.scp_batches.specs.inside.Held.{IsHeld, EndsAt}

-- where something was read, something was left
pub was_left : (left rest : Option (List ℕ)) (bytes : List ℕ) → 0 < length bytes → Loses left bytes rest → left ≡ Some [] → ⊥
was_left None rest bytes some read is = absurd (let e : None ≡ Some [] = is in cc)
was_left (Some all) rest [] some read is = absurd (let h : 0 < 0 = some in omega arith)
was_left (Some all) rest (byte ∷ bytes) some read is =
    let same : all ≡ [] = cc in
    let none : byte ∷ (bytes ++ read.0) ≡ [] = sym read.1 ∙ same in
    cc

-- two fronts make a front
take_more : (n : ℕ) (a b : List ℕ) → take n (take n a ++ b) ≡ take n (a ++ b)
take_more zero a b = refl
take_more (suc n) [] b = refl
take_more (suc n) (k ∷ a) b = ap (λ (l : List ℕ). k ∷ l) (take_more n a b)

pub line_append : (a b : List ℕ) → IsLine a → IsLine b → IsLine (a ++ b)
line_append [] b la lb = lb
line_append (k ∷ a) b la lb = (la.0, line_append a b la.1 lb)

line_take : (n : ℕ) (a : List ℕ) → IsLine a → IsLine (take n a)
line_take zero a la = tt
line_take (suc n) [] la = tt
line_take (suc n) (k ∷ a) la = (la.0, line_take n a la.1)

-- what is held with more bytes is held as well
pub held_more : (held bytes now : List ℕ) → IsLine held → IsLine bytes → now ≡ front_of (held ++ bytes) → IsHeld now
held_more held bytes now lh lb is = record {
  line = subst IsLine (sym is) (line_take (LINE_LIMIT + 1) (held ++ bytes) (line_append held bytes lh lb));
  few = omega (arith, ap length is, length-take (LINE_LIMIT + 1) (held ++ bytes));
}

-- as many bytes as there is room for make the front
pub front_added : (a b : List ℕ) (n count : ℕ) → length a ≤ n → count ≡ min (n - length a) (length b) → a ++ take count b ≡ take n (a ++ b)
front_added a b n count le is =
    let room : length a + (n - length a) ≡ n = omega (arith, le) in
    ap (λ (k : ℕ). a ++ take k b) is ∙ ap (λ (l : List ℕ). a ++ l) (take_min (n - length a) b)
    ∙ sym (take-append-add a b (n - length a)) ∙ ap (λ (k : ℕ). take k (a ++ b)) room

each_more : (lines more : List (List ℕ)) → AllByRecursion IsLine lines → AllByRecursion IsLine more → AllByRecursion IsLine (lines ++ more)
each_more [] more h k = k
each_more (l ∷ lines) more h k = (h.0, each_more lines more h.1 k)

-- the rest ends
pub rest_ends : (text : List ℕ) (given : List (List ℕ)) (held bytes now : List ℕ) → Gives text given held → IsLine bytes → now ≡ [] → Gives (text ++ (bytes ++ 10 ∷ [])) (given ++ front_of (held ++ bytes) ∷ []) now
rest_ends text given held bytes now g line none =
    let f : List ℕ → List ℕ = λ l. l ++ 10 ∷ [] in
    let behind : g.rest ++ (bytes ++ 10 ∷ []) ≡ flat_map f ((g.rest ++ bytes) ∷ []) = sym (append_assoc g.rest bytes (10 ∷ [])) ∙ sym (append-nil ((g.rest ++ bytes) ++ 10 ∷ [])) in
    record {
      lines = g.lines ++ (g.rest ++ bytes) ∷ [];
      rest = [];
      split = record {
        whole = ap (λ (l : List ℕ). l ++ (bytes ++ 10 ∷ [])) g.split.whole ∙ append_assoc (flat_map f g.lines) g.rest (bytes ++ 10 ∷ [])
            ∙ ap (λ (l : List ℕ). flat_map f g.lines ++ l) behind ∙ sym (flat_map-append f g.lines ((g.rest ++ bytes) ∷ [])) ∙ sym (append-nil (flat_map f (g.lines ++ (g.rest ++ bytes) ∷ [])));
        each = each_more g.lines ((g.rest ++ bytes) ∷ []) g.split.each (line_append g.rest bytes g.split.last line, tt);
        last = tt;
      };
      fronts = ap (λ (ls : List (List ℕ)). ls ++ front_of (held ++ bytes) ∷ []) g.fronts ∙ ap (λ (l : List ℕ). map front_of g.lines ++ l ∷ []) (front_more held g.rest bytes g.front)
          ∙ sym (map-append front_of g.lines ((g.rest ++ bytes) ∷ []));
      front = none;
    }
  where
    front_more : (held rest bytes : List ℕ) → held ≡ front_of rest → front_of (held ++ bytes) ≡ front_of (rest ++ bytes)
    front_more held rest bytes is = ap (λ (l : List ℕ). front_of (l ++ bytes)) is ∙ take_more (LINE_LIMIT + 1) rest bytes

-- the rest goes on
pub rest_grows : (text : List ℕ) (given : List (List ℕ)) (held bytes now : List ℕ) → Gives text given held → IsLine bytes → now ≡ front_of (held ++ bytes) → Gives (text ++ bytes) given now
rest_grows text given held bytes now g line is =
    let f : List ℕ → List ℕ = λ l. l ++ 10 ∷ [] in
    record {
      lines = g.lines;
      rest = g.rest ++ bytes;
      split = record {
        whole = ap (λ (l : List ℕ). l ++ bytes) g.split.whole ∙ append_assoc (flat_map f g.lines) g.rest bytes;
        each = g.split.each;
        last = line_append g.rest bytes g.split.last line;
      };
      fronts = g.fronts;
      front = is ∙ ap (λ (l : List ℕ). front_of (l ++ bytes)) g.front ∙ take_more (LINE_LIMIT + 1) g.rest bytes;
    }

-- of these bytes the last ones are left, and behind those before them these lines were given
pub record IsFed (old bytes left : List ℕ) (more : List (List ℕ)) (now : List ℕ) : Type 0 where
  pub taken : List ℕ
  pub splits : bytes ≡ taken ++ left
  pub gives : GivesMore old taken more now
  pub held : IsHeld now

pub fed_none : (old bytes : List ℕ) (more : List (List ℕ)) → IsHeld old → more ≡ [] → IsFed old bytes bytes more old
fed_none old bytes more held none = record {
  taken = [];
  splits = refl;
  gives = λ text given g. subst (λ (ls : List (List ℕ)). Gives (text ++ []) ls old) (sym (ap (λ (ls : List (List ℕ)). given ++ ls) none ∙ append-nil given)) (subst (λ (l : List ℕ). Gives l given old) (sym (append-nil text)) g);
  held = held;
}

pub fed_line : (old bytes left : List ℕ) (more : List (List ℕ)) (held now line next : List ℕ) (all : List (List ℕ)) (n : ℕ) → IsFed old bytes left more held → EndsAt n left → line ≡ front_of (held ++ take n left) → now ≡ [] → all ≡ more ++ line ∷ [] → next ≡ drop (n + 1) left → IsHeld now → IsFed old bytes next all now
fed_line old bytes left more held now line next all n fed ends is none grown behind few = record {
  taken = fed.taken ++ (take n left ++ 10 ∷ []);
  splits = fed.splits ∙ ap (λ (l : List ℕ). fed.taken ++ l) (ends.splits ∙ ap (λ (l : List ℕ). take n left ++ 10 ∷ l) (sym behind) ∙ sym (append_assoc (take n left) (10 ∷ []) next)) ∙ sym (append_assoc fed.taken (take n left ++ 10 ∷ []) next);
  gives = λ text given g.
      let step = rest_ends (text ++ fed.taken) (given ++ more) held (take n left) now (fed.gives text given g) ends.line none in
      let lines : (given ++ more) ++ front_of (held ++ take n left) ∷ [] ≡ given ++ all = append_assoc given more (front_of (held ++ take n left) ∷ []) ∙ ap (λ (l : List ℕ). given ++ (more ++ l ∷ [])) (sym is) ∙ ap (λ (ls : List (List ℕ)). given ++ ls) (sym grown) in
      subst (λ (l : List ℕ). Gives l (given ++ all) now) (append_assoc text fed.taken (take n left ++ 10 ∷ []))
      (subst (λ (ls : List (List ℕ)). Gives ((text ++ fed.taken) ++ (take n left ++ 10 ∷ [])) ls now) lines step);
  held = few;
}

pub fed_all : (old bytes left : List ℕ) (more : List (List ℕ)) (held now : List ℕ) → IsFed old bytes left more held → IsLine left → now ≡ front_of (held ++ left) → GivesMore old bytes more now
fed_all old bytes left more held now fed line is text given g =
    let step = rest_grows (text ++ fed.taken) (given ++ more) held left now (fed.gives text given g) line is in
    subst (λ (l : List ℕ). Gives l (given ++ more) now) (append_assoc text fed.taken left ∙ ap (λ (l : List ℕ). text ++ l) (sym fed.splits)) step

-- nothing was read
pub none_given : (held : List ℕ) → held ≡ [] → Gives [] [] held
none_given held none = record { lines = []; rest = []; split = record { whole = refl; each = tt; last = tt }; fronts = refl; front = none }

-- ---- a text is split in one way

line_ends : (a b x : List ℕ) → IsLine a → a ≡ b ++ 10 ∷ x → ⊥
line_ends [] [] x line is = absurd (let h : [] ≡ 10 ∷ x = is in cc)
line_ends [] (k ∷ b) x line is = absurd cc
line_ends (j ∷ a) [] x line is = absurd (line.0 (let h : j ≡ 10 = cc in h))
line_ends (j ∷ a) (k ∷ b) x line is = line_ends a b x line.1 (let h : a ≡ b ++ 10 ∷ x = cc in h)

apart : (a b x y : List ℕ) → IsLine a → IsLine b → a ++ 10 ∷ x ≡ b ++ 10 ∷ y → (a ≡ b) × (x ≡ y)
apart [] [] x y la lb e = (refl, cc)
apart [] (k ∷ b) x y la lb e = absurd (lb.0 (let h : k ≡ 10 = cc in h))
apart (j ∷ a) [] x y la lb e = absurd (la.0 (let h : j ≡ 10 = cc in h))
apart (j ∷ a) (k ∷ b) x y la lb e =
    let head : j ≡ k = cc in
    let tail : a ++ 10 ∷ x ≡ b ++ 10 ∷ y = cc in
    let rest = apart a b x y la.1 lb.1 tail in
    (ap (λ (h : ℕ). h ∷ a) head ∙ ap (λ (l : List ℕ). k ∷ l) rest.0, rest.1)

first_of : (line : List ℕ) (lines : List (List ℕ)) (rest : List ℕ) → flat_map (λ l. l ++ 10 ∷ []) (line ∷ lines) ++ rest ≡ line ++ 10 ∷ (flat_map (λ l. l ++ 10 ∷ []) lines ++ rest)
first_of line lines rest =
    let all = flat_map (λ (l : List ℕ). l ++ 10 ∷ []) lines in
    append_assoc (line ++ 10 ∷ []) all rest ∙ append_assoc line (10 ∷ []) (all ++ rest)

one_way : (lines others : List (List ℕ)) (rest other : List ℕ) → AllByRecursion IsLine lines → AllByRecursion IsLine others → IsLine rest → IsLine other
    → flat_map (λ l. l ++ 10 ∷ []) lines ++ rest ≡ flat_map (λ l. l ++ 10 ∷ []) others ++ other → (lines ≡ others) × (rest ≡ other)
one_way [] [] rest other h k lr lo is = (refl, is)
one_way [] (o ∷ others) rest other h k lr lo is = absurd (line_ends rest o (flat_map (λ l. l ++ 10 ∷ []) others ++ other) lr (is ∙ first_of o others other))
one_way (l ∷ lines) [] rest other h k lr lo is = absurd (line_ends other l (flat_map (λ l. l ++ 10 ∷ []) lines ++ rest) lo (sym is ∙ first_of l lines rest))
one_way (l ∷ lines) (o ∷ others) rest other h k lr lo is =
    let both = sym (first_of l lines rest) ∙ is ∙ first_of o others other in
    let head = apart l o (flat_map (λ l. l ++ 10 ∷ []) lines ++ rest) (flat_map (λ l. l ++ 10 ∷ []) others ++ other) h.0 k.0 both in
    let tail = one_way lines others rest other h.1 k.1 lr lo head.1 in
    (ap (λ (x : List ℕ). x ∷ lines) head.0 ∙ ap (λ (xs : List (List ℕ)). o ∷ xs) tail.0, tail.1)

pub split_one_way : IsSplitInOneWay
split_one_way text lines others rest other a b = one_way lines others rest other a.each b.each a.last b.last (sym a.whole ∙ b.whole)
