-- Going over a file, the lines of slots are read.
use Rattle.std.proofs.Common.{◌≡◌, ◌≤◌, ◌<◌, ◌+◌, ◌-◌, ◌^◌, ℕ, suc, List, [], ◌∷◌, ◌++◌, length, take, drop, sym, ◌∙◌, ap, subst, refl, arith, append_assoc, length-append}
use Rattle.std.specs.List.{AllByRecursion}
use Rattle.std.proofs.lemmas.List.{append-nil, drop_at, take_at}
use Rattle.hex.specs.Hex.{IsBytes}
use Rattle.scp_live_head.specs.Head.{NotAtFront}
use Rattle.scp_live_head.specs.Applied.{slot_line, lines_from, IsKeptBelow}
use Rattle.scp_live_head.specs.inside.Lines.{IsFrom}

-- the lines of these slots were read; this is the next one, and these bytes are left
pub record IsWalking (slot first : ℕ) (file : List ℕ) (next : ℕ) (rest : List ℕ) : Type 0 where
  pub values : List (List ℕ)
  pub splits : file ≡ lines_from slot values ++ rest
  pub at : next ≡ slot + length values
  pub are : AllByRecursion IsBytes values
  pub below : next ≤ first

pub walk_start : (slot first : ℕ) (file : List ℕ) → slot ≤ first → IsWalking slot first file slot file
walk_start slot first file le = record { values = []; splits = refl; at = omega arith; are = tt; below = le }

both : (a b : List (List ℕ)) → AllByRecursion IsBytes a → AllByRecursion IsBytes b → AllByRecursion IsBytes (a ++ b)
both [] b h k = k
both (x ∷ a) b h k = (h.0, both a b h.1 k)

lines_more : (slot : ℕ) (values : List (List ℕ)) (value : List ℕ) → lines_from slot (values ++ value ∷ []) ≡ lines_from slot values ++ slot_line (slot + length values) value
lines_more slot [] value = append-nil (slot_line slot value) ∙ ap (λ (n : ℕ). slot_line n value) (let e : slot ≡ slot + 0 = omega arith in e)
lines_more slot (v ∷ values) value =
    ap (λ (l : List ℕ). slot_line slot v ++ l) (lines_more (suc slot) values value ∙ ap (λ (n : ℕ). lines_from (suc slot) values ++ slot_line n value) (let e : suc slot + length values ≡ slot + length (v ∷ values) = omega arith in e))
    ∙ sym (append_assoc (slot_line slot v) (lines_from (suc slot) values) (slot_line (slot + length (v ∷ values)) value))

pub walk_more : (slot first : ℕ) (file : List ℕ) (next after : ℕ) (rest more : List ℕ) → next < first → after ≡ next + 1 → (value : List ℕ) × IsBytes value × (rest ≡ slot_line next value ++ more) → IsWalking slot first file next rest → IsWalking slot first file after more
walk_more slot first file next after rest more lt is line w = record {
  values = w.values ++ line.0 ∷ [];
  splits =
      w.splits ∙ ap (λ (l : List ℕ). lines_from slot w.values ++ l) line.2
      ∙ sym (append_assoc (lines_from slot w.values) (slot_line next line.0) more)
      ∙ ap (λ (l : List ℕ). l ++ more) (ap (λ (n : ℕ). lines_from slot w.values ++ slot_line n line.0) w.at ∙ sym (lines_more slot w.values line.0));
  at = omega (arith, is, w.at, length-append w.values (line.0 ∷ []));
  are = both w.values (line.0 ∷ []) w.are (line.1, tt);
  below = omega (arith, is, lt);
}

pub walk_end : (slot first : ℕ) (file : List ℕ) (next : ℕ) (rest : List ℕ) (size : ℕ) → size ≡ length file - length rest → (next < first → (value : List ℕ) → IsBytes value → NotAtFront (slot_line next value) rest) → IsWalking slot first file next rest → IsFrom slot first file size
walk_end slot first file next rest size is none w =
    let long : length file ≡ length (lines_from slot w.values) + length rest = ap length w.splits ∙ length-append (lines_from slot w.values) rest in
    let front : size ≡ length (lines_from slot w.values) = omega (arith, is, long) in
    let back : drop size file ≡ rest = ap (drop size) w.splits ∙ drop_at (lines_from slot w.values) rest size (sym front) in
    record {
      values = w.values;
      splits = w.splits ∙ ap (λ (l : List ℕ). lines_from slot w.values ++ l) (sym back);
      long = sym front;
      are = w.are;
      below = omega (arith, w.at, w.below);
      no_more = λ lt value isb. subst (λ (n : ℕ). NotAtFront (slot_line n value) (drop size file)) w.at (subst (NotAtFront (slot_line next value)) (sym back) (none (omega (arith, lt, w.at)) value isb));
    }

pub size_within : (file rest : List ℕ) (slot first next size : ℕ) → size ≡ length file - length rest → IsWalking slot first file next rest → size ≤ length file
size_within file rest slot first next size is w = omega (arith, is)

-- the line at the front of a file is of one slot
abbrev pub IsOfSlot : ℕ → List ℕ → Type 0
IsOfSlot slot file = (other : ℕ) (value rest : List ℕ) → other < 2 ^ 64 → file ≡ slot_line other value ++ rest → slot ≡ other

-- all lines that are there are kept
pub kept_from : (slot first : ℕ) (file : List ℕ) (size : ℕ) → first < 2 ^ 64 → IsOfSlot slot file → IsFrom slot first file size → IsKeptBelow first file (take size file)
kept_from slot first file size small same f = record {
  slot = slot;
  values = f.values;
  rest = drop size file;
  splits = f.splits ∙ ap (λ (l : List ℕ). l ++ drop size file) (sym kept);
  lines = kept;
  are = f.are;
  below = f.below;
  no_more = λ value isb lt. f.no_more lt value isb;
  none = λ nothing other value lt isb rest e.
      let is : slot ≡ other = same other value rest (omega (arith, small, lt)) e in
      let empty : size ≡ 0 = sym f.long ∙ ap (λ (vs : List (List ℕ)). length (lines_from slot vs)) nothing in
      let at : slot + length f.values ≡ other = omega (arith, ap length nothing, is) in
      f.no_more (omega (arith, at, lt)) value isb rest (ap (λ (n : ℕ). drop n file) empty ∙ e ∙ ap (λ (n : ℕ). slot_line n value ++ rest) (sym at));
}
  where
    kept : take size file ≡ lines_from slot f.values
    kept = ap (take size) f.splits ∙ take_at (lines_from slot f.values) (drop size file) size f.long

-- nothing is, where no line of a slot below is there
pub kept_none : (first : ℕ) (file : List ℕ) → ((other : ℕ) (value : List ℕ) → other < first → IsBytes value → NotAtFront (slot_line other value) file) → IsKeptBelow first file (take 0 file)
kept_none first file none = record {
  slot = first;
  values = [];
  rest = file;
  splits = refl;
  lines = refl;
  are = tt;
  below = omega arith;
  no_more = λ value isb lt. absurd (omega (arith, lt));
  none = λ nothing. none;
}
