-- Reading items one after the other, as a loop does.
use Rattle.std.proofs.Common.{◌≡◌, ℕ, suc, ◌-◌, ◌+◌, ◌≤◌, ◌<◌, List, [], ◌∷◌, ◌++◌, Result, Ok, Err, refl, sym, ap, ◌∙◌, append_assoc, arith}
use Rattle.std.proofs.lemmas.List.{append-nil}
use Rattle.scp_types.specs.declared.fault.Fault.{Fault}
use Rattle.scp_xdr.specs.Reading.{Cursor, Read, ◌>>=◌, read_items}
use Rattle.scp_xdr.specs.Passing.{pass_items}

-- what was read before, and what is still read
abbrev pub with_front : {X : Type 0} → List X → Read (List X) → Read (List X)
with_front front read = read >>= λ x. Ok (front ++ x.0, x.1)

regroup : {X : Type 0} (front : List X) (x : X) (read : Read (List X)) → with_front front (read >>= λ y. Ok (x ∷ y.0, y.1)) ≡ with_front (front ++ x ∷ []) read
regroup {X} front x (Ok y) = ap (λ (xs : List X). Ok (xs, y.1)) (simp append_assoc)
regroup front x (Err f) = refl

pub goes_on : {X : Type 0} (item : Cursor → Read X) (front : List X) (count i : ℕ) (c : Cursor) (x : X) (d : Cursor) (total : Read (List X)) → i < count → item c ≡ Ok (x, d)
    → with_front front (read_items item (count - i) c) ≡ total → with_front (front ++ x ∷ []) (read_items item (count - (i + 1)) d) ≡ total
unfolding read_items
goes_on item front count i c x d total lt h so_far =
    let k : count - i ≡ suc (count - (i + 1)) = omega arith in
    let one : with_front front (read_items item (count - i) c) ≡ with_front (front ++ x ∷ []) (read_items item (count - (i + 1)) d) = rw (k, h) (regroup front x (read_items item (count - (i + 1)) d)) in
    sym one ∙ so_far

pub ends : {X : Type 0} (item : Cursor → Read X) (front : List X) (count i : ℕ) (c : Cursor) (f : Fault) (total : Read (List X)) → i < count → item c ≡ Err f
    → with_front front (read_items item (count - i) c) ≡ total → total ≡ Err f
unfolding read_items
ends item front count i c f total lt h so_far =
    let k : count - i ≡ suc (count - (i + 1)) = omega arith in
    let one : with_front front (read_items item (count - i) c) ≡ Err f = rw (k, h) refl in
    sym so_far ∙ one

pub is_done : {X : Type 0} (item : Cursor → Read X) (front : List X) (count i : ℕ) (c : Cursor) (total : Read (List X)) → count ≤ i → with_front front (read_items item (count - i) c) ≡ total → total ≡ Ok (front, c)
unfolding read_items
is_done {X} item front count i c total le so_far =
    let k : count - i ≡ 0 = omega arith in
    let one : with_front front (read_items item (count - i) c) ≡ Ok (front, c) = rw k (ap (λ (xs : List X). Ok (xs, c)) (append-nil front)) in
    sym so_far ∙ one

pub begins : {X : Type 0} (item : Cursor → Read X) (count : ℕ) (c : Cursor) → with_front [] (read_items item (count - 0) c) ≡ read_items item count c
begins item count c =
    let k : count - 0 ≡ count = omega arith in
    rw k (nothing (read_items item count c))
  where
    nothing : {Y : Type 0} (read : Read (List Y)) → with_front [] read ≡ read
    nothing (Ok y) = refl
    nothing (Err f) = refl

-- ---- passing over items, as a loop does

pub pass_begins : (item : Cursor → Result Cursor Fault) (count : ℕ) (c : Cursor) → pass_items item (count - 0) c ≡ pass_items item count c
pass_begins item count c = let k : count - 0 ≡ count = omega arith in ap (λ (n : ℕ). pass_items item n c) k

pub pass_goes_on : (item : Cursor → Result Cursor Fault) (count i : ℕ) (c d : Cursor) (total : Result Cursor Fault) → i < count → item c ≡ Ok d → pass_items item (count - i) c ≡ total → pass_items item (count - (i + 1)) d ≡ total
unfolding pass_items
pass_goes_on item count i c d total lt h so_far =
    let k : count - i ≡ suc (count - (i + 1)) = omega arith in
    let one : pass_items item (count - i) c ≡ pass_items item (count - (i + 1)) d = rw (k, h) refl in
    sym one ∙ so_far

pub pass_ends : (item : Cursor → Result Cursor Fault) (count i : ℕ) (c : Cursor) (f : Fault) (total : Result Cursor Fault) → i < count → item c ≡ Err f → pass_items item (count - i) c ≡ total → total ≡ Err f
unfolding pass_items
pass_ends item count i c f total lt h so_far =
    let k : count - i ≡ suc (count - (i + 1)) = omega arith in
    let one : pass_items item (count - i) c ≡ Err f = rw (k, h) refl in
    sym so_far ∙ one

pub pass_is_done : (item : Cursor → Result Cursor Fault) (count i : ℕ) (c : Cursor) (total : Result Cursor Fault) → count ≤ i → pass_items item (count - i) c ≡ total → total ≡ Ok c
unfolding pass_items
pass_is_done item count i c total le so_far =
    let k : count - i ≡ 0 = omega arith in
    let one : pass_items item (count - i) c ≡ Ok c = rw k refl in
    sym so_far ∙ one
