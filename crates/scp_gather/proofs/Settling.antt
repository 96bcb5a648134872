-- Where no stage failed.
use Rattle.std.proofs.Common.{◌≡◌, Bool, true, false, ◌||◌, not, List, [], ◌∷◌, refl}
use Rattle.std.specs.Prelude.{None}
use Rattle.std.specs.List.{list_any, AllByRecursion}
use Rattle.scp_workers.specs.Reading.{ReaderEnd}
use Rattle.scp_gather.specs.Left.{Left}
use Rattle.scp_gather.specs.Report.{first_so, first_failed, has_failed}

none_so : (r p s a : Bool) → first_so r p s a ≡ None → (r ≡ false) × (p ≡ false) × (s ≡ false) × (a ≡ false)
none_so true p s a e = absurd cc
none_so false true s a e = absurd cc
none_so false false true a e = absurd cc
none_so false false false true e = absurd cc
none_so false false false false e = (refl, refl, refl, refl)

no_first : (a b : Bool) → (a || b) ≡ false → (a ≡ false) × (b ≡ false)
no_first true b e = absurd cc
no_first false b e = (refl, e)

is_well : (b : Bool) → not b ≡ false → b ≡ true
is_well true e = refl
is_well false e = absurd cc

all_well : (rs : List ReaderEnd) → list_any has_failed rs ≡ false → AllByRecursion (λ r. r.well ≡ true) rs
all_well [] e = tt
all_well (r ∷ rs) e = let h = no_first (has_failed r) (list_any has_failed rs) e in (is_well r.well h.0, all_well rs h.1)

module _ {D : Type 0} where
  pub record AllWell (e : Left D) : Type 0 where
    pub readers : AllByRecursion (λ r. r.well ≡ true) e.readers
    pub pend : e.pend.well ≡ true
    pub slot : e.slot.well ≡ true
    pub apply : e.apply.well ≡ true

  pub none_failed : (e : Left D) → first_failed e ≡ None → AllWell e
  none_failed e n =
      let h = none_so (list_any has_failed e.readers) (has_failed e.pend) (has_failed e.slot) (has_failed e.apply) n in
      record {
        readers = all_well e.readers h.0;
        pend = is_well e.pend.well h.1;
        slot = is_well e.slot.well h.2;
        apply = is_well e.apply.well h.3;
      }
