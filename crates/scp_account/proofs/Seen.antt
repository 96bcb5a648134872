-- What holds of all that is seen.
use Rattle.std.proofs.Common.{◌≡◌, ℕ, List, length, map, sym, subst, arith}
use Rattle.std.specs.Prelude.{All}
use Rattle.std.proofs.lemmas.List.{get_or-map, length-map}

pub all_seen : {X Y : Type 0} (P : Y → Type 0) (see : X → Y) (xs : List X) → All P (map see xs) → All (λ x. P (see x)) xs
all_seen {X} {Y} P see xs all = λ k d within. subst P (get_or-map see xs k d (see d) within) (all k (see d) (omega (arith, within, length-map xs see)))
