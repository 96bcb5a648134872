-- Two values of which one isn't there.
use Rattle.std.proofs.Common.{◌≡◌, ℕ, false, List, Option, Some, None, refl}
use Rattle.scp_draw_marks.specs.Looks.{are_other}

pub none_other : (a : Option (List ℕ)) → are_other a None ≡ false
none_other None = refl
none_other (Some a) = refl
