use Rattle.std.proofs.Common.{List, ℕ, sym, subst}
use Rattle.std.specs.Fmt.{decimal}
use Rattle.std.specs.Str.{IsUtf8}
use Rattle.std.proofs.lemmas.Str.{IsUtf8-from_ascii}
use Rattle.std.proofs.lemmas.Fmt.{IsAscii-decimal}
use Rattle.scp_live_head.proofs.words.number_of.Goals as goal

pub returns-in_default : goal.returns-in_default
returns-in_default c n small is =
    let P : List ℕ → Type 0 = λ w. IsUtf8 w in
    absurd (c.in_default.ensures.cases.0 (subst P (sym is) (IsUtf8-from_ascii (decimal n) (IsAscii-decimal n small))))
