-- Answers by cases.
use Rattle.std.proofs.Common.{Option, Some, None}
use Rattle.std.specs.Prelude.{MatchOption, IfSome, IfNone}

pub some_of : {T : Type 0} (P : Type 0) (Q : T → Type 0) (o : Option T) → MatchOption o P Q → IfSome o Q
some_of P Q None h = tt
some_of P Q (Some x) h = h

pub none_of : {T : Type 0} (P : Type 0) (Q : T → Type 0) (o : Option T) → MatchOption o P Q → IfNone o P
none_of P Q None h = h
none_of P Q (Some x) h = tt
