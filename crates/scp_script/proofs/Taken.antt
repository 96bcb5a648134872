-- Words that are taken from what parts a line, as far as there is room.
use Rattle.std.proofs.Common.{◌≡◌, ◌<◌, List, length, map, Option, Some, None, refl, ◌∙◌, ap, arith}
use Rattle.std.specs.Iterator.{YieldsThen, Drains}
use Rattle.std.proofs.lemmas.Iterator.{YieldsList}
use Rattle.std.proofs.lemmas.Iterator.Consumers.{YieldsList-turn, YieldsList-end}

module _ {S A B : Type 0} {steps : S → Option A → S → Type 0} {v : A → B} {s : S} {all : List B} where
  -- what was taken is all
  pub all_taken : YieldsList steps v s all → (taken items : List A) → Drains steps s taken → items ≡ taken → map v items ≡ all
  all_taken road taken items d e = ap (map v) e ∙ (YieldsList-end road taken d.1.0 d.1.1 None d.0 refl d.1.2).0

  -- there is one more
  pub one_more : YieldsList steps v s all → (taken items : List A) (x : A) (rest : S) → YieldsThen steps s taken (Some x) rest → items ≡ taken → length items < length all
  one_more road taken items x rest y e =
      let more : length taken < length all = (YieldsList-turn road taken y.0 y.1 (Some x) rest x refl y.2).0 in
      let same : length items ≡ length taken = ap length e in
      omega (arith, more, same)
