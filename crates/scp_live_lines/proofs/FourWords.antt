-- Words that are taken from what parts a line, as far as there is room.
use Rattle.std.proofs.Common.{◌≡◌, List, length, map, take, Option, Some, None, refl, ◌∙◌, ap}
use Rattle.std.specs.Iterator.{YieldsThen, Drains}
use Rattle.std.proofs.lemmas.Iterator.{YieldsList}
use Rattle.std.proofs.lemmas.Iterator.Consumers.{YieldsList-so_far, YieldsList-end}

module _ {S A B : Type 0} {steps : S → Option A → S → Type 0} {v : A → B} {s : S} {all : List B} where
  -- what was taken is all
  pub all_taken : YieldsList steps v s all → (taken items : List A) → Drains steps s taken → items ≡ taken → map v items ≡ all
  all_taken road taken items d e = ap (map v) e ∙ (YieldsList-end road taken d.1.0 d.1.1 None d.0 refl d.1.2).0

  -- what was taken is the first four
  pub four_taken : YieldsList steps v s all → (taken items : List A) (x : A) (rest : S) → YieldsThen steps s taken (Some x) rest → items ≡ taken → length items ≡ 4 → map v items ≡ take 4 all
  four_taken road taken items x rest y e four =
      ap (map v) e ∙ YieldsList-so_far road taken y.0 y.1 ∙ ap (λ n. take n all) (sym_length e ∙ four)
    where
      sym_length : items ≡ taken → length taken ≡ length items
      sym_length e = cc
