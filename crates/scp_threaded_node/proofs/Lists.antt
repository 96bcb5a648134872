-- The ends of producers.
use Rattle.std.proofs.Common.{◌≡◌, ◌∙◌, ap, sym, List, [], ◌∷◌, ◌++◌, length, arith}
use Rattle.std.specs.Prelude.{slice_get}
use Rattle.std.proofs.lemmas.List.{length-append}
use Rattle.scp_gather.specs.scp_ends.specs.Ends.{Line, Sender, AreFresh, fresh}
use Rattle.scp_gather.specs.scp_shared_outbox.proofs.Each.{get_behind}
use Rattle.scp_gather.specs.scp_shared_outbox.proofs.ListsOfAll.{some_is, get_left}

module _ {T : Type 0} where
  -- the ends of producers 0, 1, 2, .., without the last, and the last
  pub fresh_front : (line : Line T) (rest whole : List (Sender T)) (last : Sender T) → whole ≡ rest ++ last ∷ [] → AreFresh line whole → AreFresh line rest
  fresh_front line rest whole last is all i lt = sym (get_left rest last i lt) ∙ sym (ap (λ l. slice_get l i) is) ∙ all i (omega (arith, ap length is, length-append rest (last ∷ []), lt))

  pub fresh_last : (line : Line T) (rest whole : List (Sender T)) (last : Sender T) → whole ≡ rest ++ last ∷ [] → AreFresh line whole → last ≡ fresh line (length rest)
  fresh_last line rest whole last is all = some_is last (fresh line (length rest)) (sym (get_behind rest last) ∙ sym (ap (λ l. slice_get l (length rest)) is) ∙ all (length rest) (omega (arith, ap length is, length-append rest (last ∷ []))))
