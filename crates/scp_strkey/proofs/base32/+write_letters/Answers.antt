use Rattle.std.proofs.Common.{◌≡◌, ◌∙◌, ◌-◌, ◌/◌, ◌%◌, ◌<◌, ℕ, List, [], ◌∷◌, ◌++◌, string_bytes, sym, ap, append_assoc, rules, arith}
use Rattle.std.proofs.lemmas.Result.{on_ok_weaker}
use Rattle.scp_strkey.specs.Base32.{letter, letters}
use Rattle.scp_strkey.proofs.Letters.{letters_more}
use Rattle.scp_strkey.proofs.base32.+write_letters.Goals as goal

pub returns : goal.returns
returns t c =
    let count = c.args.count in
    let number = c.args.number in
    let some : 0 < count = first_of (omega arith, search rules) in
    on_ok_weaker c.write_letter.result
    (λ (e : string_bytes c.write_letter.new.text ≡ string_bytes c.write_letters.new.text ++ letter (number % 32) ∷ []).
    e
    ∙ ap (λ (l : List ℕ). l ++ letter (number % 32) ∷ []) c.in_ok-write_letters.ensures
    ∙ append_assoc (string_bytes c.args.text.now) (letters (count - 1) (number / 32)) (letter (number % 32) ∷ [])
    ∙ ap (λ (l : List ℕ). string_bytes c.args.text.now ++ l) (sym (letters_more count number some)))
    c.write_letter.ensures
