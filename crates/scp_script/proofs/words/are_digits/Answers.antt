use Rattle.std.proofs.Common.{◌≡◌, ◌∙◌, ◌%◌, ℕ, List, false, nat_eq, length, sym, ap, subst, arith}
use Rattle.std.specs.List.{list_all}
use Rattle.hex.specs.Hex.{is_hex_digit}
use Rattle.scp_script.proofs.Digits.{digits_told}
use Rattle.scp_script.proofs.words.are_digits.Goals as goal

pub returns : goal.returns
returns c =
    let same : c.as_bytes-digits.result.now ≡ c.args.word.now = c.as_bytes-digits.ensures.value in
    let some : false ≡ nat_eq (length c.args.word.now) 0 = subst (λ (l : List ℕ). false ≡ nat_eq (length l) 0) same c.if-is_empty.ensures in
    let even : length c.args.word.now % 2 ≡ 0 = subst (λ (l : List ℕ). length l % 2 ≡ 0) same (omega arith) in
    c.all_digits.ensures ∙ ap (list_all is_hex_digit) same ∙ digits_told c.args.word.now (sym c.if-eq.ensures) some even
