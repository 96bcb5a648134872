use Rattle.std.proofs.Common.{◌≡◌, ◌∙◌, ℕ, List, [], ◌++◌, take, drop, string_bytes, sym, ap, append_assoc, append-nil, rules, arith}
use Rattle.std.proofs.lemmas.Grind.{common_steps}
use Rattle.scp_strkey.specs.Base32.{letters_of, base32}
use Rattle.scp_strkey.proofs.Letters.{base32_more, base32_none}
use Rattle.scp_strkey.proofs.base32.write_base32.Goals as goal

pub loop-rest-preserved : goal.loop-rest-preserved
loop-rest-preserved c =
    let xs = c.loop-rest.rest.now in
    let text = string_bytes c.loop-rest.text in
    let first : string_bytes c.write_five.new.text ≡ text ++ letters_of (take 5 xs) = first_of (search rules, grind (arith, common_steps)) in
    let more : base32 xs ≡ letters_of (take 5 xs) ++ base32 (drop 5 xs) = base32_more xs (omega arith) in
    let joined : string_bytes c.write_five.new.text ++ base32 (drop 5 xs) ≡ text ++ base32 xs = ap (λ (l : List ℕ). l ++ base32 (drop 5 xs)) first ∙ append_assoc text (letters_of (take 5 xs)) (base32 (drop 5 xs)) ∙ ap (λ (l : List ℕ). text ++ l) (sym more) in
    first_of (cc, grind (arith, common_steps), search rules)

pub returns : goal.returns
returns c =
    let none : base32 c.loop-rest.rest.now ≡ [] = base32_none c.loop-rest.rest.now (omega arith) in
    sym (append-nil (string_bytes c.loop-rest.text)) ∙ ap (λ (l : List ℕ). string_bytes c.loop-rest.text ++ l) (sym none) ∙ c.loop-rest.invariant
