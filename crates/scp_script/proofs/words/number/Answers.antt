use Rattle.std.proofs.Common.{◌≡◌, Ok, ap, sym, ◌∙◌, false, nat_eq, arith}
use Rattle.std.specs.Cmp.Lexicographic.{pointwise, bytes_decides}
use Rattle.std.proofs.lemmas.Cmp.{nat_list_eq_equiv}
use Rattle.std.specs.Fmt.{decimal}
use Rattle.std.proofs.lemmas.Fmt.{parse-decimal}
use Rattle.scp_script.proofs.Lines.{no_number, is_number}
use Rattle.scp_script.proofs.words.number.Goals as goal

pub returns-in_default : goal.returns-in_default
returns-in_default c = sym (no_number c.args.word.now (λ n small e.
    let read : c.parse.result ≡ Ok n = parse-decimal 64 n c.args.word.now c.parse.result small small e c.parse.ensures.value.0 in cc c.in_default.is))

pub returns-then-eq : goal.returns-then-eq
returns-then-eq c = sym (is_number c.args.word.now c.in-Ok.value (omega arith) (sym ((bytes_decides c.format.result.now c.args.word.now).0 (sym c.if-eq.ensures)) ∙ c.format.ensures.text))

pub returns-else-eq : goal.returns-else-eq
returns-else-eq c = sym (no_number c.args.word.now (λ n small e.
    let read : c.parse.result ≡ Ok n = parse-decimal 64 n c.args.word.now c.parse.result small small e c.parse.ensures.value.0 in
    let value : c.in-Ok.value ≡ n = cc c.in-Ok.is in
    let same : c.format.result.now ≡ c.args.word.now = c.format.ensures.text ∙ ap decimal value ∙ sym e in
    let apart : false ≡ pointwise nat_eq c.args.word.now c.args.word.now = rw same at c.if-eq.ensures in
    let alike = nat_list_eq_equiv.refl c.args.word.now in
    cc (apart, alike)))
