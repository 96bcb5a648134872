use Rattle.std.proofs.Common.{◌≡◌, Ok, ap, sym, ◌∙◌, false, nat_eq}
use Rattle.std.specs.Cmp.Lexicographic.{pointwise, bytes_decides}
use Rattle.std.proofs.lemmas.Cmp.{nat_list_eq_equiv}
use Rattle.std.specs.Fmt.{decimal}
use Rattle.std.proofs.lemmas.Fmt.{parse-decimal}
use Rattle.scp_live_lines.proofs.words.number.Goals as goal

pub returns-in_default-clause-none : goal.returns-in_default-clause-none
returns-in_default-clause-none c = λ none said.
    let read : c.parse.result ≡ Ok said.0 = parse-decimal 64 said.0 c.args.word.now c.parse.result said.1 said.1 said.2 c.parse.ensures.value.0 in cc c.in_default.is

pub returns-then-eq-clause-found : goal.returns-then-eq-clause-found
returns-then-eq-clause-found c = sym ((bytes_decides c.format.result.now c.args.word.now).0 (sym c.if-eq.ensures)) ∙ c.format.ensures.text

pub returns-else-eq-clause-none : goal.returns-else-eq-clause-none
returns-else-eq-clause-none c = λ none said.
    let read : c.parse.result ≡ Ok said.0 = parse-decimal 64 said.0 c.args.word.now c.parse.result said.1 said.1 said.2 c.parse.ensures.value.0 in
    let value : c.in-Ok.value ≡ said.0 = cc c.in-Ok.is in
    let same : c.format.result.now ≡ c.args.word.now = c.format.ensures.text ∙ ap decimal value ∙ sym said.2 in
    let apart : false ≡ pointwise nat_eq c.args.word.now c.args.word.now = rw same at c.if-eq.ensures in
    let alike = nat_list_eq_equiv.refl c.args.word.now in
    cc (apart, alike)
