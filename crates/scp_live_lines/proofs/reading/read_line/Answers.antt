use Rattle.std.proofs.Common.{◌∙◌, ℕ, List, map, sym, ap, subst}
use Rattle.std.specs.Prelude.{string_bytes, Err}
use Rattle.scp_script.specs.Reasons.{parts_of}
use Rattle.scp_live_lines.specs.Says.{SaysInWords}
use Rattle.scp_live_lines.specs.Bad.{IsWrongIn}
use Rattle.scp_live_lines.proofs.Saying.{says_words, words_say, skipped_says}
use Rattle.scp_live_lines.proofs.Wrong.{wrong_says_nothing}
use Rattle.scp_live_lines.proofs.Foreign.{foreign_judged, words_judged, says_none, no_ascii, wrong_line}
use Rattle.scp_live_lines.proofs.reading.read_line.Goals as goal

pub returns-in_default-clause-bad : goal.returns-in_default-clause-bad
returns-in_default-clause-bad c = foreign_judged (map string_bytes c.args.names.now) c.args.line.now _ c.judged.result (sym c.in_default.ensures.exact) c.judged.ensures

pub returns-in_default-clause-says_nothing : goal.returns-in_default-clause-says_nothing
returns-in_default-clause-says_nothing c = says_none (map string_bytes c.args.names.now) c.args.line.now c.judged.result (no_ascii (map string_bytes c.args.names.now) c.args.line.now (sym c.in_default.ensures.exact))

pub returns-in_default-clause-memory : goal.returns-in_default-clause-memory
returns-in_default-clause-memory c = λ none asked says. absurd (no_ascii (map string_bytes c.args.names.now) c.args.line.now (sym c.in_default.ensures.exact) asked says)

pub returns-then-skipped-clause-read : goal.returns-then-skipped-clause-read
returns-then-skipped-clause-read c = skipped_says (map string_bytes c.args.names.now) c.args.line.now (sym c.in-Some.ensures.exact) (sym c.if-skipped.ensures)

pub returns-in-Ok-clause-read : goal.returns-in-Ok-clause-read
returns-in-Ok-clause-read c = words_say (map string_bytes c.args.names.now) c.args.line.now c.in-Ok.asked (sym c.in-Some.ensures.exact) (sym c.if-skipped.ensures) (subst (λ (text : List ℕ). SaysInWords (map string_bytes c.args.names.now) (parts_of text) c.in-Ok.asked) c.in-Some.ensures.text c.in-Ok.ensures.read)

pub returns-in-Err-Bad-clause-bad : goal.returns-in-Err-Bad-clause-bad
returns-in-Err-Bad-clause-bad c =
    let names : List (List ℕ) = map string_bytes c.args.names.now in
    let wrong : IsWrongIn names (parts_of c.args.line.now) c.in-Err-Bad.found = wrong_line names c.args.line.now c.in-Some.text.now c.in-Err-Bad.field-0 c.in-Err-Bad.found c.in-Some.ensures.text c.in-Err-Bad.field-0-is c.in-Err-Bad.ensures.bad in
    words_judged names c.args.line.now c.in-Err-Bad.found c.judged-in-Err-Bad.result wrong c.judged-in-Err-Bad.ensures

pub returns-in-Err-Bad-clause-says_nothing : goal.returns-in-Err-Bad-clause-says_nothing
returns-in-Err-Bad-clause-says_nothing c =
    let names : List (List ℕ) = map string_bytes c.args.names.now in
    let wrong : IsWrongIn names (parts_of c.args.line.now) c.in-Err-Bad.found = wrong_line names c.args.line.now c.in-Some.text.now c.in-Err-Bad.field-0 c.in-Err-Bad.found c.in-Some.ensures.text c.in-Err-Bad.field-0-is c.in-Err-Bad.ensures.bad in
    says_none names c.args.line.now c.judged-in-Err-Bad.result (λ a says. wrong_says_nothing names (parts_of c.args.line.now) c.in-Err-Bad.found wrong a (says_words names c.args.line.now a (sym c.if-skipped.ensures) says))

pub returns-in-Err-Bad-clause-memory : goal.returns-in-Err-Bad-clause-memory
returns-in-Err-Bad-clause-memory c = λ none a says.
    let names : List (List ℕ) = map string_bytes c.args.names.now in
    let wrong : IsWrongIn names (parts_of c.args.line.now) c.in-Err-Bad.found = wrong_line names c.args.line.now c.in-Some.text.now c.in-Err-Bad.field-0 c.in-Err-Bad.found c.in-Some.ensures.text c.in-Err-Bad.field-0-is c.in-Err-Bad.ensures.bad in
    absurd (wrong_says_nothing names (parts_of c.args.line.now) c.in-Err-Bad.found wrong a (says_words names c.args.line.now a (sym c.if-skipped.ensures) says))

pub returns-in-Err-NoMemory-clause-memory : goal.returns-in-Err-NoMemory-clause-memory
returns-in-Err-NoMemory-clause-memory c = λ none a says.
    let names : List (List ℕ) = map string_bytes c.args.names.now in
    c.read_text.ensures.memory (c.in-Err-NoMemory.is ∙ ap Err c.in-Err-NoMemory.field-0-is) a (subst (λ (text : List ℕ). SaysInWords names (parts_of text) a) (sym c.in-Some.ensures.text) (says_words names c.args.line.now a (sym c.if-skipped.ensures) says))
