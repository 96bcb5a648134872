use Rattle.std.proofs.Common.{◌≡◌, ◌∙◌, ◌++◌, ◌∷◌, [], ap, sym, map, take, length, get_or, ℕ, ◌+◌, ◌<◌, List, Bor, arith}
use Rattle.std.proofs.lemmas.List.{length-map, length-take-le}
use Rattle.scp_script_text.specs.Scripts.{lines_of}
use Rattle.scp_script_text.proofs.Words.{text_at, next_text}
use Rattle.scp_script_check.proofs.Taken.{taken_more, refused_there}
use Rattle.scp_script_check.proofs.reading.read_lines.Goals as goal

pub returns-in-Err-clause-cause : goal.returns-in-Err-clause-cause
returns-in-Err-clause-cause c =
    let items = c.deref-line-items.result.now in
    let i = c.loop-index.index in
    let d : Bor (List ℕ) = record { ref_ptr = (0, 0); now = [] } in
    let line = get_or items i d in
    let lines = lines_of c.args.text.now in
    let all : map (λ (l : Bor (List ℕ)). l.now) items ≡ lines = cc (c.in_ok-lines.ensures, c.deref-line-items.ensures.value) in
    let within : i < length items = omega arith in
    let count : length lines ≡ length items = ap length (sym all) ∙ simp length-map in
    refused_there c.args.text.now i line.now c.loop-index.reading c.loop-index.numbers.items c.in-Err.fault (text_at items lines i d all within) (omega arith) c.loop-index.invariant c.in-Err.ensures.refused

pub loop-index-preserved : goal.loop-index-preserved
loop-index-preserved c =
    let items = c.deref-line-items.result.now in
    let i = c.loop-index.index in
    let d : Bor (List ℕ) = record { ref_ptr = (0, 0); now = [] } in
    let line = get_or items i d in
    let lines = lines_of c.args.text.now in
    let all : map (λ (l : Bor (List ℕ)). l.now) items ≡ lines = cc (c.in_ok-lines.ensures, c.deref-line-items.ensures.value) in
    let within : i < length items = omega arith in
    let count : length lines ≡ length items = ap length (sym all) ∙ simp length-map in
    let next : take (i + 1) lines ≡ take i lines ++ line.now ∷ [] = next_text items lines i d all within in
    let number : i + 1 ≡ length (take i lines) + 1 = ap (λ n. n + 1) (sym (length-take-le i lines (omega arith))) in
    rw next (taken_more (take i lines) line.now c.loop-index.reading c.take_placed.new.reading c.loop-index.numbers.items c.note.new.numbers.items c.in-Ok.holds (i + 1) c.loop-index.invariant c.in-Ok.ensures.taken number c.in_ok-note.ensures)
