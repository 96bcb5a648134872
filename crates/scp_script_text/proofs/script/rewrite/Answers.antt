use Rattle.std.proofs.Common.{◌≡◌, ◌∙◌, ◌++◌, ◌∷◌, [], ap, sym, subst, map, take, drop, length, get_or, ℕ, ◌+◌, ◌<◌, List, Bor, arith}
use Rattle.std.specs.Prelude.{if◌then◌else◌}
use Rattle.std.proofs.lemmas.List.{length-map}
use Rattle.scp_script_text.specs.Scripts.{lines_of, IsLineIn}
use Rattle.scp_script_text.specs.inside.Scripts.{IsPlaced}
use Rattle.scp_script_text.proofs.Words.{text_at, next_text}
use Rattle.scp_script_text.proofs.Writing.{HasWritten, more_written, refused_there}
use Rattle.scp_script_text.proofs.script.rewrite.Goals as goal

pub returns-in-Err-clause-refused : goal.returns-in-Err-clause-refused
returns-in-Err-clause-refused c =
    let items = c.deref-line-items.result.now in
    let i = c.loop-index.index in
    let d : Bor (List ℕ) = record { ref_ptr = (0, 0); now = [] } in
    let line = get_or items i d in
    let lines = lines_of c.args.script.now in
    let all : map (λ (l : Bor (List ℕ)). l.now) items ≡ lines = cc (c.in_ok-lines.ensures, c.deref-line-items.ensures.value) in
    let within : i < length items = omega arith in
    let count : length lines ≡ length items = ap length (sym all) ∙ simp length-map in
    refused_there c.args.kind c.args.form c.args.script.now i line.now c.loop-index.out.items c.loop-index.first c.in-Err.fault (text_at items lines i d all within) (omega arith) c.loop-index.invariant c.in-Err.ensures.refused

pub loop-index-preserved : goal.loop-index-preserved
loop-index-preserved c =
    let items = c.deref-line-items.result.now in
    let i = c.loop-index.index in
    let d : Bor (List ℕ) = record { ref_ptr = (0, 0); now = [] } in
    let line = get_or items i d in
    let lines = lines_of c.args.script.now in
    let all : map (λ (l : Bor (List ℕ)). l.now) items ≡ lines = cc (c.in_ok-lines.ensures, c.deref-line-items.ensures.value) in
    let within : i < length items = omega arith in
    let next : take (i + 1) lines ≡ take i lines ++ line.now ∷ [] = next_text items lines i d all within in
    let written : IsLineIn c.args.kind c.args.form line.now c.as_slice.result.now = subst (λ (o : List ℕ). IsLineIn c.args.kind c.args.form line.now o) (sym c.as_slice.ensures) c.in-Ok.ensures.written in
    rw next (more_written c.args.kind c.args.form (take i lines) line.now c.as_slice.result.now c.loop-index.out.items c.add_line.new.out.items c.loop-index.first c.loop-index.invariant written c.in_ok-add_line.ensures)
