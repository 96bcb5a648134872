use Rattle.std.proofs.Common.{◌≡◌, ◌∙◌, ◌+◌, ◌-◌, ◌<◌, ◌∷◌, [], ◌++◌, true, take, map, ap, sym, subst, length, get_or, List, ℕ, Bor, arith}
use Rattle.std.proofs.lemmas.List.{length-map}
use Rattle.scp_script.specs.declared.command.Command.{Command}
use Rattle.scp_script.specs.Words.{lines_of, words_of}
use Rattle.scp_script.specs.Script.{commands_of, AreLines}
use Rattle.scp_script.specs.inside.Reading.{HasRead}
use Rattle.scp_script.specs.Reading.{TakesWords, Stands}
use Rattle.scp_script.proofs.Lines.{next_line, reads-more, lines-more, last_stands}
use Rattle.scp_script.proofs.parsing.read.Goals as goal

pub loop-index-preserved : goal.loop-index-preserved
loop-index-preserved c =
    let items = c.deref-line-items.result.now in
    let i = c.loop-index.index in
    let line = get_or items i (record { ref_ptr = (0, 0); now = [] }) in
    let lines = lines_of c.args.text.now in
    let all : map (λ (l : Bor (List ℕ)). l.now) items ≡ lines = cc (c.in_ok-lines.ensures, c.deref-line-items.ensures.value) in
    let within : i < length items = omega arith in
    let next : take (i + 1) lines ≡ take i lines ++ line.now ∷ [] = next_line items lines i (record { ref_ptr = (0, 0); now = [] }) all within in
    let old = c.loop-index.reading in
    let taken : TakesWords old (words_of line.now) c.read_line.new.self = rw c.if-not-branch.false at c.in_ok-read_line.ensures.taken in
    let read : HasRead c.read_line.new.self (take i lines ++ line.now ∷ []) = reads-more old c.read_line.new.self (take i lines) line.now c.loop-index.invariant.read taken in
    let stands : Stands (commands_of (take i lines)) line.now = subst (λ (cs : List Command). Stands cs line.now) c.loop-index.invariant.read.commands (c.in_ok-read_line.ensures.good.0 c.if-not-branch.false) in
    let good : AreLines (take i lines ++ line.now ∷ []) = lines-more (take i lines) line.now c.loop-index.invariant.good stands in
    record { read = rw next read; good = rw next good }

pub returns-then-not-branch-clause-cause : goal.returns-then-not-branch-clause-cause
returns-then-not-branch-clause-cause c =
    let items = c.deref-line-items.result.now in
    let i = c.loop-index.index in
    let line = get_or items i (record { ref_ptr = (0, 0); now = [] }) in
    let lines = lines_of c.args.text.now in
    let all : map (λ (l : Bor (List ℕ)). l.now) items ≡ lines = cc (c.in_ok-lines.ensures, c.deref-line-items.ensures.value) in
    let within : i < length items = omega arith in
    let next : take (i + 1) lines ≡ take i lines ++ line.now ∷ [] = next_line items lines i (record { ref_ptr = (0, 0); now = [] }) all within in
    let count : length lines ≡ length items = ap length (sym all) ∙ simp length-map in
    let before : (i + 1) - 1 ≡ i = omega arith in
    let good : AreLines (take ((i + 1) - 1) lines) = rw before c.loop-index.invariant.good in
    record {
      from_one = omega arith;
      within = omega arith;
      good = good;
      bad = λ all_good.
          let stands : Stands (commands_of (take i lines)) line.now = last_stands (take i lines) line.now (rw next at all_good) in
          let yes : c.in_ok-read_line.field-0 ≡ true = c.in_ok-read_line.ensures.good.1 (subst (λ (cs : List Command). Stands cs line.now) (sym c.loop-index.invariant.read.commands) stands) in
          cc (yes, c.if-not-branch.true);
    }
