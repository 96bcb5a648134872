use Rattle.std.proofs.Common.{◌≡◌, ◌∙◌, ◌+◌, ◌<◌, ◌≤◌, map, ap, sym, length, List, ℕ, Bor, arith}
use Rattle.std.proofs.lemmas.List.{length-map}
use Rattle.scp_script_slot.specs.Serving.{lines_of}
use Rattle.scp_script_slot.proofs.script.read_slot_script.Goals as goal

pub returns-then-not-branch : goal.returns-then-not-branch
returns-then-not-branch c =
    let items = c.deref-line-items.result.now in
    let i = c.loop-index.index in
    let lines = lines_of c.args.text.now in
    let all : map (λ (l : Bor (List ℕ)). l.now) items ≡ lines = cc (c.in_ok-lines.ensures, c.deref-line-items.ensures.value) in
    let within : i < length items = omega arith in
    let count : length lines ≡ length items = ap length (sym all) ∙ simp length-map in
    record { cause = (omega arith, omega arith) }
