use Rattle.std.proofs.Common.{◌≡◌, [], map, take, length, get_or, ℕ, ◌+◌, ◌<◌, ◌≤◌, List, Bor, arith, refl, string_bytes}
use Rattle.std.proofs.lemmas.List.{length-map, length-take-le}
use Rattle.scp_script_short.specs.scp_script_text.proofs.Words.{next_text}
use Rattle.scp_command.proofs.Lines.{each_converted}
use Rattle.scp_command.proofs.converting.convert_lines.Goals as goal

pub loop-index-preserved : goal.loop-index-preserved
loop-index-preserved c =
    let items = c.args.lines.now in
    let i = c.loop-index.index in
    let d : Bor (List ℕ) = record { ref_ptr = (0, 0); now = [] } in
    let line = get_or items i d in
    let lines = map (λ (l : Bor (List ℕ)). l.now) items in
    let within : i < length items = omega arith in
    let count : length lines ≡ length items = simp length-map in
    let few : i ≤ length lines = omega (arith, count, within) in
    let so_far : length (take i lines) ≡ i = length-take-le i lines few in
    let at : i + 1 ≡ 1 + length (take i lines) = omega (arith, so_far) in
    each_converted c.args.conversion (i + 1) (take i lines) (take (i + 1) lines) line.now (string_bytes c.loop-index.text) _ c.loop-index.refused.items _ (next_text items lines i d refl within) at c.loop-index.invariant c.in-Ok.ensures
