use Rattle.std.proofs.Common.{◌≡◌, ◌≤◌, ◌+◌, ◌-◌, ◌∙◌, ℕ, List, [], length, map, get_or, ap, sym, arith}
use Rattle.std.specs.Global.{Vec}
use Rattle.std.proofs.lemmas.List.{get_or-map, get_or_past, length-map}
use Rattle.scp_line.proofs.left.lost_of.Goals as goal

pub returns-in-Some : goal.returns-in-Some
returns-in-Some c =
    let losses = c.args.losses.now in
    let row = c.in-Some.row.now in
    let there = c.in-Some.ensures.lookup in
    c.as_slice.ensures.value
    ∙ ap (λ (r : Vec ℕ). r.items) there.1
    ∙ sym (get_or-map (λ (r : Vec ℕ). r.items) losses c.from.result row [] there.3.0)
    ∙ ap (λ (i : ℕ). get_or (map (λ (r : Vec ℕ). r.items) losses) i []) c.from.ensures

pub returns-in-None : goal.returns-in-None
returns-in-None c =
    let losses = c.args.losses.now in
    let rows = map (λ (r : Vec ℕ). r.items) losses in
    let past : length rows ≤ c.args.number - 1 = omega (arith, length-map losses (λ (r : Vec ℕ). r.items), c.in-None.ensures.lookup.3, c.from.ensures) in
    sym (get_or_past rows (c.args.number - 1) [] past)
