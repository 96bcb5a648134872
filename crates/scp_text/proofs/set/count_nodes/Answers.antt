use Rattle.std.proofs.Common.{◌≡◌, ◌∙◌, ◌++◌, true, sym, ap, append-nil, map, take, drop, arith, get_or, length, ◌<◌, Bor, List, ℕ, []}
use Rattle.scp_text.specs.Sets.{has_bracket}
use Rattle.scp_text.proofs.Rows.{now_of, first_stops, after_stops}
use Rattle.scp_text.proofs.set.count_nodes.Goals as goal

pub returns-then-has_bracket-clause-nodes : goal.returns-then-has_bracket-clause-nodes
returns-then-has_bracket-clause-nodes c =
    let es = c.args.entries.now in
    let i = c.loop-index.index in
    let d : Bor (List ℕ) = record { ref_ptr = (0, 0); now = [] } in
    let within : i < length es = omega arith in
    let here : has_bracket (get_or es i d).now ≡ true = sym c.has_bracket.ensures ∙ c.if-has_bracket.true in
    let front = map now_of (take i es) in
    sym (append-nil front) ∙ sym (ap (λ l. front ++ l) (first_stops es i d within here)) ∙ c.loop-index.invariant.nodes

pub returns-then-has_bracket-clause-sets : goal.returns-then-has_bracket-clause-sets
returns-then-has_bracket-clause-sets c =
    let es = c.args.entries.now in
    let i = c.loop-index.index in
    let d : Bor (List ℕ) = record { ref_ptr = (0, 0); now = [] } in
    let within : i < length es = omega arith in
    let here : has_bracket (get_or es i d).now ≡ true = sym c.has_bracket.ensures ∙ c.if-has_bracket.true in
    sym (after_stops es i d within here) ∙ c.loop-index.invariant.sets
