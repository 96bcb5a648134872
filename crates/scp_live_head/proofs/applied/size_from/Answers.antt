use Rattle.std.proofs.Common.{List, ℕ, ◌++◌, refl, sym, ◌∙◌, ap, rules}
use Rattle.scp_live_head.specs.Applied.{slot_line}
use Rattle.scp_live_head.proofs.Slots.{walk_more, walk_end}
use Rattle.scp_live_head.proofs.applied.size_from.Goals as goal

pub loop-size-preserved : goal.loop-size-preserved
loop-size-preserved c =
    let found = rw c.in-Some.is at c.in_ok-size.ensures.some in
    walk_more c.args.slot c.args.first c.args.bytes.now c.loop-size.next _ c.loop-size.rest.now c.behind-rest.result.now found.0 refl (found.3.0, found.3.1, found.3.2 ∙ ap (λ (l : List ℕ). slot_line c.loop-size.next found.3.0 ++ l) (sym c.behind-rest.ensures)) c.loop-size.invariant

pub returns-clause-kept : goal.returns-clause-kept
returns-clause-kept c =
    let none = rw c.in_default.is at c.in_ok-size.ensures.none in
    walk_end c.args.slot c.args.first c.args.bytes.now c.loop-size.next c.loop-size.rest.now _ (search rules) none c.loop-size.invariant
