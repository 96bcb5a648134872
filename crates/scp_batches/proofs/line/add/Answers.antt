use Rattle.std.proofs.Common.{◌+◌, ◌-◌, ◌∙◌, ℕ, min, length, ap}
use Rattle.scp_batches.proofs.Splitting.{front_added}
use Rattle.scp_batches.specs.declared.line.TheConstants.{LINE_LIMIT}
use Rattle.scp_batches.proofs.line.add.Goals as goal

pub returns-clause-ok : goal.returns-clause-ok
returns-clause-ok c =
    let room = c.min-count.ensures ∙ ap (λ (k : ℕ). min (LINE_LIMIT + 1 - k) (length c.args.bytes.now)) (c.len.ensures ∙ c.args.front.now.ok.0) in
    c.in_ok-extend_from_slice.ensures.items ∙ front_added c.args.front.now.items c.args.bytes.now (LINE_LIMIT + 1) c.min-count.result c.requires room
