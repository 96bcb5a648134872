use Rattle.std.proofs.Common.{◌+◌, ◌<◌, drop, length, arith}
use Rattle.std.proofs.lemmas.List.{get_or_default}
use Rattle.scp_ledgers.specs.inside.Grouped.{entries_at}
use Rattle.scp_ledgers.proofs.Reporting.{ledgers_first, ledgers_more, ledgers_last, left_more, left_none}
use Rattle.scp_ledgers.proofs.report.add_ledgers.Goals as goal

pub loop-number-init : goal.loop-number-init
loop-number-init c = ledgers_first (entries_at c.args.grouped.now) c.args.numbers.now c.new-certified.result.items c.args.lines.now.items c.new-certified.ensures.items

pub loop-number-preserved : goal.loop-number-preserved
loop-number-preserved c =
    let f = entries_at c.args.grouped.now in
    let ns = c.args.numbers.now in
    let i = c.loop-number.number-index in
    let lt : i < length ns = omega arith in
    ledgers_more f _ (drop (i + 1) ns) ns c.loop-number.certified.items c.add_ledger.new.certified.items c.loop-number.lines.items c.add_ledger.new.lines.items c.args.lines.now.items c.in_ok-add_ledger.ensures.added
    (left_more f ns i _ c.loop-number.lines.items c.loop-number.certified.items ns c.args.lines.now.items lt (get_or_default ns i _ _ lt) c.loop-number.invariant)

pub returns-clause-added : goal.returns-clause-added
returns-clause-added c =
    let f = entries_at c.args.grouped.now in
    let ns = c.args.numbers.now in
    ledgers_last f ns c.loop-number.certified.items c.loop-number.lines.items c.args.lines.now.items (left_none f ns c.loop-number.number-index c.loop-number.lines.items c.loop-number.certified.items ns c.args.lines.now.items (omega arith) c.loop-number.invariant)
