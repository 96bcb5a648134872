use Rattle.std.proofs.Common.{ℕ, None, ap, rules}
use Rattle.std.proofs.lemmas.Iterator.{YieldsList-from_slice}
use Rattle.std.proofs.lemmas.Iterator.Consumers.{YieldsList-from_filter, YieldsList-at, count_from_yields_List}
use Rattle.scp_turn.specs.scp_pending.specs.Messages.{is_on}
use Rattle.scp_report.specs.declared.report.Parked.{Parked}
use Rattle.scp_line.proofs.left.count_of.Goals as goal

pub returns : goal.returns
returns c =
    let messages = c.args.messages.now in
    let conn = c.args.conn.now in
    let counted : ℕ → Parked = λ count. record { conn = conn; count = count; first = None } in
    ap counted (count_from_yields_List c.filter.result c.count-count.result c.count-count.ensures.ran
    (YieldsList-from_filter _ (is_on conn) (YieldsList-at c.filter.ensures.source (YieldsList-from_slice messages cc)) c.filter.ensures.closure (λ x b q call. search rules)))
