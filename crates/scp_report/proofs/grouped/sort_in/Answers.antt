use Rattle.std.proofs.Common.{◌≡◌, ◌++◌, ◌∷◌, [], map, ◌∙◌, ap}
use Rattle.std.specs.Ordering.{is_eq}
use Rattle.scp_core.specs.scp_types.specs.Order.{conn_cmp}
use Rattle.scp_report.specs.inside.Grouped.{fates_at}
use Rattle.scp_report.proofs.Sorting.{sorted_in}
use Rattle.scp_report.proofs.Asked.{map_then}
use Rattle.scp_report.proofs.grouped.sort_in.Goals as goal

pub returns : goal.returns
returns c =
    let at = c.conn_of_fate-conn.result in
    let before = map (λ fate. fate.now) c.take_fates-fates.result.items in
    let items = map (λ fate. fate.now) c.push.new.self.items in
    let more : items ≡ before ++ c.args.fate.now ∷ [] = ap (map (λ fate. fate.now)) c.in_ok-push.ensures.items ∙ map_then (λ fate. fate.now) c.take_fates-fates.result.items (c.args.fate ∷ []) in
    rw (← c.conn_of_fate-conn.ensures) (λ conn.
    sorted_in (is_eq (conn_cmp at conn)) (fates_at c.put_fates.new.grouped conn) (fates_at c.args.grouped.now conn)
    (fates_at c.take_fates-fates.new.grouped conn) items before (c.args.fate.now ∷ [])
    (fates_at c.args.grouped.now at)
    (c.in_ok-put_fates.ensures conn) (c.take_fates-fates.ensures.others conn) more c.take_fates-fates.ensures.fates)
