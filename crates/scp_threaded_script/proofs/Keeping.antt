-- What is kept of what comes over links, from the start of nodes to what is told of them.
use Rattle.std.proofs.Common.{◌≡◌, ◌∙◌, suc, Bool, refl, sym, subst, List, [], ◌∷◌, Option, arith}
use Rattle.std.specs.Prelude.{is_some, map, slice_get}
use Rattle.std.specs.Global.{Vec}
use Rattle.std.specs.List.{AllByRecursion}
use Rattle.std.proofs.lemmas.Option.{slice_get_within}
use Rattle.scp_threaded_node.specs.scp_shared_outbox.specs.Ends.{TakerView}
use Rattle.scp_threaded_node.specs.scp_shared_outbox.specs.declared.outlets.Outlets.{Outlets}
use Rattle.scp_threaded_node.specs.scp_wire.specs.declared.link.LinkItem.{LinkItem}
use Rattle.scp_threaded_node.specs.scp_gather.specs.Kv.{NodeReport}
use Rattle.scp_script.specs.declared.command.Command.{Command}
use Rattle.scp_threaded_node.specs.declared.make.Lane.{Lane}
use Rattle.scp_threaded_node.specs.Outlets.{AllKeep, GivenEnds, keeps_from}
use Rattle.scp_threaded_script.specs.Reported.{AreAllKept}
use Rattle.scp_threaded_script.specs.inside.Outlets.{IsKeeping, AreKeeping}
use Rattle.scp_threaded_script.specs.inside.Over.{AreOver}
use Rattle.scp_threaded_node.specs.scp_shared_outbox.proofs.ListsOfAll.{there_is}

-- what is kept of links that aren't started yet, as the node is given it
pub lanes_keep : (keeps : Bool) (lanes : List Lane) → AllKeep keeps lanes → AllByRecursion (λ b. b ≡ keeps) (map keeps_from lanes)
lanes_keep keeps [] all = tt
lanes_keep keeps (x ∷ xs) all = (all 0 x refl, lanes_keep keeps xs (λ i y at. all (suc i) y at))

pub is_keeping : (keeps : Bool) (lanes : List Lane) (g : GivenEnds) → g.keeps ≡ map keeps_from lanes → AllKeep keeps lanes → IsKeeping keeps g
is_keeping keeps lanes g is all = subst (λ (bs : List Bool). AllByRecursion (λ b. b ≡ keeps) bs) (sym is) (lanes_keep keeps lanes all)

rows_kept : (keeps : Bool) (rows : List (Option (Vec LinkItem))) → AllByRecursion (λ b. b ≡ keeps) (map is_some rows) → AllByRecursion (λ row. is_some row ≡ keeps) rows
rows_kept keeps [] all = tt
rows_kept keeps (row ∷ rows) all = (all.0, rows_kept keeps rows all.1)

-- what is told of nodes that have ended, by what they were given
pub all_kept : (keeps : Bool) (commands : List Command) (given : List GivenEnds) (reports : List NodeReport) (outlets : List Outlets) (takers : List (Vec (Option TakerView)))
    → AreOver commands given reports outlets takers → AreKeeping keeps given → AreAllKept keeps reports
all_kept keeps commands given reports outlets takers over keeping i r hr =
    let within = slice_get_within reports i r hr in
    let g = there_is given i (omega (arith, within, over.reports_count)) in
    let left = there_is over.lefts i (omega (arith, within, over.reports_count, over.lefts_count)) in
    let o = there_is outlets i (omega (arith, within, over.reports_count, over.outlets_count)) in
    let t = there_is takers i (omega (arith, within, over.reports_count, over.takers_count)) in
    let x = over.each i g.0 g.1 left.0 left.1 r hr o.0 o.1 t.0 t.1 in
    rows_kept keeps r.came.items (subst (λ (bs : List Bool). AllByRecursion (λ b. b ≡ keeps) bs) (sym (x.reported.ended.kept_are ∙ x.back.keeps)) (keeping i g.0 g.1))
