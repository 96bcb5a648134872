use Rattle.std.proofs.Common.{◌<◌, ◌+◌, List, map, take, length, string_bytes, arith, sym, ◌∙◌, subst}
use Rattle.scp_quorum_files.specs.declared.network.Named.{Named}
use Rattle.scp_quorum_files.specs.inside.Failing.{AreNumbered}
use Rattle.scp_quorum_files.proofs.Said.{numbered_more}
use Rattle.scp_quorum_files.proofs.read.numbered.Goals as goal

pub loop-place-preserved : goal.loop-place-preserved
loop-place-preserved c =
    let names = c.args.names.now in
    let i = c.loop-place.place in
    let within : i < length names = omega arith in
    let node : Named = record { name = c.in_ok-name.name; id = c.id_at.result } in
    let P : List Named → Type 0 = λ l. AreNumbered (map string_bytes (take (i + 1) names)) l in
    subst P (sym c.in_ok-push.ensures.items)
    (numbered_more names i c.index-names-place.result c.loop-place.nodes.items node within c.index-names-place.is (c.in_ok-name.ensures.ok ∙ c.as_str.ensures.value) c.id_at.ensures c.loop-place.invariant)
