use Rattle.std.proofs.Common.{◌<◌, List, suc, map, take, drop, length, string_bytes, arith, sym, subst}
use Rattle.std.specs.List.{AllZip, filter}
use Rattle.std.proofs.lemmas.Result.{err_from_is_err_and}
use Rattle.serde_json.specs.Data.{Data}
use Rattle.serde_json.specs.View.{view}
use Rattle.scp_quorum_files.specs.Networks.{has_set, SaysMember}
use Rattle.scp_quorum_files.proofs.Looked.{values_more}
use Rattle.scp_quorum_files.proofs.Entries.{value_seam}
use Rattle.scp_quorum_files.proofs.Said.{member_lacks}
use Rattle.scp_quorum_files.proofs.read.read_members.Goals as goal

pub loop-place-preserved : goal.loop-place-preserved
loop-place-preserved c =
    let vs = c.args.nodes.now in
    let i = c.loop-place.place in
    let v = c.index-nodes-place.result in
    let within : i < length vs = omega arith in
    let Q : List Data → Type 0 = λ l. AllZip (SaysMember c.args.form (map string_bytes c.args.names.now)) (filter (has_set c.args.form) l) c.read_node.new.members.items in
    subst Q (sym (values_more vs i v within c.index-nodes-place.is)) (c.in_ok-read_node.ensures.said (map view (take i vs)) c.loop-place.invariant)

pub returns-in_err-read_node-clause-wrong : goal.returns-in_err-read_node-clause-wrong
returns-in_err-read_node-clause-wrong c =
    let vs = c.args.nodes.now in
    let i = c.loop-place.place in
    let v = c.index-nodes-place.result in
    let within : i < length vs = omega arith in
    let p = err_from_is_err_and c.from_residual.result c.from_residual.ensures.1 in
    rw (p.1, p.2)
    (member_lacks c.args.form (map string_bytes c.args.names.now) (map view vs) (map view (take i vs)) (map view (drop (suc i) vs)) (view v) _ (value_seam vs i v within c.index-nodes-place.is) c.in_err-read_node.ensures.wrong)
