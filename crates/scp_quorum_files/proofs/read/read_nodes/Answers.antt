use Rattle.std.proofs.Common.{map, string_bytes, take, ◌∙◌, ap}
use Rattle.std.specs.List.{flat_map}
use Rattle.std.proofs.lemmas.Result.{err_from_is_err_and}
use Rattle.serde_json.specs.View.{view}
use Rattle.scp_quorum_files.specs.Documents.{text_in}
use Rattle.scp_quorum_files.specs.Networks.{id_of}
use Rattle.scp_quorum_files.proofs.Said.{texts_more, text_missing}
use Rattle.scp_quorum_files.proofs.read.read_nodes.Goals as goal

pub loop-value-preserved : goal.loop-value-preserved
loop-value-preserved c =
    let vs = c.args.values.now in
    let i = c.loop-value.value-index in
    let v = c.value-item.result in
    ap (map (id_of (map string_bytes c.args.names.now))) (texts_more vs i v c.loop-value-test.true c.value-item.is)
    ∙ c.in_ok-read_named.ensures.said (flat_map text_in (map view (take i vs))) c.loop-value.invariant

pub returns-in_err-read_named-clause-wrong : goal.returns-in_err-read_named-clause-wrong
returns-in_err-read_named-clause-wrong c =
    let vs = c.args.values.now in
    let i = c.loop-value.value-index in
    let v = c.value-item.result in
    let p = err_from_is_err_and c.from_residual.result c.from_residual.ensures.1 in
    rw (p.1, p.2)
    (λ e nodes given.
    let missing = c.in_err-read_named.ensures.wrong e in
    text_missing (map string_bytes c.args.names.now) vs i v missing.0 c.loop-value-test.true c.value-item.is missing.1 missing.2 nodes given)
