use Rattle.std.proofs.Common.{◌≡◌, List, map, ap, ◌∙◌, sym, Some}
use Rattle.serde_json.specs.Data.{array}
use Rattle.serde_json.specs.View.{view, items_view}
use Rattle.serde_json.specs.declared.value.Value.{Value}
use Rattle.serde_json.proofs.Views.{view-Array}
use Rattle.scp_quorum_files.specs.declared.form.Form.TheVariants as forms
use Rattle.scp_quorum_files.specs.Documents.{nodes_in}
use Rattle.scp_quorum_files.proofs.Looked.{values-items_view}
use Rattle.scp_quorum_files.proofs.read.beat_nodes.Goals as goal

pub returns-in-Array : goal.returns-in-Array
returns-in-Array c =
    let items = c.in-Array.nodes.items in
    let seen : view c.args.doc.now ≡ array (items_view items) = ap view c.in-Array.is ∙ view-Array c.in-Array.nodes in
    let same : c.as_slice.result.now ≡ items = cc in
    ap Some (ap (λ (vs : List Value). map view vs) same ∙ sym (values-items_view items)) ∙ ap (nodes_in forms.Beat) (sym seen)
