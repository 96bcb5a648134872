use Rattle.std.proofs.Common.{◌≡◌, List, map, ap, ◌∙◌, sym, Some}
use Rattle.serde_json.specs.Data.{array}
use Rattle.serde_json.specs.View.{view, items_view}
use Rattle.serde_json.specs.declared.value.Value.{Value}
use Rattle.serde_json.proofs.Views.{view-Array}
use Rattle.scp_quorum_files.specs.Documents.{values_said}
use Rattle.scp_quorum_files.proofs.Looked.{values-items_view}
use Rattle.scp_quorum_files.proofs.keys.values_said.Goals as goal

pub returns-in-Some-Array : goal.returns-in-Some-Array
returns-in-Some-Array c =
    let items = c.in-Some-Array.values.items in
    let seen : view c.in-Some-Array.field-0.now ≡ array (items_view items) = ap view (rw c.in-Some-Array.is at c.in-Some-Array.field-0-is) ∙ view-Array c.in-Some-Array.values in
    let same : c.as_slice.result.now ≡ items = cc in
    rw c.in-Some-Array.is (ap Some (ap (λ (vs : List Value). map view vs) same ∙ sym (values-items_view items)) ∙ ap values_said (ap Some (sym seen)))
