use Rattle.std.proofs.Common.{◌≡◌, List, map, ap, ◌∙◌, sym, Some}
use Rattle.toml.specs.Data.{array}
use Rattle.toml.specs.View.{view, items_view}
use Rattle.toml.specs.declared.value.Value.{Value}
use Rattle.toml.proofs.Views.{view-Array}
use Rattle.scp_live_config.specs.Names.{values_said}
use Rattle.scp_live_config.proofs.Views.{values_view}
use Rattle.scp_live_config.proofs.table.values_at.Goals as goal

pub returns-in-Some-Array : goal.returns-in-Some-Array
returns-in-Some-Array c =
    let items = c.in-Some-Array.values.items in
    let found = rw c.in-Some-Array.is at c.find.ensures in
    let seen : view c.in-Some-Array.field-0.now ≡ array (items_view items) = ap view c.in-Some-Array.field-0-is ∙ view-Array c.in-Some-Array.values in
    let same : c.as_slice.result.now ≡ items = cc in
    ap Some (ap (λ (vs : List Value). map view vs) same ∙ sym (values_view items)) ∙ ap values_said (ap Some (sym seen) ∙ found)
