use Rattle.std.proofs.Common.{◌<◌, ◌+◌, ◌∷◌, ◌++◌, [], List, suc, map, take, drop, length, string_bytes, arith, sym, subst}
use Rattle.std.specs.List.{AllZip}
use Rattle.serde_json.specs.Data.{Data}
use Rattle.serde_json.specs.View.{view}
use Rattle.scp_quorum_files.specs.declared.network.Organisation.{Organisation}
use Rattle.scp_quorum_files.specs.Networks.{SaysOrganisation}
use Rattle.scp_quorum_files.proofs.Looked.{values_more}
use Rattle.scp_quorum_files.proofs.Parts.{zip_push}
use Rattle.scp_quorum_files.proofs.Entries.{value_seam}
use Rattle.scp_quorum_files.proofs.Said.{organisation_lacks}
use Rattle.scp_quorum_files.proofs.read.read_organisations.Goals as goal

pub returns-in-Err-Wrong-clause-wrong : goal.returns-in-Err-Wrong-clause-wrong
returns-in-Err-Wrong-clause-wrong c =
    let vs = c.args.values.now in
    let i = c.loop-place.place in
    let v = c.index-values-place.result in
    let within : i < length vs = omega arith in
    organisation_lacks (map string_bytes c.args.names.now) (map view vs) (map view (take i vs)) (map view (drop (suc i) vs)) (view v) i (value_seam vs i v within c.index-values-place.is)
    (λ o says. c.in-Err-Wrong.ensures.wrong c.in-Err-Wrong.field-0-is o says)

pub loop-place-preserved : goal.loop-place-preserved
loop-place-preserved c =
    let vs = c.args.values.now in
    let i = c.loop-place.place in
    let v = c.index-values-place.result in
    let within : i < length vs = omega arith in
    let R : Data → Organisation → Type 0 = SaysOrganisation (map string_bytes c.args.names.now) in
    let P : List Organisation → Type 0 = λ l. AllZip (SaysOrganisation (map string_bytes c.args.names.now)) (map view (take (i + 1) vs)) l in
    let Q : List Data → Type 0 = λ l. AllZip (SaysOrganisation (map string_bytes c.args.names.now)) l (c.loop-place.found.items ++ c.in-Ok.organisation ∷ []) in
    subst P (sym c.in_ok-push-in-Ok.ensures.items) (subst Q (sym (values_more vs i v within c.index-values-place.is)) (zip_push R (map view (take i vs)) c.loop-place.found.items (view v) c.in-Ok.organisation c.loop-place.invariant c.in-Ok.ensures.said))
