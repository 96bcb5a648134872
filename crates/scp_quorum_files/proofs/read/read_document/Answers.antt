use Rattle.std.proofs.Common.{◌≡◌, ◌++◌, List, Some, map, filter, string_bytes, String, Global, sym, ◌∙◌, ap, subst}
use Rattle.std.specs.List.{AllZip, flat_map}
use Rattle.std.proofs.lemmas.Result.{err_from_is_err_and}
use Rattle.serde_json.specs.View.{view}
use Rattle.scp_quorum_files.specs.declared.form.Form.{Form}
use Rattle.scp_quorum_files.specs.Documents.{form_of, nodes_in, organisations_in}
use Rattle.scp_quorum_files.specs.Networks.{has_set, top_strays, node_strays, organisation_strays, SaysMember, SaysOrganisation}
use Rattle.scp_quorum_files.specs.inside.Failing.{AreAllNames, AreNumbered, MembersFail, OrganisationsFail}
use Rattle.scp_quorum_files.proofs.Said.{members_fail, organisations_fail, network_said}
use Rattle.scp_quorum_files.proofs.read.read_document.Goals as goal

pub returns-in_err-members-clause-wrong : goal.returns-in_err-members-clause-wrong
returns-in_err-members-clause-wrong c =
    let doc = view c.args.doc.now in
    let form = c.form_of-form.ensures in
    let nodes = map view c.in-Some.nodes.now in
    let names = map string_bytes c.in_ok-names.names.items in
    let nodes_are : nodes_in (form_of doc) doc ≡ Some nodes = ap (λ f. nodes_in f doc) (sym form) ∙ sym (rw c.in-Some.is at c.nodes_in.ensures) in
    let A : Form → Type 0 = λ f. AreAllNames f nodes names in
    let F : Form → Type 0 = λ f. MembersFail f names nodes c.in_err-members.field-0.0 in
    let N : List (String Global) → Type 0 = λ ns. MembersFail c.form_of-form.result (map string_bytes ns) nodes c.in_err-members.field-0.0 in
    let p = err_from_is_err_and c.from_residual-in_err-members.result c.from_residual-in_err-members.ensures.1 in
    rw (p.1, p.2)
    (members_fail doc nodes nodes_are names (subst A form c.in_ok-names.ensures.all) c.in_err-members.field-0.0 (subst F form (subst N c.deref.ensures.value c.in_err-members.ensures.wrong)))

pub returns-in_err-organisations-clause-wrong : goal.returns-in_err-organisations-clause-wrong
returns-in_err-organisations-clause-wrong c =
    let doc = view c.args.doc.now in
    let form = c.form_of-form.ensures in
    let nodes = map view c.in-Some.nodes.now in
    let values = map view c.in-Some-organisations_in.values.now in
    let names = map string_bytes c.in_ok-names.names.items in
    let nodes_are : nodes_in (form_of doc) doc ≡ Some nodes = ap (λ f. nodes_in f doc) (sym form) ∙ sym (rw c.in-Some.is at c.nodes_in.ensures) in
    let values_are : organisations_in (form_of doc) doc ≡ Some values = ap (λ f. organisations_in f doc) (sym form) ∙ sym (rw c.in-Some-organisations_in.is at c.organisations_in.ensures) in
    let A : Form → Type 0 = λ f. AreAllNames f nodes names in
    let N : List (String Global) → Type 0 = λ ns. OrganisationsFail (map string_bytes ns) values c.in_err-organisations.field-0.0 in
    let p = err_from_is_err_and c.from_residual-in_err-organisations.result c.from_residual-in_err-organisations.ensures.1 in
    rw (p.1, p.2)
    (organisations_fail doc nodes nodes_are names (subst A form c.in_ok-names.ensures.all) values values_are c.in_err-organisations.field-0.0 (subst N c.deref-2.ensures.value c.in_err-organisations.ensures.wrong))

pub returns-clause-read : goal.returns-clause-read
returns-clause-read c =
    let doc = view c.args.doc.now in
    let form = c.form_of-form.ensures in
    let nodes = map view c.in-Some.nodes.now in
    let values = map view c.in-Some-organisations_in.values.now in
    let names = map string_bytes c.in_ok-names.names.items in
    let nodes_are : nodes_in (form_of doc) doc ≡ Some nodes = ap (λ f. nodes_in f doc) (sym form) ∙ sym (rw c.in-Some.is at c.nodes_in.ensures) in
    let values_are : organisations_in (form_of doc) doc ≡ Some values = ap (λ f. organisations_in f doc) (sym form) ∙ sym (rw c.in-Some-organisations_in.is at c.organisations_in.ensures) in
    let A : Form → Type 0 = λ f. AreAllNames f nodes names in
    let M : Form → Type 0 = λ f. AllZip (SaysMember f names) (filter (has_set f) nodes) c.in_ok-members.members.items in
    let L : List (String Global) → Type 0 = λ ns. AllZip (SaysMember c.form_of-form.result (map string_bytes ns)) (filter (has_set c.form_of-form.result) nodes) c.in_ok-members.members.items in
    let O : List (String Global) → Type 0 = λ ns. AllZip (SaysOrganisation (map string_bytes ns)) values c.in_ok-organisations.organisations.items in
    let N : List (String Global) → Type 0 = λ ns. AreNumbered (map string_bytes ns) c.in_ok-nodes.nodes.items in
    network_said doc nodes nodes_are names (subst A form c.in_ok-names.ensures.all) values values_are _
    (subst N c.deref-3.ensures.value c.in_ok-nodes.ensures)
    (subst M form (subst L c.deref.ensures.value c.in_ok-members.ensures.said))
    (subst O c.deref-2.ensures.value c.in_ok-organisations.ensures.said)
    (c.in_ok-strays.ensures ∙ ap (λ f. (top_strays f doc ++ flat_map (node_strays f) nodes) ++ flat_map (organisation_strays f) values) form)
