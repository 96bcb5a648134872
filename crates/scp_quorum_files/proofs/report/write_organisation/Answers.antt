use Rattle.std.proofs.Common.{◌≡◌, ◌++◌, List, Bool, codes, string_bytes, ◌∙◌, ap}
use Rattle.std.specs.Prelude.{nat_eq}
use Rattle.std.specs.List.{list_any}
use Rattle.std.specs.Cmp.Lexicographic.{pointwise}
use Rattle.scp_quorum_search.specs.scp_types.specs.declared.names.NodeId.{NodeId}
use Rattle.scp_quorum_search.specs.scp_quorum.specs.NodeSet.{is_in}
use Rattle.scp_quorum_files.specs.Report.{names_text}
use Rattle.scp_quorum_files.proofs.Lines.{five}
use Rattle.scp_quorum_files.proofs.report.write_organisation.Goals as goal

pub returns : goal.returns
returns c =
    let all = c.args.all.now in
    let F : List NodeId → NodeId → Bool = λ ns v. list_any (λ w. pointwise nat_eq w.0 v.0) ns in
    let set : is_in c.in_ok-nodes.nodes ≡ F c.args.organisation.now.nodes.items = c.in_ok-nodes.ensures ∙ ap F c.deref.ensures.value in
    five (string_bytes c.args.out.now) (string_bytes c.push_str.new.self) (string_bytes c.push_str-2.new.self) (string_bytes c.push_str-3.new.self) (string_bytes c.write_names.new.out) (string_bytes c.push_str-4.new.self)
    (codes "organisation ") (string_bytes c.args.organisation.now.name) (codes ": ") (names_text all (λ v. list_any (λ w. pointwise nat_eq w.0 v.0) c.args.organisation.now.nodes.items)) (codes "\n")
    c.in_ok-push_str.ensures.bytes (c.in_ok-push_str-2.ensures.bytes ∙ ap (λ t. string_bytes c.push_str.new.self ++ t) c.as_str.ensures.value) c.in_ok-push_str-3.ensures.bytes
    (c.in_ok-write_names.ensures ∙ ap (λ f. string_bytes c.push_str-3.new.self ++ names_text all f) set) c.in_ok-push_str-4.ensures.bytes
