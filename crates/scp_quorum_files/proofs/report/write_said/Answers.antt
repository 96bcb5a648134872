use Rattle.std.proofs.Common.{◌≡◌, ◌++◌, List, not, codes, length, map, string_bytes, String, Global, arith, ◌∙◌, ap}
use Rattle.std.specs.Fmt.{decimal}
use Rattle.std.specs.List.{flat_map}
use Rattle.std.proofs.lemmas.Result.{on_ok_weaker}
use Rattle.scp_quorum_search.specs.declared.member.Member.{Member}
use Rattle.scp_quorum_files.specs.declared.network.Named.{Named}
use Rattle.scp_quorum_files.specs.declared.network.Organisation.{Organisation}
use Rattle.scp_quorum_files.specs.Networks.{each_once}
use Rattle.scp_quorum_files.specs.Report.{count_line, names_among, is_member, without_line, stray_line, organisation_line}
use Rattle.scp_quorum_files.proofs.Lines.{four, left_of_five}
use Rattle.scp_quorum_files.proofs.report.write_said.Goals as goal

pub returns : goal.returns
returns c =
    let network = c.args.network.now in
    let out = string_bytes c.args.out.now in
    let first = string_bytes c.write.new.self in
    let second = string_bytes c.write_without.new.out in
    let third = string_bytes c.write_strays.new.out in
    let count : c.len-count.result ≡ length network.nodes.items = omega (arith, c.len-count.ensures, network.nodes.ok.0) in
    let members : c.len-members.result ≡ length network.members.items = omega (arith, c.len-members.ensures, network.members.ok.0) in
    let counted : first ≡ out ++ count_line network.nodes.items network.members.items =
    c.in_ok-write.ensures.bytes
    ∙ ap (λ t. out ++ t) (left_of_five (codes "nodes ") (decimal c.len-count.result) (codes ", ") (decimal c.len-members.result) (codes " with a quorum set\n"))
    ∙ ap (λ n. out ++ (codes "nodes " ++ decimal n ++ codes ", " ++ decimal c.len-members.result ++ codes " with a quorum set\n")) count
    ∙ ap (λ n. out ++ (codes "nodes " ++ decimal (length network.nodes.items) ++ codes ", " ++ decimal n ++ codes " with a quorum set\n")) members in
    let without : second ≡ first ++ without_line (names_among network.nodes.items (λ v. not (is_member network.members.items v))) =
    c.in_ok-write_without.ensures
    ∙ ap (λ (ns : List Named). first ++ without_line (names_among ns (λ v. not (is_member c.deref-2.result.now v)))) c.deref.ensures.value
    ∙ ap (λ (ms : List Member). first ++ without_line (names_among network.nodes.items (λ v. not (is_member ms v)))) c.deref-2.ensures.value in
    let strays : third ≡ second ++ flat_map (stray_line (map string_bytes network.strays.items)) (each_once (map string_bytes network.strays.items)) =
    c.in_ok-write_strays.ensures ∙ ap (λ (ts : List (String Global)). second ++ flat_map (stray_line (map string_bytes ts)) (each_once (map string_bytes ts))) c.deref-3.ensures.value in
    on_ok_weaker c.write_organisations.result
    (λ e. four out first second third (string_bytes c.write_organisations.new.out) (count_line network.nodes.items network.members.items) (without_line (names_among network.nodes.items (λ v. not (is_member network.members.items v))))
    (flat_map (stray_line (map string_bytes network.strays.items)) (each_once (map string_bytes network.strays.items))) (flat_map (organisation_line network.nodes.items) network.organisations.items) counted without strays
    (e ∙ ap (λ (ns : List Named). third ++ flat_map (organisation_line ns) c.deref-5.result.now) c.deref-4.ensures.value ∙ ap (λ (os : List Organisation). third ++ flat_map (organisation_line network.nodes.items) os) c.deref-5.ensures.value))
    c.write_organisations.ensures
