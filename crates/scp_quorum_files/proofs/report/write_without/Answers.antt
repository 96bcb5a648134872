use Rattle.std.proofs.Common.{◌≡◌, ◌++◌, List, ℕ, not, codes, length, string_bytes, sym, ◌∙◌, ap}
use Rattle.std.specs.Fmt.{decimal}
use Rattle.std.proofs.lemmas.List.{append-nil}
use Rattle.scp_quorum_search.specs.scp_quorum.specs.NodeSet.{is_in}
use Rattle.scp_quorum_files.specs.Report.{names_among, is_member, listed_text}
use Rattle.scp_quorum_files.proofs.Lines.{names_count, without_none, without_some, with_front}
use Rattle.scp_quorum_files.proofs.report.write_without.Goals as goal

pub returns-then-count-eq0 : goal.returns-then-count-eq0
returns-then-count-eq0 c =
    let all = c.args.all.now in
    let out = string_bytes c.args.out.now in
    let names : List (List ℕ) = names_among all (λ v. not (is_member c.args.members.now v)) in
    let none : length names ≡ 0 = ap length (sym c.in_ok-nodes.ensures) ∙ names_count all (is_in c.in_ok-nodes.nodes) ∙ sym c.count_among-count.ensures ∙ c.if-count-eq0.true in
    sym (ap (λ t. out ++ t) (without_none names none) ∙ append-nil out)

pub returns : goal.returns
returns c =
    let all = c.args.all.now in
    let out = string_bytes c.args.out.now in
    let names : List (List ℕ) = names_among all (λ v. not (is_member c.args.members.now v)) in
    let counts : length names ≡ c.count_among-count.result = ap length (sym c.in_ok-nodes.ensures) ∙ names_count all (is_in c.in_ok-nodes.nodes) ∙ sym c.count_among-count.ensures in
    let some : length names ≡ 0 → ⊥ = λ e. c.if-count-eq0.false (sym counts ∙ e) in
    c.in_ok-push_str.ensures.bytes ∙ ap (λ t. t ++ codes "\n") (c.in_ok-write_names.ensures ∙ ap (λ t. t ++ listed_text (names_among all (is_in c.in_ok-nodes.nodes))) c.in_ok-write.ensures.bytes)
    ∙ with_front out (codes "no quorum set of ") (decimal c.count_among-count.result) (codes ": ") (listed_text (names_among all (is_in c.in_ok-nodes.nodes))) (codes "\n")
    ∙ ap (λ ns. out ++ (codes "no quorum set of " ++ decimal c.count_among-count.result ++ codes ": " ++ listed_text ns ++ codes "\n")) c.in_ok-nodes.ensures
    ∙ ap (λ n. out ++ (codes "no quorum set of " ++ decimal n ++ codes ": " ++ listed_text names ++ codes "\n")) (sym counts)
    ∙ ap (λ t. out ++ t) (sym (without_some names some))
