use Rattle.std.proofs.Common.{◌++◌, List, ℕ, map, string_bytes, String, Global, arith, sym, ◌∙◌, ap}
use Rattle.std.specs.List.{flat_map}
use Rattle.std.proofs.lemmas.List.Folds.{flat_map-map}
use Rattle.scp_quorum_files.specs.Report.{stray_line}
use Rattle.scp_quorum_files.proofs.Lines.{lines_more, lines_end}
use Rattle.scp_quorum_files.proofs.report.write_strays.Goals as goal

pub loop-key-preserved : goal.loop-key-preserved
loop-key-preserved c =
    let strays = map string_bytes c.args.strays.now in
    lines_more (λ (key : String Global). stray_line strays (string_bytes key)) c.deref-key-items.result.now c.loop-key.key-index c.key-item.result (string_bytes c.loop-key.out) _ _ c.loop-key-test.true c.key-item.is
    (c.in_ok-write_stray.ensures ∙ ap (λ k. string_bytes c.loop-key.out ++ stray_line strays k) c.as_str.ensures.value) c.loop-key.invariant

pub returns : goal.returns
returns c =
    let strays = map string_bytes c.args.strays.now in
    let f : List ℕ → List ℕ = stray_line strays in
    let keys = c.deref-key-items.result.now in
    lines_end (λ (key : String Global). stray_line strays (string_bytes key)) keys c.loop-key.key-index (string_bytes c.loop-key.out) _ (omega arith) c.loop-key.invariant
    ∙ ap (λ t. string_bytes c.args.out.now ++ t) (sym (flat_map-map f string_bytes keys) ∙ ap (λ (ks : List (String Global)). flat_map f (map string_bytes ks)) c.deref-key-items.ensures.value ∙ ap (flat_map f) c.in_ok-keys.ensures)
