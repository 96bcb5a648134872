use Rattle.std.proofs.Common.{◌≡◌, ◌+◌, ◌∷◌, [], ◌++◌, List, ℕ, cond, map, take, string_bytes, sym, ◌∙◌, ap}
use Rattle.std.specs.List.{list_any}
use Rattle.std.specs.Str.{bytes_eq}
use Rattle.std.proofs.lemmas.List.{take_more, map_push}
use Rattle.scp_quorum_files.specs.Networks.{each_once}
use Rattle.scp_quorum_files.proofs.Once.{once_more}
use Rattle.scp_quorum_files.proofs.names.each_once.Goals as goal

pub loop-text-preserved : goal.loop-text-preserved
loop-text-preserved c =
    let texts = c.args.texts.now in
    let i = c.loop-text.text-index in
    let x = c.text-item.result in
    let xs : List (List ℕ) = map string_bytes (take i texts) in
    let all : map string_bytes (take (i + 1) texts) ≡ xs ++ string_bytes x ∷ [] =
    ap (map string_bytes) (take_more texts i x c.loop-text-test.true ∙ ap (λ y. take i texts ++ y ∷ []) (sym c.text-item.is)) ∙ map_push string_bytes (take i texts) x in
    c.in_ok-add_once.ensures
    ∙ ap (λ t. cond (list_any (bytes_eq t) (map string_bytes c.loop-text.once.items)) (map string_bytes c.loop-text.once.items) (map string_bytes c.loop-text.once.items ++ t ∷ [])) c.as_str.ensures.value
    ∙ ap (λ l. cond (list_any (bytes_eq (string_bytes x)) l) l (l ++ string_bytes x ∷ [])) c.loop-text.invariant
    ∙ sym (once_more xs (string_bytes x)) ∙ ap each_once (sym all)
