use Rattle.std.proofs.Common.{[], ◌≡◌, ◌<◌, ◌≤◌, true, false, Some, map, length, string_bytes, option_map, arith, sym, ◌∙◌, ap}
use Rattle.std.specs.Str.{bytes_eq}
use Rattle.std.proofs.lemmas.List.{length-map}
use Rattle.scp_quorum_files.specs.Networks.{id_at}
use Rattle.scp_quorum_files.proofs.Once.{first_at, nowhere, text_at_place, none_more}
use Rattle.scp_quorum_files.proofs.names.id_of.Goals as goal

pub returns-then-eq : goal.returns-then-eq
returns-then-eq c =
    let names = c.args.names.now in
    let name = c.args.name.now in
    let other = c.index-names-place.result in
    let place = c.loop-place.place in
    let within : place < length names = omega arith in
    let inside : place < length (map string_bytes names) = omega (arith, within, length-map names string_bytes) in
    let same : bytes_eq name (string_bytes other) ≡ true = ap (bytes_eq name) (sym c.as_str.ensures.value) ∙ sym c.eq.ensures ∙ c.if-eq.true in
    let here = text_at_place string_bytes names place other [] within c.index-names-place.is in
    ap Some c.id_at.ensures ∙ ap (option_map id_at) (sym (first_at (bytes_eq name) (map string_bytes names) place [] inside c.loop-place.invariant (ap (bytes_eq name) here ∙ same)))

pub loop-place-preserved : goal.loop-place-preserved
loop-place-preserved c =
    let names = c.args.names.now in
    let name = c.args.name.now in
    let other = c.index-names-place.result in
    let place = c.loop-place.place in
    let within : place < length names = omega arith in
    let inside : place < length (map string_bytes names) = omega (arith, within, length-map names string_bytes) in
    let apart : bytes_eq name (string_bytes other) ≡ false = ap (bytes_eq name) (sym c.as_str.ensures.value) ∙ sym c.eq.ensures ∙ c.if-eq.false in
    none_more (bytes_eq name) (map string_bytes names) place (string_bytes other) inside (λ d. text_at_place string_bytes names place other d within c.index-names-place.is) apart c.loop-place.invariant

pub returns : goal.returns
returns c =
    let names = c.args.names.now in
    let end : length (map string_bytes names) ≤ c.loop-place.place = omega (arith, length-map names string_bytes) in
    ap (option_map id_at) (sym (nowhere (bytes_eq c.args.name.now) (map string_bytes names) c.loop-place.place end c.loop-place.invariant))
