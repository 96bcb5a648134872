use Rattle.std.proofs.Common.{◌≡◌, ◌<◌, ◌∙◌, ℕ, [], get_or, map, length, sym, ap, arith}
use Rattle.std.specs.Prelude.{string_bytes}
use Rattle.std.proofs.lemmas.List.{length-map}
use borrow.Author.Count.{below_more}
use Rattle.scp_live_lines.specs.Says.{name_of}
use Rattle.scp_live_lines.proofs.LinkNames.{named, told_same, told_apart}
use Rattle.scp_live_lines.proofs.words.link_of.Goals as goal

pub returns-then-eq-clause-found : goal.returns-then-eq-clause-found
returns-then-eq-clause-found c =
    let told = c.in-Ok.ensures in
    let small : c.loop-index.index < 256 = omega arith in
    let is : c.in-Ok.link ≡ c.loop-index.index = omega arith in
    let within : c.loop-index.index < length c.args.names.now = omega arith in
    let all : length (map string_bytes c.args.names.now) ≡ length c.args.names.now = simp length-map in
    let name : c.as_str.result.now ≡ get_or (map string_bytes c.args.names.now) c.loop-index.index [] = named string_bytes c.args.names.now c.loop-index.index c.index-names-index.result c.as_str.result.now within c.index-names-index.is c.as_str.ensures.value in
    ((omega arith, omega arith), sym (told_same c.as_str.result.now c.args.word.now c.if-eq.ensures) ∙ name ∙ ap (λ (i : ℕ). name_of (map string_bytes c.args.names.now) i) (sym is))

pub loop-index-preserved : goal.loop-index-preserved
loop-index-preserved c =
    let within : c.loop-index.index < length c.args.names.now = omega arith in
    let name : c.as_str.result.now ≡ get_or (map string_bytes c.args.names.now) c.loop-index.index [] = named string_bytes c.args.names.now c.loop-index.index c.index-names-index.result c.as_str.result.now within c.index-names-index.is c.as_str.ensures.value in
    below_more (λ (k : ℕ). c.args.word.now ≡ name_of (map string_bytes c.args.names.now) k → ⊥) c.loop-index.index c.loop-index.invariant (λ e. told_apart c.as_str.result.now c.args.word.now c.if-eq.ensures (name ∙ sym e))
