use Rattle.std.proofs.Common.{◌≡◌, true, get_or, arith, length, ℕ, ◌<◌, false}
use Rattle.std.specs.Prelude.{nat_eq}
use Rattle.std.proofs.lemmas.Bool.Decides.{nat_tests}
use Rattle.scp_text.proofs.Rows.{cut_found, cut_none}
use Rattle.scp_text.proofs.set.cut.Goals as goal

pub returns-then-byte-eq111 : goal.returns-then-byte-eq111
returns-then-byte-eq111 c =
    let here : nat_eq (get_or c.args.text.now c.loop-index.index 0) 111 ≡ true = grind (arith, nat_tests, c.if-byte-eq111.true) in
    cut_found c.args.text.now c.loop-index.index (omega arith) c.loop-index.invariant here

pub returns : goal.returns
returns c =
    let e : c.loop-index.index ≡ length c.args.text.now = omega arith in
    cut_none c.args.text.now (λ k lt. c.loop-index.invariant k (omega (arith, lt, e)))
