use Rattle.std.proofs.Common.{◌≡◌, ◌+◌, ℕ, List, Vec, Err, inr, length, sym, ◌∙◌, ap, rules}
use Rattle.std.specs.declared.alloc.Global.{Global}
use Rattle.std.proofs.lemmas.List.{length-map}
use Rattle.std.proofs.lemmas.Result.{err_from_is_err_and}
use Rattle.scp_live_head.proofs.Heads.{only_memory, none_refused, sum_there, no_sum_there, left_behind, head_whole}
use Rattle.scp_live_head.proofs.reading.read_head.Goals as goal

pub returns-in_err-head-clause-found : goal.returns-in_err-head-clause-found
returns-in_err-head-clause-found c h tail fits is =
    let p = err_from_is_err_and c.from_residual.result c.from_residual.ensures.1 in
    rw (p.1, p.2) (only_memory c.in_err-head.field-0.0 (λ n line. none_refused h c.args.bytes.now tail n fits is (c.in_err-head.ensures.refused n (ap Err line))))

pub returns-then-not-begins_with-clause-found : goal.returns-then-not-begins_with-clause-found
returns-then-not-begins_with-clause-found c h tail fits is =
    let there = sum_there h c.in_ok-head.head c.args.bytes.now tail c.split_at.result.0.now c.split_at.result.1.now c.deref.result.now c.in_ok-head.size fits c.in_ok-head.ensures.fits c.in_ok-head.ensures.no_more is c.in_ok-head.ensures.split c.in_ok-head.ensures.size c.split_at.ensures.front c.split_at.ensures.back (c.deref.ensures.value ∙ c.in_ok-sum.ensures) in
    absurd (c.if-not-begins_with.ensures.none (tail, there.1))

pub returns-then-not-begins_with-clause-refused : goal.returns-then-not-begins_with-clause-refused
returns-then-not-begins_with-clause-refused c n is =
    let many : length c.said.result.now ≡ length c.in_ok-head.head.said = sym (length-map c.said.result.now (λ (b : Vec ℕ Global). b.items)) ∙ ap (λ (l : List (List ℕ)). length l) c.said.ensures in
    let count : n ≡ 3 + length c.in_ok-head.head.said = (let k : n ≡ 3 + length c.said.result.now = cc in k) ∙ ap (λ (m : ℕ). 3 + m) many in
    inr (inr (no_sum_there c.in_ok-head.head c.args.bytes.now c.split_at.result.0.now c.split_at.result.1.now c.deref.result.now c.in_ok-head.size n c.in_ok-head.ensures.fits count c.in_ok-head.ensures.no_more c.in_ok-head.ensures.split c.in_ok-head.ensures.size
    c.split_at.ensures.front c.split_at.ensures.back (c.deref.ensures.value ∙ c.in_ok-sum.ensures) c.if-not-begins_with.ensures.none))

pub returns-clause-split : goal.returns-clause-split
returns-clause-split c =
    head_whole c.in_ok-head.head c.args.bytes.now c.split_at.result.0.now c.split_at.result.1.now c.deref.result.now c.in_ok-head.size _ c.in_ok-head.ensures.split c.split_at.ensures.front c.split_at.ensures.back c.in_ok-head.ensures.size
    (c.deref.ensures.value ∙ c.in_ok-sum.ensures) c.if-not-begins_with.ensures.some.1 (search rules)

pub returns-clause-found : goal.returns-clause-found
returns-clause-found c h tail fits is =
    let there = sum_there h c.in_ok-head.head c.args.bytes.now tail c.split_at.result.0.now c.split_at.result.1.now c.deref.result.now c.in_ok-head.size fits c.in_ok-head.ensures.fits c.in_ok-head.ensures.no_more is c.in_ok-head.ensures.split c.in_ok-head.ensures.size c.split_at.ensures.front c.split_at.ensures.back (c.deref.ensures.value ∙ c.in_ok-sum.ensures) in
    (there.0, left_behind c.args.bytes.now c.split_at.result.1.now c.deref.result.now tail c.in_ok-head.size _ c.split_at.ensures.back there.1 (search rules))
