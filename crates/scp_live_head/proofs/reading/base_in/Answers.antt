use Rattle.std.proofs.Common.{◌≡◌, ◌∙◌, codes, sym, rules}
use Rattle.scp_live_head.specs.Head.{digits_or_dash}
use Rattle.scp_live_head.proofs.Heads.{base_cut, dash_is}
use Rattle.scp_live_head.proofs.reading.base_in.Goals as goal

pub returns-in_default-clause-found : goal.returns-in_default-clause-found
returns-in_default-clause-found c base are is = absurd (c.in_default.ensures.none (digits_or_dash base) is)

pub returns-then-eq-clause-found : goal.returns-then-eq-clause-found
returns-then-eq-clause-found c base are is =
    let dash : c.in-Some.digits.now ≡ codes "-" = search rules in
    c.new.ensures.items ∙ dash_is base (sym (base_cut base c.args.line.now c.in-Some.digits.now is c.in-Some.ensures.some) ∙ dash)
