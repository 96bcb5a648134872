use Rattle.std.proofs.Common.{◌++◌, ◌∙◌, ℕ, ap, sym, map, append-nil, arith}
use Rattle.std.specs.Prelude.{Option, option_to_list}
use Rattle.std.proofs.lemmas.Option.{slice_get_past}
use Rattle.scp_notices.specs.declared.notice.Notice.TheVariants.{GaveUp}
use Rattle.scp_notices.proofs.threads.add_gave_up_at.Goals as goal

pub returns-else-place-lines : goal.returns-else-place-lines
returns-else-place-lines c =
    let old = c.args.out.now.items in
    sym (ap (λ (o : Option ℕ). old ++ map (λ (line : ℕ). GaveUp line) (option_to_list o)) (slice_get_past c.args.lines.now c.args.place (omega (arith, c.if-place-lines.false))) ∙ append-nil old)
