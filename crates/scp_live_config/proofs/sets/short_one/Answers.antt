use Rattle.std.proofs.Common.{◌≡◌, false, sym, ◌∙◌, rules}
use Rattle.std.proofs.lemmas.Bool.{false≢true}
use Rattle.scp_quorum.specs.Sane.{IsSane}
use Rattle.scp_live_config.proofs.sets.short_one.Goals as goal

pub returns-then-not-is_sane-clause-wrong : goal.returns-then-not-is_sane-clause-wrong
returns-then-not-is_sane-clause-wrong c = λ short.
    let sane : IsSane c.args.set = record {
      in_range = c.requires.in_range;
      distinct = c.requires.apart;
      few_nodes = c.requires.few;
      shallow = c.requires.shallow;
      fits = short.0;
      short = short.1;
    } in
    let refused : c.is_sane.result ≡ false = search rules in
    false≢true (sym refused ∙ c.is_sane.ensures.1 sane)
