use Rattle.std.proofs.Common.{rules}
use Rattle.std.specs.Ordering.{is_lt}
use Rattle.std.proofs.lemmas.List.Sorted.{answers_always}
use Rattle.scp_envelope.specs.Ballots.{value_cmp}
use Rattle.scp_envelope.proofs.Ascending.{ascending_decided}
use Rattle.scp_envelope.proofs.sanity.is_ascending.Goals as goal

pub returns : goal.returns
returns c = ascending_decided c.args.values.now c.is_sorted_by.result (c.is_sorted_by.ensures.cases (λ v w. is_lt (value_cmp v w)) (answers_always _ _ _ (λ f a r g h. search rules)))
