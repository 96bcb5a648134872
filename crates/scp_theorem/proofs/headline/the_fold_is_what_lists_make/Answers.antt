use Rattle.std.specs.FinMap as finite
use Rattle.scp_theorem.proofs.Folding.{is_fold}
use Rattle.scp_theorem.proofs.headline.the_fold_is_what_lists_make.Goals as goal

pub returns : goal.returns
returns c = λ values. is_fold (record {
  found = c.ops_in_finds_the_list.ensures.found;
  only = c.ops_in_finds_the_list.ensures.only;
}) finite.empty values
