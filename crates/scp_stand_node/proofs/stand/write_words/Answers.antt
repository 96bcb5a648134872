use Rattle.std.proofs.Common.{◌∙◌, append_assoc}
use Rattle.scp_stand_node.specs.Stand.{stands_words}
use Rattle.scp_stand_node.proofs.stand.write_words.Goals as goal

pub returns-clause-added : goal.returns-clause-added
unfolding stands_words
returns-clause-added c = c.in_ok-write.ensures.bytes ∙ simp append_assoc
