use Rattle.std.proofs.Common.{string_bytes}
use Rattle.scp_draw.specs.Page.{stem_text}
use Rattle.scp_draw.proofs.Adding.{nodes_more}
use Rattle.scp_draw.proofs.section.write_stems.Goals as goal

pub loop-index-preserved : goal.loop-index-preserved
loop-index-preserved c = nodes_more stem_text c.loop-index.index (string_bytes c.args.out.now) (string_bytes c.loop-index.out) _ c.in_ok-write_stem.ensures.added c.loop-index.invariant
