use Rattle.std.proofs.Common.{◌+◌, ℕ, string_bytes}
use Rattle.scp_trace.specs.Standing.{TellsLast}
use Rattle.scp_trace.proofs.AtEnd.{no_texts, one_text_more}
use Rattle.scp_trace.proofs.ending.write_all.Goals as goal

pub loop-index-init : goal.loop-index-init
loop-index-init c = no_texts (λ (index : ℕ). TellsLast c.args.anew c.args.playing.names.now c.args.playing.commands.now c.args.network.now.nodes (index + 1)) (string_bytes c.args.out.now)

pub loop-index-preserved : goal.loop-index-preserved
loop-index-preserved c = one_text_more (λ (index : ℕ). TellsLast c.args.anew c.args.playing.names.now c.args.playing.commands.now c.args.network.now.nodes (index + 1)) c.loop-index.index (string_bytes c.args.out.now) (string_bytes c.loop-index.out) (string_bytes c.write_last.new.out) c.loop-index.invariant c.in_ok-write_last.ensures.added
