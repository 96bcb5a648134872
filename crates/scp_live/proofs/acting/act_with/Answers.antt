use Rattle.std.proofs.Common.{Bool, sym, ◌∙◌, ap, string_bytes}
use Rattle.std.specs.Prelude.{Err, map}
use Rattle.scp_again.specs.scp_types.specs.declared.fault.Fault.{Fault}
use Rattle.scp_again.specs.scp_types.specs.declared.fault.Fault.TheVariants.{Failed}
use Rattle.scp_again.specs.scp_types.specs.declared.names.Hash.{Hash}
use Rattle.scp_turn.specs.Watch.{notes}
use Rattle.scp_turn.specs.Kv.{Watched}
use Rattle.scp_turn.specs.declared.playing.Played.{Played}
use Rattle.scp_live.specs.Live.{fate_at}
use Rattle.scp_live.proofs.Reporting.{memory_alone, memory_isnt}
use Rattle.scp_live.proofs.Texts.{acts_beside, refuses_beside, ok_isnt, same_fault, same_cause}
use Rattle.scp_live.proofs.acting.act_with.Goals as goal

pub returns-in-Ok-clause-told : goal.returns-in-Ok-clause-told
returns-in-Ok-clause-told g c =
    acts_beside c.play_with.result c.tell.result c.in-Ok.played c.args.event (map string_bytes c.args.names.now) c.args.running.now.items c.tell.new.running.items (fate_at c.play_with.new.node c.of-marks.result.is_command) c.args.node.now c.play_with.new.node c.of-marks.result.fates c.of-marks.result.decisions c.of-marks.result.applied (string_bytes c.args.text.now) (string_bytes c.tell.new.text)
    (λ a heard b. Watched (notes g.W.Watch.notes_before g.W.Watch.notes_after) 1 c.args.watch.now a heard b c.play_with.new.watch)
    c.in-Ok.is (ap (λ (is : Bool). fate_at c.play_with.new.node is) c.of-marks.ensures.command) c.of-marks.ensures.fates c.of-marks.ensures.decisions c.of-marks.ensures.applied c.tell.ensures.told c.tell.ensures.digest c.tell.ensures.only_memory c.play_with.ensures.episode

pub returns-in-Err-clause-told : goal.returns-in-Err-clause-told
returns-in-Err-clause-told g c =
    refuses_beside c.play_with.result c.in-Err.fault c.args.event (map string_bytes c.args.names.now) c.args.running.now.items c.args.running.now.items c.args.node.now c.play_with.new.node (string_bytes c.args.text.now) (string_bytes c.args.text.now)
    (λ a heard b. Watched (notes g.W.Watch.notes_before g.W.Watch.notes_after) 1 c.args.watch.now a heard b c.play_with.new.watch)
    c.in-Err.is c.play_with.ensures.episode

pub returns-in-Ok-clause-failed : goal.returns-in-Ok-clause-failed
returns-in-Ok-clause-failed g c = (λ is. absurd (memory_isnt c.tell.result Failed (λ e. cc) c.tell.ensures.only_memory is), λ had. absurd (ok_isnt c.play_with.result c.in-Ok.played Failed c.in-Ok.is (c.play_with.ensures.failed.1 had)))

pub returns-in-Err-clause-failed : goal.returns-in-Err-clause-failed
returns-in-Err-clause-failed g c = (
  λ is. c.play_with.ensures.failed.0 (c.in-Err.is ∙ ap (λ (f : Fault). Err f) (same_fault c.in-Err.fault Failed is)),
  λ had. ap (λ (f : Fault). Err f) (same_cause c.in-Err.fault Failed (sym c.in-Err.is ∙ c.play_with.ensures.failed.1 had)),
)

pub returns-in-Ok-clause-only : goal.returns-in-Ok-clause-only
returns-in-Ok-clause-only g c = memory_alone c.tell.result c.tell.ensures.only_memory
