use Rattle.std.proofs.Common.{◌≡◌, List, refl, sym, ◌∙◌, ap, subst}
use Rattle.std.specs.Prelude.{Result, Err, is_some}
use Rattle.scp_core.specs.scp_types.specs.declared.fault.Fault.{Fault}
use Rattle.scp_turn.specs.Watch.{notes}
use Rattle.scp_turn.specs.declared.sending.Sending.{Sending}
use Rattle.scp_turn.specs.inside.Cause.{cause_of}
use Rattle.scp_turn.specs.inside.Draining.{GoesFollowed}
use Rattle.scp_turn.proofs.Causes.{nothing_in}
use Rattle.scp_turn.proofs.Draws.{done}
use Rattle.scp_turn.proofs.Episodes.{GoesWatched, had_failed, refused, plays, host_runs}
use Rattle.scp_turn.proofs.playing.play_with.Goals as goal

pub returns-then-is_some-clause-episode : goal.returns-then-is_some-clause-episode
returns-then-is_some-clause-episode g c = had_failed g.A.Driver.says (notes g.W.Watch.notes_before g.W.Watch.notes_after) c.args.event c.args.watch.now c.args.node.now

pub follow_on-requires : goal.follow_on-requires
follow_on-requires g c = record { runs = host_runs g.A.Driver.says c.args.node.now c.step_with-reply.new.node c.args.event c.step_with-reply.result c.requires (sym c.why_failed.ensures.failed ∙ sym c.is_some.ensures ∙ c.if-is_some.false) c.step_with-reply.ensures.step }

pub returns-in-Err-clause-episode : goal.returns-in-Err-clause-episode
returns-in-Err-clause-episode g c =
    let a = c.args.node.now in
    let b = c.follow_on.new.node in
    let none = nothing_in a.fault (ap is_some (sym c.why_failed.ensures.same) ∙ sym c.is_some.ensures ∙ c.if-is_some.false) in
    let is : c.cause_of.result ≡ cause_of b.fault = c.cause_of.ensures.same ∙ ap cause_of c.why_failed-in-Err.ensures.same in
    subst (λ (f : Fault). GoesWatched g.A.Driver.says (notes g.W.Watch.notes_before g.W.Watch.notes_after) (Err f) c.args.event c.args.watch.now a b c.follow_on.new.watch) (sym is)
    (refused g.A.Driver.says (notes g.W.Watch.notes_before g.W.Watch.notes_after) c.follow_on.result c.args.event c.step_with-reply.result c.args.watch.now c.step_with-reply.new.watch c.follow_on.new.watch a c.step_with-reply.new.node b c.new-sent.result.items c.follow_on.new.sent.items c.each_step_says_why_it_failed.ensures.why none c.step_with-reply.ensures.step c.step_with-reply.ensures.theorem c.step_with-reply.ensures.noted c.follow_on.ensures.followed)

pub returns-in-Ok-clause-episode : goal.returns-in-Ok-clause-episode
returns-in-Ok-clause-episode g c =
    let follows : GoesFollowed g.A.Driver.says (notes g.W.Watch.notes_before g.W.Watch.notes_after) done c.step_with-reply.result c.step_with-reply.new.watch c.step_with-reply.new.node c.follow_on.new.node c.new-sent.result.items c.follow_on.new.sent.items c.follow_on.new.watch =
    subst (λ (s : Result _ Fault). GoesFollowed g.A.Driver.says (notes g.W.Watch.notes_before g.W.Watch.notes_after) s c.step_with-reply.result c.step_with-reply.new.watch c.step_with-reply.new.node c.follow_on.new.node c.new-sent.result.items c.follow_on.new.sent.items c.follow_on.new.watch) c.in-Ok.is c.follow_on.ensures.followed in
    plays g.A.Driver.says (notes g.W.Watch.notes_before g.W.Watch.notes_after) c.args.event c.step_with-reply.result c.args.watch.now c.step_with-reply.new.watch c.follow_on.new.watch c.args.node.now c.step_with-reply.new.node c.follow_on.new.node (record { reply = c.step_with-reply.result; sent = c.follow_on.new.sent }) refl c.requires c.in-Ok.ensures.runs c.step_with-reply.ensures.step c.step_with-reply.ensures.theorem c.step_with-reply.ensures.noted
    (subst (λ (before : List Sending). GoesFollowed g.A.Driver.says (notes g.W.Watch.notes_before g.W.Watch.notes_after) done c.step_with-reply.result c.step_with-reply.new.watch c.step_with-reply.new.node c.follow_on.new.node before c.follow_on.new.sent.items c.follow_on.new.watch) c.new-sent.ensures.items follows)
