use Rattle.std.proofs.Common.{◌≡◌, ◌+◌, ℕ, suc, [], ◌∷◌, sym, subst, arith}
use Rattle.std.proofs.lemmas.Result.{err_from_is_err_and}
use Rattle.scp_again.specs.scp_core.specs.declared.event.Event.TheVariants.{Close}
use Rattle.scp_epoch.specs.Played.{closings}
use Rattle.scp_epoch.specs.inside.Playing.{Plays}
use Rattle.scp_epoch.proofs.Playing.{done, plays_none, plays_then, plays_stop}
use Rattle.scp_epoch.proofs.carrying.close_all.Goals as goal

pub loop-link-init : goal.loop-link-init
loop-link-init g c = record { played = plays_none g.A.Driver.says c.args.node.now; runs = c.requires.runs }

pub returns-in_err-play_one-clause-played : goal.returns-in_err-play_one-clause-played
returns-in_err-play_one-clause-played g c =
    let p = err_from_is_err_and c.from_residual.result c.from_residual.ensures.1 in
    rw (p.1, p.2) (plays_stop g.A.Driver.says c.in_err-play_one.field-0.0 (closings c.loop-link.link) (Close c.loop-link.link ∷ []) (closings c.args.links) c.args.node.now c.loop-link.node c.play_one.new.node c.loop-link.invariant.played c.in_err-play_one.ensures.played)

pub loop-link-preserved : goal.loop-link-preserved
loop-link-preserved g c =
    let link = c.loop-link.link in
    let e : link + 1 ≡ suc link = omega arith in
    record {
      played = subst (λ (j : ℕ). Plays g.A.Driver.says (closings j) done c.args.node.now c.play_one.new.node) (sym e) (plays_then g.A.Driver.says done (closings link) (Close link ∷ []) c.args.node.now c.loop-link.node c.play_one.new.node c.loop-link.invariant.played c.in_ok-play_one.ensures.played);
      runs = c.in_ok-play_one.ensures.runs;
    }
