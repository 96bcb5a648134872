use Rattle.std.proofs.Common.{◌≡◌, Bool, sym, ◌∙◌, ap, subst}
use Rattle.std.proofs.Math.Path.{fun_ext}
use Rattle.scp_quorum.specs.scp_types.specs.declared.names.NodeId.{NodeId}
use Rattle.scp_quorum.specs.NodeSet.{is_in}
use Rattle.scp_quorum_search.specs.inside.Losses.{GoesOnIn, less}
use Rattle.scp_quorum_search.proofs.going.goes_on_with.Goals as goal

pub returns : goal.returns
returns c =
    let fewer : (v : NodeId) → is_in c.remove.new.self v ≡ less c.args.back.now (is_in c.args.lost.now) v = λ v. c.remove.ensures.updates.0 v ∙ ap (λ s. less c.args.back.now (is_in s) v) c.in_ok-fewer.ensures in
    let P : (NodeId → Bool) → Type 0 = λ us. GoesOnIn c.args.quest.now c.args.at.now us in
    (λ e. subst P (fun_ext fewer) (c.in_ok-goes.ensures.0 e), λ goes. c.in_ok-goes.ensures.1 (subst P (sym (fun_ext fewer)) goes))
