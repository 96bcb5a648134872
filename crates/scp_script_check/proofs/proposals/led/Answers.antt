use Rattle.std.proofs.Common.{◌≡◌, ◌+◌, ◌||◌, ◌∙◌, ℕ, Bool, List, ap, sym, arith}
use Rattle.std.specs.List.{list_any}
use Rattle.scp_nominate.specs.scp_types.specs.declared.names.NodeId.{NodeId}
use Rattle.scp_script.specs.Nodes.{numbers}
use Rattle.scp_script_check.specs.Warnings.{leads_own, turn_of}
use Rattle.scp_script_check.proofs.Counting.{any_more}
use Rattle.scp_script_check.proofs.proposals.led.Goals as goal

pub loop-index-preserved : goal.loop-index-preserved
loop-index-preserved c = λ q.
    let cs = c.args.commands.now in
    let ts = c.args.turns.now in
    let i = c.loop-index.index in
    let turn : c.turn_at.result.now ≡ turn_of ts (i + 1) = c.turn_at.ensures (omega arith) in
    c.in_ok-add_led.ensures q
    ∙ ap (λ (b : Bool). b || leads_own c.turn_at.result.now cs q (i + 1)) (c.loop-index.invariant q)
    ∙ ap (λ (ns : List NodeId). list_any (λ (node : ℕ). leads_own (turn_of ts node) cs q node) (numbers i) || leads_own ns cs q (i + 1)) turn
    ∙ sym (any_more (λ (node : ℕ). leads_own (turn_of ts node) cs q node) i)
