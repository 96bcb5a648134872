use Rattle.std.proofs.Common.{◌≡◌, ◌∙◌, true, false, List, nat_eq, sym, subst, arith}
use Rattle.std.specs.List.{list_any}
use Rattle.std.proofs.lemmas.Bool.Decides.{nat_tests}
use Rattle.scp_nominate.specs.scp_types.specs.declared.names.NodeId.{NodeId}
use Rattle.scp_script.specs.Script.{opens}
use Rattle.scp_script.specs.Nodes.{id_of}
use Rattle.scp_script_check.specs.Nodes.{speaks_in, is_scripted_in}
use Rattle.scp_script_check.specs.Warnings.{turn_of, has_node}
use Rattle.scp_script_check.proofs.Telling.{unknown_there, scripted_there, missing_there}
use Rattle.scp_script_check.proofs.warned.is_missing.Goals as goal

pub returns-then-not-has_node : goal.returns-then-not-has_node
returns-then-not-has_node c =
    let cs = c.args.whole.now.commands.now in
    let ts = c.args.whole.now.turns.now in
    let known : has_node (turn_of ts c.args.to) (id_of c.args.from) ≡ false =
    subst (λ (x : NodeId). has_node (turn_of ts c.args.to) x ≡ false) c.id_from.ensures (subst (λ (ns : List NodeId). has_node ns c.id_from.result ≡ false) (c.turn_at.ensures c.requires.to) (sym c.has_node.ensures ∙ c.if-not-has_node.true)) in
    unknown_there (nat_eq c.args.from c.args.to) (speaks_in c.args.from cs) (has_node (turn_of ts c.args.to) (id_of c.args.from)) (is_scripted_in c.args.to cs) (list_any (opens c.args.from c.args.to) cs) known

pub returns-then-is_scripted : goal.returns-then-is_scripted
returns-then-is_scripted c =
    let cs = c.args.whole.now.commands.now in
    let ts = c.args.whole.now.turns.now in
    scripted_there (nat_eq c.args.from c.args.to) (speaks_in c.args.from cs) (has_node (turn_of ts c.args.to) (id_of c.args.from)) (is_scripted_in c.args.to cs) (list_any (opens c.args.from c.args.to) cs) (sym c.is_scripted.ensures ∙ c.if-is_scripted.true)

pub returns : goal.returns
returns c =
    let cs = c.args.whole.now.commands.now in
    let ts = c.args.whole.now.turns.now in
    let other : nat_eq c.args.from c.args.to ≡ false = grind (arith, nat_tests) in
    let known : has_node (turn_of ts c.args.to) (id_of c.args.from) ≡ true =
    subst (λ (x : NodeId). has_node (turn_of ts c.args.to) x ≡ true) c.id_from.ensures (subst (λ (ns : List NodeId). has_node ns c.id_from.result ≡ true) (c.turn_at.ensures c.requires.to) (sym c.has_node.ensures ∙ c.if-not-has_node.false)) in
    missing_there (nat_eq c.args.from c.args.to) (speaks_in c.args.from cs) (has_node (turn_of ts c.args.to) (id_of c.args.from)) (is_scripted_in c.args.to cs) (list_any (opens c.args.from c.args.to) cs) c.is_opened.result
    other (sym c.speaks.ensures ∙ c.if-not-speaks.false) known (sym c.is_scripted.ensures ∙ c.if-is_scripted.false) (sym c.is_opened.ensures)
