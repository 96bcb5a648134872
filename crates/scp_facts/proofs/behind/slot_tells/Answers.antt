use Rattle.std.proofs.Common.{map, length, ap, sym, ◌∙◌, rules}
use Rattle.scp_facts.specs.declared.fact.Fact.TheVariants.{Says, Decided}
use Rattle.scp_facts.specs.Facts.{entered, places, obeyed}
use Rattle.scp_facts.proofs.Added.{four_added}
use Rattle.scp_facts.proofs.behind.slot_tells.Goals as goal

pub returns : goal.returns
returns c =
    let v = c.args.node.now in
    four_added (map (entered v) (places c.args.entries (length v.ledger.journal))) (obeyed c.args.command v.last_command) (map Says v.last_said) (map Decided (places c.args.decisions (length v.ledger.decisions)))
    c.add_entries.new.facts.items c.add_obeyed.new.facts.items c.add_said.new.facts.items c.add_decided.new.facts.items
    (search rules) (search rules) (search rules) (search rules)
