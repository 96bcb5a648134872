use Rattle.std.proofs.Common.{ℕ, ◌++◌, map, rules}
use Rattle.scp_facts.specs.Facts.{entered, places}
use Rattle.scp_facts.proofs.Places.{one_more, no_more}
use Rattle.scp_facts.proofs.behind.add_entries.Goals as goal

pub loop-place-preserved : goal.loop-place-preserved
loop-place-preserved c =
    one_more (entered c.args.node.now) c.loop-place.facts.items c.add_entry.new.facts.items (c.args.facts.now.items ++ map (entered c.args.node.now) (places c.args.before c.args.now)) c.loop-place.place c.args.now (search rules) c.in_ok-add_entry.ensures c.loop-place.invariant

pub returns : goal.returns
returns c = no_more (entered c.args.node.now) c.loop-place.facts.items (c.args.facts.now.items ++ map (entered c.args.node.now) (places c.args.before c.args.now)) c.loop-place.place c.args.now (search rules) c.loop-place.invariant
