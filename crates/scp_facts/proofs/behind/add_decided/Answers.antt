use Rattle.std.proofs.Common.{ℕ, ◌++◌, map, rules}
use Rattle.scp_facts.specs.declared.fact.Fact.{Fact}
use Rattle.scp_facts.specs.declared.fact.Fact.TheVariants.{Decided}
use Rattle.scp_facts.specs.Facts.{places}
use Rattle.scp_facts.proofs.Places.{one_more, no_more}
use Rattle.scp_facts.proofs.behind.add_decided.Goals as goal

pub loop-place-preserved : goal.loop-place-preserved
loop-place-preserved c =
    let f : ℕ → Fact = λ (place : ℕ). Decided place in
    one_more f c.loop-place.facts.items c.push.new.self.items (c.args.facts.now.items ++ map f (places c.args.before c.args.now)) c.loop-place.place c.args.now (search rules) (search rules) c.loop-place.invariant

pub returns : goal.returns
returns c =
    let f : ℕ → Fact = λ (place : ℕ). Decided place in
    no_more f c.loop-place.facts.items (c.args.facts.now.items ++ map f (places c.args.before c.args.now)) c.loop-place.place c.args.now (search rules) c.loop-place.invariant
