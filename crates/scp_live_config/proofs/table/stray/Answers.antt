use Rattle.std.proofs.Common.{◌≡◌, ◌∷◌, ◌++◌, [], ℕ, length, List, true, false, rules, string_bytes}
use Rattle.toml.specs.Data.{Data}
use Rattle.toml.specs.View.{view, table_view}
use Rattle.scp_live_config.specs.Names.{belongs, pairs_of}
use Rattle.scp_live_config.proofs.Lists.{all_push}
use Rattle.scp_live_config.proofs.Views.{pair_at, pair_more}
use Rattle.scp_live_config.proofs.table.stray.Goals as goal

pub returns-then-not-belongs-clause-some : goal.returns-then-not-belongs-clause-some
returns-then-not-belongs-clause-some c =
    let i = c.loop-key.invariant in
    let no : belongs c.args.section (string_bytes c.in-Some.key.now) ≡ false = search rules in
    (length i.0, view c.in-Some.field-0-1.now, pair_at (pairs_of (table_view c.args.table.now)) i.0 c.loop-key.key-iterator c.next.new.self c.in-Some.key.now c.in-Some.field-0-1.now i.1 c.in-Some.ensures.steps, no)

pub loop-key-preserved : goal.loop-key-preserved
loop-key-preserved c =
    let i = c.loop-key.invariant in
    let pair : List ℕ × Data = (string_bytes c.in-Some.key.now, view c.in-Some.field-0-1.now) in
    let yes : belongs c.args.section (string_bytes c.in-Some.key.now) ≡ true = search rules in
    (i.0 ++ pair ∷ [], pair_more (pairs_of (table_view c.args.table.now)) i.0 c.loop-key.key-iterator c.next.new.self c.in-Some.key.now c.in-Some.field-0-1.now i.1 c.in-Some.ensures.steps, all_push (λ (p : List ℕ × Data). belongs c.args.section p.0) i.0 pair i.2 yes)
