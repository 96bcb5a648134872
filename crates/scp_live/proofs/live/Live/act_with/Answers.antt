use Rattle.std.proofs.Common.{◌≡◌, ℕ, true, ◌∙◌, sym, ap, subst, arith, length, take, string_bytes}
use Rattle.std.specs.Prelude.{◌↔◌, IsErrOf, map}
use Rattle.scp_again.specs.scp_types.specs.declared.fault.Fault.TheVariants.{Failed}
use Rattle.scp_turn.specs.Watch.{notes}
use Rattle.scp_again.specs.scp_core.specs.Kv.{NodeView}
use Rattle.scp_turn.specs.Kv.{Watched}
use Rattle.scp_live.specs.Live.{LiveView}
use Rattle.scp_again.specs.scp_driver.specs.Kv.{kv_says}
use Rattle.scp_live.specs.Idle.{idle_in}
use Rattle.scp_live.proofs.Journals.{not_shorter}
use Rattle.scp_live.proofs.Counting.{counted_before}
use Rattle.scp_live.proofs.Texts.{acts_beside_as}
use Rattle.scp_live.proofs.live.Live.act_with.Goals as goal

pub returns-clause-told : goal.returns-clause-told
returns-clause-told g c =
    let v = c.args.self.now in
    let names : map string_bytes c.as_slice.result.now ≡ v.names = ap (λ ns. map string_bytes ns) c.as_slice.ensures.value ∙ ap (λ (u : LiveView). u.names) c.self.view_is in
    acts_beside_as c.act_with-result.result c.args.event (map string_bytes c.as_slice.result.now) v.names c.self.inside.timers.items v.timers c.act_with-result.new.running.items c.self.inside.node v.node c.act_with-result.new.node (string_bytes c.args.text.now) (string_bytes c.act_with-result.new.text)
    (λ a heard b. Watched (notes g.W.Watch.notes_before g.W.Watch.notes_after) 1 c.args.watch.now a heard b c.act_with-result.new.watch)
    names (ap (λ (u : LiveView). u.timers) c.self.view_is) (ap (λ (u : LiveView). u.node) c.self.view_is) c.act_with-result.ensures.told

pub returns-clause-failed : goal.returns-clause-failed
returns-clause-failed g c = subst (λ (v : NodeView). IsErrOf c.act_with-result.result Failed ↔ (v.failed ≡ true)) (ap (λ (u : LiveView). u.node) c.self.view_is) c.act_with-result.ensures.failed

pub count_on-requires-clause-within : goal.count_on-requires-clause-within
count_on-requires-clause-within g c =
    let told = c.act_with-result.ensures.told in
    let before = ap length c.journal-before.ensures in
    let now = ap length c.journal.ensures in
    let le = not_shorter kv_says told.heard c.self.inside.node c.act_with-result.new.node told.does in
    omega (arith, before, now, le)

pub count_on-requires-clause-counted : goal.count_on-requires-clause-counted
count_on-requires-clause-counted g c =
    let told = c.act_with-result.ensures.told in
    let before : ℕ = length c.journal-before.result.now in
    counted_before told.heard c.self.inside.node c.act_with-result.new.node c.as_mut_slice.result.now before told.does (c.as_mut_slice.ensures.value ∙ c.self.invariant) (ap length c.journal-before.ensures)
    ∙ (λ i. map (idle_in (take before (sym c.journal.ensures i))) (sym c.peers.ensures i))
