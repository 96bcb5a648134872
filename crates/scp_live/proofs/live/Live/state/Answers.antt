use Rattle.std.proofs.Common.{◌≡◌, false, length, ◌∙◌, ap, string_bytes}
use Rattle.scp_again.specs.scp_ledger.specs.Kv.{KvLedger}
use Rattle.scp_live.specs.Live.{LiveView}
use Rattle.scp_live.proofs.Stating.{state_told}
use Rattle.scp_live.proofs.live.Live.state.Goals as goal

pub returns : goal.returns
returns c =
    λ (run : c.args.self.now.node.failed ≡ false).
    let v = c.args.self.now in
    let ledger : c.ledger.result.now ≡ v.node.ledger = c.ledger.ensures (ap (λ (u : LiveView). u.node.failed) c.self.view_is ∙ run) ∙ ap (λ (u : LiveView). u.node.ledger) c.self.view_is in
    let slot = c.lowest.ensures.same ∙ ap (λ (l : KvLedger). l.lowest) ledger in
    let count = ap length (c.applied.ensures ∙ ap (λ (u : LiveView). u.node.applier.applied) c.self.view_is) in
    let entries = ap length (c.journal-entries.ensures ∙ ap (λ (u : LiveView). u.node.ledger.journal) c.self.view_is) in
    let timers = c.as_slice.ensures.value ∙ ap (λ (u : LiveView). u.timers) c.self.view_is in
    state_told c.write_running.result v (string_bytes c.args.text.now) (string_bytes c.write_lowest.new.text) (string_bytes c.write_applied_count.new.text) (string_bytes c.write_journal.new.text) (string_bytes c.write_warning.new.text) (string_bytes c.tell_links.new.text)
    (string_bytes c.tell_each_idle.new.text) (string_bytes c.write_running.new.text) c.lowest.result (length c.applied.result.now) (length c.journal-entries.result.now) c.as_slice.result.now slot count entries timers c.in_ok-write_lowest.ensures c.in_ok-write_applied_count.ensures c.in_ok-write_journal.ensures c.in_ok-write_warning.ensures
    c.in_ok-tell_links.ensures c.in_ok-tell_each_idle.ensures c.write_running.ensures
