use Rattle.std.proofs.Common.{List, ℕ, ◌∙◌, ap, string_bytes}
use Rattle.scp_live.specs.Beginning.{header_of}
use Rattle.scp_live_process.proofs.Accounted.{accounts_for}
use Rattle.scp_live_process.proofs.accounting.account_settings.Goals as goal

pub returns : goal.returns
returns g c = record {
  accounted = accounts_for g.L.EventLog.holds c.args.settings.now (g.W.ReportOut.written c.args.writer.now) (g.W.ReportOut.written c.write_text.new.writer) c.args.log c.in_ok-live.live c.account_of.new.live c.new-kept.result c.as_slice.result.now (string_bytes c.in_ok-text.text) c.as_str.result.now
      (c.as_slice.ensures.value ∙ c.in_ok-line.ensures.is ∙ ap (λ (d : List ℕ). header_of d) c.in_ok-digest.ensures) c.as_str.ensures.value c.in_ok-live.ensures.new c.new-kept.ensures.log c.each_node_holds_its_ledger.ensures.ledger c.each_node_holds_its_headline.ensures.headline
      c.in_ok-write_text.ensures.whole c.in_ok-text.ensures.account;
}
