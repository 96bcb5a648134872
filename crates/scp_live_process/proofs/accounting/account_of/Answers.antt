use Rattle.std.proofs.Common.{◌≡◌, List, [], ◌∷◌, length, map, sym, ◌∙◌, ap, subst, string_bytes, arith}
use Rattle.std.proofs.lemmas.Result.{err_from_is_err_and}
use Rattle.scp_stand_node.specs.scp_core.specs.Kv.{NodeView}
use Rattle.scp_stand_node.specs.scp_turn.specs.Kv.{Watched}
use Rattle.scp_batches.specs.scp_live_log.specs.Log.{EntryView}
use Rattle.scp_trace_text.specs.scp_facts.specs.declared.happening.Kept.{Kept as Happened}
use Rattle.scp_trace_text.specs.scp_facts.specs.Keeping.{WatchView, noting}
use Rattle.scp_account.specs.scp_report.specs.declared.report.Report.{Report}
use Rattle.scp_account.specs.scp_report.specs.Report.{ReportView, view_of}
use Rattle.scp_account.specs.scp_report.specs.Node.{reports_of}
use Rattle.scp_account.specs.declared.node.Mode.TheVariants as ways
use Rattle.scp_account.specs.Account.{account_text}
use Rattle.scp_live.specs.Replays.{AreReplayed}
use Rattle.scp_live_process.proofs.Accounted.{accounted}
use Rattle.scp_live.proofs.Going.{Heard, heard_nothing, heard_as, unsaid}
use Rattle.scp_live_process.proofs.accounting.account_of.Goals as goal

pub reports_of-requires : goal.reports_of-requires
reports_of-requires g c = record { few = omega (arith, ap (λ (ns : List NodeView). length ns) c.from_ref.ensures.value) }

pub returns-in_err-found : goal.returns-in_err-found
returns-in_err-found g c = record { account = let p = err_from_is_err_and c.from_residual.result c.from_residual.ensures.1 in rw p.1 (heard_nothing c.args.live.now.node (λ heard. Unit {0}) tt) }

pub returns-in_err-replay : goal.returns-in_err-replay
returns-in_err-replay g c = record { account = let p = err_from_is_err_and c.from_residual-in_err-replay.result c.from_residual-in_err-replay.ensures.1 in rw p.1 (unsaid c.args.live.now.node c.replay.new.live.node _ c.replay.ensures.replayed) }

pub returns-then-lacks_memory : goal.returns-then-lacks_memory
returns-then-lacks_memory g c = record { account = unsaid c.args.live.now.node c.replay.new.live.node _ c.replay.ensures.replayed }

pub returns-in_err-reports : goal.returns-in_err-reports
returns-in_err-reports g c = record { account = let p = err_from_is_err_and c.from_residual-in_err-reports.result c.from_residual-in_err-reports.ensures.1 in rw p.1 (unsaid c.args.live.now.node c.replay.new.live.node _ c.replay.ensures.replayed) }

pub returns-in_err-text : goal.returns-in_err-text
returns-in_err-text g c = record { account = let p = err_from_is_err_and c.from_residual-in_err-text.result c.from_residual-in_err-text.ensures.1 in rw p.1 (unsaid c.args.live.now.node c.replay.new.live.node _ c.replay.ensures.replayed) }

pub returns : goal.returns
returns g c =
    let u = c.args.live.now in
    let v = c.replay.new.live in
    let first = c.new-watch.result in
    let last = c.replay.new.watch in
    let kept = c.into_kept-happened.result.items in
    let text = string_bytes c.in_ok-text.text in
    let seen : map view_of c.as_slice-records.result.now ≡ reports_of (v.node ∷ []) =
    ap (λ (rs : List Report). map view_of rs) c.as_slice-records.ensures.value ∙ c.in_ok-reports.ensures
    ∙ ap (λ (ns : List NodeView). reports_of ns) (c.from_ref.ensures.value ∙ ap (λ (n : NodeView). n ∷ []) c.node.ensures) in
    record {
      account =
          accounted g.L.EventLog.holds c.args.header.now c.args.kept.now u v c.in_ok-found.found.entries.items first last kept text
          c.what_is_kept_is_what_happened.ensures.steps (ap (λ (w : WatchView). w.kept) c.new-watch.ensures) (sym c.lacks_memory.ensures ∙ c.if-lacks_memory.false) c.into_kept-happened.ensures
          c.in_ok-found.ensures.all
          (c.in_ok-text.ensures.text
          ∙ ap (λ (rs : List ReportView). account_text ways.Serial rs c.as_slice-2.result.now) seen
          ∙ ap (λ (k : List Happened). account_text ways.Serial (reports_of (v.node ∷ [])) k) c.as_slice-2.ensures.value)
          (subst (λ (l : List EntryView). Heard u.node v.node (λ heard. AreReplayed l u heard v × Watched noting 1 first u.node heard v.node last)) c.as_slice.ensures.value
          (heard_as u.node v.node _ (λ heard. AreReplayed c.as_slice.result.now u heard v × Watched noting 1 first u.node heard v.node last) (λ heard p. (p.0.0, p.1)) c.in_ok-replay.ensures.replayed));
    }
