-- The account of a node that played what its log says.
use Rattle.std.proofs.Common.{◌≡◌, ℕ, false, List, [], ◌∷◌, ◌++◌, Option, sym, subst}
use Rattle.scp_stand_node.specs.scp_core.specs.Kv.{LedgerGivesHeadline, TheoremGivesLedger}
use Rattle.scp_stand_node.specs.scp_device.specs.Device.{Gains}
use Rattle.scp_stand_node.specs.scp_turn.specs.Kv.{Watched}
use Rattle.scp_batches.specs.scp_live_log.specs.declared.kept.Kept.{Kept}
use Rattle.scp_batches.specs.scp_live_log.specs.Kept.{IsAllAndMore}
use Rattle.scp_batches.specs.scp_live_log.specs.Log.{EntryView, Marked, AreEntries, entries_of, log_of}
use Rattle.scp_live.specs.scp_live_config.specs.declared.settings.Settings.{Settings}
use Rattle.scp_trace_text.specs.scp_facts.specs.declared.happening.Kept.{Kept as Happened}
use Rattle.scp_trace_text.specs.scp_facts.specs.Kept.{Keeps}
use Rattle.scp_trace_text.specs.scp_facts.specs.Keeping.{WatchView, KeptIsWhatHappened, noting}
use Rattle.scp_account.specs.scp_report.specs.Node.{reports_of}
use Rattle.scp_account.specs.declared.node.Mode.TheVariants as ways
use Rattle.scp_account.specs.Account.{account_text}
use Rattle.scp_live.specs.Live.{LiveView}
use Rattle.scp_live_process.specs.Accounts.{AccountsFor, IsAccountOf}
use Rattle.scp_live.specs.Replays.{AreReplayed}
use Rattle.scp_live.specs.Beginning.{IsNew, digest_of, header_of}
use Rattle.scp_live.proofs.Going.{Heard, heard_as}

-- it was played, and this was kept of it
pub accounted : {L : Type 0} (holds : L → List ℕ → Type 0) (header : List ℕ) (log : Kept L) (u v : LiveView) (entries : List EntryView) (first last : WatchView) (kept : List Happened) (text : List ℕ) → KeptIsWhatHappened → first.kept ≡ [] → last.lacks_memory ≡ false → kept ≡ last.kept
    → ((ms : List Marked) (rest : List ℕ) → AreEntries ms → holds log.log (log_of header ms ++ rest) → IsAllAndMore (entries_of ms) rest entries) → text ≡ account_text ways.Serial (reports_of (v.node ∷ [])) kept
    → Heard u.node v.node (λ heard. AreReplayed entries u heard v × Watched noting 1 first u.node heard v.node last) → Heard u.node v.node (λ heard. IsAccountOf holds header log u heard v text)
accounted {L} holds header log u v entries first last kept text law none calm is all told g =
    heard_as u.node v.node (λ heard. AreReplayed entries u heard v × Watched noting 1 first u.node heard v.node last) (λ heard. IsAccountOf holds header log u heard v text)
    (λ heard p. record {
      entries = entries;
      replayed = p.0;
      all = all;
      kept = kept;
      noted =
          subst (λ (l : List Happened). Watched Keeps 1 [] u.node heard v.node l) (sym is)
          (subst (λ (l : List Happened). Watched Keeps 1 l u.node heard v.node last.kept) none (law 1 u.node v.node heard first last calm p.1));
      is = told;
    }) g

-- from a new node, and written
pub accounts_for : {L : Type 0} (holds : L → List ℕ → Type 0) (settings : Settings) (written longer : Option (List ℕ)) (log : L) (u v : LiveView) (on : Kept L) (header text line : List ℕ) → header ≡ header_of (digest_of settings) → line ≡ text → IsNew settings u → on.log ≡ log → TheoremGivesLedger → LedgerGivesHeadline → Gains written line longer
    → Heard u.node v.node (λ heard. IsAccountOf holds header on u heard v text) → AccountsFor holds settings written longer log
accounts_for {L} holds settings written longer log u v on header text line is same new on_log ledger headline told g = record {
  begun = u;
  is_new = new;
  on = on;
  on_log = on_log;
  heard = g.heard;
  node = v;
  text = text;
  account = subst (λ (h : List ℕ). IsAccountOf holds h on u g.heard v text) is g.is;
  ledger = ledger g.heard v.node (g.theorem [] new.theorem);
  headline = headline g.heard v.node (ledger g.heard v.node (g.theorem [] new.theorem));
  told = subst (λ (t : List ℕ). Gains written t longer) same told;
}
